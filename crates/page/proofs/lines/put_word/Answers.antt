-- `page::lines::put_word` meets its contract: the word is a term, whose line is put, or a mark, which has none.
-- Assumes nothing.
use mathlib.Core.Path.{sym, subst, ◌∙◌}
use Prim.Native.Nat.{◌<◌}
use Rattle.page.specs.Laws.Places.{column_in, ShortIn, column_fits, exponent-fits}
use Rattle.page.proofs.lines.put_word.Goals as goal

pub put_term-requires : goal.put_term-requires
put_term-requires c =
    let e = sym c.read_word.ensures ∙ c.in-Term.is in
    (c.requires, (subst (λ x. column_in x < 4096) e (column_fits c.args.w), subst ShortIn e (exponent-fits c.args.w)))
