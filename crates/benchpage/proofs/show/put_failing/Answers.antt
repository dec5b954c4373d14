-- `benchpage::show::put_failing` meets its contract: the words that are read are the row's.
-- Assumes nothing.
use mathlib.Core.Path.{refl, ap}
use mathlib.Core.List.{List}
use Prim.Native.Nat.{ℕ}
use Rattle.text.specs.Laws.Put.{placed-as}
use Rattle.benchpage.specs.Printed.{with_line_ends, pages_of}
use Rattle.benchpage.specs.Laws.Laid.{row_words_lem}
use Rattle.benchpage.proofs.show.put_failing.Goals as goal

pub returns : goal.returns
returns c =
    let a = c.args in
    placed-as _ _ _ _ _ _
    (ap (λ (ws : List ℕ). with_line_ends (pages_of ws a.relation a.row))
    (row_words_lem a.bytes.now _ c.requires.1.0 refl _ c.read_bytes.ensures))
    c.put_pages.ensures
