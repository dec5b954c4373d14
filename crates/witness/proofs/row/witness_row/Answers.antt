-- `witness::row::witness_row` meets its contract: the questions pick the case; where they are passed, the words have the bits of the table.
-- Assumes nothing.
use Rattle.std.proofs.Common.{ℕ, List, sym, ap, ◌∙◌, arith}
use Rattle.base.specs.Lists.{from}
use Rattle.layout.specs.Questions.{after, Asked}
use Rattle.layout.specs.Batch.{ROW-WORDS}
use Rattle.witness.specs.Row.{row_word, made_row, row_called}
use Rattle.witness.specs.Laws.Upper.{public-yes}
use Rattle.witness.specs.Laws.RowWords.{Words}
use Rattle.witness.specs.RowWords.{bit_in}
use Rattle.witness.proofs.Laws.Carried.{made-by-words}
use Rattle.witness.proofs.row.witness_row.Goals as goal
use Rattle.std.specs.Prelude.{Ok}

pub write_row-requires : goal.write_row-requires
write_row-requires c = (public-yes 1 _ _ (sym c.ask_public.ensures ∙ c.in_ok-ask_public.was)).1

pub returns : goal.returns
unfolding row_called
returns c =
    let a = c.args in
    let fit : Words a.cycle =
    record {
      rs1 = omega (arith, c.well_formed);
      rs2 = omega (arith, c.well_formed);
      load = omega (arith, c.well_formed);
      first = omega (arith, c.well_formed);
      second = omega (arith, c.well_formed);
      out = omega (arith, c.well_formed);
    } in
    let yes = sym c.ask_public.ensures ∙ c.in_ok-ask_public.was in
    ap (λ (b : List ℕ). record { answer = Ok tt; batch = b })
    (c.write_row.ensures ∙ ap (λ (ws : List ℕ). from 0 ROW-WORDS (row_word (bit_in ws) a.public.now)) c.row_words-words.ensures
    ∙ made-by-words a.cycle a.rom fit a.public.now)
    ∙ ap (λ (q : Asked). after q (made_row a.cycle a.rom a.public.now) a.row.now) (sym yes)
