-- `witness::row::write_words` meets its contract: the words passed are written.
-- Assumes nothing.
use Rattle.std.proofs.Common.{◌≡◌, ℕ, ◌+◌, ◌*◌, ap, ◌∙◌, arith, slice_index}
use Rattle.std.proofs.lemmas.Grind.{common_steps}
use Rattle.base.specs.Laws.Written.{written_same, written_then, written-to}
use Rattle.witness.specs.Row.{bit_word}
use Rattle.witness.specs.RowWords.{bit_in, bits_from}
use Rattle.witness.specs.Laws.RowWords.{word-columns}
use Rattle.witness.proofs.row.write_words.Goals as goal

pub loop-j-preserved : goal.loop-j-preserved
loop-j-preserved c =
    let words = c.args.words.now in let j = c.loop-j.j in
    let next : 128 * j + 128 ≡ 128 * (j + 1) = omega arith in
    let word : c.unwrap_or-w.result ≡ slice_index words j = grind (arith, common_steps) in
    let bits = written_same _ (bit_word (bit_in words)) _ _ _ _
    (λ i h k. ap (λ (w : ℕ). bits_from (128 * j) w i) word ∙ word-columns words j i h k)
    c.write_word.ensures in
    written-to _ _ _ _ _ _ next (written_then _ _ _ _ _ _ _ (omega arith) (omega arith) c.loop-j.invariant bits)
