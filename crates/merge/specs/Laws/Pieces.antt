-- The pieces in which the code writes a merged batch: of each column a run of the first and one of the second, then the public words, then
-- zeros.
-- Assumes nothing.
use Rattle.std.specs.Prelude.{◌≡◌, List, ℕ, ◌+◌, ◌-◌, ◌*◌, ◌/◌, ◌%◌, ◌≤◌, ◌<◌, get_or, take, drop}
use Rattle.std.proofs.Math.Path.{sym}
use Rattle.std.proofs.Common.{ap, subst, ◌∙◌, length-drop, get_or-drop, get_or-take, length-take-le}
use native.Mathlib.Omega.{arith}
use Rattle.std.proofs.Math.ListN.{length}
use Rattle.base.specs.Written.{Written, copied}
use Rattle.base.specs.Laws.Written.{written_then, written_same, written_all, written-to, copied-fits}
use Rattle.layout.specs.Batch.{batch_words}
use Rattle.merge.specs.Merged.{merged_word, merged}
use Rattle.merge.specs.Laws.Columns.{lower-part, public-part, zero-part, lower-is, word_first, word-second}

-- a part of some words, from `start` on and before `end`, copied to `at`
part-copied : (words : List ℕ) (start end at : ℕ) (before after : List ℕ) → start ≤ end → end ≤ length words → at + (end - start) ≤ length before
    → Written (copied (take (end - start) (drop start words)) at before) at (length before) before after
    → Written (λ i. get_or words (start + (i - at)) 0) at (at + (end - start)) before after
part-copied words start end at before after s h room w =
    let n = end - start in let part = take n (drop start words) in
    let long : length part ≡ n = length-take-le n (drop start words) (omega (arith, length-drop start words)) in
    written_same (λ i. get_or part (i - at) 0) (λ i. get_or words (start + (i - at)) 0) at (at + n) before after
    (λ i l m. get_or-take n (drop start words) (i - at) 0 (omega arith) ∙ get_or-drop start words (i - at) 0)
    (written-to _ _ _ _ _ _ (ap (λ (k : ℕ). at + k) long) (copied-fits part at before after (omega arith) w))

module _ (cpi : ℕ) (first second : List ℕ) where
  module _ (c : ℕ) (fits : c * cpi + cpi ≤ 2048 * cpi) where
    -- the words that a batch has of the column
    abbrev pub part : List ℕ → List ℕ
    part words = take (2 * (c * cpi) + 2 * cpi - 2 * (c * cpi)) (drop (2 * (c * cpi)) words)

    -- in their places: the first's, and behind them the second's
    first_run : (i : ℕ) → 4 * (c * cpi) ≤ i → i < 4 * (c * cpi) + 2 * cpi
        → get_or first (2 * (c * cpi) + (i - 4 * (c * cpi))) 0 ≡ merged_word cpi first second i
    first_run i l h =
        let w = i - 4 * (c * cpi) in
        let e : i ≡ 2 * (c * (2 * cpi) + w / 2) + w % 2 = omega arith in
        let p : 2 * (c * cpi) + w ≡ 2 * (c * cpi + w / 2) + w % 2 = omega arith in
        ap (λ (n : ℕ). get_or first n 0) p
        ∙ sym
        (lower-part cpi first second i (omega arith) ∙ lower-is cpi first second c (w / 2) (w % 2) i (omega arith) (omega arith) e
        ∙ word_first cpi first second c (w / 2) (w % 2) (omega arith))

    second_run : (i : ℕ) → 4 * (c * cpi) + 2 * cpi ≤ i → i < 4 * (c * cpi) + 4 * cpi
        → get_or second (2 * (c * cpi) + (i - (4 * (c * cpi) + 2 * cpi))) 0 ≡ merged_word cpi first second i
    second_run i l h =
        let w = i - (4 * (c * cpi) + 2 * cpi) in
        let e : i ≡ 2 * (c * (2 * cpi) + (cpi + w / 2)) + w % 2 = omega arith in
        let p : 2 * (c * cpi) + w ≡ 2 * (c * cpi + w / 2) + w % 2 = omega arith in
        ap (λ (n : ℕ). get_or second n 0) p
        ∙ sym
        (lower-part cpi first second i (omega arith) ∙ lower-is cpi first second c (cpi + w / 2) (w % 2) i (omega arith) (omega arith) e
        ∙ word-second cpi first second c (w / 2) (w % 2))

    -- a column of all cycles
    pub column-written : (before between after : List ℕ) → length first ≡ batch_words cpi → length second ≡ batch_words cpi
        → length before ≡ batch_words (2 * cpi)
        → Written (copied (part first) (4 * (c * cpi)) before) (4 * (c * cpi)) (length before) before between
        → Written (copied (part second) (4 * (c * cpi) + 2 * cpi) between) (4 * (c * cpi) + 2 * cpi) (length between) between after
        → Written (merged_word cpi first second) (4 * (c * cpi)) (4 * (c * cpi) + 4 * cpi) before after
    column-written before between after len long room v w =
        let start = 2 * (c * cpi) in let at = 4 * (c * cpi) in
        let one : at + (start + 2 * cpi - start) ≡ at + 2 * cpi = omega arith in
        let two : at + 2 * cpi + (start + 2 * cpi - start) ≡ at + 4 * cpi = omega arith in
        written_then _ at (at + 2 * cpi) (at + 4 * cpi) before between after (omega arith) (omega arith)
        (written_same _ _ _ _ _ _ first_run
        (written-to _ _ _ _ _ _ one (part-copied first start (start + 2 * cpi) at before between (omega arith) (omega arith) (omega arith) v)))
        (written_same _ _ _ _ _ _ second_run
        (written-to _ _ _ _ _ _ two
        (part-copied second start (start + 2 * cpi) (at + 2 * cpi) between after (omega arith) (omega arith) (omega (arith, v.lengths)) w)))

  -- the public words
  abbrev pub public-words : List ℕ
  public-words = take (length first - 4096 * cpi) (drop (4096 * cpi) first)

  public-written : (before after : List ℕ) → length first ≡ batch_words cpi → length before ≡ batch_words (2 * cpi)
      → Written (copied public-words (8192 * cpi) before) (8192 * cpi) (length before) before after
      → Written (merged_word cpi first second) (8192 * cpi) (12288 * cpi) before after
  public-written before after len room w =
      written_same _ _ _ _ _ _ (λ i l m. sym (public-part cpi first second i l m))
      (written-to _ _ _ _ _ _ (omega arith)
      (part-copied first (4096 * cpi) (length first) (8192 * cpi) before after (omega arith) (omega arith) (omega arith) w))

  -- all of it
  pub batch-written : (before columns public after : List ℕ) → length first ≡ batch_words cpi → length before ≡ batch_words (2 * cpi)
      → Written (merged_word cpi first second) 0 (8192 * cpi) before columns
      → Written (copied public-words (8192 * cpi) columns) (8192 * cpi) (length columns) columns public
      → Written (λ _. 0) (12288 * cpi) (length public) public after → after ≡ merged cpi first second
  unfolding merged
  batch-written before columns public after len e u v w =
      let end : length public ≡ 16384 * cpi = v.lengths ∙ u.lengths ∙ e ∙ omega arith in
      written_all (merged_word cpi first second) (16384 * cpi) (batch_words (2 * cpi)) before after e (omega arith)
      (written_then _ _ _ _ _ _ _ (omega arith) (omega arith)
      (written_then _ _ _ _ _ _ _ (omega arith) (omega arith) u (public-written columns public len (u.lengths ∙ e) v))
      (written_same _ _ _ _ _ _ (λ i l h. sym (zero-part cpi first second i l)) (written-to _ _ _ _ _ _ end w)))

-- the columns below one_col, by a size that is the same number
pub lower-sized : (cpi n : ℕ) (first second before after : List ℕ) → cpi ≡ n
    → Written (merged_word n first second) 0 (8192 * n) before after → Written (merged_word cpi first second) 0 (8192 * cpi) before after
lower-sized cpi n first second before after e w =
    subst (λ (m : ℕ). Written (merged_word m first second) 0 (8192 * m) before after) (sym e) w
