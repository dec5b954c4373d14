-- Reading a row's bytes into words: what is answered and left, by the lengths.
-- Assumes nothing.
use Rattle.std.specs.Prelude.{◌≡◌, List, ℕ, length, Err, Ok}
use Rattle.std.proofs.Common.{sym, ◌∙◌, eq-eqb, ne_eqb}
use Rattle.std.proofs.Math.Path.{ap}
use Rattle.base.specs.Laws.Tests.{passed, refused}
use Rattle.layout.specs.Questions.{no, after, Asked}
use Rattle.cellprism.specs.Bytes.{row_of, read_called}
use Rattle.layout.specs.declared.questions.Question.TheVariants.{BatchLength}

module _ (bytes there : List ℕ) where
  pub read-yes : length bytes ≡ 65536 → length there ≡ 8192 → read_called bytes there ≡ record { answer = Ok tt; batch = row_of bytes }
  unfolding read_called
  read-yes h k = ap (λ (q : Asked). after q (row_of bytes) there) (sym (passed _ _ _ (eq-eqb _ _ k) ∙ passed _ _ _ (eq-eqb _ _ h)))

  -- 2, and every word as it came
  pub other-bytes : (length bytes ≡ 65536 → ⊥) → read_called bytes there ≡ record { answer = Err (no BatchLength 0); batch = there }
  unfolding read_called
  other-bytes h = ap (λ (q : Asked). after q (row_of bytes) there) (sym (refused _ _ _ (ne_eqb _ _ h)))

  pub other-words : length bytes ≡ 65536 → (length there ≡ 8192 → ⊥) → read_called bytes there ≡ record { answer = Err (no BatchLength 0); batch = there }
  unfolding read_called
  other-words h k = ap (λ (q : Asked). after q (row_of bytes) there) (sym (refused _ _ _ (ne_eqb _ _ k) ∙ passed _ _ _ (eq-eqb _ _ h)))
