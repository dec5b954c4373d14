-- Pages laid out over as many bytes as they take, and a row's bytes read into words.
-- Assumes nothing.
use Rattle.std.proofs.Math.Path.{◌≡◌, sym, ap}
use Rattle.std.specs.Prelude.{refl, List, ℕ, ◌<◌, ◌≤◌, length, Err, Ok}
use Rattle.std.proofs.Common.{◌∙◌, arith, lt-ltb, eq-eqb}
use Rattle.base.specs.Laws.Tests.{passed}
use Rattle.layout.specs.declared.questions.Refusal.{Refusal}
use Rattle.layout.specs.Batch.{allowed, ROW-WORDS, batch_asked}
use Rattle.layout.specs.Questions.{Called, Answer}
use Rattle.layout.specs.Laws.Questions.{if_yes_lem, yes-batch}
use Rattle.circuit.specs.declared.Relation.{Relation}
use Rattle.circuit.specs.Circuit.{circuit_words}
use Rattle.circuit.specs.Reader.{row_read}
use Rattle.page.specs.Lines.{row_lines}
use Rattle.page.specs.Pages.{Laid, laid, pages, bytes_at, bytes_for, laid_at, laid_out}
use Rattle.cellprism.specs.Bytes.{row_of, read_called}
use Rattle.cellprism.specs.Laws.Read.{read-yes}
use Rattle.benchpage.specs.Printed.{sides_in, sides_of, pages_of}
use Rattle.benchpage.specs.Promises.{FivePages}
use Rattle.circuit.specs.declared.search.Place.{Place}

bytes_in : Answer ℕ → ℕ
bytes_in (Ok k) = k
bytes_in (Err r) = 0

-- how many bytes a row of the house listing takes was answered
module _ (rel : Relation) (n : ℕ) (few : FivePages rel n) (listing : List ℕ) (house : listing ≡ circuit_words) (a : Answer ℕ)
    (e : a ≡ bytes_for listing rel n) where
  answer-is : a ≡ Ok few.bytes
  answer-is = e ∙ ap (λ (ws : List ℕ). bytes_for ws rel n) house ∙ few.taken

  pub five-answered : (k : ℕ) → a ≡ Ok k → k ≤ 18000
  unfolding bytes_in
  five-answered k h = let same = ap bytes_in (sym h ∙ answer-is) in omega (arith, few.few)

  pub bytes-answered : (k : ℕ) → a ≡ Ok k → bytes_for circuit_words rel n ≡ Ok k
  bytes-answered k h = few.taken ∙ sym answer-is ∙ h

  pub five-not-refused : (r : Refusal) → a ≡ Err r → ⊥
  five-not-refused r h = let q = sym h ∙ answer-is in let z : ◌≡◌ {A = ℕ} 0 1 = cc in omega arith

-- laid out over so many, in any listing and cycle
module _ (cpi : ℕ) (listing batch : List ℕ) (rel : Relation) (n d : ℕ) (there : List ℕ) where
  pub laid-pages : (bytes : ℕ) → batch_asked cpi (length batch) ≡ Ok tt → d < cpi → bytes_for listing rel n ≡ Ok bytes → length there ≡ bytes
      → laid_out cpi listing batch rel n d there ≡ laid (pages (row_lines cpi batch d rel n (sides_of listing rel n)))
  unfolding bytes_in bytes_for laid_out laid_at
  laid-pages bytes asked inside taken long = sym (if_yes_lem _ _ asked) ∙ by_place (row_read listing rel n) taken
    where
      by_place : (f : Answer Place) → bytes_at listing f ≡ Ok bytes
          → laid_at cpi listing batch rel n d there f ≡ laid (pages (row_lines cpi batch d rel n (sides_in listing f)))
      by_place (Ok place) e =
          sym (passed _ _ _ (lt-ltb d cpi inside) ∙ passed _ _ _ (eq-eqb _ _ (long ∙ ap bytes_in (sym e))))
      by_place (Err r) e = let z : ◌≡◌ {A = ℕ} 0 1 = cc in absurd (omega arith)

-- the pages of a row of the house listing
pub pages-laid : (words : List ℕ) (rel : Relation) (n : ℕ) (listing there : List ℕ) → listing ≡ circuit_words → length words ≡ ROW-WORDS
    → bytes_for circuit_words rel n ≡ Ok (length there) → (l : Laid) → l ≡ laid_out 1 listing words rel n 0 there
    → l.page ≡ pages_of words rel n
unfolding pages_of allowed
pages-laid words rel n listing there house room taken l e =
    ap (λ (l : Laid). l.page)
    (e ∙ ap (λ (ws : List ℕ). laid_out 1 ws words rel n 0 there) house
    ∙ laid-pages 1 circuit_words words rel n 0 there (length there) (yes-batch 1 (length words) refl room) (omega arith) taken refl)

-- ---- a row's bytes read into words

pub row_words_lem : (bytes there : List ℕ) → length bytes ≡ 65536 → length there ≡ ROW-WORDS → (c : Called) → c ≡ read_called bytes there
    → c.batch ≡ row_of bytes
row_words_lem bytes there whole room c e = ap (λ (c : Called). c.batch) (e ∙ read-yes bytes there whole room)
