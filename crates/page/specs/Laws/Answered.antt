-- What the answer of a call says of the lent bytes: after a yes they are the pages of the row, and a refusal leaves them as they came.
-- Assumes nothing.
use Rattle.std.proofs.Math.Path.{◌≡◌, refl}
use Rattle.std.specs.Prelude.{Bool, true, false, cond, eqb, ltb, length, Err, Ok}
use mathlib.Core.List.{List}
use Prim.Native.Nat.{ℕ}
use Rattle.std.proofs.Common.{arith, ltb-true}
use Rattle.layout.specs.declared.questions.Refusal.{Refusal}
use Rattle.layout.specs.Batch.{allowed, batch_words, batch_asked}
use Rattle.layout.specs.Questions.{no, if_yes, Answer, Asked}
use Rattle.layout.specs.Laws.Questions.{batch-yes}
use Rattle.circuit.specs.declared.Relation.{Relation}
use Rattle.circuit.specs.Reader.{row_read}
use Rattle.page.specs.Lines.{row_lines}
use Rattle.page.specs.Pages.{laid, not_laid, page_bytes, pages, line_count, sides_at, laid_at, laid_out}
use Rattle.page.specs.Promises.{InBatch}
use Rattle.layout.specs.declared.questions.Question.TheVariants.{CycleRange, PageLength}
use Rattle.circuit.specs.Found.{place_at}
use Rattle.circuit.specs.declared.search.Place.{Place}

-- ---- what a yes says

pub record LaidOut (cpi : ℕ) (listing batch : List ℕ) (rel : Relation) (n d : ℕ) (page : List ℕ) : Type 0 where
  pub start : ℕ
  pub end : ℕ
  pub place : row_read listing rel n ≡ place_at start end
  pub in-batch : InBatch cpi d batch
  pub page-is : page ≡ pages (row_lines cpi batch d rel n (sides_at listing start))

module _ (cpi : ℕ) (listing batch : List ℕ) (rel : Relation) (n d : ℕ) (there : List ℕ) where
  laid-at : (f : Answer Place) → row_read listing rel n ≡ f → allowed cpi ≡ true → length batch ≡ batch_words cpi
      → (laid_at cpi listing batch rel n d there f).answer ≡ Ok tt
      → LaidOut cpi listing batch rel n d (laid_at cpi listing batch rel n d there f).page
  unfolding laid_at
  laid-at (Err r) e size words y = let z : ◌≡◌ {A = ℕ} 0 1 = cc in absurd (omega arith)
  laid-at (Ok place) e size words y = by_tests (eqb (length there) (page_bytes (line_count (sides_at listing place.start)))) (ltb d cpi) refl y
    where
      made : List ℕ
      made = pages (row_lines cpi batch d rel n (sides_at listing place.start))

      by_tests : (b c : Bool) → ltb d cpi ≡ c
          → (cond b (cond c (laid made) (not_laid there (no CycleRange 0))) (not_laid there (no PageLength 0))).answer ≡ Ok tt
          → LaidOut cpi listing batch rel n d (cond b (cond c (laid made) (not_laid there (no CycleRange 0))) (not_laid there (no PageLength 0))).page
      by_tests true true l y =
          record {
            start = place.start;
            end = place.end;
            place = e;
            in-batch = record { size = size; inside = ltb-true d cpi l; words = words };
            page-is = refl;
          }
      by_tests true false l y = let z : ◌≡◌ {A = ℕ} 0 1 = cc in absurd (omega arith)
      by_tests false c l y = let z : ◌≡◌ {A = ℕ} 0 1 = cc in absurd (omega arith)

  pub laid_out_lem : (laid_out cpi listing batch rel n d there).answer ≡ Ok tt
      → LaidOut cpi listing batch rel n d (laid_out cpi listing batch rel n d there).page
  unfolding laid_out
  laid_out_lem = by-asked (batch_asked cpi (length batch)) refl
    where
      by-asked : (a : Asked) → batch_asked cpi (length batch) ≡ a → (if_yes (not_laid there) a (laid_at cpi listing batch rel n d there
          (row_read listing rel n))).answer ≡ Ok tt
          → LaidOut cpi listing batch rel n d (if_yes (not_laid there) a (laid_at cpi listing batch rel n d there
          (row_read listing rel n))).page
      by-asked (Ok _) e y = let q = batch-yes cpi (length batch) e in laid-at (row_read listing rel n) refl q.0 q.1 y
      by-asked (Err r) e y = let z : ◌≡◌ {A = ℕ} 0 1 = cc in absurd (omega arith)

-- ---- what a no leaves

module _ (cpi : ℕ) (listing batch : List ℕ) (rel : Relation) (n d : ℕ) (there : List ℕ) where
  kept_at : (f : Answer Place) {r : Refusal} → (laid_at cpi listing batch rel n d there f).answer ≡ Err r
      → (laid_at cpi listing batch rel n d there f).page ≡ there
  unfolding laid_at
  kept_at (Err q) e = refl
  kept_at (Ok place) {r} e = by_tests (eqb (length there) (page_bytes (line_count (sides_at listing place.start)))) (ltb d cpi) e
    where
      made : List ℕ
      made = pages (row_lines cpi batch d rel n (sides_at listing place.start))

      by_tests : (b c : Bool) → (cond b (cond c (laid made) (not_laid there (no CycleRange 0))) (not_laid there (no PageLength 0))).answer ≡ Err r
          → (cond b (cond c (laid made) (not_laid there (no CycleRange 0))) (not_laid there (no PageLength 0))).page ≡ there
      by_tests true true e = let z : ◌≡◌ {A = ℕ} 0 1 = cc in absurd (omega arith)
      by_tests true false e = refl
      by_tests false c e = refl

  -- a refusal leaves every byte as it came
  pub refusal-keeps : {r : Refusal} → (laid_out cpi listing batch rel n d there).answer ≡ Err r
      → (laid_out cpi listing batch rel n d there).page ≡ there
  unfolding laid_out
  refusal-keeps {r} = by-asked (batch_asked cpi (length batch))
    where
      by-asked : (a : Asked) → (if_yes (not_laid there) a (laid_at cpi listing batch rel n d there (row_read listing rel n))).answer ≡ Err r
          → (if_yes (not_laid there) a (laid_at cpi listing batch rel n d there (row_read listing rel n))).page ≡ there
      by-asked (Ok _) e = kept_at (row_read listing rel n) e
      by-asked (Err q) e = refl
