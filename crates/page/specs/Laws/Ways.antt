-- The ways out of a call that lays a row out.
-- Assumes nothing.
use Rattle.std.specs.Prelude.{◌≡◌, List, ℕ, ◌-◌, ◌<◌, ◌≤◌, length, Err}
use Rattle.std.proofs.Math.Path.{sym, ap}
use Rattle.std.proofs.Common.{◌∙◌, lt-ltb, le-ltb, eq-eqb, ne_eqb}
use Rattle.base.specs.Laws.Tests.{passed, refused}
use Rattle.layout.specs.declared.questions.Refusal.{Refusal}
use Rattle.layout.specs.Questions.{no}
use Rattle.circuit.specs.declared.Relation.{Relation}
use Rattle.circuit.specs.Reader.{row_read}
use Rattle.page.specs.Lines.{row_lines}
use Rattle.page.specs.Pages.{laid, not_laid, page_bytes, pages, line_count, sides_at, laid_at}
use Rattle.page.specs.Laws.Rows.{row_read_lem}
use Rattle.page.specs.Laws.Pages.{lines_are}
use Rattle.layout.specs.declared.questions.Question.TheVariants.{CycleRange, PageLength}
use Rattle.circuit.specs.Found.{place_at}

module _ (cpi : ℕ) (listing batch : List ℕ) (rel : Relation) (n d : ℕ) (there : List ℕ) where
  -- 6 to 10, 13
  pub laid-unread : (r : Refusal) → row_read listing rel n ≡ Err r
      → not_laid there r ≡ laid_at cpi listing batch rel n d there (row_read listing rel n)
  unfolding laid_at
  laid-unread r e = ap (laid_at cpi listing batch rel n d there) (sym e)

  module _ (start end bytes : ℕ) (e : row_read listing rel n ≡ place_at start end) (b : bytes ≡ page_bytes (end - start)) where
    needed : bytes ≡ page_bytes (line_count (sides_at listing start))
    needed = b ∙ ap page_bytes (sym (lines_are listing start end (row_read_lem listing rel n start end e).0))

    pub laid-16 : (r : Refusal) → (length there ≡ bytes → ⊥) → r ≡ no PageLength 0
        → not_laid there r ≡ laid_at cpi listing batch rel n d there (row_read listing rel n)
    unfolding laid_at
    laid-16 r h q =
        ap (not_laid there) q ∙ refused _ _ _ (ne_eqb _ _ (λ f. h (f ∙ sym needed))) ∙ ap (laid_at cpi listing batch rel n d there) (sym e)

    pub laid-15 : (r : Refusal) → length there ≡ bytes → cpi ≤ d → r ≡ no CycleRange 0
        → not_laid there r ≡ laid_at cpi listing batch rel n d there (row_read listing rel n)
    unfolding laid_at
    laid-15 r h l q =
        ap (not_laid there) q ∙ refused _ _ _ (le-ltb d cpi l) ∙ passed _ _ _ (eq-eqb _ _ (h ∙ needed))
        ∙ ap (laid_at cpi listing batch rel n d there) (sym e)

    pub laid-yes : (page : List ℕ) → length there ≡ bytes → d < cpi → page ≡ pages (row_lines cpi batch d rel n (sides_at listing start))
        → laid page ≡ laid_at cpi listing batch rel n d there (row_read listing rel n)
    unfolding laid_at
    laid-yes page h l q =
        ap laid q ∙ passed _ _ _ (lt-ltb d cpi l) ∙ passed _ _ _ (eq-eqb _ _ (h ∙ needed))
        ∙ ap (laid_at cpi listing batch rel n d there) (sym e)
