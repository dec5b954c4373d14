-- What the functions inside the page need and give.
-- Assumes nothing.
use Rattle.std.specs.Prelude.{◌≡◌, true, List, [], map, ℕ, ◌+◌, ◌<◌, ◌≤◌, length, drop}
use Rattle.layout.specs.Batch.{allowed, batch_words}
use Rattle.circuit.specs.declared.Word.{Word}
use Rattle.circuit.specs.declared.Word.TheVariants.{Mark, Term}
use Rattle.circuit.specs.declared.Coefficient.{Coefficient}
use Rattle.circuit.specs.declared.Coefficient.TheVariants.{Zero, Power}
use Rattle.circuit.specs.Words.{is_mark, word_of}
use Rattle.circuit.specs.Found.{until}
use Rattle.verdict.specs.RowParts.{sorted}
use Rattle.page.specs.Lines.{term_line}

-- a cycle of a batch
pub record InBatch (cpi d : ℕ) (batch : List ℕ) : Type 0 where
  pub size : allowed cpi ≡ true
  pub inside : d < cpi
  pub words : length batch ≡ batch_words cpi

-- a row of a listing in order: its mark, and its terms behind that as far as the next mark
pub record RowAt (ws : List ℕ) (start end : ℕ) : Type 0 where
  pub begins : start < end
  pub fits : end ≤ length ws
  pub few : length ws ≤ 16384
  pub ends : end ≡ start + 1 + until is_mark (drop (start + 1) ws)
  pub in_order : sorted 0 (drop (start + 1) ws) ≡ true

-- an exponent of at most three digits
abbrev pub Short : Coefficient → Type 0
Short (Power k) = k < 1000
Short Zero = Unit

-- the line of a word of the listing: a mark has none among the terms
abbrev pub word_line : ℕ → List ℕ → ℕ → Word → List ℕ
word_line cpi batch d (Term side k c) = term_line cpi batch d side k c
word_line cpi batch d (Mark rel n) = []

abbrev pub word_lines : ℕ → List ℕ → ℕ → List ℕ → List (List ℕ)
word_lines cpi batch d ws = map (λ w. word_line cpi batch d (word_of w)) ws
