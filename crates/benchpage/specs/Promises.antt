-- What the functions inside need.
-- Assumes nothing.
use Rattle.std.specs.Prelude.{◌≡◌, ℕ, ◌≤◌, Ok}
use Rattle.circuit.specs.declared.Relation.{Relation}
use Rattle.circuit.specs.Circuit.{circuit_words}
use Rattle.page.specs.Pages.{bytes_for}

-- a row of the house listing that takes five pages at most
pub record FivePages (rel : Relation) (n : ℕ) : Type 0 where
  pub bytes : ℕ
  pub taken : bytes_for circuit_words rel n ≡ Ok bytes
  pub few : bytes ≤ 18000
