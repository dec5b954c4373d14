-- A listing that passes questions 6 to 10 is in order: the sides of each row ascend.
-- Assumes nothing.
use Rattle.std.specs.Prelude.{◌≡◌, refl, true, List, [], ◌∷◌, ℕ, suc, Ok}
use Rattle.std.proofs.Common.{subst, ⊎_elim, le-leb}
use Rattle.circuit.specs.Words.{kind_of}
use Rattle.circuit.specs.Valid.{valid_from}
use Rattle.circuit.specs.Laws.Valid.{passed-word}
use Rattle.verdict.specs.RowParts.{sorted}

pub valid-sorted : (i low kind : ℕ) (ws : List ℕ) → valid_from i low kind ws ≡ Ok tt → sorted kind ws ≡ true
unfolding sorted
valid-sorted i low kind [] e = refl
valid-sorted i low kind (w ∷ ws) e =
    let p = passed-word i low kind w ws e in let rest = valid-sorted (suc i) p.l p.k ws p.rest in
    ⊎_elim (λ m. rw m.mark (subst (λ n. sorted n ws ≡ true) m.fresh rest))
    (λ t. rw (t.term, le-leb kind (kind_of w) t.order) (subst (λ n. sorted n ws ≡ true) t.kind-is rest)) p.first

-- the first word is a mark
pub valid-rows : (ws : List ℕ) → valid_from 0 0 0 ws ≡ Ok tt → sorted 3 ws ≡ true
unfolding sorted
valid-rows [] e = refl
valid-rows (w ∷ ws) e =
    let p = passed-word 0 0 0 w ws e in let rest = valid-sorted 1 p.l p.k ws p.rest in
    ⊎_elim (λ m. rw m.mark (subst (λ n. sorted n ws ≡ true) m.fresh rest)) (λ t. absurd (t.headed refl)) p.first
