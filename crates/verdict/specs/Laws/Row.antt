-- A bit of a cycle, read from the batch.
-- Assumes nothing.
use Rattle.std.specs.Prelude.{◌≡◌, List, ℕ, ◌+◌, ◌*◌, ◌<◌, eqb}
use Rattle.std.proofs.Common.{sym, ap, ◌∙◌}
use Rattle.field.specs.declared.Gf128.{Gf128}
use Rattle.field.specs.Gf.{low}
use Rattle.layout.specs.Laws.Mapping.{witness-column}
use Rattle.verdict.specs.Row.{element_at, cycle_of, bits_of}

-- ---- a word read, from its top bit down

pub bit-read : (cpi d c : ℕ) (b : List ℕ) {at n : ℕ} {x : Gf128} → c < 2048 → at ≡ c * cpi + d → x ≡ element_at b at → n ≡ low x
    → eqb n 1 ≡ bits_of cpi b d c
unfolding bits_of cycle_of
bit-read cpi d c b l p q r = ap (λ (m : ℕ). eqb m 1) (r ∙ ap low (q ∙ ap (element_at b) (p ∙ sym (witness-column cpi c d l))))
