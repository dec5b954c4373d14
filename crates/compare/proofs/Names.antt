-- The names of 19 segments have 171 bytes, so past the last segment there is none.
-- Assumes nothing.
use Rattle.std.proofs.Common.{◌≡◌, ℕ, ◌+◌, ◌*◌, ◌^◌, ◌≤◌, length, get_or, refl, arith}
use Rattle.std.proofs.Math.ListN.{get_or-eq_default}
use Rattle.base.specs.Lists.{joined}
use Rattle.layout.specs.Segments.{segments, segment_names}

name-bytes : length (segment_names segments) ≡ 171
unfolding segments joined
name-bytes = refl

pub past_names : (i k : ℕ) → 19 ≤ i → get_or (segment_names segments) (9 * i + k) (2 ^ 63) ≡ 2 ^ 63
past_names i k h = get_or-eq_default (segment_names segments) (2 ^ 63) (omega (arith, name-bytes))
