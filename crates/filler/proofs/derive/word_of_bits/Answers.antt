-- `filler::derive::word_of_bits` meets its contract: w is the word of the bits behind those that are left.
-- Assumes nothing.
use Rattle.std.proofs.Common.{◌≡◌, ℕ, ◌+◌, ◌*◌, ◌%◌, ◌^◌, ◌≤◌, Bool, List, [], ◌∷◌, ◌++◌, length, sym, refl, ap, ◌∙◌, add-zero, arith}
use Rattle.std.proofs.Math.Nat.{pow-suc, pow-le-pow_right}
use Rattle.std.proofs.lemmas.List.{append-nil, append_assoc, length-append}
use Rattle.base.specs.Bits.{digit}
use Rattle.base.specs.Fields.{pack, flags}
use Rattle.filler.proofs.derive.word_of_bits.Goals as goal

pack_more : (b : Bool) (bs : List Bool) → pack (flags (b ∷ bs)) ≡ digit b + 2 * pack (flags bs)
pack_more b [] = sym (add-zero (digit b))
pack_more b (x ∷ xs) = refl

empty : (bs : List Bool) → length bs ≡ 0 → bs ≡ []
empty [] e = refl
empty (b ∷ bs) e = absurd (omega arith)

pub loop-bit-init : goal.loop-bit-init
loop-bit-init g c = (
  [],
  sym (append-nil _ ∙ ap (λ it. it.iter.rest.now) c.into_iter-bit-iterator.ensures.into_iter_gives
      ∙ ap (λ it. it.rest.now) c.rev-bit-items.ensures.source ∙ c.iter.ensures.rest),
  λ few. (refl, omega arith),
)

pub loop-bit-preserved : goal.loop-bit-preserved
loop-bit-preserved g c =
    let b = c.in-Some.bit.now in let l = c.loop-bit in let i = l.invariant in let t = i.0 in let p = c.word_of.ensures in (
      b ∷ t,
      i.1 ∙ ap (λ (r : List Bool). r ++ t) c.in-Some.ensures.steps ∙ append_assoc _ (b ∷ []) t,
      λ few. let q = i.2 few in
          let long : length c.args.bits ≡ g.row.N = omega (arith, c.well_formed) in
          let sum : length c.args.bits ≡ length l.bit-iterator.iter.rest.now + length t = ap length i.1 ∙ length-append _ t in
          let room : 2 ^ length t ≤ 2 ^ 63 = pow-le-pow_right {n = 2} (omega arith) {i = length t} {j = 63} (omega arith) in
          let whole : (l.w * 2 % 2 ^ 64 + c.word_of.result) % 2 ^ 64 ≡ digit b + 2 * l.w = omega (arith, p.0, p.1, q.1) in (
            whole ∙ ap (λ (v : ℕ). digit b + 2 * v) q.0 ∙ sym (pack_more b t),
            omega (arith, whole, p.0, p.1, q.1, pow-suc 2 (length t)),
          ),
    )

pub returns : goal.returns
returns g c =
    λ few. let i = c.loop-bit.invariant in let q = i.2 few in
    let e : c.args.bits ≡ i.0 = i.1 ∙ ap (λ (r : List Bool). r ++ i.0) (empty _ c.in-None.ensures.steps.0) in
    let long : length i.0 ≡ g.row.N = ap length (sym e) ∙ omega (arith, c.well_formed) in (
      q.0 ∙ ap (λ (bs : List Bool). pack (flags bs)) (sym e),
      omega (arith, q.1, ap (λ (k : ℕ). 2 ^ k) long),
    )
