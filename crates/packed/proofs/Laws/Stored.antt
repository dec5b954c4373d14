-- A batch packed: the words that were made are those of batch order, and are handed over in either order; and the call.
-- Assumes nothing.
use Rattle.std.specs.Prelude.{◌≡◌, ℕ, ◌+◌, ◌*◌, Bool, true, false, cond, not, ◌↔◌, List, length, ◌≢◌, Err, Ok}
use Rattle.std.proofs.Math.Path.{sym, ap}
use Rattle.std.proofs.Common.{ap₂, subst, ◌∙◌, arith}
use Rattle.std.proofs.Math.Nat.{mul-one}
use Rattle.std.proofs.lemmas.Bool.{not-true, not-false}
use Rattle.base.specs.Written.{Written, copied}
use Rattle.base.specs.Laws.Cases.{no_true}
use Rattle.base.specs.Laws.Values.{val_same}
use Rattle.base.specs.Laws.Written.{copied-whole}
use Rattle.layout.specs.declared.questions.Refusal.{Refusal}
use Rattle.layout.specs.Questions.{no as refusal}
use Rattle.layout.specs.Batch.{allowed}
use Rattle.layout.specs.Laws.Questions.{if_yes_lem, if_no, called-yes, called-no}
use Rattle.layout.specs.Laws.Sizes.{allowed-range}
use Rattle.verdict.specs.Row.{element_at, as_bit}
use Rattle.packed.specs.declared.order.Order.{Order}
use Rattle.packed.specs.declared.order.Order.TheVariants.{Batch, Cycles}
use Rattle.packed.specs.Packed.{pack_asked}
use Rattle.packed.specs.Storage.{packed, by_cycle, lower_bits, store_asked}
use Rattle.packed.specs.Seen.{BitAt}
use Rattle.packed.specs.Columns.{BitsIn}
use Rattle.packed.specs.One.{RowIn, InRow}
use Rattle.packed.specs.Order.{put_into}
use Rattle.packed.specs.Named.{NamedIn}
use Rattle.packed.specs.Stored.{packed_in, Handed, store_called}
use Rattle.packed.specs.Laws.InWords.{are_words}
use Rattle.packed.specs.Laws.Named.{bits_each, in-asked-yes}
use Rattle.packed.specs.Laws.Words.{word-bits}
use Rattle.packed.proofs.Laws.RoundTrips.{kept}
use Rattle.layout.specs.declared.questions.Question.TheVariants.{LowerBits}

-- ---- words in batch order, made apart

module _ (cpi : ℕ) (batch : List ℕ) where
  pub row_in : (made : List ℕ) → NamedIn cpi batch made → RowIn batch 0 (32 * cpi) made
  row_in made h =
      record {
        order = omega arith;
        few = omega (arith, (allowed-range cpi h.size).1);
        words = omega (arith, h.words);
        room = omega (arith, h.room);
      }

  -- batch columns are those of a batch of one cycle
  bits-in-row : (lower_bits cpi batch ≡ true) ↔ BitsIn 1 batch 0 (64 * (32 * cpi))
  bits-in-row =
      let each = bits_each batch (2048 * cpi) 0 in (
        λ b c d l m n. subst (λ (x : ℕ). BitAt batch (2 * x)) (omega (arith, mul-one c)) (each.0 b c l (omega arith)),
        λ h. each.1 (λ x l m. subst (λ (y : ℕ). BitAt batch (2 * y)) (omega (arith, mul-one x)) (h x 0 l (omega arith) (omega arith))),
      )

  module _ (before made : List ℕ) (bad : ℕ) (room : length before ≡ 32 * cpi) (h : InRow batch 0 (32 * cpi) before made bad) where
    seen : bad ≡ 0 → lower_bits cpi batch ≡ true
    seen z = bits-in-row.1 (h.bits.0 z)

    made-is : bad ≡ 0 → made ≡ packed cpi batch
    unfolding packed
    made-is z =
        are_words (λ x. as_bit (element_at batch x)) (32 * cpi) made (h.lengths ∙ room)
        (λ k l. h.here k (omega arith) l ∙ word-bits 1 batch 0 k (λ c p q. h.bits.0 z c 0 (omega arith) (omega arith) (omega arith))
        ∙ val_same _ _ 64 (λ i _. ap (λ (x : ℕ). as_bit (element_at batch x)) (omega (arith, mul-one (64 * k + i)))))

    -- ---- handed over, or not

    module _ (order : Order) (out : List ℕ) where
      pub not-handed : (bad ≢ 0) → Handed order cpi batch out out false
      not-handed f =
          let e : lower_bits cpi batch ≡ false = no_true (lower_bits cpi batch) (λ b. f (h.bits.1 (bits-in-row.0 b))) in
          record { answered = sym e; out = ap (λ (t : Bool). cond t (packed_in order cpi batch) out) (sym e) }

      handed : (after : List ℕ) → bad ≡ 0 → after ≡ packed_in order cpi batch → Handed order cpi batch out after true
      handed after z e =
          let b = seen z in
          record { answered = sym b; out = e ∙ ap (λ (t : Bool). cond t (packed_in order cpi batch) out) (sym b) }

      pub handed-batch : (after : List ℕ) → order ≡ Batch → bad ≡ 0 → length out ≡ 32 * cpi
          → Written (copied made 0 out) 0 (length out) out after → Handed order cpi batch out after true
      handed-batch after q z e w =
          handed after z
          (copied-whole made out after (e ∙ sym (h.lengths ∙ room)) w ∙ made-is z ∙ ap (λ (o : Order). packed_in o cpi batch) (sym q))

      pub handed-cycles : (after : List ℕ) → order ≡ Cycles → bad ≡ 0 → allowed cpi ≡ true → after ≡ put_into Cycles cpi made
          → Handed order cpi batch out after true
      handed-cycles after q z ok e =
          handed after z
          (e ∙ ap (by_cycle cpi) (made-is z) ∙ sym ((kept cpi ok).straight batch) ∙ ap (λ (o : Order). packed_in o cpi batch) (sym q))

-- ---- the call

module _ (order : Order) (cpi : ℕ) (batch out : List ℕ) where
  -- a no before the last question
  pub stored-none : (r : Refusal) → pack_asked cpi (length batch) (length out) ≡ Err r
      → record { answer = Err r; batch = out } ≡ store_called order cpi batch out
  unfolding store_asked
  stored-none r e = called-no (store_asked cpi batch (length out)) r (packed_in order cpi batch) out (sym (if_no Err _ e))

  -- the last question
  module _ (h : NamedIn cpi batch out) (new : List ℕ) (yes : Bool) (g : Handed order cpi batch out new yes) where
    last : store_asked cpi batch (length out) ≡ cond yes (Ok tt) (Err (refusal LowerBits 0))
    unfolding store_asked
    last = sym (if_yes_lem Err _ (in-asked-yes cpi batch out h)) ∙ ap (λ (t : Bool). cond t (Ok tt) (Err (refusal LowerBits 0))) (sym g.answered)

    left : new ≡ cond yes (packed_in order cpi batch) out
    left = g.out ∙ ap (λ (t : Bool). cond t (packed_in order cpi batch) out) (sym g.answered)

    pub stored_no : (r : Refusal) → r ≡ refusal LowerBits 0 → not yes ≡ true → record { answer = Err r; batch = new } ≡ store_called order cpi batch out
    stored_no r e q =
        let f = not-true yes q in
        ap₂ (λ (s : Refusal) (u : List ℕ). record { answer = Err s; batch = u }) e
        (left ∙ ap (λ (t : Bool). cond t (packed_in order cpi batch) out) f)
        ∙ called-no (store_asked cpi batch (length out)) (refusal LowerBits 0) (packed_in order cpi batch) out
        (last ∙ ap (λ (t : Bool). cond t (Ok tt) (Err (refusal LowerBits 0))) f)

    pub stored-yes : not yes ≡ false → record { answer = Ok tt; batch = new } ≡ store_called order cpi batch out
    stored-yes q =
        let f = not-false yes q in
        called-yes (store_asked cpi batch (length out)) (packed_in order cpi batch) out new
        (last ∙ ap (λ (t : Bool). cond t (Ok tt) (Err (refusal LowerBits 0))) f) (left ∙ ap (λ (t : Bool). cond t (packed_in order cpi batch) out) f)
