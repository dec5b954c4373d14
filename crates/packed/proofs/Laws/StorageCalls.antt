-- The calls of packed storage: where they say yes and where no, and their round trips.
-- Assumes nothing.
use Rattle.std.specs.Prelude.{◌≡◌, ℕ, ◌*◌, true, false, List, length, ◌==◌, ◌≢◌, refl, Err, Ok}
use Rattle.std.proofs.Math.Path.{sym, ap, ap₂, subst}
use Rattle.std.proofs.Common.{◌∙◌, eqb-true, eq-eqb, ne_eqb}
use Rattle.std.proofs.Math.Decide.{ℕ_discrete}
use Rattle.base.specs.Laws.Tests.{passed, refused}
use Rattle.layout.specs.declared.questions.Refusal.{Refusal}
use Rattle.layout.specs.Questions.{no as refusal, if_yes, after, Asked}
use Rattle.layout.specs.Batch.{allowed, batch_words, batch_asked}
use Rattle.layout.specs.Laws.Questions.{answered, both_yes, if_yes_lem, if_no, after-yes, called-yes, yes-batch}
use Rattle.packed.specs.declared.order.Order.{Order}
use Rattle.packed.specs.declared.order.Order.TheVariants.{Batch, Cycles}
use Rattle.packed.specs.Packed.{room_asked, pack_asked}
use Rattle.packed.specs.Storage.{Fit, packed, unpacked, by_cycle, by_batch, lower_bits, store_asked, order_asked, pack_called, pack_cycles_called, unpack_called, to_cycles_called, to_batch_called}
use Rattle.packed.specs.Order.{put_into, OrderIn}
use Rattle.packed.specs.Stored.{rearrange_called}
use Rattle.packed.specs.Named.{NamedIn}
use Rattle.packed.specs.RoundTrips.{Left, Joins, CallsKept}
use Rattle.packed.specs.Laws.InWords.{with-length}
use Rattle.packed.specs.Laws.Named.{asked-yes-in, in-asked-yes}
use Rattle.packed.proofs.Laws.RoundTrips.{unpacked-length, unpacked-bits, kept}
use Rattle.layout.specs.declared.questions.Question.TheVariants.{BatchSize, LowerBits, PackedLength}

-- ---- what a yes says, and where it is said

module _ (cpi : ℕ) where
  room-yes : (room : ℕ) → room_asked cpi room ≡ Ok tt → room ≡ 32 * cpi
  room-yes room e = eqb-true room (32 * cpi) (answered (room == 32 * cpi) (Ok tt) (refusal PackedLength 0) e).0

  yes-room : (room : ℕ) → room ≡ 32 * cpi → room_asked cpi room ≡ Ok tt
  yes-room room e = sym (passed _ _ _ (eq-eqb room (32 * cpi) e))

  -- questions 1 and 18 of words that have their length: what is left is the slice that is written
  last-room : (read written : ℕ) → allowed cpi ≡ true → read ≡ 32 * cpi → order_asked cpi read written ≡ room_asked cpi written
  unfolding order_asked
  last-room read written ok r = sym (passed _ _ _ (eq-eqb read (32 * cpi) r) ∙ passed _ _ _ ok)

  store-yes : (batch out : List ℕ) → store_asked cpi batch (length out) ≡ Ok tt → NamedIn cpi batch out × (lower_bits cpi batch ≡ true)
  unfolding store_asked
  store-yes batch out e =
      let y = both_yes (pack_asked cpi (length batch) (length out)) _ e in
      (asked-yes-in cpi batch out y.0, (answered (lower_bits cpi batch) (Ok tt) (refusal LowerBits 0) y.1).0)

  pub yes-store : (batch out : List ℕ) → NamedIn cpi batch out → lower_bits cpi batch ≡ true → store_asked cpi batch (length out) ≡ Ok tt
  unfolding store_asked
  yes-store batch out h b = sym (passed _ _ _ b ∙ if_yes_lem Err _ (in-asked-yes cpi batch out h))

  -- ---- the order of the questions

  -- 1 and 2 come first, whatever room there is and whatever the columns hold
  pub batch-first : (batch : List ℕ) (room : ℕ) (r : Refusal) → batch_asked cpi (length batch) ≡ Err r
      → (pack_asked cpi (length batch) room ≡ Err r) × (store_asked cpi batch room ≡ Err r)
  unfolding store_asked pack_asked
  batch-first batch room r e =
      let p : pack_asked cpi (length batch) room ≡ Err r = sym (if_no Err (room_asked cpi room) e) in (p, sym (if_no Err _ p))

  -- then 18, whatever the columns hold
  pub room-first : (batch out : List ℕ) → allowed cpi ≡ true → length batch ≡ batch_words cpi → (length out ≢ 32 * cpi)
      → store_asked cpi batch (length out) ≡ Err (refusal PackedLength 0)
  unfolding store_asked pack_asked
  room-first batch out size words other =
      let asked = refused _ (Ok tt) (Err (refusal PackedLength 0)) (ne_eqb (length out) (32 * cpi) other) in
      sym (if_no Err _ (sym (asked ∙ if_yes_lem Err (room_asked cpi (length out)) (yes-batch cpi (length batch) size words))))

  -- and 17 last
  pub columns-last : (batch out : List ℕ) → NamedIn cpi batch out → lower_bits cpi batch ≡ false → store_asked cpi batch (length out) ≡ Err (refusal LowerBits 0)
  unfolding store_asked
  columns-last batch out h b = sym (refused _ (Ok tt) (Err (refusal LowerBits 0)) b ∙ if_yes_lem Err _ (in-asked-yes cpi batch out h))

  -- of a rearrangement 1 comes first, and then 18 of either slice
  pub size-first : (read written : ℕ) → allowed cpi ≡ false → order_asked cpi read written ≡ Err (refusal BatchSize 0)
  unfolding order_asked
  size-first read written e = sym (refused _ _ _ e)

  pub either_room : (read written : ℕ) → allowed cpi ≡ true → ((read ≡ 32 * cpi) × (written ≡ 32 * cpi) → ⊥)
      → order_asked cpi read written ≡ Err (refusal PackedLength 0)
  unfolding order_asked
  either_room read written ok other =
      elim (ℕ_discrete read (32 * cpi)) [
        | yes e ↦ last-room read written ok e ∙ sym (refused _ (Ok tt) (Err (refusal PackedLength 0)) (ne_eqb written (32 * cpi) (λ w. other (e, w))))
        | no f ↦ sym (refused _ (room_asked cpi written) (Err (refusal PackedLength 0)) (ne_eqb read (32 * cpi) f) ∙ passed _ _ _ ok)
      ]

  order-yes : (read written : ℕ) → order_asked cpi read written ≡ Ok tt → (allowed cpi ≡ true) × ((read ≡ 32 * cpi) × (written ≡ 32 * cpi))
  unfolding order_asked
  order-yes read written e =
      let y = answered (allowed cpi) _ (refusal BatchSize 0) e in let z = answered (read == 32 * cpi) _ (refusal PackedLength 0) y.1 in
      (y.0, (eqb-true read (32 * cpi) z.0, room-yes written z.1))

  pub yes-order : (read written : ℕ) → allowed cpi ≡ true → read ≡ 32 * cpi → written ≡ 32 * cpi → order_asked cpi read written ≡ Ok tt
  yes-order read written ok r w = last-room read written ok r ∙ yes-room written w

  -- a question asked last
  yes-behind : (q : Asked) → if_yes Err q (Ok tt) ≡ q
  yes-behind (Ok _) = refl
  yes-behind (Err r) = refl

  -- where a batch is packed with yes, both ways into cycle order ask the same of the slice that is written
  same-room : (batch out words : List ℕ) (n : ℕ) → NamedIn cpi batch out → lower_bits cpi batch ≡ true → length words ≡ 32 * cpi
      → order_asked cpi (length words) n ≡ store_asked cpi batch n
  unfolding store_asked pack_asked
  same-room batch out words n h b e =
      last-room (length words) n h.size e
      ∙ sym (yes-behind (room_asked cpi n))
      ∙ ap₂ (λ (q t : Asked). if_yes Err q t) (if_yes_lem Err (room_asked cpi n) (yes-batch cpi (length batch) h.size h.words)) (passed _ _ _ b)

  pub order-in : (words out : List ℕ) → order_asked cpi (length words) (length out) ≡ Ok tt → OrderIn cpi words out
  order-in words out e =
      let o = order-yes (length words) (length out) e in record { size = o.0; read = o.1.0; room = o.1.1 }

  packed-length : (batch : List ℕ) → length (packed cpi batch) ≡ 32 * cpi
  unfolding packed
  packed-length batch = with-length _ (32 * cpi)

  put-length : (order : Order) (words : List ℕ) → length (put_into order cpi words) ≡ 32 * cpi
  unfolding by_batch by_cycle
  put-length Batch words = with-length _ (32 * cpi)
  put-length Cycles words = with-length _ (32 * cpi)

  -- ---- one call after the other

  pack-unpack : (batch out words target : List ℕ) → length target ≡ batch_words cpi → Left (pack_called cpi batch out) words
      → Left (unpack_called cpi words target) (unpacked cpi words target) × Joins cpi (unpacked cpi words target) batch target
  unfolding pack_called unpack_called
  pack-unpack batch out words target s e =
      let y = after-yes (store_asked cpi batch (length out)) (packed cpi batch) out words e in let h = store-yes batch out y.0 in
      let size = h.0.size in let room = ap (λ (w : List ℕ). length w) y.1 ∙ packed-length batch in (
        sym
            (called-yes (pack_asked cpi (length target) (length words)) (unpacked cpi words target) target (unpacked cpi words target)
            (in-asked-yes cpi target words (record { size = size; words = s; room = room })) refl),
        subst (λ (w : List ℕ). Joins cpi (unpacked cpi w target) batch target) (sym y.1)
            ((kept cpi size).unpacked-packed batch target h.1 s),
      )

  unpack-pack : (words batch made out : List ℕ) → Fit words → length out ≡ 32 * cpi → Left (unpack_called cpi words batch) made
      → Left (pack_called cpi made out) words
  unfolding pack_called unpack_called
  unpack-pack words batch made out f s e =
      let y = after-yes (pack_asked cpi (length batch) (length words)) (unpacked cpi words batch) batch made e in
      let h = asked-yes-in cpi batch words y.0 in let new = unpacked cpi words batch in
      let room : NamedIn cpi new out = record { size = h.size; words = unpacked-length cpi words batch ∙ h.words; room = s } in
      subst (λ (u : List ℕ). Left (pack_called cpi u out) words) (sym y.1)
      (sym
      (called-yes (store_asked cpi new (length out)) (packed cpi new) out words
      (yes-store new out room (unpacked-bits cpi words batch h.words))
      (sym ((kept cpi h.size).packed-unpacked words batch h.room f h.words))))

  -- a rearrangement, and the other one after it
  other : Order → Order
  other Batch = Cycles
  other Cycles = Batch

  put_back : allowed cpi ≡ true → (order : Order) (words : List ℕ) → length words ≡ 32 * cpi → Fit words
      → put_into (other order) cpi (put_into order cpi words) ≡ words
  unfolding other
  put_back ok Batch = (kept cpi ok).cycles-again
  put_back ok Cycles = (kept cpi ok).batch-again

  rearrange-back : (order : Order) (words out made back : List ℕ) → Fit words → length back ≡ 32 * cpi
      → Left (rearrange_called order cpi words out) made → Left (rearrange_called (other order) cpi made back) words
  rearrange-back order words out made back f s e =
      let y = after-yes (order_asked cpi (length words) (length out)) (put_into order cpi words) out made e in
      let o = order-yes (length words) (length out) y.0 in let new = put_into order cpi words in
      subst (λ (u : List ℕ). Left (rearrange_called (other order) cpi u back) words) (sym y.1)
      (sym
      (called-yes (order_asked cpi (length new) (length back)) (put_into (other order) cpi new) back words
      (yes-order (length new) (length back) o.0 (put-length order words) s) (sym (put_back o.0 order words o.1.0 f))))

  pack-rearrange : (batch out words there : List ℕ) → Left (pack_called cpi batch out) words
      → to_cycles_called cpi words there ≡ pack_cycles_called cpi batch there
  unfolding pack_called to_cycles_called pack_cycles_called
  pack-rearrange batch out words there e =
      let y = after-yes (store_asked cpi batch (length out)) (packed cpi batch) out words e in let h = store-yes batch out y.0 in
      ap₂ (λ (q : Asked) (u : List ℕ). after q u there)
      (same-room batch out words (length there) h.0 h.1 (ap (λ (w : List ℕ). length w) y.1 ∙ packed-length batch))
      (ap (by_cycle cpi) y.1 ∙ sym ((kept cpi h.0.size).straight batch))

  pub calls-kept : CallsKept cpi
  unfolding to_cycles_called to_batch_called other
  calls-kept =
      record {
        pack-unpack = pack-unpack;
        unpack-pack = unpack-pack;
        cycles-batch = rearrange-back Cycles;
        batch-cycles = rearrange-back Batch;
        pack-rearrange = pack-rearrange;
      }
