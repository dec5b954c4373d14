-- One cycle: where its columns hold bits, its rows over the field are the determining rows over bits, and what `Others` says.
-- Assumes nothing.
use Rattle.std.specs.Prelude.{◌≡◌, ◌↔◌, Bool, true, false, ◌&&◌, List, [], ◌∷◌, ℕ, ◌+◌, ◌*◌, ◌-◌, ◌≤◌, ◌<◌, leb}
use Rattle.std.proofs.Math.Path.{refl}
use Rattle.std.proofs.Common.{sym, ap, ◌∙◌, arith, leb-true}
use Rattle.std.proofs.Math.Logic.Iff.{trans as iff_trans}
use Rattle.base.specs.Lists.{joined, All, from, from_each}
use Rattle.base.specs.Bits.{word}
use Rattle.base.specs.Laws.Values.{val_same, same_bits_lem, no_bits}
use Rattle.base.specs.Laws.Tests.{both}
use Rattle.base.specs.Laws.Lists.{all-joined}
use Rattle.base.specs.Laws.From.{all_from, all-each}
use Rattle.field.specs.declared.Gf128.{Gf128}
use Rattle.field.specs.Gf.{Proper, of_bit}
use Rattle.layout.specs.Columns.{ONE-COL, RS1, RD, LOAD-VAL, SHIFT-OUT, ALU, HALT, IS-SHIFT, LD-WORD, CA, CH, CH2, WNL, ZE16, ZE8}
use Rattle.circuit.specs.Rows.{Sides}
use Rattle.circuit.specs.Circuit.{address_row, extension_row, halt_rows, first_carry_row, agree_row, load_rows, bin_families, fld_families}
use Rattle.verdict.specs.Row.{holds}
use Rattle.verdict.specs.OverBits.{plain}
use Rattle.verdict.specs.Named.{named}
use Rattle.step.specs.Solve.{Holds}
use Rattle.step.specs.Determining.{before_halt, after_halt, determining_bin, determining_families, determining}
use Rattle.step.specs.Step.{Condition}
use Rattle.step.proofs.Laws.Conditions.{Same, Others}
use Rattle.step.proofs.Laws.BinRows.{address-row, extension-row, one-halt, bin-parts}
use Rattle.step.proofs.Laws.FieldRows.{over_bits, bin-row, agree-row, sum_row_lem, output_row_lem}

-- ---- every bin row is one over bits, by one computed test

abbrev pub all_over_bits : List Sides → Bool
all_over_bits [] = true
all_over_bits (s ∷ ss) = over_bits s && all_over_bits ss

pub bin-over-bits : all_over_bits (joined bin_families) ≡ true
unfolding bin_families from from_each joined plain named
bin-over-bits = refl

determining-over-bits : all_over_bits (joined (determining_bin halt_rows)) ≡ true
unfolding before_halt after_halt from from_each joined plain named
determining-over-bits = refl

-- ---- the rows of a cycle over the field

-- a cycle that holds bits b up to the one column, 1 there, and after it an element of two words
pub record OfBits (z : ℕ → Gf128) (b : ℕ → Bool) : Type 0 where
  pub bits : (c : ℕ) → c ≤ ONE-COL → z c ≡ of_bit (b c)
  pub one : b ONE-COL ≡ true
  pub public : Proper (z (ONE-COL + 1))

module _ (z : ℕ → Gf128) (b : ℕ → Bool) (o : OfBits z b) where
  abbrev pub Met : Sides → Type 0
  Met s = holds z s ≡ true

  pub all-bin : (ss : List Sides) → all_over_bits ss ≡ true → All Met ss ↔ All (Holds b) ss
  all-bin [] e = (λ h. h, λ h. h)
  all-bin (s ∷ ss) e =
      let p = both (over_bits s) (all_over_bits ss) e in let k = bin-row z b o.bits s p.0 in let ks = all-bin ss p.1 in
      (λ h. (k.0 h.0, ks.0 h.1), λ h. (k.1 h.0, ks.1 h.1))

  bin : All Met (joined bin_families) ↔ All (All (Holds b)) bin_families
  bin =
      let k = all-bin (joined bin_families) bin-over-bits in let j = all-joined (Holds b) bin_families in
      (λ h. j.0 (k.0 h), λ h. k.1 (j.1 h))

  agree : (n x y w : ℕ) → n ≤ 64 → x ≤ 1127 → y + n ≤ 1127 → w + n ≤ 1127 → Met (agree_row n x y w) ↔ Same b n x y w
  agree n x y w l m p q =
      iff_trans (agree-row z b o.bits n x y w l (omega arith) (omega arith) (omega arith))
      (λ h e. val_same _ _ n (h e), λ h e. same_bits_lem _ _ n (h e))

  -- of words at columns that are written out
  words-agree : (x y w : ℕ) → (leb x 1127 && (leb y 1000 && leb w 1000)) ≡ true → Met (agree_row 64 x y w) ↔ Same b 64 x y w
  words-agree x y w e =
      let p = both (leb x 1127) (leb y 1000 && leb w 1000) e in let q = both (leb y 1000) (leb w 1000) p.1 in
      agree 64 x y w (omega arith) (leb-true x 1127 p.0) (omega (arith, leb-true y 1000 q.0)) (omega (arith, leb-true w 1000 q.1))

  pub address-rows : (output : Gf128) → All (Holds b) (from 0 8 address_row) ↔ Condition b output 10
  address-rows output =
      let k = all_from (Holds b) 0 8 address_row in (
        λ h e. val_same _ _ 8 (λ t l. (address-row b o.one t).0 (k.0 h t (omega arith) (omega arith)) e),
        λ h. k.1 (λ t _ l. (address-row b o.one t).1 (λ e. same_bits_lem _ _ 8 (h e) t l)),
      )

  pub extension-rows : (x lo n : ℕ) → All (Holds b) (from lo n (extension_row x)) ↔ (b x ≡ true → word b (RD + lo) n ≡ 0)
  extension-rows x lo n =
      let k = all_from (Holds b) lo n (extension_row x) in (
        λ h e. val_same (λ i. b (RD + lo + i)) (λ i. false) n
            (λ i l. ap b (omega arith) ∙ (extension-row b o.one x (lo + i)).0 (k.0 h (lo + i) (omega arith) (omega arith)) e)
            ∙ no_bits n,
        λ h. k.1 (λ i l m. (extension-row b o.one x i).1
            (λ e. ap b (omega arith) ∙ same_bits_lem (λ j. b (RD + lo + j)) (λ j. false) n (h e ∙ sym (no_bits n)) (i - lo) (omega arith))),
      )

  load-rows : (a : ℕ) → a < 8
      → All Met (load_rows a)
      ↔ (Same b 8 (CA + a) (LOAD-VAL + 8 * a) RD × Same b 8 (CH + a) (LOAD-VAL + 8 * a) RD × Same b 8 (CH2 + a) (LOAD-VAL + 8 * a) (RD + 8))
  load-rows a l =
      let p = agree 8 (CA + a) (LOAD-VAL + 8 * a) RD (omega arith) (omega arith) (omega arith) (omega arith) in
      let q = agree 8 (CH + a) (LOAD-VAL + 8 * a) RD (omega arith) (omega arith) (omega arith) (omega arith) in
      let r = agree 8 (CH2 + a) (LOAD-VAL + 8 * a) (RD + 8) (omega arith) (omega arith) (omega arith) (omega arith) in
      (λ h. (p.0 h.0, q.0 h.1.0, r.0 h.1.1.0), λ h. (p.1 h.0, (q.1 h.1, (r.1 h.2, tt))))

  first-carry : Met first_carry_row ↔ Holds b first_carry_row
  unfolding plain named
  first-carry = bin-row z b o.bits first_carry_row refl

  -- the determining rows over the field are those over bits
  pub determining-rows : (All Met (joined (determining_bin halt_rows)) × Met first_carry_row) ↔ All (Holds b) determining
  unfolding determining
  determining-rows =
      let k = all-bin (joined (determining_bin halt_rows)) determining-over-bits in
      let j = all-joined (Holds b) (determining_bin halt_rows) in
      let i = all-joined (Holds b) determining_families in
      let n = one-halt b o.one in (
        λ h. i.1 ((first-carry.0 h.1, tt), n.0 (j.0 (k.0 h.0))),
        λ h. (k.1 (j.1 (n.1 (i.0 h).1)), first-carry.1 (i.0 h).0.0),
      )

  pub rows_split : All Met (joined bin_families) → All Met (joined fld_families) → All (Holds b) determining × Others b (z (ONE-COL + 1))
  unfolding determining fld_families
  rows_split hb hf =
      let p = (bin-parts (Holds b)).0 (bin.0 hb) in
      let f = (all-joined Met fld_families).0 hf in
      let lanes : ((a : ℕ) → a < 8 → All Met (load_rows a)) =
      λ a l. (all-each Met 0 8 load_rows).0 f.1.1.1.1.1.1.1.0 a (omega arith) (omega arith) in (
        (all-joined (Holds b) determining_families).1 ((first-carry.0 f.1.1.0.0, tt), (one-halt b o.one).0 p.determine),
        record {
          write = (words-agree WNL ALU RD refl).0 f.0.0;
          sum = (sum_row_lem z b o.bits).0 f.1.0.0;
          output-is = (output_row_lem z b o.bits o.public).0 f.1.1.1.0.0;
          halt = (words-agree HALT RD RS1 refl).0 f.1.1.1.1.0.0;
          shift = (words-agree IS-SHIFT ALU SHIFT-OUT refl).0 f.1.1.1.1.1.0.0;
          load_word = (words-agree LD-WORD RD LOAD-VAL refl).0 f.1.1.1.1.1.1.0.0;
          byte_lane = λ a l. ((load-rows a l).0 (lanes a l)).0;
          half-lane = λ a l. ((load-rows a l).0 (lanes a l)).1;
          next-lane = λ a l. ((load-rows a l).0 (lanes a l)).2;
          extend16 = (extension-rows ZE16 16 48).0 p.extend16;
          extend8 = (extension-rows ZE8 8 8).0 p.extend8;
          address = (address-rows (z (ONE-COL + 1))).0 p.address;
        },
      )

  pub rows-joined : All (Holds b) determining → Others b (z (ONE-COL + 1)) → All Met (joined bin_families) × All Met (joined fld_families)
  unfolding determining fld_families
  rows-joined hd r =
      let h = (all-joined (Holds b) determining_families).0 hd in (
        bin.1
            ((bin-parts (Holds b)).1
            (record {
              determine = (one-halt b o.one).1 h.1;
              address = (address-rows (z (ONE-COL + 1))).1 r.address;
              extend16 = (extension-rows ZE16 16 48).1 r.extend16;
              extend8 = (extension-rows ZE8 8 8).1 r.extend8;
            })),
        (all-joined Met fld_families).1 (
          ((words-agree WNL ALU RD refl).1 r.write, tt),
          (
            ((sum_row_lem z b o.bits).1 r.sum, tt),
            (
              (first-carry.1 h.0.0, tt),
              (
                ((output_row_lem z b o.bits o.public).1 r.output-is, tt),
                (
                  ((words-agree HALT RD RS1 refl).1 r.halt, tt),
                  (
                    ((words-agree IS-SHIFT ALU SHIFT-OUT refl).1 r.shift, tt),
                    (
                      ((words-agree LD-WORD RD LOAD-VAL refl).1 r.load_word, tt),
                      ((all-each Met 0 8 load_rows).1 (λ a l m. (load-rows a m).1 (r.byte_lane a m, r.half-lane a m, r.next-lane a m)), tt),
                    ),
                  ),
                ),
              ),
            ),
          ),
        ),
      )
