-- The same where bits are known only in the columns that rows name.
-- Assumes nothing.
use Rattle.std.specs.Prelude.{◌≡◌, refl, ◌↔◌, Bool, true, ◌&&◌, ◌||◌, ℕ, ◌+◌, ◌*◌, ◌/◌, ◌≤◌, ◌<◌, leb, length}
use Rattle.std.proofs.Math.Path.{sym, ap, subst, fun_ext}
use Rattle.std.proofs.Common.{◌∙◌, arith, eq-eqb}
use Rattle.std.proofs.Math.Bool.{or-true}
use mathlib.Core.List.{List, [], ◌∷◌, ◌++◌}
use Rattle.std.proofs.Math.Decide.{dec_lt}
use Rattle.std.proofs.lemmas.Bool.{lt-leb}
use Rattle.std.proofs.Math.Arith.{digits_lt}
use Rattle.std.proofs.Math.Dec.{eqb}
use Rattle.base.specs.Lists.{All, joined, from, from_each}
use Rattle.base.specs.Laws.Lists.{all_append, all_left, all_right}
use Rattle.base.specs.Laws.Tests.{both}
use Rattle.field.specs.declared.Gf128.{Gf128}
use Rattle.field.specs.Gf.{low, is_bit, odd, of_bit}
use Rattle.field.specs.Gf.Tests.{is_bit-bit, is_bit-true}
use Rattle.field.specs.Gf.Bits.{low_bit, as-bit}
use Rattle.layout.specs.Columns.{ONE-COL}
use Rattle.layout.specs.Batch.{allowed, among, column_at, batch_words}
use Rattle.layout.specs.Laws.Sizes.{among-each}
use Rattle.layout.specs.Laws.Mapping.{witness-column, public-column}
use Rattle.circuit.specs.declared.Relation.TheVariants.{Bin, Fld}
use Rattle.circuit.specs.Rows.{Sides, Row, numbered}
use Rattle.circuit.specs.Circuit.{bin_families, fld_families, circuit_rows}
use Rattle.circuit.specs.Parse.{rows_of}
use Rattle.circuit.specs.Laws.Families.{all-numbered}
use Rattle.strict.specs.declared.Known.{Known}
use Rattle.strict.specs.declared.Known.TheVariants.{House, Strict}
use Rattle.strict.specs.Rows.{flag_rows, rows_with}
use Rattle.strict.specs.Known.{listing_of, further_rows}
use Rattle.strict.proofs.Laws.Known.{rows_are}
use Rattle.verdict.specs.declared.Verdict.TheVariants.{Accepted}
use Rattle.verdict.specs.Row.{element_at, cycle_of, holds, bits_of}
use Rattle.verdict.specs.Named.{named_by, named as named_in}
use Rattle.verdict.specs.Counts.{none, every_row_of}
use Rattle.verdict.specs.Check.{met, constraints, judged}
use Rattle.verdict.specs.Laws.Named.{holds-depends}
use Rattle.verdict.specs.Laws.Run.{run-same}
use Rattle.verdict.specs.Laws.Verdicts.{every-constraint}
use Rattle.step.specs.Filling.{put_each}
use Rattle.step.proofs.Laws.FillingElements.{each-length, each-other, each-here}
use Rattle.packed.specs.Packed.{named_word}
use Rattle.judge.specs.Judged.{judged_cycle, JudgedYes}
use Rattle.judge.specs.Judges.{OverBits}
use Rattle.judge.specs.Named.{NamedBits, named_columns, named}
use Rattle.judge.specs.Laws.Judges.{bits-over, judges}

-- where all are bits, the named ones are
pub over-named : (cpi : ℕ) (batch : List ℕ) → OverBits cpi batch → NamedBits cpi batch
over-named cpi batch o =
    record { words = o.words; fit = o.fit; bits = λ c d l _ m. o.bits (c * cpi + d) (digits_lt l m); one-is = o.one-is }

-- ---- a column that is named and not public lies in a word that is read

abbrev read_or_public : ℕ → Bool
read_or_public c = leb 2048 c || named_word (c / 64)

all_read_or_public : List ℕ → Bool
all_read_or_public [] = true
all_read_or_public (c ∷ cs) = read_or_public c && all_read_or_public cs

-- by one computed test
named-read : all_read_or_public (named_columns circuit_rows) ≡ true
unfolding all_read_or_public named_columns named_in circuit_rows bin_families fld_families from from_each joined numbered
named-read = refl

each_read : (cs : List ℕ) → all_read_or_public cs ≡ true → All (λ c. read_or_public c ≡ true) cs
unfolding all_read_or_public
each_read [] t = tt
each_read (c ∷ cs) t = let p = both (read_or_public c) (all_read_or_public cs) t in (p.0, each_read cs p.1)

pub named-packed : (c : ℕ) → named c ≡ true → c < 2048 → named_word (c / 64) ≡ true
unfolding named
named-packed c e l =
    ap (λ (t : Bool). t || named_word (c / 64)) (sym (lt-leb 2048 c l))
    ∙ among-each (λ x. read_or_public x ≡ true) (named_columns circuit_rows) (each_read (named_columns circuit_rows) named-read) c e

-- ---- cycles that agree on every column that is named: every row holds alike

all_among : (P : ℕ → Type 0) (cs : List ℕ) → ((c : ℕ) → among c cs ≡ true → P c) → All P cs
all_among P [] h = tt
all_among P (x ∷ xs) h = (
  h x (ap (λ (t : Bool). t || among x xs) (eq-eqb x x refl)),
  all_among P xs (λ c e. h c (ap (◌||◌ (eqb c x)) e ∙ or-true (eqb c x))),
)

rows_agree : (y z : ℕ → Gf128) (rs : List Row) → All (λ c. y c ≡ z c) (named_columns rs)
    → All (λ r. holds y r.sides ≡ holds z r.sides) rs
unfolding named_columns
rows_agree y z [] h = tt
rows_agree y z (r ∷ rs) h = (
  holds-depends y z r.sides (all_left _ (named_by r.sides) (named_columns rs) h),
  rows_agree y z rs (all_right _ (named_by r.sides) (named_columns rs) h),
)

-- the rows that a known listing adds name no other columns, by one computed test
all_named : List ℕ → Bool
all_named [] = true
all_named (c ∷ cs) = named c && all_named cs

each_named : List Sides → Bool
each_named [] = true
each_named (s ∷ ss) = all_named (named_by s) && each_named ss

further-named : (k : Known) → each_named (further_rows k) ≡ true
unfolding each_named all_named flag_rows named named_columns named_in circuit_rows bin_families fld_families from from_each joined numbered
further-named House = refl
further-named Strict = refl

module _ (y z : ℕ → Gf128) (same : (c : ℕ) → named c ≡ true → y c ≡ z c) where
  abbrev Alike : Sides → Type 0
  Alike s = holds y s ≡ holds z s

  columns-same : (cs : List ℕ) → all_named cs ≡ true → All (λ c. y c ≡ z c) cs
  unfolding all_named
  columns-same [] e = tt
  columns-same (c ∷ cs) e = let p = both (named c) (all_named cs) e in (same c p.0, columns-same cs p.1)

  sides-alike : (ss : List Sides) → each_named ss ≡ true → All Alike ss
  unfolding each_named
  sides-alike [] e = tt
  sides-alike (s ∷ ss) e =
      let p = both (all_named (named_by s)) (each_named ss) e in
      (holds-depends y z s (columns-same (named_by s) p.0), sides-alike ss p.1)

  -- so every row of a known listing holds alike
  known_alike : (k : Known) → All (λ r. Alike r.sides) (rows_with (further_rows k))
  unfolding named circuit_rows
  known_alike k =
      let house = rows_agree y z circuit_rows (all_among _ (named_columns circuit_rows) same) in
      let bins = joined bin_families in let flds = numbered Fld 0 (joined fld_families) in let further = further_rows k in
      all_append (λ r. Alike r.sides) (numbered Bin 0 (bins ++ further)) flds
      ((all-numbered Alike Bin 0 (bins ++ further)).1
      (all_append Alike bins further ((all-numbered Alike Bin 0 bins).0 (all_left _ (numbered Bin 0 bins) flds house))
      (sides-alike further (further-named k))))
      (all_right _ (numbered Bin 0 bins) flds house)

module _ (k : Known) (cpi : ℕ) (size : allowed cpi ≡ true) (batch : List ℕ) (o : NamedBits cpi batch) where
  abbrev v : ℕ → Bool
  v x = eqb (low (element_at batch x)) 1

  -- every witness column replaced by its own bit
  abbrev W : List ℕ
  W = put_each (λ _. true) (2048 * cpi) 0 v batch

  W-words : length W ≡ batch_words cpi
  W-words = each-length (λ _. true) (2048 * cpi) 0 v batch ∙ o.words

  bit-there : (x : ℕ) → x < 2048 * cpi → element_at W x ≡ of_bit (v x)
  bit-there x l = each-here (λ _. true) (2048 * cpi) 0 v batch x (omega arith) (omega arith) refl (omega (arith, o.words))

  public-same : (x : ℕ) → 2048 * cpi ≤ x → element_at W x ≡ element_at batch x
  public-same x l = each-other (λ _. true) (2048 * cpi) 0 v batch x (λ _ m _. omega (arith, m))

  W-bits : (x : ℕ) → x < 2048 * cpi → is_bit (element_at W x) ≡ true
  W-bits x l = ap is_bit (bit-there x l) ∙ is_bit-bit (v x)

  W-over : OverBits cpi W
  W-over = bits-over cpi W batch W-words W-bits public-same o.fit o.one-is

  public-cycle : (d c : ℕ) → 2048 ≤ c → cycle_of cpi W d c ≡ cycle_of cpi batch d c
  unfolding cycle_of
  public-cycle d c l = public-same (column_at cpi c d) (omega (arith, public-column cpi c d l))

  bits-same : (d : ℕ) → d < cpi → bits_of cpi W d ≡ bits_of cpi batch d
  unfolding bits_of cycle_of
  bits-same d l = fun_ext (λ c. go c (dec_lt c 2048))
    where
      go : (c : ℕ) → Dec (c < 2048) → eqb (low (cycle_of cpi W d c)) 1 ≡ eqb (low (cycle_of cpi batch d c)) 1
      go c (yes m) =
          let at = witness-column cpi c d m in
          ap (λ (x : ℕ). eqb (low (element_at W x)) 1) at ∙ ap (λ (e : Gf128). eqb (low e) 1) (bit-there (c * cpi + d) (digits_lt m l))
          ∙ low_bit (v (c * cpi + d)) ∙ ap v (sym at)
      go c (no f) = ap (λ (e : Gf128). eqb (low e) 1) (public-cycle d c (omega arith))

  -- where a row looks, a bit stood already
  named-same : (d : ℕ) → d < cpi → (c : ℕ) → named c ≡ true → cycle_of cpi W d c ≡ cycle_of cpi batch d c
  unfolding cycle_of
  named-same d l c e =
      elim (dec_lt c 2048) [
        | yes m ↦
            let at = witness-column cpi c d m in
            ap (element_at W) at ∙ bit-there (c * cpi + d) (digits_lt m l)
            ∙ sym (as-bit (odd _) (is_bit-true _ (o.bits c d m e l))) ∙ ap (element_at batch) (sym at)
        | no f ↦ public-cycle d c (omega arith)
      ]

  verdict-same : judged cpi (listing_of k) W ≡ judged cpi (listing_of k) batch
  unfolding judged
  verdict-same =
      run-same (met (cycle_of cpi W)) (met (cycle_of cpi batch)) (constraints cpi (rows_of (listing_of k))) none
      ((every-constraint (λ c. met (cycle_of cpi W) c ≡ met (cycle_of cpi batch) c) cpi (rows_of (listing_of k))).1
      (λ d l.
      subst (λ (rs : List Row). All (λ r. holds (cycle_of cpi W d) r.sides ≡ holds (cycle_of cpi batch d) r.sides) rs) (sym (rows_are k))
      (known_alike (cycle_of cpi W d) (cycle_of cpi batch d) (named-same d l) k)))

  judgement-same : (d : ℕ) → d < cpi
      → judged_cycle k (bits_of cpi W d) (cycle_of cpi W d (ONE-COL + 1))
      ≡ judged_cycle k (bits_of cpi batch d) (cycle_of cpi batch d (ONE-COL + 1))
  judgement-same d l = cc (bits-same d l, public-cycle d (ONE-COL + 1) (omega arith))

  pub judges-named : JudgedYes k cpi batch ↔ (judged cpi (listing_of k) batch ≡ Accepted (every_row_of k cpi))
  judges-named =
      let j = judges k cpi size W W-over in (
        λ y. sym verdict-same ∙ j.0 (λ d l. judgement-same d l ∙ y d l),
        λ e d l. sym (judgement-same d l) ∙ j.1 (verdict-same ∙ e) d l,
      )
