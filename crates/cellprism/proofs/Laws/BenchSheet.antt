-- The bench sheet's one theorem: each line is a theorem of the crate that it speaks of.
-- Assumes nothing.
use Rattle.std.specs.Prelude.{◌≡◌, refl, Bool, true, ◌&&◌, List, [], ◌∷◌, ◌++◌, ℕ, ◌+◌, ◌-◌, ◌*◌, ◌^◌, ◌<◌, get_or, Ok}
use Rattle.std.proofs.Common.{sym, ap, ap₂, ◌∙◌, arith, lit<}
use Rattle.base.specs.Bits.{val}
use Rattle.base.specs.Lists.{joined, from, from_each}
use Rattle.field.specs.Gf.{product, element, of_words}
use Rattle.field.specs.Gf.Element.{value-words, element-value, element-word}
use Rattle.field.specs.Gf.Tests.{same_self}
use Rattle.field.specs.Gf.Laws.{proper-words}
use Rattle.layout.specs.Columns.{ONE-COL}
use Rattle.layout.specs.Questions.{Called}
use Rattle.circuit.specs.Circuit.{circuit_words}
use Rattle.verdict.specs.declared.Verdict.{Verdict}
use Rattle.verdict.specs.declared.Verdict.TheVariants.{Accepted}
use Rattle.verdict.specs.Row.{element_at}
use Rattle.verdict.specs.OverBits.{sum_bits}
use Rattle.verdict.specs.Counts.{counts, rows, counts_of}
use Rattle.verdict.specs.Check.{checked}
use Rattle.verdict.specs.Sheet.{one_row}
use Rattle.step.specs.Derived.{derived}
use Rattle.step.specs.Solve.{lacks}
use Rattle.step.specs.Determining.{before_halt, after_halt, determining}
use Rattle.step.specs.Sheet.{has, number}
use Rattle.step.proofs.Laws.Ones.{holding-one_row, fits, all_derived, all_hold, listed-derived}
use Rattle.step.proofs.Laws.FilledRow.{Gives, accepted, address-fails, sum-fails, output-fails}
use Rattle.step.proofs.Laws.Sheet.{with-ones, with-output, derived-ones}
use Rattle.filler.specs.Met.{conditions, byte_of}
use Rattle.filler.specs.Laws.MetFirst.{all_true_lem}
use Rattle.judge.proofs.Laws.FillCheckExamples.{filled-and-judged}
use Rattle.cellprism.specs.BenchSheet.{Filled, p6_ones, BenchSheet}
use Rattle.field.specs.Gf.Sheet as field
use Rattle.layout.specs.Laws.Sheet as layout
use Rattle.circuit.specs.Laws.House as circuit
use Rattle.verdict.proofs.Laws.Sheet as verdict
use Rattle.witness.specs.Laws.Reading as witness

-- ---- the theorem

-- the number that two words spell
spelled : (lo hi : ℕ) → lo < 2 ^ 64 → hi < 2 ^ 64 → element (hi * 2 ^ 64 + lo) ≡ of_words lo hi
spelled lo hi l h = ap element (sym (value-words lo hi)) ∙ element-value (proper-words lo hi l h)

two-127 : element (2 ^ 127) ≡ of_words 0 (2 ^ 63)
two-127 = spelled 0 (2 ^ 63) (lit< tt) (lit< tt)

two-64 : element (2 ^ 64) ≡ of_words 0 1
two-64 = spelled 0 1 (lit< tt) (lit< tt)

-- the filler's row is the one that it leaves
as_called : {row : List ℕ} {sum : ℕ} {v : Verdict} → rows (counts_of v) ≡ sum → Gives row v → Filled row sum v
as_called {v = v} e g =
    record {
      fill = ap (λ (k : Called). k.answer) g.fill;
      check =
          record {
            rows_are = e;
            check = λ scratch room. ap (λ (k : Called). checked 1 circuit_words k.batch scratch) g.fill ∙ g.check scratch room;
          };
      fill-check = filled-and-judged g ∙ ap (λ (k : Called). record { answer = Ok v; batch = k.batch }) (sym g.fill);
    }

-- P6's row, and the computed tests of its columns
p6-gives : Gives one_row (Accepted (counts 483 31))
unfolding has val conditions byte_of
p6-gives = accepted _ 0 _ holding-one_row (fits _ _ refl) ((all_true_lem _ _).0 refl)

ones-derived : all_derived p6_ones ≡ true
unfolding derived from
ones-derived = refl

ones-solve : all_hold (has (p6_ones ++ (ONE-COL ∷ []))) determining ≡ true
unfolding all_hold has lacks sum_bits determining before_halt after_halt from from_each joined
ones-solve = refl

pub bench-sheet : BenchSheet
unfolding number has val conditions byte_of
bench-sheet =
    record {
      p1 = ap₂ product two-127 (element-word (lit< tt)) ∙ (field.sheet-holds).0 ∙ sym (element-word (lit< tt));
      p2 = ap₂ product two-64 two-64 ∙ (field.sheet-holds).1.0 ∙ sym (element-word (lit< tt));
      p3 = ap₂ product two-127 two-127 ∙ (field.sheet-holds).1.1.0;
      p4 = record { rows_are = refl; check = verdict.p4 };
      p5 = record { rows_are = refl; check = verdict.p5 };
      p6 = as_called refl p6-gives;
      p6-listed = listed-derived p6_ones ones-derived;
      p6-derived = λ c d. ap (λ (k : Called). element_at k.batch c) p6-gives.fill ∙ derived-ones p6_ones ones-derived ones-solve c d;
      p7-store = as_called refl (address-fails _ 0 _ (with-ones _ refl) (fits _ _ refl) refl refl);
      p7-load-store = as_called refl (accepted _ 0 _ (with-ones _ refl) (fits _ _ refl) ((all_true_lem _ _).0 refl));
      p8-alu-0 = as_called refl (accepted _ 0 _ (with-ones _ refl) (fits _ _ refl) ((all_true_lem _ _).0 refl));
      p8-alu-1 = as_called refl (sum-fails _ 0 _ (with-ones _ refl) (fits _ _ refl) refl refl refl refl refl);
      p9-output-5 =
          as_called refl
          (accepted _ 5 _ (with-output _ refl 5) (fits _ _ refl)
          ((all_true_lem _ _).0 (ap (λ (k : Bool). k && true) (same_self (of_words 5 0)))));
      p9-output-6 = as_called refl (output-fails _ 6 _ (with-output _ refl 6) (fits _ _ refl) refl refl refl refl refl (λ e. omega arith));
      p10-blt = (witness.p10).blt;
      p10-bltu = (witness.p10).bltu;
      p10-bge = (witness.p10).bge;
      p11-first = (circuit.p11).first;
      p11-last = ap (λ (n : ℕ). get_or circuit_words (n - 1) 0) (circuit.counts).words ∙ (circuit.p11).last;
      p12-geometry = (layout.p12).four;
      p12-column = (layout.p12).column;
      p12-cpi-0 = (layout.p12).none;
      p12-cpi-3 = (layout.p12).three;
      p12-cpi-512 = (layout.p12).large;
    }
