-- Given batches: how many constraints are tested, and what verdicts count, by numbers.
-- Assumes nothing.
use Rattle.std.specs.Prelude.{◌≡◌, refl, List, ℕ, set, replicate}
use Rattle.std.proofs.Common.{sym, ap, arith}
use Rattle.layout.specs.Batch.{scratch_fits}
use Rattle.circuit.specs.declared.Relation.TheVariants.{Bin, Fld}
use Rattle.circuit.specs.Circuit.{circuit_words}
use Rattle.circuit.specs.Parse.{rows_of}
use Rattle.strict.specs.declared.Known.TheVariants.{House, Strict}
use Rattle.strict.specs.Rows.{strict_words}
use Rattle.verdict.specs.declared.Verdict.{Verdict}
use Rattle.verdict.specs.declared.Verdict.TheVariants.{Failed}
use Rattle.verdict.specs.Counts.{counts, counts_of}
use Rattle.verdict.specs.Check.{constraints, Checked, judged}
use Rattle.verdict.specs.Counted.{in_relation, tested_in, CountedApart}
use Rattle.verdict.specs.Sheet.{one_row}
use Rattle.verdict.proofs.Laws.Counted.{call-counted}
use Rattle.verdict.proofs.Laws.Sheet.{zeros-accepted, p5}
use Rattle.verdict.proofs.Laws.LaterCycles.{bin-judged, fld-judged, last}

pub record GivenTested : Type 0 where
  -- one cycle, only the one column 1: bin row 263 fails
  pub one-all : tested_in 1 one_row (constraints 1 (rows_of circuit_words)) ≡ 264
  pub one-bin : tested_in 1 one_row (in_relation 1 circuit_words Bin) ≡ 264
  -- two cycles, the first carry of the second alone 1: fld row 2 of that cycle fails
  pub two-all : tested_in 2 (set (replicate 16384 0) 1794 1) (constraints 2 (rows_of circuit_words)) ≡ 1000
  pub two-bin : tested_in 2 (set (replicate 16384 0) 1794 1) (in_relation 2 circuit_words Bin) ≡ 966
  pub two-fld : tested_in 2 (set (replicate 16384 0) 1794 1) (in_relation 2 circuit_words Fld) ≡ 34

pub given-tested : GivenTested
unfolding scratch_fits
given-tested =
    record {
      one-all = sym one.sum;
      one-bin = sym one.bin;
      two-all = sym two.sum;
      two-bin = sym two.bin;
      two-fld = sym (two.in-fld 34 (counts 966 34) refl).1;
    }
  where
    least : List ℕ
    least = replicate 6 0

    one : CountedApart 1 circuit_words one_row (Failed Bin 263 (counts 264 0))
    one = call-counted 1 circuit_words one_row least _ (ap (λ (c : Checked). c.answer) (p5 least refl))

    two : CountedApart 2 circuit_words (set (replicate 16384 0) 1794 1) (Failed Fld 34 (counts 966 34))
    two = call-counted 2 circuit_words _ least _ (ap (λ (c : Checked). c.answer) (last least refl).fld-2)

-- the counts of verdicts on two cycles by their names: all zero, over either listing; fld row 2 of the second cycle; bin row 295 of it
pub record GivenCounts : Type 0 where
  pub house-bin : (counts_of (judged 2 circuit_words (replicate 16384 0))).bin ≡ 966
  pub house-fld : (counts_of (judged 2 circuit_words (replicate 16384 0))).fld ≡ 62
  pub strict-bin : (counts_of (judged 2 strict_words (replicate 16384 0))).bin ≡ 982
  pub strict-fld : (counts_of (judged 2 strict_words (replicate 16384 0))).fld ≡ 62
  pub in-fld-bin : (counts_of (judged 2 circuit_words (set (replicate 16384 0) 1794 1))).bin ≡ 966
  pub in-fld-fld : (counts_of (judged 2 circuit_words (set (replicate 16384 0) 1794 1))).fld ≡ 34
  pub in-bin-bin : (counts_of (judged 2 circuit_words (set (replicate 16384 0) 3714 1))).bin ≡ 779
  pub in-bin-fld : (counts_of (judged 2 circuit_words (set (replicate 16384 0) 3714 1))).fld ≡ 0

pub given-counts : GivenCounts
given-counts =
    record {
      house-bin = ap (λ (v : Verdict). (counts_of v).bin) (zeros-accepted House 2 16384);
      house-fld = ap (λ (v : Verdict). (counts_of v).fld) (zeros-accepted House 2 16384);
      strict-bin = ap (λ (v : Verdict). (counts_of v).bin) (zeros-accepted Strict 2 16384);
      strict-fld = ap (λ (v : Verdict). (counts_of v).fld) (zeros-accepted Strict 2 16384);
      in-fld-bin = ap (λ (v : Verdict). (counts_of v).bin) (fld-judged 2 1 (omega arith));
      in-fld-fld = ap (λ (v : Verdict). (counts_of v).fld) (fld-judged 2 1 (omega arith));
      in-bin-bin = ap (λ (v : Verdict). (counts_of v).bin) (bin-judged 2 1 (omega arith));
      in-bin-fld = ap (λ (v : Verdict). (counts_of v).fld) (bin-judged 2 1 (omega arith));
    }
