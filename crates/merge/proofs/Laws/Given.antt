-- Given merges, by numbers: single words, the verdicts of all nine pairs of outcomes, and the bit test.
-- Assumes nothing.
use Rattle.std.specs.Prelude.{◌≡◌, refl, false, List, ℕ, ◌+◌, ◌*◌, ◌≤◌, ◌<◌, length, get_or, replicate, None, Ok, Option}
use Rattle.std.proofs.Common.{sym, ap, ap₂, ◌∙◌, arith, ne_eqb, length-set}
use Rattle.std.proofs.lemmas.List.{length-replicate}
use Rattle.field.specs.Gf.{of_words, of_bit, zero}
use Rattle.field.specs.Gf.Laws.{words-zero}
use Rattle.layout.specs.Batch.{allowed, column_at, batch_words}
use Rattle.circuit.specs.declared.Relation.TheVariants.{Bin, Fld}
use Rattle.circuit.specs.Circuit.{circuit_words}
use Rattle.strict.specs.declared.Known.TheVariants.{House}
use Rattle.verdict.specs.declared.Verdict.{Verdict}
use Rattle.verdict.specs.declared.Verdict.TheVariants.{Accepted, Failed}
use Rattle.verdict.specs.Row.{element_at}
use Rattle.verdict.specs.Bits.{bit_tested, not_bit}
use Rattle.verdict.specs.Counts.{counts}
use Rattle.verdict.specs.Check.{judged}
use Rattle.verdict.proofs.Laws.LaterCycles.{alone, bin-judged, fld-judged}
use Rattle.verdict.proofs.Laws.Sheet.{zeros as all-zero, zeros-accepted, element-alone}
use Rattle.step.proofs.Laws.BitTest.{two-is-none, tells}
use Rattle.step.proofs.Laws.Chosen.{batch_of, batch-length}
use Rattle.step.proofs.Laws.Clauses.{replaced, replaced-length}
use Rattle.verdict.specs.declared.bits.NotBit.{NotBit}
use Rattle.merge.specs.Merged.{cycle_word, lower_word, public_word, merged_word, merged}
use Rattle.merge.specs.Joined.{joined, joined_bits}
use Rattle.merge.proofs.Laws.Bits.{bits as merged-bits}
use Rattle.merge.proofs.Laws.Judgement.{merged-verdict}
use Rattle.layout.specs.Questions.{Answer}

-- ---- words of two batches of two cycles each, whatever they hold

pub record GivenWords (first second : List ℕ) : Type 0 where
  -- column 1: cycles 0 and 1 of the first, and then those of the second
  pub cycle-0 : merged_word 2 first second 8 ≡ get_or first 4 0
  pub cycle-1 : merged_word 2 first second 11 ≡ get_or first 7 0
  pub cycle-2 : merged_word 2 first second 12 ≡ get_or second 4 0
  pub cycle-3 : merged_word 2 first second 15 ≡ get_or second 7 0
  -- the last column below one_col, the one column, the last public column that is given, and zeros from there to the end
  pub last-lower : merged_word 2 first second 16383 ≡ get_or second 8191 0
  pub one-column : merged_word 2 first second 16384 ≡ get_or first 8192 0
  pub last-given : merged_word 2 first second 24575 ≡ get_or first 16383 0
  pub first-zero : merged_word 2 first second 24576 ≡ 0
  pub last-zero : merged_word 2 first second 32767 ≡ 0

pub given-words : (first second : List ℕ) → GivenWords first second
unfolding merged_word lower_word public_word cycle_word
given-words first second =
    record {
      cycle-0 = refl;
      cycle-1 = refl;
      cycle-2 = refl;
      cycle-3 = refl;
      last-lower = refl;
      one-column = refl;
      last-given = refl;
      first-zero = refl;
      last-zero = refl;
    }

-- ---- verdicts over the house listing, of batches of two cycles: one of zeros, which is accepted; one that fails bin row 295 of cycle 1; one
-- that fails fld row 2 of cycle 1

abbrev pub zeros : List ℕ
zeros = replicate (batch_words 2) 0

abbrev bin : List ℕ
bin = alone 2 928 1

abbrev fld : List ℕ
fld = alone 2 448 1

abbrev verdict_on : List ℕ → List ℕ → Verdict
verdict_on first second = judged 4 circuit_words (merged 2 first second)

pub record GivenVerdicts : Type 0 where
  pub both-accepted : verdict_on zeros zeros ≡ Accepted (counts 1932 124)
  pub accepted-bin : verdict_on zeros bin ≡ Failed Bin 1831 (counts 1745 0)
  pub accepted-fld : verdict_on zeros fld ≡ Failed Fld 98 (counts 1932 96)
  pub bin-accepted : verdict_on bin zeros ≡ Failed Bin 807 (counts 779 0)
  pub bin-bin : verdict_on bin bin ≡ Failed Bin 807 (counts 779 0)
  pub bin-fld : verdict_on bin fld ≡ Failed Bin 807 (counts 779 0)
  pub fld-accepted : verdict_on fld zeros ≡ Failed Fld 34 (counts 1932 34)
  pub fld-bin : verdict_on fld bin ≡ Failed Bin 1831 (counts 1745 0)
  pub fld-fld : verdict_on fld fld ≡ Failed Fld 34 (counts 1932 34)

-- a batch of these: its length, that its public columns are 0, and its verdict
record Part (words : List ℕ) (v : Verdict) : Type 0 where
  long : length words ≡ batch_words 2
  public : (x : ℕ) → 4096 ≤ x → element_at words x ≡ of_bit false
  judged-is : judged 2 circuit_words words ≡ v

pub zeros-long : length zeros ≡ batch_words 2
zeros-long = length-replicate {A = ℕ} (batch_words 2) 0

pub zero-at : (x : ℕ) → element_at zeros x ≡ zero
zero-at x = ap₂ of_words (all-zero (batch_words 2) (2 * x)) (all-zero (batch_words 2) (2 * x + 1)) ∙ words-zero

zeros-part : Part zeros (Accepted (counts 966 62))
zeros-part =
    record {
      long = zeros-long;
      public = λ x l. zero-at x;
      judged-is = zeros-accepted House 2 (batch_words 2);
    }

-- 1 in column c of cycle 1 alone
alone-part : (c : ℕ) (v : Verdict) → c < 2048 → judged 2 circuit_words (alone 2 c 1) ≡ v → Part (alone 2 c 1) v
alone-part c v h e =
    record {
      long = length-set {A = ℕ} (replicate (batch_words 2) 0) (2 * (c * 2 + 1)) 1 ∙ length-replicate {A = ℕ} (batch_words 2) 0;
      public = λ x l. element-alone (batch_words 2) (c * 2 + 1) x (omega arith) ∙ ap of_bit (ne_eqb (c * 2 + 1) x (λ q. omega arith));
      judged-is = e;
    }

bin-part : Part bin (Failed Bin 807 (counts 779 0))
bin-part = alone-part 928 _ (omega arith) (bin-judged 2 1 (omega arith))

fld-part : Part fld (Failed Fld 34 (counts 966 34))
fld-part = alone-part 448 _ (omega arith) (fld-judged 2 1 (omega arith))

verdict-of : {first second : List ℕ} {v w : Verdict} → Part first v → Part second w → verdict_on first second ≡ joined 2 v w
verdict-of {first} {second} p q =
    merged-verdict 2 first second p.long q.long (λ x l h. p.public x l ∙ sym (q.public x l)) circuit_words
    ∙ ap₂ (joined 2) p.judged-is q.judged-is

pub given-verdicts : GivenVerdicts
given-verdicts =
    record {
      both-accepted = verdict-of zeros-part zeros-part;
      accepted-bin = verdict-of zeros-part bin-part;
      accepted-fld = verdict-of zeros-part fld-part;
      bin-accepted = verdict-of bin-part zeros-part;
      bin-bin = verdict-of bin-part bin-part;
      bin-fld = verdict-of bin-part fld-part;
      fld-accepted = verdict-of fld-part zeros-part;
      fld-bin = verdict-of fld-part bin-part;
      fld-fld = verdict-of fld-part fld-part;
    }

-- ---- the bit test, of batches of two cycles with a 2 in column c of cycle d and bits elsewhere

abbrev two : ℕ → ℕ → List ℕ
two c d = replaced (batch_of 2 (λ e k. false)) (c * 2 + d) 2 0

abbrev bits : List ℕ
bits = batch_of 2 (λ e k. false)

abbrev bits_said : List ℕ → List ℕ → Answer (Option NotBit)
bits_said first second = bit_tested 4 (merged 2 first second)

pub record GivenBits : Type 0 where
  pub all : bits_said bits bits ≡ Ok None
  pub in-first : bits_said (two 5 1) bits ≡ not_bit 21 5 1
  pub in-second : bits_said bits (two 5 1) ≡ not_bit 23 5 3
  -- of one column the first batch's, though its cycle has the larger number; of two the smaller
  pub same-column : bits_said (two 5 1) (two 5 0) ≡ not_bit 21 5 1
  pub second-smaller : bits_said (two 5 0) (two 4 1) ≡ not_bit 19 4 3
  pub first-smaller : bits_said (two 4 1) (two 5 0) ≡ not_bit 17 4 1

pub given-bits : GivenBits
unfolding allowed column_at
given-bits =
    record {
      all = said bits bits (length-bits) (length-bits) ∙ ap₂ (joined_bits 2) none none;
      in-first = said (two 5 1) bits (length_two 5 1) length-bits ∙ ap₂ (joined_bits 2) (at 5 1 (omega arith) (omega arith)) none;
      in-second = said bits (two 5 1) length-bits (length_two 5 1) ∙ ap₂ (joined_bits 2) none (at 5 1 (omega arith) (omega arith));
      same-column = said (two 5 1) (two 5 0) (length_two 5 1) (length_two 5 0)
          ∙ ap₂ (joined_bits 2) (at 5 1 (omega arith) (omega arith)) (at 5 0 (omega arith) (omega arith));
      second-smaller = said (two 5 0) (two 4 1) (length_two 5 0) (length_two 4 1)
          ∙ ap₂ (joined_bits 2) (at 5 0 (omega arith) (omega arith)) (at 4 1 (omega arith) (omega arith));
      first-smaller = said (two 4 1) (two 5 0) (length_two 4 1) (length_two 5 0)
          ∙ ap₂ (joined_bits 2) (at 4 1 (omega arith) (omega arith)) (at 5 0 (omega arith) (omega arith));
    }
  where
    length-bits : length bits ≡ batch_words 2
    length-bits = batch-length 2 (omega arith) (λ e k. false)

    length_two : (c d : ℕ) → length (two c d) ≡ batch_words 2
    length_two c d = replaced-length bits (c * 2 + d) 2 0 ∙ length-bits

    said : (first second : List ℕ) → length first ≡ batch_words 2 → length second ≡ batch_words 2
        → bits_said first second ≡ joined_bits 2 (bit_tested 2 first) (bit_tested 2 second)
    said first second p q = (merged-bits 2 first second refl refl p q).answer

    none : bit_tested 2 bits ≡ Ok None
    none = (tells 2 refl).bits (λ e k. false)

    at : (c d : ℕ) → c < 2048 → d < 2 → bit_tested 2 (two c d) ≡ not_bit (c * 2 + d) c d
    at c d hc hd = (tells 2 refl).no-bit (λ e k. false) c d 2 0 hc hd two-is-none
