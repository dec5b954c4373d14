-- Which step condition is the first that a cycle does not meet: the ten of `Step` again, as the tests of a cycle's words that the code
-- makes and its contracts cite. Laws/MetEach proves every test true exactly when the condition of its number holds, Laws/MetFirst that
-- all are met exactly when the record of the conditions holds, Laws/MetRead that these are the words that the code reads.
-- Assumes nothing.
use Rattle.std.specs.Prelude.{ℕ, ◌+◌, ◌-◌, ◌*◌, ◌/◌, ◌%◌, ◌^◌, Bool, true, false, cond, not, ◌&&◌, ◌||◌, List, [], ◌∷◌, ◌==◌, nat_eq, nat_lt, slice_index_or, Err, None, Ok, Option, Some}
use Rattle.base.specs.Bits.{digit, ◌⊻◌, word, bit_at}
use Rattle.base.specs.Tests.{first_from}
use Rattle.field.specs.declared.Gf128.{Gf128}
use Rattle.field.specs.Gf.{of_words, same}
use Rattle.layout.specs.Columns.{ONE-COL, RS1, RD, LOAD-VAL, SHIFT-OUT, T1, T2, ALU, FLAGS, OFF, SUB, WE, IS-LOAD, IS-STORE, IS-ARITH, IS-SHIFT, LD-BYTE, LD-HALF, LD-WORD, RAM-ADDR}
use Rattle.layout.specs.Questions.{no, if_yes, Answer}
use Rattle.strict.specs.declared.Known.{Known}
use Rattle.strict.specs.declared.Known.TheVariants.{House, Strict}
use Rattle.verdict.specs.Row.{cycle_of, bits_of}
use Rattle.step.specs.Step.{opcode, offset}
use Rattle.step.specs.Fill.{fill_asked}
use Rattle.filler.specs.declared.bits.Flags.{Flags}
use Rattle.filler.specs.declared.derive.GivenWords.{GivenWords}
use Rattle.filler.specs.declared.conditions.StepWords.{StepWords}
use Rattle.filler.specs.declared.conditions.StepFlags.{StepFlags}
use Rattle.filler.specs.Words.{gate_flags}
use Rattle.layout.specs.declared.questions.Question.TheVariants.{CycleRange}

-- ---- what the conditions read of a cycle

abbrev pub words_of : (ℕ → Bool) → StepWords
words_of b =
    record {
      rs1 = word b RS1 64;
      rd = word b RD 64;
      load_val = word b LOAD-VAL 64;
      shift_out = word b SHIFT-OUT 64;
      t1 = word b T1 64;
      t2 = word b T2 64;
      alu = word b ALU 64;
      opcode = opcode b;
    }

abbrev pub flags_at : (ℕ → Bool) → Flags
flags_at b = record { write = b WE; load = b IS-LOAD; byte = b LD-BYTE; half = b LD-HALF; whole = b LD-WORD }

abbrev pub flags_of : (ℕ → Bool) → StepFlags
flags_of b =
    record {
      gates = flags_at b;
      sub = b SUB;
      is_store = b IS-STORE;
      is_arith = b IS-ARITH;
      is_shift = b IS-SHIFT;
      off = offset b;
      ram_addr = word b RAM-ADDR 8;
    }

-- the same words from those that the derived columns depend on and two more, and the flags of the word of columns 768 on: where the code
-- finds them
abbrev pub step_words : GivenWords → ℕ → ℕ → StepWords
step_words g rd shift =
    record {
      rs1 = g.rs1;
      rd = rd;
      load_val = g.load;
      shift_out = shift;
      t1 = g.t1;
      t2 = g.t2;
      alu = g.alu;
      opcode = g.fetch % 2 ^ 7;
    }

abbrev pub flags_in : ℕ → StepFlags
flags_in w =
    record {
      gates = gate_flags w;
      sub = bit_at w (SUB - FLAGS);
      is_store = bit_at w (IS-STORE - FLAGS);
      is_arith = bit_at w (IS-ARITH - FLAGS);
      is_shift = bit_at w (IS-SHIFT - FLAGS);
      off = w / 2 ^ (OFF - FLAGS) % 2 ^ 3;
      ram_addr = w / 2 ^ (RAM-ADDR - FLAGS) % 2 ^ 8;
    }

-- ---- the conditions, each as "where this, that"

infixr 20 ◌⇒◌
abbrev pub ◌⇒◌ : Bool → Bool → Bool
p ⇒ q = not p || q

-- byte k of a word
unfoldable pub byte_of : ℕ → ℕ → ℕ
byte_of x k = x / 2 ^ (8 * k) % 2 ^ 8

module _ (w : StepWords) (f : StepFlags) where
  abbrev pub arithmetic : Bool
  arithmetic = f.is_arith ⇒ nat_eq w.alu ((w.t1 + w.t2 + digit f.sub) % 2 ^ 64)

  abbrev pub shift : Bool
  shift = f.is_shift ⇒ nat_eq w.alu w.shift_out

  abbrev pub write : Bool
  write = f.gates.write && not f.gates.load ⇒ nat_eq w.rd w.alu

  abbrev pub load_word : Bool
  load_word = f.gates.whole ⇒ nat_eq w.rd w.load_val

  abbrev pub load_byte : Bool
  load_byte = f.gates.byte ⇒ nat_eq (byte_of w.rd 0) (byte_of w.load_val f.off)

  abbrev pub load_half : Bool
  load_half =
      f.gates.half
      ⇒ nat_eq (byte_of w.rd 0) (byte_of w.load_val f.off) && byte_of w.rd 1 == byte_of w.load_val ((f.off + 1) % 8)

  abbrev pub upper_zero : Bool
  upper_zero = f.gates.load && not f.gates.whole ⇒ nat_eq (w.rd / 2 ^ 16) 0

  abbrev pub second_zero : Bool
  second_zero = f.gates.load && not f.gates.whole && not f.gates.half ⇒ nat_eq (byte_of w.rd 1) 0

  abbrev pub address : Bool
  address = (f.gates.load ⊻ f.is_store) ⇒ nat_eq f.ram_addr (w.alu / 2 ^ 3 % 2 ^ 8)

-- the strict conditions on the flags (document 02, request 6): no cycle both loads and stores, and it has as many widths as loads
module _ (f : StepFlags) where
  abbrev pub apart : Bool
  apart = not (f.gates.load && f.is_store)

  abbrev pub one_width : Bool
  one_width = digit f.gates.byte + digit f.gates.half + digit f.gates.whole == digit f.gates.load

abbrev pub system : StepWords → Gf128 → Bool
system w output = nat_eq w.opcode 0x73 ⇒ nat_eq w.rd w.rs1 && same output (of_words w.rd 0)

-- in document 01's order
unfoldable pub conditions : StepWords → StepFlags → Gf128 → List Bool
conditions w f output =
    arithmetic w f ∷ shift w f ∷ write w f ∷ system w output ∷ load_word w f
    ∷ load_byte w f ∷ load_half w f ∷ upper_zero w f ∷ second_zero w f ∷ address w f ∷ []

-- what a known listing's rows come to: the strict one's to two tests more
abbrev pub conditions_of : Known → StepWords → StepFlags → Gf128 → List Bool
conditions_of House w f output = conditions w f output
conditions_of Strict w f output = apart f ∷ one_width f ∷ conditions w f output

-- all of them are met
abbrev pub all_true : List Bool → Bool
all_true [] = true
all_true (t ∷ ts) = t && all_true ts

-- number k of them, counted from 1
abbrev pub numbered : List Bool → ℕ → Bool
numbered met k = slice_index_or met (k - 1) false

-- the first that is not met
abbrev pub named : ℕ → Option ℕ
named k = cond (nat_lt k 11) (Some k) None

unfoldable pub first_false : List Bool → Option ℕ
first_false met = named (first_from (λ k. not (numbered met k)) 1 10)

-- of a cycle: of its bits, and of the public element one_col + 1
unfoldable pub first_unmet : (ℕ → Bool) → Gf128 → Option ℕ
first_unmet b output = first_false (conditions (words_of b) (flags_of b) output)

-- ---- as it is called: questions 1, 2, 11, 12 and 15

abbrev pub if_inside : ℕ → List ℕ → ℕ → Answer (Option ℕ)
if_inside cpi batch d =
    cond (nat_lt d cpi) (Ok (first_unmet (bits_of cpi batch d) (cycle_of cpi batch d (ONE-COL + 1)))) (Err (no CycleRange 0))

unfoldable pub step_answer : ℕ → List ℕ → ℕ → Answer (Option ℕ)
step_answer cpi batch d = if_yes Err (fill_asked cpi batch) (if_inside cpi batch d)
