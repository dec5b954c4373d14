-- P5's row of the bench sheet with 1 in more columns and a number in the public element: what stands in it, and which derived columns of
-- P5's own hold 1 once it is filled.
-- Assumes nothing.
use Rattle.std.specs.Prelude.{◌≡◌, refl, Bool, true, false, cond, ◌||◌, List, [], ◌∷◌, ◌++◌, ℕ, zero, suc, ◌+◌, ◌*◌, ◌/◌, ◌%◌, ◌^◌, ◌≤◌, ◌<◌, eqb}
use Rattle.std.proofs.Common.{sym, ap, ap₂, ◌∙◌, true≢false, pow-suc, arith, eqb-true, eq-eqb, ne_eqb}
use Rattle.std.proofs.lemmas.Bool.{false≢true, eqb-false}
use Rattle.base.specs.Bits.{digit, val, word}
use Rattle.base.specs.Laws.Values.{val_same}
use Rattle.base.specs.Laws.Cases.{no_true}
use Rattle.field.specs.Gf.{of_words, of_bit}
use Rattle.layout.specs.Columns.{ONE-COL, RS1, RD, T1, T2, ALU, SUB, WE, IS-SHIFT, LD-BYTE, LD-HALF, LD-WORD}
use Rattle.verdict.specs.Row.{element_at}
use Rattle.verdict.specs.Sheet.{one_row}
use Rattle.step.specs.Step.{Condition, Step}
use Rattle.step.specs.Derived.{derived}
use Rattle.step.specs.Determining.{determining}
use Rattle.step.specs.Filling.{filled}
use Rattle.step.specs.Sheet.{has, with_ones, with_output, number}
use Rattle.step.proofs.Laws.Derived.{derived-below, one-given}
use Rattle.step.proofs.Laws.FieldRows.{up_to_one}
use Rattle.step.proofs.Laws.Ones.{Holding, holding-ones, holding-output, holding-one_row, fits, all_derived, all_hold, columns-are}

-- a column put before a list, or not
put-at : (t : Bool) (c : ℕ) (cs : List ℕ) → has cs c ≡ false → has (cond t (c ∷ []) [] ++ cs) c ≡ t
unfolding has
put-at true c cs e = ap (λ (k : Bool). k || has cs c) (eq-eqb c c refl)
put-at false c cs e = e

put-else : (t : Bool) (c : ℕ) (cs : List ℕ) (x : ℕ) → (x ≡ c → ⊥) → has (cond t (c ∷ []) [] ++ cs) x ≡ has cs x
unfolding has
put-else true c cs x f = ap (λ (k : Bool). k || has cs x) (ne_eqb x c f)
put-else false c cs x f = refl

parity : (n : ℕ) → n < 2 → digit (eqb n 1) ≡ n
parity n l = go (eqb n 1) refl
  where
    go : (t : Bool) → eqb n 1 ≡ t → digit t ≡ n
    go true e = sym (eqb-true n 1 e)
    go false e = omega (arith, eqb-false n 1 e)

-- the number stands there, and nothing elsewhere
pub number-else : (w c n x : ℕ) → (c ≤ x → x < c + w → ⊥) → has (number c w n) x ≡ false
unfolding has number
number-else zero c n x f = refl
number-else (suc w) c n x f =
    put-else (eqb (n % 2) 1) c (number (suc c) w (n / 2)) x (λ e. f (omega arith) (omega arith))
    ∙ number-else w (suc c) (n / 2) x (λ l m. f (omega arith) (omega arith))

pub number_is : (w c n : ℕ) → n < 2 ^ w → word (has (number c w n)) c w ≡ n
unfolding has number val
number_is zero c n l = omega arith
number_is (suc w) c n l =
    let t = eqb (n % 2) 1 in let cs = number (suc c) w (n / 2) in
    let here : c + 0 ≡ c = omega arith in
    let first = ap (has (cond t (c ∷ []) [] ++ cs)) here ∙ put-at t c cs (number-else w (suc c) (n / 2) c (λ m _. omega arith)) in
    let later =
    val_same (λ i. has (cond t (c ∷ []) [] ++ cs) (c + suc i)) (λ i. has cs (suc c + i)) w
    (λ i m. put-else t c cs (c + suc i) (omega arith) ∙ ap (has cs) (omega arith)) in
    ap₂ (λ (a b : ℕ). a + 2 * b) (ap digit first ∙ parity (n % 2) (omega arith))
    (later ∙ number_is w (suc c) (n / 2) (omega (arith, pow-suc 2 w)))
    ∙ omega arith

module _ (xs : List ℕ) (t : up_to_one xs ≡ true) where
  pub with-ones : Holding (xs ++ (ONE-COL ∷ [])) 0 (with_ones xs one_row)
  with-ones = holding-ones xs (ONE-COL ∷ []) 0 one_row holding-one_row t

  pub with-output : (n : ℕ) → Holding (xs ++ (ONE-COL ∷ [])) n (with_output n (with_ones xs one_row))
  with-output n = holding-output (xs ++ (ONE-COL ∷ [])) 0 (with_ones xs one_row) with-ones n

-- the one column is not derived
has-derived : (ds : List ℕ) (c : ℕ) → derived c ≡ true → has (ds ++ (ONE-COL ∷ [])) c ≡ has ds c
unfolding has
has-derived [] c e =
    ap (λ (k : Bool). k || false) (no_true (eqb c ONE-COL) (λ q. true≢false (sym e ∙ ap derived (eqb-true c ONE-COL q) ∙ one-given)))
has-derived (d ∷ ds) c e = ap (◌||◌ (eqb c d)) (has-derived ds c e)

-- a list of derived columns with which the determining rows hold is the list of those that the filler makes 1
pub derived-ones : (ds : List ℕ) → all_derived ds ≡ true → all_hold (has (ds ++ (ONE-COL ∷ []))) determining ≡ true
    → (c : ℕ) → derived c ≡ true → element_at (filled 1 one_row) c ≡ of_bit (has ds c)
unfolding has
derived-ones ds these solved c e =
    columns-are (ONE-COL ∷ []) 0 one_row holding-one_row (fits _ _ refl) ds these solved c (derived-below c e)
    ∙ ap (λ (k : Bool). of_bit k) (has-derived ds c e)

-- the ten conditions of a cycle that writes and shifts nothing, and loads no byte, half or word
pub no-shift-write-load : (b : ℕ → Bool) (n : ℕ)
    → b IS-SHIFT ≡ false → b WE ≡ false → b LD-WORD ≡ false → b LD-BYTE ≡ false → b LD-HALF ≡ false
    → word b ALU 64 ≡ (word b T1 64 + word b T2 64 + digit (b SUB)) % 2 ^ 64 → word b RD 64 ≡ word b RS1 64 → n ≡ word b RD 64
    → word b (RD + 16) 48 ≡ 0 → word b (RD + 8) 8 ≡ 0 → Condition b (of_words n 0) 10 → Step b (of_words n 0)
no-shift-write-load b n shift write load_word load_byte load-half sum source output upper second address =
    record {
      arithmetic = λ _. sum;
      shift = λ e. absurd (false≢true (sym shift ∙ e));
      write = λ e _. absurd (false≢true (sym write ∙ e));
      system = λ _. (source, ap (λ (k : ℕ). of_words k 0) output);
      load_word = λ e. absurd (false≢true (sym load_word ∙ e));
      load_byte = λ e. absurd (false≢true (sym load_byte ∙ e));
      load-half = λ e. absurd (false≢true (sym load-half ∙ e));
      upper-zero = λ _ _. upper;
      second-zero = λ _ _ _. second;
      address = address;
    }
