-- Packed words put from one order into the other, block after block: both ways keep one fact of the bits in batch order and in cycle order.
-- Assumes nothing.
use Rattle.std.specs.Prelude.{◌≡◌, ℕ, ◌+◌, ◌-◌, ◌*◌, ◌/◌, ◌%◌, ◌<◌, ◌≤◌, true, List, ◌++◌, length, take, drop, ◌≢◌, slice_index, refl}
use Rattle.std.proofs.Math.Path.{sym, ap}
use Rattle.std.proofs.Common.{ap₂, ◌∙◌, add-mul, mul_assoc, mul-le-mul_right, one-mul, mod-lt, div-add-mod', div-lt_iff_lt-mul, arith, length-append, length-drop, length-take-le, get_or-take, get_or-drop, get_or-append-add}
use Rattle.std.proofs.Math.Decide.{dec_lt}
use Rattle.std.proofs.Math.Arith.{digits_lt}
use Rattle.std.proofs.Math.ListN.{get_or-append}
use Rattle.base.specs.Bits.{bit_at}
use Rattle.base.specs.Written.{Written}
use Rattle.base.specs.Laws.Lists.{◌and◌}
use Rattle.layout.specs.Batch.{allowed}
use Rattle.layout.specs.Laws.Mapping.{witness-column}
use Rattle.layout.specs.Laws.Sizes.{each-size, allowed-range}
use Rattle.packed.specs.declared.order.Order.{Order}
use Rattle.packed.specs.declared.order.Order.TheVariants.{Batch, Cycles}
use Rattle.packed.specs.Storage.{bit_in, Fit, in_batch, in_cycles, by_cycle, by_batch}
use Rattle.packed.specs.Ranges.{Scattered}
use Rattle.packed.specs.Turn.{Turned}
use Rattle.packed.specs.Order.{put_into, OrderIn, BlocksIn, Gathered}
use Rattle.packed.specs.Laws.InWords.{bit_is, same-words, of-bits}

-- word k of each cycle, in the end
pub gathered : (words before acc : List ℕ) (k n : ℕ) → length acc ≤ n → Written (λ (d : ℕ). slice_index words (32 * d + k)) 0 n before acc
    → Gathered words k acc
gathered words before acc k n l w = record { word = λ d m. w.here d (omega arith) (omega arith) }

-- ---- columns in both orders

-- each cycle's columns below n are the same bits in words in batch order and in words in cycle order
abbrev pub Alike : ℕ → List ℕ → List ℕ → ℕ → Type 0
Alike cpi batch cycles n = (c d : ℕ) → c < n → d < cpi → bit_in cycles (2048 * d + c) ≡ bit_in batch (c * cpi + d)

module _ (cpi : ℕ) (batch cycles : List ℕ) (h : Alike cpi batch cycles 2048) where
  -- with all columns alike, each is the other rearranged
  are-cycles : length cycles ≡ 32 * cpi → Fit cycles → cycles ≡ by_cycle cpi batch
  unfolding by_cycle
  are-cycles e f =
      sym (of-bits cycles (32 * cpi) e f)
      ∙ same-words (bit_in cycles) (λ (y : ℕ). bit_in batch (in_batch cpi y)) (32 * cpi)
      (λ y l. let c = y % 2048 in let d = y / 2048 in
      ap (bit_in cycles) (omega arith) ∙ h c d (omega arith) (omega arith) ∙ ap (bit_in batch) (sym (witness-column cpi c d (omega arith))))

  are-batch : 0 < cpi → length batch ≡ 32 * cpi → Fit batch → batch ≡ by_batch cpi cycles
  unfolding by_batch
  are-batch some e f =
      sym (of-bits batch (32 * cpi) e f)
      ∙ same-words (bit_in batch) (λ (x : ℕ). bit_in cycles (in_cycles cpi x)) (32 * cpi)
      (λ x l. ap (bit_in batch) (sym (div-add-mod' x cpi))
      ∙ sym (h (x / cpi) (x % cpi) ((div-lt_iff_lt-mul some).1 (omega arith)) (mod-lt x some)))

-- what the order is told to be
pub into-batch : (order : Order) (cpi : ℕ) (words out : List ℕ) → order ≡ Batch → out ≡ by_batch cpi words → out ≡ put_into order cpi words
into-batch order cpi words out q e = e ∙ ap (λ (o : Order). put_into o cpi words) (sym q)

pub into-cycles : (order : Order) (cpi : ℕ) (words out : List ℕ) → order ≡ Cycles → out ≡ by_cycle cpi words → out ≡ put_into order cpi words
into-cycles order cpi words out q e = e ∙ ap (λ (o : Order). put_into o cpi words) (sym q)

-- one cycle's words are in both orders
pub one-cycle : (order : Order) (cpi : ℕ) (words : List ℕ) → cpi ≡ 1 → length words ≡ 32 * cpi → Fit words → words ≡ put_into order cpi words
one-cycle order cpi words one e f = go order
  where
    alike : Alike cpi words words 2048
    alike c d l m = ap (bit_in words) (omega (arith, ap (λ (n : ℕ). c * n) one))

    go : (order : Order) → words ≡ put_into order cpi words
    go Batch = are-batch cpi words words alike (omega arith) e f
    go Cycles = are-cycles cpi words words alike e f

-- ---- one block more: columns 64 q to 64 q + 63

-- how far it reaches in batch order
pub block-end : (cpi q : ℕ) → q < 32 → q * cpi + cpi ≤ 32 * cpi
block-end cpi q l = omega (arith, mul-le-mul_right {m = q + 1} {n = 32} cpi (omega arith), add-mul q 1 cpi, one-mul cpi)

-- it stands behind the others in batch order, and it is word q of each cycle; the blocks before it stay
pub record BlockInBatch (cpi q : ℕ) (s before after : List ℕ) : Type 0 where
  pub stays : (k : ℕ) → k < q * cpi → slice_index after k ≡ slice_index before k
  pub block : (k : ℕ) → k < cpi → slice_index after (q * cpi + k) ≡ slice_index s k

pub record BlockInCycles (cpi q : ℕ) (a before after : List ℕ) : Type 0 where
  pub stays : (d k : ℕ) → d < cpi → k < q → slice_index after (32 * d + k) ≡ slice_index before (32 * d + k)
  pub block : (d : ℕ) → d < cpi → slice_index after (32 * d + q) ≡ slice_index a d

same_bit : (u v : List ℕ) (x y : ℕ) → slice_index u (x / 64) ≡ slice_index v (y / 64) → x % 64 ≡ y % 64 → bit_in u x ≡ bit_in v y
unfolding bit_in
same_bit u v x y e r = ap₂ bit_at e r

pub more-alike : (cpi h q : ℕ) (s a batch batch' cycles cycles' : List ℕ) → cpi ≡ 2 * h → Turned h s a → BlockInBatch cpi q s batch batch'
    → BlockInCycles cpi q a cycles cycles' → Alike cpi batch cycles (64 * q) → Alike cpi batch' cycles' (64 * (q + 1))
more-alike cpi h q s a batch batch' cycles cycles' double t o p alike c d l m =
    elim (dec_lt c (64 * q)) [
      | yes n ↦ old n
      | no n ↦ new (omega arith)
    ]
  where
    x : ℕ
    x = c * cpi + d

    y : ℕ
    y = 2048 * d + c

    old : c < 64 * q → bit_in cycles' y ≡ bit_in batch' x
    old n =
        same_bit cycles' cycles y y (ap (λ (k : ℕ). slice_index cycles' k) word ∙ p.stays d (c / 64) m (omega arith)
        ∙ ap (λ (k : ℕ). slice_index cycles k) (sym word)) refl
        ∙ alike c d n m
        ∙ sym (same_bit batch' batch x x (o.stays (x / 64) (omega (arith, digits_lt n m, mul_assoc 64 q cpi))) refl)
      where
        word : y / 64 ≡ 32 * d + c / 64
        word = omega arith

    new : 64 * q ≤ c → bit_in cycles' y ≡ bit_in batch' x
    new n =
        ap (bit_in cycles') (omega arith) ∙ bit_is cycles' (32 * d + q) i (omega arith) ∙ ap (λ (w : ℕ). bit_at w i) (p.block d m)
        ∙ t.bits i d (omega arith) (omega arith) ∙ ap (λ (w : ℕ). bit_in s (i * w + d)) (sym double)
        ∙ sym (same_bit batch' s x z (ap (λ (k : ℕ). slice_index batch' k) (omega (arith, place)) ∙ o.block (z / 64) (omega (arith, less)))
        (omega (arith, place)))
      where
        i : ℕ
        i = c - 64 * q

        z : ℕ
        z = i * cpi + d

        less : z < 64 * cpi
        less = digits_lt {q = i} (omega arith) m

        place : x ≡ 64 * (q * cpi) + z
        place =
            let back : c ≡ 64 * q + i = omega arith in
            omega (arith, ap (λ (k : ℕ). k * cpi) back, add-mul (64 * q) i cpi, mul_assoc 64 q cpi)

-- ---- what the loops read and write

-- a slice that is read has the block
pub block_read : (cpi q : ℕ) (batch : List ℕ) → BlockInBatch cpi q (take (q * cpi + cpi - q * cpi) (drop (q * cpi) batch)) batch batch
block_read cpi q batch =
    record {
      stays = λ k l. refl;
      block = λ k l. sym (get_or-take (q * cpi + cpi - q * cpi) (drop (q * cpi) batch) k 0 (omega arith) ∙ get_or-drop (q * cpi) batch k 0);
    }

pub block-length : (cpi q : ℕ) (batch : List ℕ) → q < 32 → length batch ≡ 32 * cpi
    → length (take (q * cpi + cpi - q * cpi) (drop (q * cpi) batch)) ≡ cpi
block-length cpi q batch l e =
    length-take-le (q * cpi + cpi - q * cpi) (drop (q * cpi) batch) (omega (arith, length-drop (q * cpi) batch, block-end cpi q l))
    ∙ omega arith

-- a slice that is written has the block once it is back
module _ (cpi q : ℕ) (s batch : List ℕ) (l : q < 32) (e : length batch ≡ 32 * cpi) (f : length s ≡ cpi) where
  abbrev front : List ℕ
  front = take (q * cpi) batch

  abbrev rest : List ℕ
  rest = drop (q * cpi + cpi - q * cpi) (drop (q * cpi) batch)

  front_length : length front ≡ q * cpi
  front_length = length-take-le (q * cpi) batch (omega (arith, block-end cpi q l))

  pub block_written : BlockInBatch cpi q s batch (take (q * cpi) batch ++ (s ++ drop (q * cpi + cpi - q * cpi) (drop (q * cpi) batch)))
  block_written =
      record {
        stays = λ k m. get_or-append front (s ++ rest) 0 k (omega (arith, front_length)) ∙ get_or-take (q * cpi) batch k 0 m;
        block = λ k m.
            ap (λ (n : ℕ). slice_index (front ++ (s ++ rest)) (n + k)) (sym front_length) ∙ get_or-append-add front (s ++ rest) k 0
            ∙ get_or-append s rest 0 k (omega (arith, f));
      }

  pub written-length : length (take (q * cpi) batch ++ (s ++ drop (q * cpi + cpi - q * cpi) (drop (q * cpi) batch))) ≡ 32 * cpi
  written-length =
      omega (
        arith,
        length-append front (s ++ rest),
        front_length,
        length-append s rest,
        length-drop (q * cpi + cpi - q * cpi) (drop (q * cpi) batch),
        length-drop (q * cpi) batch,
        block-end cpi q l,
      )

-- word q of each cycle put or taken
pub words-put : (cpi q : ℕ) (a before after : List ℕ) → q < 32 → length a ≡ cpi → Scattered a q (length a) before after
    → BlockInCycles cpi q a before after
words-put cpi q a before after l e w =
    record { stays = λ d k m n. w.elsewhere d k (omega arith) (omega arith); block = λ d m. w.here d (omega (arith, e)) }

pub words-got : (cpi q : ℕ) (a cycles : List ℕ) → length a ≡ cpi → Gathered cycles q a → BlockInCycles cpi q a cycles cycles
words-got cpi q a cycles e g = record { stays = λ d k m n. refl; block = λ d m. sym (g.word d (omega (arith, e))) }

-- ---- the loops over blocks: the first q are done

pub record Going (cpi : ℕ) (batch cycles a b out : List ℕ) (q : ℕ) : Type 0 where
  pub count : q ≤ 32
  pub first : length a ≡ cpi
  pub second : length b ≡ cpi
  pub room : length out ≡ 32 * cpi
  pub fit : Fit out
  pub alike : Alike cpi batch cycles (64 * q)

-- of words that are read, and those that they are put into in the order that is asked for: which are in batch order, and which in cycle order
abbrev pub batch_of : Order → List ℕ → List ℕ → List ℕ
batch_of Batch words out = out
batch_of Cycles words out = words

abbrev pub cycles_of : Order → List ℕ → List ℕ → List ℕ
cycles_of Batch words out = words
cycles_of Cycles words out = out

-- the first n columns of both
abbrev pub AlikeIn : Order → ℕ → List ℕ → List ℕ → ℕ → Type 0
AlikeIn order cpi words out n = Alike cpi (batch_of order words out) (cycles_of order words out) n

pub no_block : (cpi : ℕ) (words batch cycles a b out : List ℕ) → BlocksIn cpi words a b out → Fit out → Going cpi batch cycles a b out 0
no_block cpi words batch cycles a b out i f =
    record {
      count = omega arith;
      first = i.first;
      second = i.second;
      room = i.room;
      fit = f;
      alike = λ c d l m. absurd (omega arith);
    }

all_alike : (cpi : ℕ) (batch cycles a b out : List ℕ) (q : ℕ) → 32 ≤ q → Going cpi batch cycles a b out q → Alike cpi batch cycles 2048
all_alike cpi batch cycles a b out q l g c d m n = g.alike c d (omega arith) n

pub cycles-end : (cpi : ℕ) (batch a b out : List ℕ) (q : ℕ) → 32 ≤ q → Going cpi batch out a b out q → out ≡ by_cycle cpi batch
cycles-end cpi batch a b out q l g = are-cycles cpi batch out (all_alike cpi batch out a b out q l g) g.room g.fit

pub batch-end : (cpi : ℕ) (cycles a b out : List ℕ) (q : ℕ) → 0 < cpi → 32 ≤ q → Going cpi out cycles a b out q → out ≡ by_batch cpi cycles
batch-end cpi cycles a b out q some l g = are-batch cpi out cycles (all_alike cpi out cycles a b out q l g) some g.room g.fit

pub blocks-end : (order : Order) (cpi : ℕ) (words a b out : List ℕ) (q : ℕ) → 0 < cpi → 32 ≤ q
    → Going cpi (batch_of order words out) (cycles_of order words out) a b out q → out ≡ put_into order cpi words
blocks-end Batch cpi words a b out q some l g = batch-end cpi words a b out q some l g
blocks-end Cycles cpi words a b out q some l g = cycles-end cpi words a b out q l g

-- ---- the lent blocks

-- every size but 1 is even
size-even : (cpi : ℕ) → allowed cpi ≡ true → (cpi ≢ 1) → cpi ≡ 2 * (cpi / 2)
size-even =
    each-size (λ (n : ℕ). (n ≢ 1) → n ≡ 2 * (n / 2))
    ((λ f. absurd (f refl)) and (λ f. refl) and (λ f. refl) and (λ f. refl) and (λ f. refl) and (λ f. refl) and (λ f. refl)
    and (λ f. refl) and (λ f. refl) and tt)

pub lent-blocks : (cpi : ℕ) (words a b out : List ℕ) → OrderIn cpi words out → (cpi ≢ 1) → length a ≡ cpi → length b ≡ cpi
    → BlocksIn cpi words a b out
lent-blocks cpi words a b out i f first second =
    record {
      some = (allowed-range cpi i.size).0;
      few = (allowed-range cpi i.size).1;
      even = size-even cpi i.size f;
      read = i.read;
      first = first;
      second = second;
      room = i.room;
    }
