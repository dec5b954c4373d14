-- What shifts of two words do to their number, for words of any width.
use mathlib.Core.Path.{◌≡◌, sym, ap, ap₂, ◌∙◌, subst}
use Prim.Native.Nat.{ℕ, ◌+◌, ◌*◌, ◌/◌, ◌%◌, ◌^◌, ◌<◌}
use native.Mathlib.Nat.{add_comm, add-zero, add-mul, mul_assoc, mul_comm, mul_right_comm, mul-add-mod_self_right, add-mul-div_right, mul-mod_left, mod-eq_of_lt, lt_of_le_of_lt, lt-div-mul-add, zero-mul, zero-add}
use lib.Pow.{high, low, mod-pow-add, pow_pos, pow-add, shl_lt, shl-shr, shr-shr, shr_lt, shr_le}
use lib.Bits.{bit_or, or_shifted}

-- the low word of the words moved up by k
pub up-low : (w k hi lo : ℕ) → (hi * 2 ^ w + lo) * 2 ^ k % 2 ^ w ≡ lo * 2 ^ k % 2 ^ w
up-low w k hi lo =
    ap (λ (x : ℕ). x % 2 ^ w) (add-mul (hi * 2 ^ w) lo (2 ^ k) ∙ ap (λ (x : ℕ). x + lo * 2 ^ k) (mul_right_comm hi (2 ^ w) (2 ^ k)))
    ∙ mul-add-mod_self_right (hi * 2 ^ k) (2 ^ w) (lo * 2 ^ k)

-- the word that straddles: the high word's j low bits above the low word's k high bits
pub straddle : (w j k hi lo : ℕ) → j + k ≡ w → lo < 2 ^ w
    → (hi * 2 ^ w + lo) / 2 ^ j % 2 ^ w ≡ bit_or (hi * 2 ^ k % 2 ^ w) (lo / 2 ^ j)
straddle w j k hi lo e =
    subst (λ (w : ℕ). lo < 2 ^ w → (hi * 2 ^ w + lo) / 2 ^ j % 2 ^ w ≡ bit_or (hi * 2 ^ k % 2 ^ w) (lo / 2 ^ j)) e go
  where
    -- of a word of j + k bits that moves up by k, the j low bits stay
    cut : hi * 2 ^ k % 2 ^ (j + k) ≡ hi % 2 ^ j * 2 ^ k
    cut = rw (mod-pow-add, shl-shr, mul-mod_left, add-zero)

    moved : (hi * 2 ^ (j + k) + lo) / 2 ^ j ≡ hi * 2 ^ k + lo / 2 ^ j
    moved =
        ap (λ (x : ℕ). (x + lo) / 2 ^ j)
        (ap (λ (x : ℕ). hi * x) (pow-add 2 j k ∙ mul_comm (2 ^ j) (2 ^ k)) ∙ sym (mul_assoc hi (2 ^ k) (2 ^ j)))
        ∙ ap (λ (x : ℕ). x / 2 ^ j) (add_comm (hi * 2 ^ k * 2 ^ j) lo) ∙ add-mul-div_right lo (hi * 2 ^ k) (pow_pos j) ∙ add_comm _ _

    go : lo < 2 ^ (j + k) → (hi * 2 ^ (j + k) + lo) / 2 ^ j % 2 ^ (j + k) ≡ bit_or (hi * 2 ^ k % 2 ^ (j + k)) (lo / 2 ^ j)
    go h =
        let small : lo / 2 ^ j < 2 ^ k = shr_lt k j (rw (add_comm k j) h) in
        ap (λ (x : ℕ). x % 2 ^ (j + k)) moved ∙ mod-pow-add (hi * 2 ^ k + lo / 2 ^ j) j k
        ∙ ap₂ (λ (x y : ℕ). x % 2 ^ j * 2 ^ k + y) (high hi k small) (low hi k small)
        ∙ sym (ap (λ (x : ℕ). bit_or x (lo / 2 ^ j)) cut ∙ or_shifted (hi % 2 ^ j) k (lo / 2 ^ j) small)

-- the high word of the words moved up by k: what straddles after a move down by the rest of the width
pub up-high : (w j k hi lo : ℕ) → j + k ≡ w → lo < 2 ^ w
    → (hi * 2 ^ w + lo) * 2 ^ k / 2 ^ w % 2 ^ w ≡ bit_or (hi * 2 ^ k % 2 ^ w) (lo / 2 ^ j)
up-high w j k hi lo e h = ap (λ (x : ℕ). x % 2 ^ w) back ∙ straddle w j k hi lo e h
  where
    n : ℕ
    n = hi * 2 ^ w + lo

    back : n * 2 ^ k / 2 ^ w ≡ n / 2 ^ j
    back =
        ap (λ (x : ℕ). n * 2 ^ k / 2 ^ x) (sym (add_comm k j ∙ e)) ∙ sym (shr-shr (n * 2 ^ k) k j)
        ∙ ap (λ (x : ℕ). x / 2 ^ j) (shl-shr n k)

-- moved down by the low word and k bits more, the high word's bits from k on are left
pub down-past : (w k hi lo : ℕ) → lo < 2 ^ w → (hi * 2 ^ w + lo) / 2 ^ (w + k) ≡ hi / 2 ^ k
down-past w k hi lo h = sym (shr-shr (hi * 2 ^ w + lo) w k) ∙ ap (λ (x : ℕ). x / 2 ^ k) (high hi w h)

-- the high word of the words moved down by k
pub down-high : (w k hi lo : ℕ) → lo < 2 ^ w → hi < 2 ^ w → (hi * 2 ^ w + lo) / 2 ^ k / 2 ^ w % 2 ^ w ≡ hi / 2 ^ k
down-high w k hi lo h l =
    ap (λ (x : ℕ). x % 2 ^ w) (shr-shr n k w ∙ ap (λ (x : ℕ). n / 2 ^ x) (add_comm k w) ∙ down-past w k hi lo h)
    ∙ mod-eq_of_lt (lt_of_le_of_lt (shr_le hi k) l)
  where
    n : ℕ
    n = hi * 2 ^ w + lo

-- a number that has no bit from j on can move up by the rest of the width
pub stays : (w j k n : ℕ) → j + k ≡ w → n / 2 ^ j ≡ 0 → n * 2 ^ k < 2 ^ w
stays w j k n e none =
    let h : n < 2 ^ j = simp (none, zero-mul, zero-add) at (lt-div-mul-add {a = n} (pow_pos j)) in
    subst (λ (w : ℕ). n * 2 ^ k < 2 ^ w) e (shl_lt j k h)
