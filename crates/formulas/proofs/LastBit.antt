-- The last bit of a float whose 53 digits are an even number is 0. Assumes nothing.
use mathlib.Core.Path.{◌≡◌, sym, ap, ◌∙◌, subst}
use mathlib.Core.Bool.{Bool, true, false, cond}
use Prim.Native.Nat.{ℕ, suc, ◌+◌, ◌-◌, ◌*◌, ◌/◌, ◌%◌, ◌^◌, ◌≤◌, ◌<◌}
use native.Mathlib.Nat.{lt_of_le_of_lt, mul_assoc, mul_comm, mul-div_cancel, pow-suc}
use native.Mathlib.Decide.{dec_le, dec_lt}
use native.Mathlib.Omega.{arith}
use lib.Dec.{lit<}
use lib.Pow.{pow-add, pow_pos, shl_lt}
use lib.Ieee.{Float, nan, inf, fin, up, down, size, to_bits}
use lib.Ieee.Digits.{size-le, back}
use lib.Ieee.Exact.{HasValue}
use lib.Ieee.Fits.{down_pos}
use Rattle.floats.specs.Figures.{bits_of}

even_times : (q x : ℕ) → q % 2 ≡ 0 → q * x % 2 ≡ 0
even_times q x e =
    let h : q ≡ q / 2 * 2 = omega arith in
    ap (λ (y : ℕ). y * x % 2) h ∙ twice (q / 2) x
  where
    twice : (h x : ℕ) → h * 2 * x % 2 ≡ 0
    twice h x = let e : h * 2 * x ≡ h * x * 2 = omega arith in ap (λ (y : ℕ). y % 2) e ∙ omega arith

-- ---- q * 2 ^ k, cut to its 53 leading digits
module _ (q k : ℕ) (most : q ≤ 2 ^ 53) (even : q % 2 ≡ 0) where
  abbrev cut : ℕ
  cut = size (q * 2 ^ k) - 53

  whole : (j : ℕ) → j ≤ k → q * 2 ^ k / 2 ^ j % 2 ≡ 0
  whole j h =
      let e : q * 2 ^ k ≡ q * 2 ^ (k - j) * 2 ^ j = ap (λ (x : ℕ). q * x) (ap (λ (x : ℕ). 2 ^ x) (sym (back k j h)) ∙ pow-add 2 (k - j) j) ∙ sym (mul_assoc q (2 ^ (k - j)) (2 ^ j)) in
      ap (λ (x : ℕ). x / 2 ^ j % 2) e ∙ ap (λ (x : ℕ). x % 2) (mul-div_cancel (q * 2 ^ (k - j)) (pow_pos j)) ∙ even_times q (2 ^ (k - j)) even

  -- 54 digits are there only where q is 2 ^ 53 itself
  one_more : q ≡ 2 ^ 53 → q * 2 ^ k / 2 ^ suc k % 2 ≡ 0
  one_more e =
      let f : q * 2 ^ k ≡ 2 ^ 52 * 2 ^ suc k = ap (λ (x : ℕ). x * 2 ^ k) e ∙ mul_assoc (2 ^ 52) 2 (2 ^ k) ∙ ap (λ (x : ℕ). 2 ^ 52 * x) (mul_comm 2 (2 ^ k) ∙ sym (pow-suc 2 k)) in
      ap (λ (x : ℕ). x / 2 ^ suc k % 2) f ∙ ap (λ (x : ℕ). x % 2) (mul-div_cancel (2 ^ 52) (pow_pos (suc k)))

  digits_even : q * 2 ^ k / 2 ^ cut % 2 ≡ 0
  digits_even = go (dec_le cut k) (dec_lt q (2 ^ 53))
    where
      go : Dec (cut ≤ k) → Dec (q < 2 ^ 53) → q * 2 ^ k / 2 ^ cut % 2 ≡ 0
      go (yes l) t = whole cut l
      go (no l) (yes h) = let s : size (q * 2 ^ k) ≤ 53 + k = size-le (q * 2 ^ k) (53 + k) (shl_lt 53 k h) in absurd (l (omega arith))
      go (no l) (no h) =
          let s : size (q * 2 ^ k) ≤ 54 + k = size-le (q * 2 ^ k) (54 + k) (shl_lt 54 k (lt_of_le_of_lt most (lit< tt))) in
          let e : cut ≡ suc k = omega arith in
          let f : q ≡ 2 ^ 53 = omega arith in
          ap (λ (j : ℕ). q * 2 ^ k / 2 ^ j % 2) e ∙ one_more f

  parity : (t x n : ℕ) → n % 2 ≡ 0 → (t * 2 + x * 2 ^ 52 + n) % 2 ≡ 0
  parity t x n h = omega arith

  pub last_bit : (z : Float) (s : Bool) → HasValue z s (q * 2 ^ k) (2 ^ 1074) → bits_of z % 2 ≡ 0
  unfolding to_bits
  last_bit nan s v = absurd v
  last_bit (inf t) s v = absurd v
  last_bit (fin t m e) s v =
      let f : m * up e * 2 ^ 1074 / down e ≡ q * 2 ^ k = ap (λ (x : ℕ). x / down e) v.1 ∙ mul-div_cancel (q * 2 ^ k) (down_pos e) in
      subst (λ (g : ℕ). (cond t (2 ^ 63) 0 + (size g - 53) * 2 ^ 52 + g / 2 ^ (size g - 53)) % 2 ≡ 0) (sym f) (go t)
    where
      go : (t : Bool) → (cond t (2 ^ 63) 0 + cut * 2 ^ 52 + q * 2 ^ k / 2 ^ cut) % 2 ≡ 0
      go true = parity (2 ^ 62) cut (q * 2 ^ k / 2 ^ cut) digits_even
      go false = parity 0 cut (q * 2 ^ k / 2 ^ cut) digits_even
