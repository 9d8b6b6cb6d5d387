-- Quotients of numbers of two words. Assumes nothing.
use mathlib.Core.Path.{◌≡◌, sym, ap, ◌∙◌, subst}
use Prim.Native.Nat.{ℕ, suc, ◌+◌, ◌-◌, ◌*◌, ◌/◌, ◌%◌, ◌^◌, ◌≤◌, ◌<◌, min}
use native.Mathlib.Nat.{add_comm, one-mul, lt_of_le_of_lt, mod-eq_of_lt, mul-le-mul_left, mul-le-mul_right, mul-lt-mul_of_pos_right, lt_of_mul-lt-mul_right, div-eq_of_lt-le, div-lt_iff_lt-mul, le-div_iff_mul-le, mul-div-mul_right, div-zero, div-le_self}
use native.Mathlib.Omega.{arith}
use lib.Count.{count_leading_zeros, leading_top}
use lib.Pow.{pow_pos, pow-add}
use Rattle.wide.specs.Words.{half, word, Factor}

-- ---- two digits
pub two_digits : (high low d q₁ r₁ q₀ r₀ : ℕ) → q₁ * d + r₁ ≡ high * half + low / half → q₀ * d + r₀ ≡ r₁ * half + low % half → r₀ < d
    → q₁ * half + q₀ ≡ (high * word + low) / d
two_digits high low d q₁ r₁ q₀ r₀ e₁ e₀ h = sym (div-eq_of_lt-le {k = q₁ * half + q₀} d {m = high * word + low} (omega arith) (omega arith))

-- a digit has 32 bits
pub digit_short : (r x d : ℕ) → r < d → x < half → (r * half + x) / d < half
digit_short r x d h k = (div-lt_iff_lt-mul {k = d} {x = r * half + x} {y = half} (omega arith)).1 (omega arith)

-- ---- a divisor made larger, by k
pub zeros_short : (d : ℕ) → 0 < d → d < word → count_leading_zeros 64 d < 64
zeros_short d p h = let top = leading_top 64 d p h in omega (arith, top.1)

-- what is above the highest set digit of d
pub power : (d : ℕ) → 0 < d → d < word → Factor d (1 * 2 ^ count_leading_zeros 64 d % word)
power d p h = let top = leading_top 64 d p h in go (count_leading_zeros 64 d) top.0 top.1 top.3
  where
    go : (z j : ℕ) → z + suc j ≡ 64 → d < 2 ^ suc j → Factor d (1 * 2 ^ z % word)
    go z j e l =
        let whole : 2 ^ suc j * 2 ^ z ≡ word = sym (pow-add 2 (suc j) z) ∙ ap (λ (x : ℕ). 2 ^ x) (add_comm (suc j) z ∙ e) in
        let under : d * 2 ^ z < word = subst (λ (x : ℕ). d * 2 ^ z < x) whole (mul-lt-mul_of_pos_right l (pow_pos z)) in
        let same : 1 * 2 ^ z % word ≡ 2 ^ z = ap (λ (x : ℕ). x % word) (one-mul (2 ^ z)) ∙ mod-eq_of_lt (lt_of_le_of_lt (least (2 ^ z)) under) in
        subst (Factor d) (sym same) (record { positive = pow_pos z; fits = under })
      where
        least : (x : ℕ) → x ≤ d * x
        least x = omega (arith, mul-le-mul_right x p)

pub large : (d k : ℕ) → Factor d k → half ≤ d → half ≤ d * k
large d k f h = omega (arith, mul-le-mul_left d f.positive)

module _ (high low d k p₁ p₀ : ℕ) (f : Factor d k) (below : high < d) (short : low < word) (e : p₁ * word + p₀ ≡ low * k) where
  pub top_below : high * k + p₁ < d * k
  top_below =
      let less : p₁ < k = lt_of_mul-lt-mul_right word {m = p₁} {n = k} (omega (arith, mul-lt-mul_of_pos_right short f.positive)) in
      omega (arith, mul-le-mul_right k below)

  pub same_quotient : ((high * k + p₁) * word + p₀) / (d * k) ≡ (high * word + low) / d
  same_quotient =
      let times : (high * k + p₁) * word + p₀ ≡ (high * word + low) * k = omega arith in
      ap (λ (x : ℕ). x / (d * k)) times ∙ mul-div-mul_right {m = k} (high * word + low) d f.positive

-- ---- cut at the largest word, by the way the code goes
pub none : (p d : ℕ) → d ≡ 0 → 0 ≡ min (p / d) (word - 1)
none p d h = omega (arith, ap (λ (x : ℕ). p / x) h ∙ div-zero p)

module _ (high low p d : ℕ) (e : high * word + low ≡ p) where
  pub one_word : high ≡ 0 → low < word → low / d ≡ min (p / d) (word - 1)
  one_word h f = let same : low ≡ p = omega arith in omega (arith, ap (λ (x : ℕ). x / d) same, div-le_self low d)

  pub too_large : 0 < d → d ≤ high → word - 1 ≡ min (p / d) (word - 1)
  too_large h f = omega (arith, (le-div_iff_mul-le {k = d} {x = word} {y = p} h).1 (omega arith))

  pub fitting : 0 < d → high < d → low < word → (high * word + low) / d ≡ min (p / d) (word - 1)
  fitting h f g = omega (arith, ap (λ (x : ℕ). x / d) e, (div-lt_iff_lt-mul {k = d} {x = p} {y = word} h).1 (omega arith))
