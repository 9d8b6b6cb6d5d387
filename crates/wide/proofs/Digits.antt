-- A digit of a long division: the guess, its correction, and what it leaves. Assumes nothing.
use mathlib.Core.Path.{◌≡◌, ap, subst}
use Prim.Native.Nat.{ℕ, zero, suc, ◌+◌, ◌*◌, ◌-◌, ◌/◌, ◌%◌, ◌≤◌, ◌<◌, min}
use native.Mathlib.Nat.{mul-le-mul_left, mul-le-mul_right, div-add-mod', div-mul-le_self, lt-div-mul-add}
use native.Mathlib.Decide.{dec_lt}
use native.Mathlib.Omega.{arith}
use Rattle.wide.specs.Words.{half, Divided}

-- q is a guess at the digit of rest * half + next by d: it is not too small, and the high half of d, q times, leaves `left` of `rest`
pub record Guess (rest next d q left : ℕ) : Type 0 where
  pub split : q * (d / half) + left ≡ rest
  pub digit : q < half
  pub enough : rest * half + next < q * d + d

-- what the low half of d takes, q times, rounded up so that its high half is the least `left` that is enough
abbrev pub taken : ℕ → ℕ → ℕ → ℕ
taken next d q = q * (d % half) + (half - 1 - next)

module _ (rest next d : ℕ) (below : rest < d) (short : next < half) (large : half ≤ d) where
  pub first_fits : (q : ℕ) → q ≤ rest / (d / half) → q * (d / half) ≤ rest
  first_fits q h = omega (arith, mul-le-mul_right (d / half) h, div-mul-le_self rest (d / half))

  pub first_guess : (q : ℕ) → q ≡ min (rest / (d / half)) (half - 1) → Guess rest next d q (rest - q * (d / half))
  first_guess q e = record {
    split = omega (arith, first_fits q (omega arith));
    digit = omega arith;
    enough = go (dec_lt (rest / (d / half)) half);
  }
    where
      go : Dec (rest / (d / half) < half) → rest * half + next < q * d + d
      go (yes h) =
          let same : rest / (d / half) ≡ q = omega arith in
          let under : rest < q * (d / half) + d / half = subst (λ (x : ℕ). rest < x * (d / half) + d / half) same (lt-div-mul-add {a = rest} {b = d / half} (omega arith)) in
          let part : d / half * half ≤ d = omega arith in
          omega (arith, mul-le-mul_left q part)
      go (no h) =
          let same : q ≡ half - 1 = omega arith in
          omega (arith, ap (λ (x : ℕ). x * d) same)

-- q times d, by the halves of d
by_parts : (q d : ℕ) → q * (d / half * half + d % half) ≡ q * d
by_parts q d = ap (λ (x : ℕ). q * x) (div-add-mod' d half)

module _ (rest next d : ℕ) (short : next < half) where
  pub positive : (q left : ℕ) → left < taken next d q / half → 0 < q
  positive zero left h = omega arith
  positive (suc p) left h = omega arith

  lower : (p left : ℕ) → Guess rest next d (suc p) left → left < taken next d (suc p) / half → Guess rest next d p (left + d / half)
  lower p left g h = record {
    split = omega (arith, g.split);
    digit = omega (arith, g.digit);
    enough = omega (arith, by_parts (suc p) d, g.split);
  }

  pub next_guess : (q left : ℕ) → Guess rest next d q left → left < taken next d q / half → Guess rest next d (q - 1) (left + d / half)
  next_guess zero left g h = absurd (omega (arith, positive zero left h))
  next_guess (suc p) left g h =
      let one_less : p ≡ suc p - 1 = omega arith in
      subst (λ (x : ℕ). Guess rest next d x (left + d / half)) one_less (lower p left g h)

  -- what the digit leaves
  abbrev pub remains : ℕ → ℕ → ℕ
  remains q left = (left - taken next d q / half) * half + (half - 1 - taken next d q % half)

  pub last_guess : (q left : ℕ) → Guess rest next d q left → taken next d q / half ≤ left → Divided (rest * half + next) d q (remains q left)
  last_guess q left g h = record {
    whole = whole;
    rest = omega (arith, g.enough, whole);
    digit = g.digit;
  }
    where
      whole : q * d + remains q left ≡ rest * half + next
      whole = omega (arith, by_parts q d, g.split)
