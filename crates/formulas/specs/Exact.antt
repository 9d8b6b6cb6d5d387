-- Exact numbers, and how near a figure is to one. Definitions only.
-- Every comparison of fractions is one of whole numbers: both sides times all divisors.
use Rattle.std.specs.Prelude.{ℕ, ◌+◌, ◌*◌, ◌%◌, ◌^◌, ◌≤◌, ◌<◌, ◌≡◌, Bool, true, T, ℤ, pos, nat_abs, ◌-ℤ◌, Float, Option, is_some}
use Rattle.std.specs.Float.{nan, inf, fin, binary64}
use Rattle.std.specs.Float.Ieee.{up, down, unlike, fits}
use Rattle.std.specs.Float.Ieee.Scale.{finite}
use Rattle.integer.specs.Signs.{negative, with_sign}
use Rattle.floats.specs.Figures.{bits_of, or_nought}

-- ---- fractions

-- over / under, negative where the sign is true; under is above 0
pub record Fraction : Type 0 where
  pub sign : Bool
  pub over : ℕ
  pub under : ℕ

-- a / b
abbrev pub quotient : ℤ → ℤ → Fraction
quotient a b = record { sign = unlike (negative a) (negative b); over = nat_abs a; under = nat_abs b }

-- z
abbrev pub integer : ℤ → Fraction
integer z = record { sign = negative z; over = nat_abs z; under = 1 }

-- the number that a float is: `fin s m e` is m * 2 ^ e with the sign s; a NaN and an infinity are none, and have 0 here
abbrev pub value : Float → Fraction
value nan = integer (pos 0)
value (inf s) = integer (pos 0)
value (fin s m e) = record { sign = s; over = m * up e; under = down e }

-- f / g
infixl 7 ◌÷◌
abbrev pub ◌÷◌ : Fraction → Fraction → Fraction
f ÷ g = record { sign = unlike f.sign g.sign; over = f.over * g.under; under = g.over * f.under }

-- f * g
abbrev pub times : Fraction → Fraction → Fraction
times f g = record { sign = unlike f.sign g.sign; over = f.over * g.over; under = f.under * g.under }

-- |f − g|, times the divisors of both
abbrev pub gap : Fraction → Fraction → ℕ
gap f g = nat_abs (with_sign f.sign (f.over * g.under) -ℤ with_sign g.sign (g.over * f.under))

-- ---- near

-- z is at most 2 ^ 53 either way, up to which every whole number is a float: 9 * 10 ^ 15 hundredths, which are 9 * 10 ^ 13 of the currency
abbrev pub Small : ℤ → Type 0
Small z = nat_abs z ≤ 2 ^ 53

-- x is the float nearest to f: a number of binary64, none of them is nearer, and where another one is as near, the last bit of x is 0
pub record NearestFloat (x : Float) (f : Fraction) : Type 0 where
  pub held : T (fits binary64 x)
  pub number : T (finite x)
  -- |x − f| ≤ |y − f|
  pub nearest : (y : Float) → T (fits binary64 y) → T (finite y) → gap (value x) f * (value y).under ≤ gap (value y) f * (value x).under
  -- y another number than x, and |y − f| ≤ |x − f|
  pub even : (y : Float) → T (fits binary64 y) → T (finite y) → 0 < gap (value x) (value y) → gap (value y) f * (value x).under ≤ gap (value x) f * (value y).under → bits_of x % 2 ≡ 0

-- x is at most r / d of f away from f: |x − f| ≤ |f| * r / d
abbrev pub Close : ℕ → ℕ → Float → Fraction → Type 0
Close r d x f = gap (value x) f * d ≤ f.over * (value x).under * r

-- an index that is there, and is the float nearest to f; so it is at most 2 ^ -53 of f away
pub record NearestIndex (x : Option Float) (f : Fraction) : Type 0 where
  pub present : is_some x ≡ true
  pub nearest : NearestFloat (or_nought x) f
  pub close : Close 1 (2 ^ 53) (or_nought x) f

-- z is at most a half and r / d of f away from f: |z − f| ≤ 1 / 2 + |f| * r / d
abbrev pub HalfAnd : ℕ → ℕ → ℤ → Fraction → Type 0
HalfAnd r d z f = gap (integer z) f * 2 * d ≤ f.under * d + f.over * 2 * r

-- z is a whole number nearest to f, either one at a tie: |z − f| ≤ 1 / 2
abbrev pub NearestWhole : ℤ → Fraction → Type 0
NearestWhole z f = gap (integer z) f * 2 ≤ f.under

-- z is at most 1 away from f: |z − f| ≤ 1
abbrev pub AtMostOne : ℤ → Fraction → Type 0
AtMostOne z f = gap (integer z) f ≤ f.under
