-- The product of two words by the products of their halves. Assumes nothing.
use mathlib.Core.Path.{◌≡◌, ap₂, ◌∙◌}
use Prim.Native.Nat.{ℕ, ◌+◌, ◌*◌, ◌/◌, ◌%◌, ◌≤◌, ◌<◌}
use native.Mathlib.Nat.{mul-le-mul, div-add-mod'}
use native.Mathlib.Omega.{arith}
use Rattle.wide.specs.Words.{half, word}

pub high_half : (n : ℕ) → n < word → n / half < half
high_half n h = omega arith

-- (half − 1) * (half − 1)
abbrev most : ℕ
most = 18446744065119617025

pub short : {a b : ℕ} → a < half → b < half → a * b ≤ most
short {a} {b} h k = mul-le-mul {n₁ = a} {m₁ = b} {n₂ = 4294967295} {m₂ = 4294967295} (omega arith) (omega arith)

-- what the four products are at most
pub record Short (u v : ℕ) : Type 0 where
  pub last : u % half * (v % half) ≤ most
  pub cross : u / half * (v % half) ≤ most
  pub other : u % half * (v / half) ≤ most
  pub first : u / half * (v / half) ≤ most

pub shorts : (u v : ℕ) → u < word → v < word → Short u v
shorts u v h k = record {
  last = short (omega arith) (omega arith);
  cross = short (omega arith) (omega arith);
  other = short (omega arith) (omega arith);
  first = short (omega arith) (omega arith);
}

by_halves : (a b c e x y z : ℕ) → x ≡ b * e → y ≡ a * e + x / half → z ≡ b * c + y % half
    → (a * c + y / half + z / half) * word + (z % half * half + x % half) ≡ (a * half + b) * (c * half + e)
by_halves a b c e x y z p q r = omega arith

pub joined : (u v x y z : ℕ) → x ≡ u % half * (v % half) → y ≡ u / half * (v % half) + x / half → z ≡ u % half * (v / half) + y % half
    → (u / half * (v / half) + y / half + z / half) * word + (z % half * half + x % half) ≡ u * v
joined u v x y z p q r =
    by_halves (u / half) (u % half) (v / half) (v % half) x y z p q r ∙ ap₂ ◌*◌ (div-add-mod' u half) (div-add-mod' v half)
