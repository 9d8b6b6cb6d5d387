-- Between whole numbers and floats: the nearest float, and the nearest whole number, halves away from zero, clamped to 9 * 10 ^ 15 either way.
-- A float `fin s m e` is m * up e / down e, negative where s is true. Definitions only.
use Rattle.std.specs.Prelude.{ℕ, suc, ◌+◌, ◌*◌, ◌/◌, ◌%◌, ◌≤◌, min, Bool, true, false, cond, ℤ, pos, negsuc, ◌==◌, nat_lt, Float}
use Rattle.integer.specs.Signs.{with_sign}
use Rattle.std.specs.Float.{nan, inf, fin, binary64}
use Rattle.std.specs.Float.Ieee.{up, down, of_int}

-- the f64 nearest to z, ties to even
abbrev pub nearest_of : ℤ → Float
nearest_of z = of_int binary64 z

-- The tie rule: what a magnitude halfway between q and q + 1 becomes, for a negative number where s is true. It goes away from zero.
abbrev pub halfway : Bool → ℕ → ℕ
halfway s q = suc q

-- the whole number nearest to the magnitude a / c
unfoldable pub rounded : Bool → ℕ → ℕ → ℕ
rounded s a c =
    let q = a / c in
    let twice = a % c * 2 in
    cond (nat_lt twice c) q (cond (twice == c) (halfway s q) (suc q))

-- k is a whole number nearest to a / c: it is at most a half away
pub record Near (k a c : ℕ) : Type 0 where
  pub most : k * c * 2 ≤ a * 2 + c
  pub least : a * 2 ≤ k * c * 2 + c

-- the largest magnitude of a rounded figure
abbrev pub limit : ℕ
limit = 9000000000000000

-- a magnitude with its sign, at most the limit either way
abbrev pub clamped : Bool → ℕ → ℤ
clamped s n = with_sign s (min n limit)

-- z, at most the limit either way
abbrev pub within : ℤ → ℤ
within (pos n) = clamped false n
within (negsuc n) = clamped true (suc n)

-- the whole number nearest to x, at most the limit either way; 0 for a NaN
unfoldable pub whole_of : Float → ℤ
unfolding rounded
whole_of nan = pos 0
whole_of (inf s) = with_sign s limit
whole_of (fin s m e) = clamped s (rounded s (m * up e) (down e))
