-- Signed numbers of two words, which exact sums need.
use Rattle.std.specs.Prelude.{◌^◌, ◌<◌, Bool, ℤ, pos, negsuc, ◌+ℤ◌, ◌*ℤ◌, nat_lt, unsigned_abs}
use Rattle.money.specs.declared.exact.Exact.{Exact}

-- the number that two words stand for: the high one is signed
abbrev pub value_of : Exact → ℤ
value_of w = (w.high *ℤ pos (2 ^ 64)) +ℤ pos w.low

-- a number from −2^63 to 2^63 − 1
unfoldable pub is_word : ℤ → Bool
is_word (pos n) = nat_lt n (2 ^ 63)
is_word (negsuc n) = nat_lt n (2 ^ 63)

-- so small that two such numbers add up to one of two words
abbrev pub IsSmall : ℤ → Type 0
IsSmall z = unsigned_abs z < 2 ^ 100
