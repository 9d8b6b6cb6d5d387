-- Two's complement, in 64 bits.
use Rattle.std.specs.Prelude.{ℕ, suc, ◌-◌, ◌^◌, cond, ℤ, pos, negsuc, nat_lt}

abbrev pub bits : ℤ → ℕ
bits (pos n) = n
bits (negsuc n) = 2 ^ 64 - suc n

abbrev pub of_bits : ℕ → ℤ
of_bits n = cond (nat_lt n (2 ^ 63)) (pos n) (negsuc (2 ^ 64 - suc n))
