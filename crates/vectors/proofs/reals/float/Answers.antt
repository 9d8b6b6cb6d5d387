-- `float` is safe: it never asks for the float of a NaN's bits. Assumes nothing.
use Rattle.std.proofs.Common.{◌≡◌, ℕ, ◌/◌, ◌%◌, not, T, rules, eq-eqb, ne_eqb}
use lib.Ieee.{binary64, nan_bits}
use Rattle.vectors.proofs.reals.float.Goals as goal

other_exponent : (u : ℕ) → (u % 9223372036854775808 / 4503599627370496 ≡ 2047 → ⊥) → T (not (nan_bits binary64 u))
unfolding nan_bits
other_exponent u h = rw (ne_eqb (u % 9223372036854775808 / 4503599627370496) 2047 h) tt

no_digits : (u : ℕ) → u % 9223372036854775808 / 4503599627370496 ≡ 2047 → u % 4503599627370496 ≡ 0 → T (not (nan_bits binary64 u))
unfolding nan_bits
no_digits u h k =
    rw (eq-eqb (u % 9223372036854775808 / 4503599627370496) 2047 h, eq-eqb (u % 4503599627370496) 0 k) tt

pub float_from_bits-result : goal.float_from_bits-result
float_from_bits-result c = other_exponent c.args.u c.if-u-ne2047.true

pub float_from_bits-result-2 : goal.float_from_bits-result-2
float_from_bits-result-2 c = no_digits c.args.u c.if-u-ne2047.false c.if-u-ne0.false
