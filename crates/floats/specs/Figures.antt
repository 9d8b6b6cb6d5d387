-- Earned value's figures that are worked out in floats. Definitions only.
use Rattle.std.specs.Prelude.{ℕ, true, false, cond, ℤ, pos, Option, Some, None, unwrap_or, to_bits, Float}
use Rattle.std.specs.Float.{fin, binary64}
use Rattle.std.specs.Float.Ieee.{mul, div, lt}
use Rattle.integer.specs.Signs.{is_zero}
use Rattle.floats.specs.Rounding.{nearest_of, whole_of}

-- 0, -0, 1 and 10,000
abbrev pub nought : Float
nought = fin false 0 (pos 0)

abbrev pub minus_nought : Float
minus_nought = fin true 0 (pos 0)

abbrev pub one : Float
one = fin false 1 (pos 0)

abbrev pub ten_thousand : Float
ten_thousand = fin false 625 (pos 4)

-- a figure, 0 where it is absent
abbrev pub or_nought : Option Float → Float
or_nought x = unwrap_or x nought

-- a / b, absent where b is 0
abbrev pub ratio_of : ℤ → ℤ → Option Float
ratio_of a b = cond (is_zero b) None (Some (div binary64 (nearest_of a) (nearest_of b)))

-- the product, absent where one is
abbrev pub both_of : Option Float → Option Float → Option Float
both_of None q = None
both_of (Some x) None = None
both_of (Some x) (Some y) = Some (mul binary64 x y)

-- what is left at the performance f; as it is where f is absent or not above 0
abbrev pub at_rate_of : ℤ → Option Float → ℤ
at_rate_of left None = left
at_rate_of left (Some f) = cond (lt nought f) (whole_of (div binary64 (nearest_of left) f)) left

-- x clamped to 0..1; -0 and a NaN stay
abbrev pub clamp01_of : Float → Float
clamp01_of x = cond (lt x nought) nought (cond (lt one x) one x)

-- the share that a percent in hundredths is
abbrev pub share_of : ℤ → Float
share_of hundredths = clamp01_of (div binary64 (nearest_of hundredths) ten_thousand)

-- the budget times the share done
abbrev pub earned_of : ℤ → Float → ℤ
earned_of budget done = whole_of (mul binary64 (nearest_of budget) done)

abbrev pub bits_of : Float → ℕ
bits_of x = to_bits binary64 x
