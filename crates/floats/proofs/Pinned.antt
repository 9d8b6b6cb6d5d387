-- What no law fixes: the definitions on small numbers, at ties and at the limit, by computation. Assumes nothing.
use Rattle.std.proofs.Common.{◌≡◌, true, false, List, [], ◌∷◌, map, Option, Some, None, ℤ, pos, negsuc, refl}
use lib.Ieee.{Float, nan, inf, fin, of_int, mul, div, lt, to_bits}
use Rattle.floats.specs.Rounding.{nearest_of, rounded, within, whole_of}
use Rattle.floats.specs.Figures.{nought, minus_nought, one, ten_thousand, or_nought, ratio_of, both_of, at_rate_of, clamp01_of, share_of, earned_of, bits_of}

abbrev half : Float
half = fin false 1 (negsuc 0)

-- ---- the nearest float: whole numbers up to 2^53 are their own, and of a tie the even one is taken

pub nearest_cases : map nearest_of (pos 3 ∷ negsuc 5 ∷ pos 9007199254740993 ∷ pos 9007199254740995 ∷ [])
    ≡ fin false 3 (pos 0) ∷ fin true 3 (pos 1) ∷ fin false 1 (pos 53) ∷ fin false 2251799813685249 (pos 2) ∷ []
unfolding of_int
nearest_cases = refl

-- ---- the nearest whole number: halves go away from zero, at most 9 × 10^15 either way, a NaN is 0

abbrev wholes : List (Float × ℤ)
wholes =
    (fin false 9 (negsuc 1), pos 2)
    ∷ (fin false 5 (negsuc 0), pos 3)
    ∷ (fin false 11 (negsuc 1), pos 3)
    ∷ (fin true 9 (negsuc 1), negsuc 1)
    ∷ (fin true 5 (negsuc 0), negsuc 2)
    ∷ (fin true 11 (negsuc 1), negsuc 2)
    ∷ (fin false 3 (pos 1), pos 6)
    ∷ (fin false 1 (pos 53), pos 9000000000000000)
    ∷ (fin true 1 (pos 53), negsuc 8999999999999999)
    ∷ (inf false, pos 9000000000000000)
    ∷ (inf true, negsuc 8999999999999999)
    ∷ (nan, pos 0)
    ∷ []

pub whole_cases : map (λ (c : Float × ℤ). whole_of c.0) wholes ≡ map (λ (c : Float × ℤ). c.1) wholes
unfolding whole_of rounded
whole_cases = refl

pub within_cases : map within (pos 9000000000000001 ∷ negsuc 9000000000000000 ∷ negsuc 6 ∷ []) ≡ pos 9000000000000000 ∷ negsuc 8999999999999999 ∷ negsuc 6 ∷ []
within_cases = refl

-- ---- indices: absent where the divisor is 0, and the product where one of two is

pub ratio_cases : ratio_of (pos 1) (pos 2) ∷ ratio_of (pos 3) (negsuc 1) ∷ ratio_of (pos 0) (pos 2) ∷ ratio_of (pos 1) (pos 0) ∷ []
    ≡ Some half ∷ Some (fin true 3 (negsuc 0)) ∷ Some nought ∷ None ∷ []
unfolding of_int div
ratio_cases = refl

abbrev three : Option Float
three = Some (fin false 3 (pos 0))

pub both_cases : both_of (Some half) three ∷ both_of None three ∷ both_of three None ∷ [] ≡ Some (fin false 3 (negsuc 0)) ∷ None ∷ None ∷ []
unfolding mul
both_cases = refl

-- an absent index stands for 0, and one that is there for itself
pub absent : map or_nought (None ∷ Some half ∷ []) ≡ fin false 0 (pos 0) ∷ half ∷ []
absent = refl

-- 7 at a performance of 1/2 are 14; they stay 7 where it is absent, 0 or below
pub rate_cases : map (at_rate_of (pos 7)) (Some half ∷ None ∷ Some nought ∷ Some (fin true 1 (negsuc 0)) ∷ []) ≡ pos 14 ∷ pos 7 ∷ pos 7 ∷ pos 7 ∷ []
unfolding whole_of rounded of_int div lt
rate_cases = refl

-- ---- shares: of hundredths of a percent, from 0 to 1

pub clamp_cases : map clamp01_of (fin true 1 (negsuc 0) ∷ half ∷ fin false 3 (negsuc 0) ∷ minus_nought ∷ []) ≡ nought ∷ half ∷ one ∷ minus_nought ∷ []
unfolding lt
clamp_cases = refl

pub share_cases : map share_of (negsuc 0 ∷ pos 0 ∷ pos 2500 ∷ pos 10000 ∷ pos 10001 ∷ []) ≡ nought ∷ nought ∷ fin false 1 (negsuc 1) ∷ one ∷ one ∷ []
unfolding of_int div lt
share_cases = refl

-- a quarter of 10 is 2.5, and so 3
pub earned_cases : earned_of (pos 10) (fin false 1 (negsuc 1)) ∷ earned_of (negsuc 9) (fin false 1 (negsuc 1)) ∷ [] ≡ pos 3 ∷ negsuc 2 ∷ []
unfolding whole_of rounded of_int mul
earned_cases = refl

-- ---- the patterns of IEEE 754's binary64

pub bits_cases : map bits_of (nought ∷ minus_nought ∷ one ∷ half ∷ ten_thousand ∷ fin true 3 (negsuc 0) ∷ [])
    ≡ 0 ∷ 0x8000_0000_0000_0000 ∷ 0x3ff0_0000_0000_0000 ∷ 0x3fe0_0000_0000_0000 ∷ 0x40c3_8800_0000_0000 ∷ 0xbff8_0000_0000_0000 ∷ []
unfolding to_bits
bits_cases = refl
