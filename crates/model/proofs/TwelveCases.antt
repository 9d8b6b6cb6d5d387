-- Twelve-month sums of few amounts, their marks, and whether they are of 64 bits, by computation. Month 144288 is January 2024.
use mathlib.Core.Path.{◌≡◌, refl}
use mathlib.Core.Bool.{Bool, true, false}
use mathlib.Core.List.{List, [], ◌∷◌, map}
use lib.IntN.{ℤ, pos, negsuc, neg_ℤ}
use Rattle.integer.specs.Sums.{sum, total}
use Rattle.lists.specs.Lists.{any, span, keep}
use Rattle.money.specs.Exact.{is_word}
use Rattle.model.specs.TwelveMonths.{Monthly, falling, month_sum, twelve_sum, is_spanned, months, outdoes, is_largest, are_words}

abbrev sums : List Monthly → List ℤ
sums xs = map (twelve_sum xs) (months xs)

abbrev marks : List Monthly → List Bool
marks xs = map (is_largest xs) (months xs)

abbrev most : ℤ
most = pos 9223372036854775807

-- `months-outside`: a month may be outside 64 bits where no sum of twelve is; `months-late-11`: one is, where the first month drops out
abbrev outside : List Monthly
outside = falling 144288 (neg_ℤ most) ∷ falling 144289 most ∷ falling 144289 most ∷ []

abbrev late : List Monthly
late = falling 144288 (neg_ℤ most) ∷ falling 144289 most ∷ falling 144289 most ∷ falling 144300 (pos 0) ∷ []

-- `months-lower-end`: −2^63 is of 64 bits
abbrev lower_end : List Monthly
lower_end = falling 144288 (neg_ℤ most) ∷ falling 144289 (negsuc 0) ∷ []

pub held :
    (is_word (month_sum outside 144289) ≡ false)
    × (sums outside ≡ neg_ℤ most ∷ most ∷ [])
    × (are_words outside ≡ true)
    × (are_words late ≡ false)
    × (are_words lower_end ≡ true)
unfolding months is_spanned keep span any twelve_sum month_sum sum total are_words is_word
held = (refl, refl, refl, refl, refl)

-- `months-gap`: a row for the month between, which is not listed
abbrev gap : List Monthly
gap = falling 144288 (pos 5) ∷ falling 144290 (pos 7) ∷ []

pub gap_sums : (months gap ≡ 144288 ∷ 144289 ∷ 144290 ∷ []) × (sums gap ≡ pos 5 ∷ pos 5 ∷ pos 12 ∷ []) × (marks gap ≡ false ∷ false ∷ true ∷ [])
unfolding months is_spanned keep span any twelve_sum month_sum sum total is_largest outdoes
gap_sums = (refl, refl, refl)

-- `months-thirteen`: December still holds January, the next January does not
abbrev thirteen : List Monthly
thirteen = falling 144288 (pos 1) ∷ falling 144300 (pos 10) ∷ []

pub thirteen_sums : (twelve_sum thirteen 144299 ≡ pos 1) × (twelve_sum thirteen 144300 ≡ pos 10)
unfolding keep twelve_sum month_sum sum total
thirteen_sums = (refl, refl)

-- `months-long-gap`: the mark is on a month that holds nothing
abbrev long_gap : List Monthly
long_gap = falling 144288 (negsuc 4) ∷ falling 144302 (negsuc 6) ∷ []

pub long_gap_mark : (months long_gap ≡ span 144288 15) × (twelve_sum long_gap 144300 ≡ pos 0) × (is_largest long_gap 144300 ≡ true) × (is_largest long_gap 144301 ≡ false)
unfolding months is_spanned keep span any twelve_sum month_sum sum total is_largest outdoes
long_gap_mark = (refl, refl, refl, refl)

-- `months-negative`: the largest is by value; `months-tie`: the earliest of equals
abbrev negative : List Monthly
negative = falling 144288 (negsuc 4) ∷ falling 144289 (negsuc 1) ∷ falling 144290 (pos 4) ∷ []

abbrev tie : List Monthly
tie = falling 144288 (pos 5) ∷ falling 144289 (negsuc 0) ∷ falling 144290 (pos 1) ∷ []

pub marks_by_value :
    (sums negative ≡ negsuc 4 ∷ negsuc 6 ∷ negsuc 2 ∷ [])
    × (marks negative ≡ false ∷ false ∷ true ∷ [])
    × (sums tie ≡ pos 5 ∷ pos 4 ∷ pos 5 ∷ [])
    × (marks tie ≡ true ∷ false ∷ false ∷ [])
unfolding months is_spanned keep span any twelve_sum month_sum sum total is_largest outdoes
marks_by_value = (refl, refl, refl, refl)

-- `no_points`: a month is listed by a point of 0, and without any there is no row
pub listed_by_a_point : (marks (falling 144297 (pos 0) ∷ []) ≡ true ∷ []) × (months [] ≡ [])
unfolding months is_spanned keep span any twelve_sum month_sum sum total is_largest outdoes
listed_by_a_point = (refl, refl)
