-- Cases by computation: the laws' conditions can be met, and what they leave open happens.
use mathlib.Core.Path.{◌≡◌, refl, sym, ap, subst}
use mathlib.Core.List.{List}
use Prim.Native.Nat.{ℕ, ◌+◌, ◌*◌, ◌^◌, ◌<◌}
use native.Mathlib.Nat.{not-le_of_lt}
use lib.Dec.{lit<, lit≤}
use lib.IntN.{ℤ, pos}
use lib.Ieee.{of_int, mul, div, lt, to_bits}
use lib.ListN.{get_or}
use mir.Syntax.{w64}
use mir.Val.{SFits}
use Rattle.lists.specs.Lists.{span}
use Rattle.money.specs.declared.costs.Cost.{Cost}
use Rattle.floats.specs.Rounding.{nearest_of, rounded, whole_of}
use Rattle.floats.specs.Figures.{share_of, earned_of, bits_of, or_nought}
use Rattle.format.specs.declared.EtcTechnique.TheVariants.{Cpi, CpiSpi}
use Rattle.format.proofs.Example.{example}
use Rattle.model.specs.declared.Earned.{Earned}
use Rattle.model.specs.Tree.{parents}
use Rattle.model.specs.Costs.{costs}
use Rattle.model.specs.Planned.{first_line, line_of, budget_of}
use Rattle.model.specs.Earned.{leaf_earned}
use Rattle.model.specs.Forecast.{cpi, spi, tcpi, to_earn, etc}
use Rattle.model.proofs.Example.{example_costs}
use Rattle.formulas.specs.Exact.{quotient, integer, value, times, gap, Small, Close, HalfAnd, NearestWhole, AtMostOne, NearestIndex}
use Rattle.formulas.specs.Formulas.{CPI, SPI, TCPI, share, EV, etc_by_cpi, etc_by_cpi_spi, Above, UpToLimit}
use Rattle.formulas.proofs.Ratios.{not_zero}
use Rattle.formulas.proofs.Indices.{cpi_nearest, spi_nearest, tcpi_nearest, cpi_of_floats, spi_of_floats, tcpi_of_floats}
use Rattle.formulas.proofs.Estimates.{etc_by_cpi_lem, etc_by_cpi_nearest, etc_by_cpi_at_most_one, etc_by_cpi_spi_lem, etc_by_cpi_all, etc_by_cpi_spi_all}
use Rattle.formulas.proofs.EarnedValue.{percent_is, earned_half, earned_half_all, earned_at_most_one, earned_nearest, earned_of_none, earned_of_all, percent_nearest_below, by_judged_percent, leaf_earned_half}

-- 2 ^ 53 + 1 is the first whole number that is no float: 2 ^ 53, whose last bit is 0, stands for it
first_between : gap (value (nearest_of (pos 9007199254740993))) (integer (pos 9007199254740992)) ≡ 0
unfolding of_int
first_between = refl

fits : (n : ℕ) → n < 2 ^ 63 → SFits w64 (pos n)
fits n h = record { sfits = h }

-- BAC 10, PV 4, EV 2, AC 3
abbrev row : Earned
row = record { budget = pos 10; planned = pos 4; earned = pos 2; actual = pos 3; remaining = pos 0 }

-- the exact figures of it: 2 / 3, 2 / 4, 8 / 7, 12 and 24
exact_figures : gap (CPI row) (quotient (pos 2) (pos 3)) + gap (SPI row) (quotient (pos 1) (pos 2)) + gap (TCPI row) (quotient (pos 8) (pos 7))
    + gap (etc_by_cpi row) (integer (pos 12)) + gap (etc_by_cpi_spi row) (integer (pos 24)) ≡ 0
exact_figures = refl

-- CPI is the float nearest to 2 / 3, SPI to 2 / 4, TCPI to 8 / 7
indices : NearestIndex (cpi row) (CPI row) × NearestIndex (spi row) (SPI row) × NearestIndex (tcpi row) (TCPI row)
indices =
    (cpi_nearest row (not_zero (pos 3) (lit< tt)) (lit≤ tt) (lit≤ tt), spi_nearest row (not_zero (pos 4) (lit< tt)) (lit≤ tt) (lit≤ tt), tcpi_nearest row (not_zero (pos 7) (lit< tt)) (lit≤ tt) (lit≤ tt))

two_thirds : bits_of (or_nought (cpi row)) ≡ 0x3fe5_5555_5555_5555
unfolding cpi of_int div to_bits
two_thirds = refl

indices_of_floats : Close 3 9007199254740989 (or_nought (cpi row)) (CPI row) × Close 3 9007199254740989 (or_nought (spi row)) (SPI row) × Close 3 9007199254740989 (or_nought (tcpi row)) (TCPI row)
indices_of_floats = (
  (cpi_of_floats row (not_zero (pos 3) (lit< tt)) (fits 2 (lit< tt)) (fits 3 (lit< tt))).1,
  (spi_of_floats row (not_zero (pos 4) (lit< tt)) (fits 2 (lit< tt)) (fits 4 (lit< tt))).1,
  (tcpi_of_floats row (not_zero (pos 7) (lit< tt)) (fits 8 (lit< tt)) (fits 7 (lit< tt))).1,
)

-- ---- ETC by CPI is 8 * 3 / 2, by CPI * SPI 8 * 3 * 4 / 2 / 2
cpi_above : Above (CPI row)
cpi_above = record { sign = refl; over = lit< tt; under = lit< tt }

both_above : Above (times (CPI row) (SPI row))
both_above = record { sign = refl; over = lit< tt; under = lit< tt }

by_cpi : HalfAnd 2 9007199254740990 (etc Cpi row) (etc_by_cpi row) × HalfAnd 5 9007199254740987 (etc Cpi row) (etc_by_cpi row) × AtMostOne (etc Cpi row) (etc_by_cpi row) × NearestWhole (etc Cpi row) (etc_by_cpi row)
by_cpi = (
  etc_by_cpi_lem row (lit≤ tt) (lit≤ tt) (lit≤ tt) cpi_above (lit≤ tt),
  etc_by_cpi_all row (fits 8 (lit< tt)) (fits 2 (lit< tt)) (fits 3 (lit< tt)) cpi_above (lit≤ tt),
  etc_by_cpi_at_most_one row (lit≤ tt) (lit≤ tt) (lit≤ tt) cpi_above (lit≤ tt),
  etc_by_cpi_nearest row (lit≤ tt) (lit≤ tt) (lit≤ tt) cpi_above (lit< tt),
)

by_both : HalfAnd 4 9007199254740988 (etc CpiSpi row) (etc_by_cpi_spi row) × HalfAnd 9 9007199254740983 (etc CpiSpi row) (etc_by_cpi_spi row)
by_both = (
  etc_by_cpi_spi_lem row (lit≤ tt) (lit≤ tt) (lit≤ tt) (lit≤ tt) both_above (lit≤ tt),
  etc_by_cpi_spi_all row (fits 8 (lit< tt)) (fits 2 (lit< tt)) (fits 3 (lit< tt)) (fits 4 (lit< tt)) both_above (lit≤ tt),
)

twelve : etc Cpi row ≡ pos 12
unfolding etc to_earn cpi of_int div lt rounded whole_of
twelve = refl

twenty_four : etc CpiSpi row ≡ pos 24
unfolding etc to_earn cpi spi of_int mul div lt rounded whole_of
twenty_four = refl

-- and one with (BAC − EV) * AC just above 2 ^ 51 at which it is not the nearest: exactly 2,276,143,254,506.4995
abbrev large : Earned
large = record { budget = pos 2330069650517; planned = pos 0; earned = pos 1037; actual = pos 1013; remaining = pos 0 }

large_is : etc Cpi large ≡ pos 2276143254507
unfolding etc to_earn cpi of_int div lt rounded whole_of
large_is = refl

large_not_nearest : NearestWhole (etc Cpi large) (etc_by_cpi large) → ⊥
large_not_nearest h = not-le_of_lt (lit< tt) (subst (λ (z : ℤ). NearestWhole z (etc_by_cpi large)) large_is h)

-- ---- earned value: 25 at 58 per cent is 14, which is as near to 14.5 as 15
abbrev fourteen : ℤ
fourteen = earned_of (pos 25) (share_of (pos 5800))

by_percent_lem : HalfAnd 2 9007199254740990 fourteen (EV (pos 25) 5800 10000) × HalfAnd 3 9007199254740989 fourteen (EV (pos 25) 5800 10000)
    × AtMostOne fourteen (EV (pos 25) 5800 10000) × NearestWhole fourteen (EV (pos 25) 5800 10000)
by_percent_lem =
    rw (percent_is 5800) (
      earned_half (pos 25) 5800 10000 (lit≤ tt) (lit< tt) (lit≤ tt) (lit≤ tt) (lit≤ tt),
      earned_half_all (pos 25) 5800 10000 (lit≤ tt) (lit< tt) (lit≤ tt) (fits 25 (lit< tt)) (lit≤ tt),
      earned_at_most_one (pos 25) 5800 10000 (lit≤ tt) (lit< tt) (lit≤ tt) (lit≤ tt),
      percent_nearest_below (pos 25) 5800 (lit≤ tt) (lit≤ tt),
    )

half_away : gap (integer (pos 14)) (EV (pos 25) 5800 10000) * 2 ≡ (EV (pos 25) 5800 10000).under
half_away = refl

down_at_a_tie : fourteen ≡ pos 14
unfolding of_int mul div lt rounded whole_of
down_at_a_tie = refl

-- none, one and all of three minutes or units
thirds : (earned_of (pos 10) (share 0 3) ≡ pos 0) × NearestWhole (earned_of (pos 10) (share 1 3)) (EV (pos 10) 1 3) × (earned_of (pos 10) (share 3 3) ≡ pos 10)
thirds = (
  earned_of_none (pos 10) 3 (lit< tt) (lit≤ tt),
  earned_nearest (pos 10) 1 3 (lit≤ tt) (lit< tt) (lit≤ tt) (lit≤ tt) (lit< tt),
  earned_of_all (pos 10) 3 (lit< tt) (lit≤ tt) (lit≤ tt),
)

-- and a budget of 7 * 10 ^ 11 hundredths at which it is not the nearest: exactly 650,253,823,058.4999
abbrev beyond : ℤ
beyond = earned_of (pos 703053111751) (share_of (pos 9249))

beyond_is : beyond ≡ pos 650253823059
unfolding of_int mul div lt rounded whole_of
beyond_is = refl

beyond_not_nearest : NearestWhole beyond (EV (pos 703053111751) 9249 10000) → ⊥
beyond_not_nearest h = not-le_of_lt (lit< tt) (subst (λ (z : ℤ). NearestWhole z (EV (pos 703053111751) 9249 10000)) beyond_is h)

-- ---- document 01's example: activity 1, of a budget of 1,000, is 50 per cent done
example_budget : budget_of example 1 ≡ pos 1000
unfolding budget_of line_of first_line costs parents span
example_budget = ap (λ (l : List Cost). (get_or l 1 (record { budget = pos 0; actual = pos 0; remaining = pos 0 })).budget) example_costs

example_earned : HalfAnd 2 9007199254740990 (leaf_earned example 19724 1).earned (EV (budget_of example 1) 5000 10000)
example_earned =
    leaf_earned_half example 19724 1 5000 10000 (by_judged_percent example 1 refl 5000 refl refl) (lit≤ tt) (lit< tt) (lit≤ tt)
    (subst (λ (z : ℤ). Small z) (sym example_budget) (lit≤ tt)) (subst (λ (z : ℤ). UpToLimit (EV z 5000 10000)) (sym example_budget) (lit≤ tt))
