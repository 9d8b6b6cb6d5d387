-- CPI, SPI and TCPI are the floats nearest to the quotients of EIA-748 and PMI. Assumes nothing.
-- For amounts up to 2 ^ 53 they are nearest to the exact quotient. For all numbers of 64 bits each amount is first rounded to its nearest float.
use Rattle.floats.specs.Figures.{or_nought}
use mathlib.Core.Path.{◌≡◌}
use mathlib.Core.Logic.{◌≢◌}
use Prim.Native.Nat.{◌-◌, ◌^◌}
use native.Mathlib.Omega.{arith}
use lib.IntN.{ℤ, pos, negsuc, ◌-ℤ◌}
use mir.Syntax.{w64}
use mir.Val.{SFits}
use Rattle.integer.specs.Clamp.{clamp_same}
use Rattle.floats.specs.Rounding.{nearest_of}
use Rattle.model.specs.declared.Earned.{Earned}
use Rattle.model.specs.Forecast.{less, cpi, spi, to_earn, tcpi}
use Rattle.formulas.specs.Exact.{value, ◌÷◌, Small, Close, NearestIndex}
use Rattle.formulas.specs.Formulas.{CPI, SPI, TCPI}
use Rattle.formulas.proofs.Ratios.{ratio_nearest, ratio_close, small_ratio_nearest}

-- ---- a difference of 64 bits is exact
pub small_fits : (z : ℤ) → Small z → SFits w64 z
small_fits (pos n) h = record { sfits = omega arith }
small_fits (negsuc n) h = record { sfits = omega arith }

pub less_is : (a b : ℤ) → SFits w64 (a -ℤ b) → less a b ≡ a -ℤ b
less_is a b f = clamp_same w64 (a -ℤ b) f

-- ---- up to 2 ^ 53
module _ (e : Earned) where
  pub cpi_nearest : e.actual ≢ pos 0 → Small e.earned → Small e.actual → NearestIndex (cpi e) (CPI e)
  unfolding cpi
  cpi_nearest some a b = small_ratio_nearest e.earned e.actual some a b

  pub spi_nearest : e.planned ≢ pos 0 → Small e.earned → Small e.planned → NearestIndex (spi e) (SPI e)
  unfolding spi
  spi_nearest some a b = small_ratio_nearest e.earned e.planned some a b

  pub tcpi_nearest : e.budget -ℤ e.actual ≢ pos 0 → Small (e.budget -ℤ e.earned) → Small (e.budget -ℤ e.actual) → NearestIndex (tcpi e) (TCPI e)
  unfolding tcpi to_earn
  tcpi_nearest some a b =
      let to_earn = e.budget -ℤ e.earned in
      let toSpend = e.budget -ℤ e.actual in
      rw (less_is e.budget e.earned (small_fits to_earn a), less_is e.budget e.actual (small_fits toSpend b))
      (small_ratio_nearest to_earn toSpend some a b)

-- ---- for all numbers of 64 bits: nearest to the quotient of the two nearest floats, and at most 3 / (2 ^ 53 − 3) of the exact quotient away from it
module _ (e : Earned) where
  pub cpi_of_floats : e.actual ≢ pos 0 → SFits w64 e.earned → SFits w64 e.actual
      → NearestIndex (cpi e) (value (nearest_of e.earned) ÷ value (nearest_of e.actual)) × Close 3 (2 ^ 53 - 3) (or_nought (cpi e)) (CPI e)
  unfolding cpi
  cpi_of_floats some a b = (ratio_nearest e.earned e.actual a b some, ratio_close e.earned e.actual a b some)

  pub spi_of_floats : e.planned ≢ pos 0 → SFits w64 e.earned → SFits w64 e.planned
      → NearestIndex (spi e) (value (nearest_of e.earned) ÷ value (nearest_of e.planned)) × Close 3 (2 ^ 53 - 3) (or_nought (spi e)) (SPI e)
  unfolding spi
  spi_of_floats some a b = (ratio_nearest e.earned e.planned a b some, ratio_close e.earned e.planned a b some)

  pub tcpi_of_floats : e.budget -ℤ e.actual ≢ pos 0 → SFits w64 (e.budget -ℤ e.earned) → SFits w64 (e.budget -ℤ e.actual)
      → NearestIndex (tcpi e) (value (nearest_of (e.budget -ℤ e.earned)) ÷ value (nearest_of (e.budget -ℤ e.actual))) × Close 3 (2 ^ 53 - 3) (or_nought (tcpi e)) (TCPI e)
  unfolding tcpi to_earn
  tcpi_of_floats some a b =
      let to_earn = e.budget -ℤ e.earned in
      let toSpend = e.budget -ℤ e.actual in
      rw (less_is e.budget e.earned a, less_is e.budget e.actual b) (ratio_nearest to_earn toSpend a b some, ratio_close to_earn toSpend a b some)
