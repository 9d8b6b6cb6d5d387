-- The formulas of EIA-748 and PMI as exact numbers, from the figures of a row: BAC is `budget`, PV `planned`, EV `earned`, AC `actual`. Definitions only.
use Rattle.std.specs.Prelude.{ℕ, ◌*◌, ◌≤◌, ◌<◌, ◌≡◌, false, ℤ, pos, ◌-ℤ◌, Float}
use Rattle.floats.specs.Rounding.{limit}
use Rattle.floats.specs.Figures.{ratio_of, clamp01_of, or_nought}
use Rattle.model.specs.declared.Earned.{Earned}
use Rattle.formulas.specs.Exact.{Fraction, quotient, integer, ◌÷◌, times}

-- CPI = EV / AC
abbrev pub CPI : Earned → Fraction
CPI e = quotient e.earned e.actual

-- SPI = EV / PV
abbrev pub SPI : Earned → Fraction
SPI e = quotient e.earned e.planned

-- TCPI = (BAC − EV) / (BAC − AC)
abbrev pub TCPI : Earned → Fraction
TCPI e = quotient (e.budget -ℤ e.earned) (e.budget -ℤ e.actual)

-- ETC = (BAC − EV) / CPI
abbrev pub etc_by_cpi : Earned → Fraction
etc_by_cpi e = integer (e.budget -ℤ e.earned) ÷ CPI e

-- ETC = (BAC − EV) / (CPI * SPI)
abbrev pub etc_by_cpi_spi : Earned → Fraction
etc_by_cpi_spi e = integer (e.budget -ℤ e.earned) ÷ times (CPI e) (SPI e)

-- EV = BAC * a / b, where a of b is done
abbrev pub EV : ℤ → ℕ → ℕ → Fraction
EV budget a b = times (integer budget) (quotient (pos a) (pos b))

-- a / b as the float that the engine multiplies the budget by
abbrev pub share : ℕ → ℕ → Float
share a b = clamp01_of (or_nought (ratio_of (pos a) (pos b)))

-- ---- conditions

-- f is above 0
pub record Above (f : Fraction) : Type 0 where
  pub sign : f.sign ≡ false
  pub over : 0 < f.over
  pub under : 0 < f.under

-- f is at most 9 * 10 ^ 15 either way, the largest that EV and ETC by an index can be
abbrev pub UpToLimit : Fraction → Type 0
UpToLimit f = f.over ≤ limit * f.under
