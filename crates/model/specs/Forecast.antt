-- Forecasts and indices: how the work done performs, and what the work still to do will cost (EIA-748, PMI), from the figures of a row.
use Rattle.std.specs.Prelude.{ℤ, ◌+ℤ◌, ◌-ℤ◌, Option, is_some, Float}
use Rattle.std.specs.Int.{w64}
use Rattle.integer.specs.Clamp.{clamp}
use Rattle.floats.specs.Figures.{ratio_of, both_of, at_rate_of, or_nought}
use Rattle.format.specs.declared.EtcTechnique.{EtcTechnique}
use Rattle.format.specs.declared.EtcTechnique.TheVariants.{Remaining, Planned, Cpi, CpiSpi}
use Rattle.model.specs.declared.Earned.{Earned}
use Rattle.model.specs.declared.Indices.{Indices}

-- a less b, in 64 bits
abbrev pub less : ℤ → ℤ → ℤ
less a b = clamp w64 (a -ℤ b)

-- ---- indices, each absent where its divisor is 0

-- the cost performance index (CPI): EV / AC
unfoldable pub cpi : Earned → Option Float
cpi e = ratio_of e.earned e.actual

-- the schedule performance index (SPI): EV / PV
unfoldable pub spi : Earned → Option Float
spi e = ratio_of e.earned e.planned

-- the budget still to earn: BAC − EV
unfoldable pub to_earn : Earned → ℤ
to_earn e = less e.budget e.earned

-- the to-complete performance index (TCPI): (BAC − EV) / (BAC − AC)
unfoldable pub tcpi : Earned → Option Float
tcpi e = ratio_of (to_earn e) (less e.budget e.actual)

-- document 01's three indices, which travel together
unfoldable pub indices_of : Earned → Indices
indices_of e = record {
  cpi = or_nought (cpi e);
  has_cpi = is_some (cpi e);
  spi = or_nought (spi e);
  has_spi = is_some (spi e);
  tcpi = or_nought (tcpi e);
  has_tcpi = is_some (tcpi e);
}

-- ---- forecasts

-- the estimate to complete (ETC): what remains as it is priced, or the budget still to earn, as planned or at the performance so far
unfoldable pub etc : EtcTechnique → Earned → ℤ
etc Remaining e = e.remaining
etc Planned e = to_earn e
etc Cpi e = at_rate_of (to_earn e) (cpi e)
etc CpiSpi e = at_rate_of (to_earn e) (both_of (cpi e) (spi e))

-- the estimate at completion (EAC): AC + ETC
unfoldable pub eac : EtcTechnique → Earned → ℤ
eac technique e = clamp w64 (e.actual +ℤ etc technique e)

-- the variance at completion (VAC): BAC − EAC
unfoldable pub vac : EtcTechnique → Earned → ℤ
vac technique e = less e.budget (eac technique e)
