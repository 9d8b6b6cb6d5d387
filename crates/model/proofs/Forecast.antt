-- Forecasts: the standards' sums are exact wherever they are numbers of 64 bits.
use mathlib.Core.Path.{◌≡◌}
use lib.IntN.{◌+ℤ◌, ◌-ℤ◌}
use mir.Syntax.{w64}
use mir.Val.{SFits}
use Rattle.integer.specs.Clamp.{clamp_same}
use Rattle.format.specs.declared.EtcTechnique.{EtcTechnique}
use Rattle.model.specs.declared.Earned.{Earned}
use Rattle.model.specs.Forecast.{etc, eac, vac}

module _ (technique : EtcTechnique) (e : Earned) where
  -- EAC = AC + ETC
  pub eac_exact : SFits w64 (e.actual +ℤ etc technique e) → eac technique e ≡ e.actual +ℤ etc technique e
  unfolding eac
  eac_exact fits = clamp_same w64 (e.actual +ℤ etc technique e) fits

  -- VAC = BAC − EAC
  pub vac_exact : SFits w64 (e.budget -ℤ eac technique e) → vac technique e ≡ e.budget -ℤ eac technique e
  unfolding vac
  vac_exact fits = clamp_same w64 (e.budget -ℤ eac technique e) fits
