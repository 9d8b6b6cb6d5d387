-- No index of figures that fit 64 bits is a NaN or an infinity.
use Rattle.floats.specs.Figures.{or_nought}
use lib.Dec.{T}
use lib.Ieee.Scale.{finite}
use mir.Syntax.{w64}
use mir.Val.{SFits}
use lib.IntN.{◌-ℤ◌}
use Rattle.integer.specs.Clamp.{clamp_fits}
use Rattle.floats.proofs.IndexLaws.{ratio_finite}
use Rattle.model.specs.declared.Earned.{Earned}
use Rattle.model.specs.Forecast.{cpi, spi, to_earn, tcpi}

module _ (e : Earned) (earned : SFits w64 e.earned) where
  pub cpi_finite : SFits w64 e.actual → T (finite (or_nought (cpi e)))
  unfolding cpi
  cpi_finite actual = ratio_finite e.earned e.actual earned actual

  pub spi_finite : SFits w64 e.planned → T (finite (or_nought (spi e)))
  unfolding spi
  spi_finite planned = ratio_finite e.earned e.planned earned planned

-- differences are clamped to 64 bits: this one asks nothing
pub tcpi_finite : (e : Earned) → T (finite (or_nought (tcpi e)))
unfolding tcpi to_earn
tcpi_finite e =
    ratio_finite (to_earn e) _ (clamp_fits w64 (e.budget -ℤ e.earned)) (clamp_fits w64 (e.budget -ℤ e.actual))
