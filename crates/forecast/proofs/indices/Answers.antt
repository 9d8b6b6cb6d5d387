-- `indices` meets its contract, index by index.
use mathlib.Core.Path.{ap, ◌∙◌}
use lib.Ieee.{of_bits}
use Rattle.std.specs.Prelude.{is_some}
use Rattle.floats.specs.Figures.{or_nought}
use Rattle.model.specs.Forecast.{indices_of}
use Rattle.forecast.proofs.indices.Goals as goal

pub returns : goal.returns
unfolding indices_of of_bits
returns c =
    let p = c.unwrap_or.ensures ∙ ap or_nought c.cpi-c.ensures in
    let has_p = c.is_some.ensures ∙ ap is_some c.cpi-c.ensures in
    let q = c.unwrap_or-2.ensures ∙ ap or_nought c.spi-s.ensures in
    let has_q = c.is_some-2.ensures ∙ ap is_some c.spi-s.ensures in
    let r = c.unwrap_or-3.ensures ∙ ap or_nought c.tcpi-t.ensures in
    let has_r = c.is_some-3.ensures ∙ ap is_some c.tcpi-t.ensures in
    λ i. record {
      cpi = p i;
      has_cpi = has_p i;
      spi = q i;
      has_spi = has_q i;
      tcpi = r i;
      has_tcpi = has_r i;
    }
