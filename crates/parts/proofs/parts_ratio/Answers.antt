-- `parts_ratio` meets its contract: by its call.
use mathlib.Core.Path.{ap, ap₂, ◌∙◌}
use lib.Ieee.{of_bits}
use mir.Facts.{to_z-of_z}
use Rattle.floats.specs.Figures.{or_nought, ratio_of}
use Rattle.parts.proofs.parts_ratio.Goals as goal

pub returns : goal.returns
unfolding of_bits
returns c = c.unwrap_or.ensures ∙ ap or_nought (c.ratio.ensures ∙ ap₂ ratio_of (to_z-of_z c.ranges.a) (to_z-of_z c.ranges.b))
