-- `floats::share` meets its contract: one quotient, clamped. Assumes nothing.
use Rattle.std.proofs.Common.{◌∙◌, to_z-of_z}
use lib.Ieee.{of_bits}
use Rattle.floats.proofs.share.Goals as goal

pub returns : goal.returns
unfolding of_bits
returns c = c.clamp01.ensures ∙ rw (c.nearest.ensures, to_z-of_z c.ranges.hundredths)
