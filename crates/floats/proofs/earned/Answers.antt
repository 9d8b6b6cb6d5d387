-- `floats::earned` meets its contract: one product, made whole. Assumes nothing.
use Rattle.std.proofs.Common.{◌∙◌, to_z-of_z, rules}
use Rattle.std.specs.Int.{w64}
use Rattle.floats.proofs.earned.Goals as goal

pub returns : goal.returns
returns c =
    to_z-of_z {w = w64} (search rules)
    ∙ c.whole.ensures
    ∙ rw (c.nearest.ensures, to_z-of_z c.ranges.budget)
