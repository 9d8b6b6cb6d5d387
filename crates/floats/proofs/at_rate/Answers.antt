-- `floats::at_rate` meets its contract: each test is one of the definition's. Assumes nothing.
use Rattle.std.proofs.Common.{◌≡◌, true, ◌∙◌, to_z-of_z, rules}
use lib.Ieee.{of_bits, lt}
use Rattle.floats.specs.Figures.{nought}
use Rattle.std.specs.Int.{w64}
use Rattle.floats.proofs.at_rate.Goals as goal
use Rattle.floats.proofs.at_rate.Goals.{Then-f}

-- the factor is above 0
above : (c : Then-f) → lt nought c.in-Some.f ≡ true
unfolding of_bits
above c = search rules

pub returns-in-Some : goal.returns-in-Some
unfolding of_bits
returns-in-Some c =
    to_z-of_z {w = w64} (search rules)
    ∙ c.whole.ensures
    ∙ rw (c.in-Some.is, above (goal.at.returns-in-Some c).Then-f, c.nearest.ensures, to_z-of_z c.ranges.left)

pub returns-in_default : goal.returns-in_default
unfolding of_bits
returns-in_default c = rw (c.in-Some.is, c.if-f.false) (to_z-of_z c.ranges.left)
