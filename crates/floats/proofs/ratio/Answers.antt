-- `floats::ratio` meets its contract: the test of the bits is the test of the number. Assumes nothing.
use Rattle.std.proofs.Common.{to_z-of_z}
use Rattle.integer.specs.Signs.{zero_bits, nonzero_bits}
use Rattle.floats.proofs.ratio.Goals as goal

pub returns-then-b-eq0 : goal.returns-then-b-eq0
returns-then-b-eq0 c = rw (zero_bits c.args.b c.ranges.b c.if-b-eq0.true)

pub returns : goal.returns
returns c =
    rw (nonzero_bits c.args.b c.if-b-eq0.false, c.nearest.ensures, c.nearest-2.ensures, to_z-of_z c.ranges.a, to_z-of_z c.ranges.b)
