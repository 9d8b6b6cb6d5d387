-- `floats::nearest` meets its contract: it is the kit's conversion. Assumes nothing.
use Rattle.std.proofs.Common.{to_z-of_z}
use Rattle.floats.proofs.nearest.Goals as goal

pub returns : goal.returns
returns c = rw (c.nearest_i64_to_f64.ensures, to_z-of_z c.ranges.z)
