-- `gregorian::count::counted_from` meets its contract.
-- Assumes nothing.
use mathlib.Core.Path.{◌≡◌}
use Prim.Native.Nat.{◌<◌, ◌^◌}
use native.Mathlib.Omega.{arith}
use lib.IntN.{pos, ◌+ℤ◌}
use mir.Syntax.{w32}
use mir.Val.{SFits, to_z, of_z}
use mir.Facts.{to_z_pos, to_z-of_z}
use Rattle.integer.specs.Linear.{linear, sum, abs, apart}
use Rattle.gregorian.specs.Count.{counted}
use Rattle.gregorian.proofs.count.counted_from.Goals as goal
use Rattle.gregorian.proofs.count.counted_from.Goals.{Start}

-- the start is below the sign bit, and the sum is in range
small : (c : Start) → c.args.start < 2 ^ 31
small c = omega arith

fits : (c : Start) → SFits w32 (c.args.z +ℤ pos c.args.start)
fits c = omega (linear, sum c.args.z (pos c.args.start))

-- the code's sum
sums : (c : Start) → to_z w32 (of_z w32 c.args.z) +ℤ to_z w32 c.args.start ≡ c.args.z +ℤ pos c.args.start
sums c = rw (to_z-of_z c.ranges.z, to_z_pos w32 (small c))

pub overflow_add-result : goal.overflow_add-result
overflow_add-result c = rw (sums (goal.at.overflow_add-result c).Start) (fits (goal.at.overflow_add-result c).Start)

pub overflow_cast-result-2 : goal.overflow_cast-result-2
overflow_cast-result-2 c =
    let x = c.args.z +ℤ pos c.args.start in
    rw (sums (goal.at.overflow_cast-result-2 c).Start, to_z-of_z (fits (goal.at.overflow_cast-result-2 c).Start)) (omega (linear, sum c.args.z (pos c.args.start), abs x, apart x))

pub returns : goal.returns
unfolding counted
returns c = rw (sums (goal.at.returns c).Start, to_z-of_z (fits (goal.at.returns c).Start))
