-- `gregorian::count::signed_from` meets its contract.
-- Assumes nothing.
use mathlib.Core.Path.{◌≡◌}
use Prim.Native.Nat.{ℕ, ◌<◌, ◌^◌}
use native.Mathlib.Omega.{arith}
use lib.IntN.{pos, ◌-ℤ◌}
use mir.Syntax.{w32}
use mir.Val.{SFits, to_z}
use mir.Facts.{to_z_pos, to_z-of_z}
use Rattle.integer.specs.Linear.{linear, dif}
use Rattle.gregorian.specs.Count.{signed}
use Rattle.gregorian.proofs.count.signed_from.Goals as goal
use Rattle.gregorian.proofs.count.signed_from.Goals.{Start}

fits : (c : Start) → SFits w32 (pos c.args.n -ℤ pos c.args.start)
fits c = omega (linear, dif (pos c.args.n) (pos c.args.start))

-- the code's difference
difference : (c : Start) → to_z w32 c.args.n -ℤ to_z w32 c.args.start ≡ pos c.args.n -ℤ pos c.args.start
difference c = rw (to_z_pos w32 (low c.args.n (omega arith)), to_z_pos w32 (low c.args.start (omega arith)))
  where
    low : (n : ℕ) → n < 8000000 → n < 2 ^ 31
    low n h = omega arith

pub overflow_sub-result : goal.overflow_sub-result
overflow_sub-result c = rw (difference (goal.at.overflow_sub-result c).Start) (fits (goal.at.overflow_sub-result c).Start)

pub returns : goal.returns
unfolding signed
returns c = rw (difference (goal.at.returns c).Start, to_z-of_z (fits (goal.at.returns c).Start))
