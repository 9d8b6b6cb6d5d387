-- `by_duration` meets its contract: minutes are far below the sign bit.
use native.Mathlib.Omega.{arith}
use mathlib.Core.Path.{refl, ◌∙◌}
use lib.Ieee.{of_bits}
use mir.Syntax.{w64}
use mir.Val.{to_z}
use mir.Facts.{to_z-of_z, to_z_pos}
use borrow.Author.Rules.{rules}
use Rattle.integer.specs.Linear.{linear, dif, low}
use Rattle.earned.proofs.performance.by_duration.Goals as goal
use Rattle.earned.proofs.performance.by_duration.Goals.{Start}

pub overflow_sub-all : goal.overflow_sub-all
overflow_sub-all c =
    let working = c.args.working in
    let remaining = c.args.remaining in
    omega (linear, low w64 working (omega (arith, c.requires.0)), low w64 remaining (omega (arith, c.requires.1)), dif (to_z w64 working) (to_z w64 remaining))

pub returns : goal.returns
unfolding of_bits
returns c =
    c.unwrap_or.ensures
    ∙ rw (c.ratio.ensures, to_z-of_z (overflow_sub-all (goal.at.returns c).Start), to_z_pos w64 {n = c.args.working} (omega (arith, c.requires.0)), to_z_pos w64 {n = c.args.remaining} (omega (arith, c.requires.1))) refl
