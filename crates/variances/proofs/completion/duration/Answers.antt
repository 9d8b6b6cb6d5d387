-- `duration` meets its contract: minutes are far below the sign bit.
use native.Mathlib.Omega.{arith}
use mathlib.Core.Path.{refl}
use mir.Syntax.{w64}
use mir.Val.{to_z}
use mir.Facts.{to_z-of_z, to_z_pos}
use Rattle.integer.specs.Linear.{linear, dif, low}
use Rattle.variances.proofs.completion.duration.Goals as goal
use Rattle.variances.proofs.completion.duration.Goals.{Start}

pub overflow_sub-minutes : goal.overflow_sub-minutes
overflow_sub-minutes c =
    let minutes = c.args.minutes in
    let working = c.args.working in
    omega (linear, low w64 minutes (omega (arith, c.requires.0)), low w64 working (omega (arith, c.requires.1)), dif (to_z w64 minutes) (to_z w64 working))

pub returns : goal.returns
returns c =
    rw (
      c.to_bits.ensures,
      to_z-of_z (overflow_sub-minutes (goal.at.returns c).Start),
      to_z_pos w64 {n = c.args.minutes} (omega (arith, c.requires.0)),
      to_z_pos w64 {n = c.args.working} (omega (arith, c.requires.1)),
    ) refl
