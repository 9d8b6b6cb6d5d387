-- `between` meets its contract: the counts are far below the sign bit.
use native.Mathlib.Omega.{arith}
use mathlib.Core.Path.{refl}
use mir.Syntax.{w64}
use mir.Val.{to_z}
use mir.Facts.{to_z-of_z, to_z_pos}
use Rattle.integer.specs.Linear.{linear, dif, low}
use Rattle.calendar.specs.Tables.{entry}
use Rattle.variances.proofs.days.between.Goals as goal
use Rattle.variances.proofs.days.between.Goals.{After-shared_slice_known-3-1}

pub overflow_sub-through-2 : goal.overflow_sub-through-2
overflow_sub-through-2 c =
    let a = c.args in
    let before = entry a.base a.counts.now a.from in
    let through = entry a.base a.counts.now a.to in
    omega (linear, low w64 before (omega (arith, c.requires.has_count.small)), low w64 through (omega (arith, c.requires.has_count_2.small)), dif (to_z w64 through) (to_z w64 before))

pub returns : goal.returns
returns c =
    let a = c.args in
    rw (
      c.to_bits.ensures,
      to_z-of_z (overflow_sub-through-2 (goal.at.returns c).After-shared_slice_known-3-1),
      to_z_pos w64 {n = entry a.base a.counts.now a.to} (omega (arith, c.requires.has_count_2.small)),
      to_z_pos w64 {n = entry a.base a.counts.now a.from} (omega (arith, c.requires.has_count.small)),
    ) refl
