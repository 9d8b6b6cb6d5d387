-- `performance` meets its contract: the table of units has room for the activities, few or not.
use native.Mathlib.Omega.{arith}
use Rattle.book.proofs.Plan.{activities_most}
use Rattle.progress.proofs.performance.performance.Goals as goal

pub measure_sized-requires : goal.measure_sized-requires
measure_sized-requires c = record { opened = c.requires.opened; room = omega (arith, c.if-opened.true); most = omega arith; activity_lt_count = c.requires.activity_lt_count }

pub measure_sized-requires-2 : goal.measure_sized-requires-2
measure_sized-requires-2 c = record { opened = c.requires.opened; room = omega (arith, activities_most c.requires.opened.plan); most = omega arith; activity_lt_count = c.requires.activity_lt_count }
