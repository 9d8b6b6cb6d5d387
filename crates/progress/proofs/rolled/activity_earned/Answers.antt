-- `activity_earned` meets its contract: the table has room for the activities, few or not.
use native.Mathlib.Omega.{arith}
use Rattle.book.proofs.Plan.{activities_most}
use Rattle.progress.proofs.rolled.activity_earned.Goals as goal

pub figures_sized-requires : goal.figures_sized-requires
figures_sized-requires c = record { opened = c.requires.opened; room = omega (arith, c.if-opened.true); most = omega arith; activity_lt_count = c.requires.activity_lt_count }

pub figures_sized-requires-2 : goal.figures_sized-requires-2
figures_sized-requires-2 c = record { opened = c.requires.opened; room = omega (arith, activities_most c.requires.opened.plan); most = omega arith; activity_lt_count = c.requires.activity_lt_count }
