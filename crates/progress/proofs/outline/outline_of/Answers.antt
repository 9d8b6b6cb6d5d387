-- `outline_of` meets its contract: the tables have room for the activities, few or not.
use native.Mathlib.Omega.{arith}
use Rattle.book.proofs.Plan.{activities_most}
use Rattle.progress.proofs.outline.outline_of.Goals as goal

pub roll_sized-requires : goal.roll_sized-requires
roll_sized-requires c = record { opened = c.requires; room = (omega (arith, c.if-opened.true), omega (arith, c.if-opened.true)); most = (omega arith, omega arith) }

pub roll_sized-requires-2 : goal.roll_sized-requires-2
roll_sized-requires-2 c = record { opened = c.requires; room = (omega (arith, activities_most c.requires.plan), omega (arith, activities_most c.requires.plan)); most = (omega arith, omega arith) }
