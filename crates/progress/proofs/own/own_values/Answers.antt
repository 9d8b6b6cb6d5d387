-- `own_values` meets its contract: the tables have room for the activities, few or not.
use native.Mathlib.Omega.{arith}
use Rattle.book.proofs.Plan.{activities_most}
use Rattle.progress.proofs.own.own_values.Goals as goal

pub own_sized-requires : goal.own_sized-requires
own_sized-requires c = record { opened = c.requires.opened; room = (omega (arith, c.if-opened.true), omega (arith, c.if-opened.true), omega (arith, c.if-opened.true)); most = (omega arith, omega arith, omega arith); schedule_len = c.requires.schedule_len }

pub own_sized-requires-2 : goal.own_sized-requires-2
own_sized-requires-2 c = record { opened = c.requires.opened; room = (omega (arith, activities_most c.requires.opened.plan), omega (arith, activities_most c.requires.opened.plan), omega (arith, activities_most c.requires.opened.plan)); most = (omega arith, omega arith, omega arith); schedule_len = c.requires.schedule_len }
