-- `roll_values` meets its contract: the parents have room, few or not.
use native.Mathlib.Omega.{arith}
use Rattle.book.proofs.Plan.{activities_most}
use Rattle.progress.proofs.rolled.roll_values.Goals as goal

pub values_sized-requires : goal.values_sized-requires
values_sized-requires c = record { opened = c.requires.opened; room = omega (arith, c.if-opened.true); most = omega arith; out_len = c.requires.out_len }

pub values_sized-requires-2 : goal.values_sized-requires-2
values_sized-requires-2 c = record { opened = c.requires.opened; room = omega (arith, activities_most c.requires.opened.plan); most = omega arith; out_len = c.requires.out_len }
