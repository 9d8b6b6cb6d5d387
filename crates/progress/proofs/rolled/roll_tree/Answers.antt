-- `roll_tree` meets its contract: the tables have room for the activities, few or not.
use native.Mathlib.Omega.{arith}
use Rattle.book.proofs.Plan.{activities_most}
use Rattle.progress.proofs.rolled.roll_tree.Goals as goal

pub tree_sized-requires : goal.tree_sized-requires
tree_sized-requires c = record { opened = c.requires.opened; room = (omega (arith, c.if-opened.true), omega (arith, c.if-opened.true)); most = (omega arith, omega arith); parents_len = c.requires.parents_len }

pub tree_sized-requires-2 : goal.tree_sized-requires-2
tree_sized-requires-2 c = record { opened = c.requires.opened; room = (omega (arith, activities_most c.requires.opened.plan), omega (arith, activities_most c.requires.opened.plan)); most = (omega arith, omega arith); parents_len = c.requires.parents_len }
