-- `phase` meets its contract: the tables have room for the activities, few or not.
use Prim.Native.Nat.{◌≤◌}
use native.Mathlib.Omega.{arith}
use lib.ListN.{length}
use Rattle.book.proofs.Plan.{activities_most}
use Rattle.phased.proofs.phase.Goals as goal
use Rattle.phased.proofs.phase.Goals.{Start}

most : (s : Start) → length s.args.budgets.now ≤ 500
most s = omega (arith, s.requires.listed_len.1, activities_most s.requires.opened.plan)

pub phase_sized-requires : goal.phase_sized-requires
phase_sized-requires c =
    let r = c.requires in
    record { opened = r.opened; listed_len = r.listed_len; room = (omega (arith, c.if-budgets-le-FEW.true), omega (arith, c.if-budgets-le-FEW.true)); most = (omega arith, omega arith) }

pub phase_sized-requires-2 : goal.phase_sized-requires-2
phase_sized-requires-2 c =
    let r = c.requires in
    let few = most (goal.at.phase_sized-requires-2 c).Start in
    record { opened = r.opened; listed_len = r.listed_len; room = (omega (arith, few), omega (arith, few)); most = (omega arith, omega arith) }
