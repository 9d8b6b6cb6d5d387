-- `measure` meets its contract: the table of units has room for the activities, few or not.
use Prim.Native.Nat.{◌≤◌}
use native.Mathlib.Omega.{arith}
use lib.ListN.{length}
use Rattle.format.specs.Verdict.{content}
use Rattle.book.proofs.Plan.{activities_count, activities_most}
use Rattle.baseline.proofs.Listing.{budgets_long_lem}
use Rattle.earned.proofs.measured.measure.Goals as goal
use Rattle.earned.proofs.measured.measure.Goals.{Start}

most : (s : Start) → length s.args.budgets.now ≤ 500
most s =
    omega (arith, budgets_long_lem (content s.args.book.now) s.requires.schedule_value.2, activities_count s.requires.opened.plan, activities_most s.requires.opened.plan)

pub measure_sized-requires-2 : goal.measure_sized-requires-2
measure_sized-requires-2 c =
    let r = c.requires in
    let h = most (goal.at.measure_sized-requires-2 c).Start in
    record { opened = r.opened; schedule_value = r.schedule_value; room = omega arith; most = omega arith; out_len = r.out_len }
