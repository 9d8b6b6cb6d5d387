-- `earned_value_of` meets its contract: the rows, where they fit.
use Prim.Native.Nat.{◌≤◌}
use native.Mathlib.Omega.{arith}
use lib.Seq.{length-take-le}
use Rattle.format.specs.Verdict.{content}
use Rattle.book.proofs.Plan.{activities_count, activities_most}
use Rattle.answers.specs.Rows.{earned_width, earned_value_rows}
use Rattle.answers.proofs.Sized.{Sized, no_room, nothing_there, in_front}
use Rattle.answers.proofs.SizedEarned.{values_sized}
use Rattle.progress.proofs.rolled.earned_value_of.Goals as goal
use Rattle.progress.proofs.rolled.earned_value_of.Goals.{Start}

most : (s : Start) → s.args.opened.plan.activities.count ≤ 500
most s = activities_most s.requires.plan

size : (s : Start) → Sized (earned_value_rows s.args.date (content s.args.book.now)) s.args.opened.plan.activities.count earned_width
size s = values_sized s.args.date (content s.args.book.now) s.args.opened.plan.activities.count (activities_count s.requires.plan)

pub returns-then-out-n : goal.returns-then-out-n
returns-then-out-n c =
    no_room (earned_value_rows c.args.date (content c.args.book.now)) c.args.out.now (size (goal.at.returns-then-out-n c).Start) (omega arith)

pub returns-then-count-eq0 : goal.returns-then-count-eq0
returns-then-count-eq0 c =
    nothing_there (earned_value_rows c.args.date (content c.args.book.now)) c.args.out.now (size (goal.at.returns-then-count-eq0 c).Start) c.if-count-eq0.true

pub fill_sized-requires : goal.fill_sized-requires
fill_sized-requires c = record { opened = c.requires; room = omega (arith, c.if-count-le-FEW.true); most = omega arith; out_len = length-take-le _ _ (omega (arith, c.if-out-n.false)) }

pub returns-then-count-le-FEW : goal.returns-then-count-le-FEW
returns-then-count-le-FEW c =
    in_front (earned_value_rows c.args.date (content c.args.book.now)) c.args.out.now (size (goal.at.returns-then-count-le-FEW c).Start) (omega (arith, c.if-out-n.false)) _ c.fill_sized.ensures

pub fill_sized-requires-2 : goal.fill_sized-requires-2
fill_sized-requires-2 c = record { opened = c.requires; room = omega (arith, most (goal.at.fill_sized-requires-2 c).Start); most = omega arith; out_len = length-take-le _ _ (omega (arith, c.if-out-n.false)) }

pub returns : goal.returns
returns c =
    in_front (earned_value_rows c.args.date (content c.args.book.now)) c.args.out.now (size (goal.at.returns c).Start) (omega (arith, c.if-out-n.false)) _ c.fill_sized-2.ensures

pub overflow_mul-n : goal.overflow_mul-n
overflow_mul-n c = omega (arith, most (goal.at.overflow_mul-n c).Start)
