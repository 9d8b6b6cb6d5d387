-- `add_leaves` meets its contract: the own figures, then their sums over the leaves.
use native.Mathlib.Omega.{arith}
use borrow.Author.Rules.{rules}
use Rattle.format.specs.Verdict.{content}
use Rattle.book.proofs.Plan.{activities_most}
use Rattle.progress.proofs.project.add_leaves.Goals as goal

pub parent_marks-marks-requires : goal.parent_marks-marks-requires
parent_marks-marks-requires c =
    omega (arith, c.schedule-1.given, c.requires.schedule_len.0, activities_most c.requires.opened.plan)

pub sums-requires : goal.sums-requires
sums-requires c =
    omega (arith, c.own-1.given, c.requires.schedule_len.1, activities_most c.requires.opened.plan)

pub returns : goal.returns
returns c =
    let b = content c.args.book.now in
    c.sums.ensures b c.args.date (c.parent_marks-marks.ensures b c.own_values.ensures.schedule) c.own_values.ensures.own
