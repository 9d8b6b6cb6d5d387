-- `measure_by` meets its contract: the activity's row and the units, then its share.
use Prim.Native.Nat.{◌<◌}
use native.Mathlib.Omega.{arith}
use mathlib.Core.Path.{◌∙◌}
use lib.ListN.{length}
use mir.Syntax.{w64}
use borrow.Author.Rules.{rules}
use Rattle.integer.specs.Linear.{back}
use Rattle.format.specs.InRange.{ActivityInRange}
use Rattle.format.specs.Verdict.{content}
use Rattle.format.proofs.Theorems.{content_in_range}
use Rattle.book.proofs.Plan.{activities_count, activities_in_range}
use Rattle.model.specs.Lookup.{no_activity, activity_at}
use Rattle.activities.proofs.Scheduling.{row_long, row_working, row_remaining}
use Rattle.earned.proofs.Shares.{share_row}
use Rattle.progress.proofs.performance.measure_by.Goals as goal
use Rattle.progress.proofs.performance.measure_by.Goals.{Start}

inside : (s : Start) → s.args.activity < length (content s.args.book.now).activities
inside s = omega (arith, s.requires.activity_lt_count, activities_count s.requires.opened.plan)

in_range_lem : (s : Start) → let plan = s.args.opened.plan in ActivityInRange plan.calendars.count plan.activities.count (activity_at (content s.args.book.now) s.args.activity)
in_range_lem s = activities_in_range s.requires.opened.plan s.args.activity no_activity (inside s)

pub share_done-requires : goal.share_done-requires
share_done-requires c =
    let b = content c.args.book.now in
    let a = activity_at b c.args.activity in
    let e = c.row_at-row.ensures in
    record { i_in_bounds = omega (arith, row_long b.data_date a e); minutes = (rw (row_working b.data_date a e) (in_range_lem (goal.at.share_done-requires c).Start).working_minutes, rw (row_remaining b.data_date a e) (in_range_lem (goal.at.share_done-requires c).Start).remaining_minutes) }

pub returns : goal.returns
returns c =
    let b = content c.args.book.now in
    let i = c.args.activity in
    let units = c.fill_units.ensures in
    c.share_done.ensures
    ∙ share_row b i c.row_at-row.ensures (content_in_range c.args.book.now c.requires.opened.plan.accepted) (inside (goal.at.returns c).Start) c.args.opened.technique c.requires.opened.technique
    (back w64 _ c.done-1.given ∙ units.done i (inside (goal.at.returns c).Start)) (back w64 _ c.all-1.given ∙ units.total i (inside (goal.at.returns c).Start))
