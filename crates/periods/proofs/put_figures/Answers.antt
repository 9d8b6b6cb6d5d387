-- `put_figures` meets its contract: one table after the other.
use borrow.Author.Rules.{rules}
use native.Mathlib.Omega.{arith}
use mathlib.Core.Path.{sym, ◌∙◌}
use Rattle.format.specs.Verdict.{content}
use Rattle.format.proofs.Theorems.{content_in_range}
use Rattle.book.proofs.Plan.{activities_most}
use Rattle.periods.proofs.Made.{rows_are, records_listed, records_ranged}
use Rattle.periods.proofs.put_figures.Goals as goal

pub project_planned-marks-requires : goal.project_planned-marks-requires
project_planned-marks-requires c =
    let s = c.requires in
    record { opened = s.opened; out_len = omega (arith, s.finishes_len.0, s.finishes_len.1, c.finishes-1.given) }

pub take_records-requires : goal.take_records-requires
take_records-requires c =
    let s = c.requires in
    let n = c.finishes-1.given ∙ s.finishes_len.0 in
    record { every = records_ranged s.opened n; activities_bound = activities_most s.opened.plan; figures_len = omega (arith, s.finishes_len.2, n) }

pub put_points-requires : goal.put_points-requires
put_points-requires c =
    let s = c.requires in
    let long = s.finishes_len in
    let n = c.finishes-1.given ∙ long.0 in (
      omega (arith, n, long.1, c.planned-1.given),
      omega (arith, n, long.2, c.figures-1.given),
      omega (arith, n, long.3),
    )

pub returns : goal.returns
returns c =
    let o = c.requires.opened in
    let b = content c.args.book.now in
    let long = c.requires.finishes_len in
    let n = c.finishes-1.given ∙ long.0 in
    let made = c.project_planned-marks.ensures in
    c.put_points.ensures
    ∙ rows_are b (content_in_range c.args.book.now o.plan.accepted) c.project_planned-marks.result made.marks {before = c.args.figures.now} (c.fill_finishes.ensures ∙ sym o.ledger.periods) made.planned
    (records_listed o n) (omega (arith, n, long.2)) c.requires.by_index c.take_records.ensures
