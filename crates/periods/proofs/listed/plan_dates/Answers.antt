-- `plan_dates` meets its contract: the spans and the budgets, then the values.
use borrow.Author.Rules.{rules}
use Rattle.periods.proofs.listed.plan_dates.Goals as goal

pub phase-marks-requires : goal.phase-marks-requires
phase-marks-requires c = let s = c.requires in record { opened = s.opened; listed_len = s.listed_len }

pub sized_dates-requires : goal.sized_dates-requires
sized_dates-requires c =
    let s = c.requires in
    let phased = c.phase-marks.ensures in
    record { opened = s.opened; listed_value = (phased.spanned, phased.budgeted); marks_leaves = phased.marked; out_len = s.out_len }

pub returns : goal.returns
returns c = record {
  marks = c.phase-marks.ensures.marked;
  planned = c.sized_dates.ensures;
}
