-- `take_record` meets its contract: by its activity's mark.
use borrow.Author.Rules.{rules}
use native.Mathlib.Omega.{arith}
use borrow.Author.Tests.{eq-eqb, ne_eqb}
use Rattle.records.specs.Decoded.{period_record_of}
use Rattle.periods.proofs.Recording.{record_taken, record_passed}
use Rattle.periods.proofs.points.take_record.Goals as goal

pub add_entry-requires : goal.add_entry-requires
unfolding period_record_of
add_entry-requires c =
    (omega (arith, c.entry_of-entry.ensures.period, c.requires.activity_bound.1), c.requires.figures_len)

pub returns-then-marks-x-eq0 : goal.returns-then-marks-x-eq0
unfolding period_record_of
returns-then-marks-x-eq0 c =
    let a = c.args in
    record_taken a.marks.now a.finishes.now (period_record_of a.x) a.figures.now (eq-eqb _ 0 c.if-marks-x-eq0.true) c.entry_of-entry.ensures c.add_entry.ensures

pub returns-else-marks-x-eq0 : goal.returns-else-marks-x-eq0
unfolding period_record_of
returns-else-marks-x-eq0 c =
    let a = c.args in
    record_passed a.marks.now a.finishes.now (period_record_of a.x) a.figures.now (ne_eqb _ 0 c.if-marks-x-eq0.false)
