-- `take_records` meets its contract: one record a turn.
use native.Mathlib.Omega.{arith}
use mathlib.Core.Path.{◌∙◌, subst}
use lib.ListN.{length}
use Rattle.format.specs.Format.{period_record}
use Rattle.format.specs.InRange.{PeriodRecordInRange}
use Rattle.records.specs.Decoded.{period_record_of}
use Rattle.sections.specs.Sections.{elements}
use Rattle.calendar.proofs.Parts.{read_length, reading_none, reading_is, reading_more}
use Rattle.periods.proofs.Recording.{recorded_none, recorded_more, recorded_end}
use Rattle.periods.proofs.points.take_records.Goals as goal

pub loop-init : goal.loop-init
loop-init c = (reading_none _ _ _ _, recorded_none)

pub take_record-requires : goal.take_record-requires
unfolding elements period_record_of
take_record-requires c =
    let loop = c.loop in
    let x = period_record_of c.read_period_record-x.result in
    let h = c.loop-test.true in
    let range =
    subst (PeriodRecordInRange (length c.args.finishes.now) c.args.activities) (reading_is _ _ _ _ loop.invariant.0 h c.read_period_record-x.ensures x)
    (c.requires.every loop.counter x (omega (arith, h, read_length (period_record (length c.args.finishes.now) c.args.activities) c.args.book.now c.args.list.count c.args.list.first)))
    in
    record { activity_bound = (omega (arith, range.activity, c.requires.activities_bound), range.period); figures_len = loop.invariant.1.changed.long ∙ c.requires.figures_len }

pub loop-preserved : goal.loop-preserved
loop-preserved c =
    let loop = c.loop in
    let h = c.loop-test.true in
    let is = reading_is _ _ _ _ loop.invariant.0 h c.read_period_record-x.ensures in (
      reading_more _ _ _ _ loop.invariant.0 h c.read_period_record-x.ensures,
      recorded_more loop.invariant.1 (omega (arith, h, read_length (period_record (length c.args.finishes.now) c.args.activities) c.args.book.now c.args.list.count c.args.list.first)) (is (period_record_of c.read_period_record-x.result)) c.take_record.ensures,
    )

pub shape_of-figures : goal.shape_of-figures
shape_of-figures c = c.loop.invariant.1.changed.long

pub returns : goal.returns
unfolding elements
returns c =
    recorded_end c.loop.invariant.1 (omega (arith, c.loop-test.false, read_length (period_record (length c.args.finishes.now) c.args.activities) c.args.book.now c.args.list.count c.args.list.first))
