-- `rows_by` meets its contract: the dates that are asked are narrowed to the stretch of the planned days.
use mathlib.Core.Path.{◌≡◌}
use native.Mathlib.Omega.{arith}
use Rattle.format.specs.Verdict.{content}
use Rattle.book.proofs.Plan.{assignments_most, expenses_most}
use Rattle.model.specs.Costs.{spending_between}
use Rattle.model.specs.declared.Way.TheVariants.{Planned}
use Rattle.activities.proofs.Scheduling.{schedule_long_lem, schedule_spans}
use Rattle.spending.specs.Asking.{IsAsked}
use Rattle.spending.proofs.Written.{writes_same, writes_none}
use Rattle.spending.proofs.Asking.{planned_dated, planned_covers, spending_narrow, spending_none}
use Rattle.spending.proofs.rows_by.Goals as goal
use Rattle.spending.proofs.rows_by.Goals.{Else-asked}

pub stretch_of-known-requires : goal.stretch_of-known-requires
stretch_of-known-requires c =
    record {
      table_len = (schedule_long_lem c.requires.opened.plan c.requires.schedule_value, omega arith);
      dated_spans = planned_dated c.args.schedule.now (schedule_spans c.requires.opened.plan c.requires.schedule_value Planned);
    }

pub returns-then-asked : goal.returns-then-asked
returns-then-asked c =
    writes_none c.args.grain _
    (spending_none c.requires.opened.plan c.requires.schedule_value (planned_covers c.args.schedule.now c.stretch_of-known.ensures) c.args.between.from c.args.between.to c.max.ensures c.min.ensures c.if-asked.true)

pub overflow_add-charges : goal.overflow_add-charges
overflow_add-charges c = let plan = c.requires.opened.plan in omega (arith, assignments_most plan, expenses_most plan)

-- what is asked, where the first date is not after the last
asked_is : (c : Else-asked) → IsAsked c.args.book.now (record { opened = c.args.opened; grain = c.args.grain; known = c.stretch_of-known.result; frame = c.frame_of-frame.result; from = c.max.result; to = c.min.result }) c.args.schedule.now
asked_is c =
    record {
      opened = c.requires.opened;
      scheduled = c.requires.schedule_value;
      covers = planned_covers c.args.schedule.now c.stretch_of-known.ensures;
      framed = c.frame_of-frame.ensures;
      begins = omega (arith, c.max.ensures);
      rises = c.if-asked.false;
      ends = omega (arith, c.min.ensures);
    }

-- its rows are those between the two dates
narrow : (c : Else-asked) → spending_between (content c.args.book.now) c.max.result c.min.result ≡ spending_between (content c.args.book.now) c.args.between.from c.args.between.to
narrow c =
    spending_narrow c.requires.opened.plan c.requires.schedule_value (planned_covers c.args.schedule.now c.stretch_of-known.ensures) c.args.between.from c.args.between.to c.max.ensures c.min.ensures

pub few_rows-requires : goal.few_rows-requires
few_rows-requires c = record { asked = asked_is (goal.at.few_rows-requires c).Else-asked; are_few = c.are_few.ensures c.if-are_few.true }

pub returns-then-are_few : goal.returns-then-are_few
returns-then-are_few c = writes_same c.args.grain (narrow (goal.at.returns-then-are_few c).Else-asked) c.few_rows.ensures

pub many_rows-requires : goal.many_rows-requires
many_rows-requires c = asked_is (goal.at.many_rows-requires c).Else-asked

pub returns : goal.returns
returns c = writes_same c.args.grain (narrow (goal.at.returns c).Else-asked) c.many_rows.ensures
