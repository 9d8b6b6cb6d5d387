-- `read_amounts` meets its contract: one amount a turn.
use native.Mathlib.Numerals.{add-one}
use Rattle.sections.proofs.Lists.{going_none, going_more, going_end}
use Rattle.sections.proofs.budgets.read_amounts.Goals as goal

pub loop-init : goal.loop-init
loop-init c = going_none _ _ _ _ _ _

pub loop-preserved : goal.loop-preserved
loop-preserved c = going_more c.loop.invariant c.loop-test.true c.amount-next.ensures

pub returns : goal.returns
returns c = record { lead = rw add-one at c.field-lead.ensures; rest = going_end c.loop.invariant c.loop-test.false }
