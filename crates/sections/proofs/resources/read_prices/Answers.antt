-- `read_prices` meets its contract: one price a turn.
use Rattle.sections.proofs.Lists.{going_none, going_more, going_end}
use Rattle.sections.proofs.resources.read_prices.Goals as goal

pub loop-init : goal.loop-init
loop-init c = going_none _ _ _ _ _ _

pub loop-preserved : goal.loop-preserved
loop-preserved c = going_more c.loop.invariant c.loop-test.true c.read_price-next.ensures

pub returns : goal.returns
returns c = record { lead = c.field-lead.ensures; rest = going_end c.loop.invariant c.loop-test.false }
