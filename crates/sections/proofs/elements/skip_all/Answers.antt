-- `skip_all` meets its contract: one element a turn.
use Rattle.sections.proofs.Lists.{going_none, going_more, going_end, with_value}
use Rattle.sections.proofs.elements.skip_all.Goals as goal

pub loop-init : goal.loop-init
loop-init c = going_none _ _ _ _ _ _

pub loop-preserved : goal.loop-preserved
loop-preserved c = going_more c.loop.invariant c.loop-test.true (with_value c.skip-next.ensures)

pub returns : goal.returns
returns c = going_end c.loop.invariant c.loop-test.false
