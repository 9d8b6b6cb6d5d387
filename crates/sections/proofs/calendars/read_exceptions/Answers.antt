-- `read_exceptions` meets its contract: each exception is read after the one before it.
use Rattle.records.specs.Decoded.{exception_of}
use Rattle.sections.proofs.Lists.{going_none, going_more, going_end}
use Rattle.sections.proofs.calendars.read_exceptions.Goals as goal

pub loop-init : goal.loop-init
loop-init c = going_none _ _ _ _ _ _

pub loop-preserved : goal.loop-preserved
unfolding exception_of
loop-preserved c = going_more c.loop.invariant c.loop-test.true c.read_exception-e.ensures

pub returns : goal.returns
returns c = record { lead = c.field-lead.ensures; rest = going_end c.loop.invariant c.loop-test.false }
