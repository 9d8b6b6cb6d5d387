-- `overlay_exceptions` meets its contract: each element is set after those before it.
use Rattle.records.specs.Decoded.{exception_of}
use Rattle.sections.specs.Sections.{elements}
use Rattle.calendar.proofs.Overlays.{overlaying_none, overlaying_more, overlaying_end, overlaying_long}
use Rattle.calendar.proofs.days.overlay_exceptions.Goals as goal

pub loop-init : goal.loop-init
loop-init c = overlaying_none _ _ _ _ _ _ _ _ _ _

pub loop-preserved : goal.loop-preserved
unfolding exception_of
loop-preserved c =
    overlaying_more c.loop.invariant c.loop-test.true c.read_exception-e.ensures c.mark.ensures

pub shape_of-days : goal.shape_of-days
shape_of-days c = overlaying_long c.loop.invariant c.loop-test.false

pub returns : goal.returns
unfolding elements
returns c = overlaying_end c.loop.invariant c.loop-test.false
