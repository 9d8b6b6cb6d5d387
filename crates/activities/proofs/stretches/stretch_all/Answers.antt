-- `stretch_all` meets its contract: the spans of an activity a turn.
use Prim.Native.Nat.{◌-◌}
use native.Mathlib.Omega.{arith}
use mathlib.Core.Path.{◌≡◌}
use borrow.Author.Rules.{rules}
use Rattle.format.specs.Book.{Book}
use Rattle.format.specs.InRange.{InRange}
use Rattle.model.specs.declared.Way.{Way}
use Rattle.activities.specs.Schedule.{schedule_of, first_place, first_in, last_in}
use Rattle.spans.proofs.Covering.{Covering, covering_none, covers_closed}
use Rattle.activities.proofs.Covering.{covering_ways}
use Rattle.activities.proofs.Scheduling.{schedule_length, schedule_past, spans_dated}
use Rattle.activities.proofs.stretches.stretch_all.Goals as goal

pub loop-i-init : goal.loop-i-init
loop-i-init c = λ book r e way. covering_none _ _

pub loop-i-preserved : goal.loop-i-preserved
loop-i-preserved c = λ book r e. covering_ways c.args.schedule.now (spans_dated book e r) (c.loop-i.invariant book r e) c.widen_ways-known.ensures

pub returns : goal.returns
returns c =
    λ book r e way.
    covers_closed (c.loop-i.invariant book r e way) (λ j h. schedule_past book e j (first_place way) (omega (arith, schedule_length book e, c.loop-i-test.false))) c.close.ensures
