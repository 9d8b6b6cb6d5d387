-- `widen` meets its contract: by the span's first date.
use Rattle.spans.proofs.Covering.{widened_none, widened_some}
use Rattle.spans.proofs.stretches.widen.Goals as goal

pub returns-then-first-eq0 : goal.returns-then-first-eq0
returns-then-first-eq0 c = widened_none c.args.known c.args.first c.args.last c.if-first-eq0.true

pub returns : goal.returns
returns c =
    rw (c.max-2.ensures, c.min.ensures, c.max.ensures) (widened_some c.args.known c.args.first c.args.last c.if-first-eq0.false)
