-- `widen` meets its contract: by what is given.
use mathlib.Core.Path.{ap₂, ◌∙◌}
use Prim.Native.Nat.{ℕ}
use Rattle.spans.specs.declared.Stretch.{Stretch}
use Rattle.variances.proofs.Reaching.{widened_none, widened_some}
use Rattle.variances.proofs.stretch.widen.Goals as goal

pub returns-then-date-eq0 : goal.returns-then-date-eq0
returns-then-date-eq0 c = widened_none c.args.known c.args.date c.if-date-eq0.true

pub returns : goal.returns
returns c =
    let a = c.args in
    ap₂ {C = Stretch} (λ (x y : ℕ). record { from = x; to = y }) c.min.ensures c.max.ensures ∙ widened_some a.known a.date c.if-date-eq0.false
