-- `span_of` meets its contract: its dates are counted.
use mathlib.Core.Path.{ap}
use Prim.Native.Nat.{ℕ, ◌*◌}
use native.Mathlib.Nat.{mul-le-mul_right}
use native.Mathlib.Omega.{arith}
use Rattle.laid.specs.declared.days.Span.{Span}
use Rattle.laid.specs.declared.days.Tested.{Tested}
use Rattle.laid.proofs.days.span_of.Goals as goal

pub overflow_mul-row : goal.overflow_mul-row
overflow_mul-row c = record { fits = omega (arith, mul-le-mul_right c.args.width c.requires.calendar_bound.0) }

pub returns : goal.returns
returns c =
    let s = c.args in
    let span : ℕ → Span = λ n. record { row = s.calendar * s.width; base = s.base; first = s.first; last = s.last; working = n } in
    ap (λ (t : Tested). span t.working) c.test_dates-found.ensures
