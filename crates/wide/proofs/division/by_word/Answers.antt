-- `by_word` meets its contract: the larger divisor fits, the larger number's high word is below it, and the quotient stays.
-- Assumes nothing.
use mathlib.Core.Path.{◌∙◌}
use Prim.Native.Nat.{◌+◌, ◌*◌, ◌<◌}
use native.Mathlib.Omega.{arith}
use Rattle.wide.proofs.Halves.{high_half}
use Rattle.wide.proofs.Quotients.{large, top_below, same_quotient, two_digits}
use Rattle.wide.proofs.division.by_word.Goals as goal
use Rattle.wide.proofs.division.by_word.Goals.{After-product-p}

below : (c : After-product-p) → let a = c.args in let k = c.factor-k.result in a.high * k + c.product-p.result.high < a.d * k
below c =
    let f = c.factor-k in
    top_below c.args.high c.args.low c.args.d f.result c.product-p.result.high c.product-p.result.low
    f.ensures c.requires.0 (omega arith) c.product-p.ensures

pub overflow_mul-high : goal.overflow_mul-high
overflow_mul-high c = omega (arith, below (goal.at.overflow_mul-high c).After-product-p, c.factor-k.ensures)

pub overflow_add-high : goal.overflow_add-high
overflow_add-high c = omega (arith, below (goal.at.overflow_add-high c).After-product-p, c.factor-k.ensures)

pub step-first-requires : goal.step-first-requires
step-first-requires c =
    let f = c.factor-k in
    (below (goal.at.step-first-requires c).After-product-p, (high_half c.product-p.result.low c.struct_known-2-1.given.1.0.fits, large c.args.d f.result f.ensures c.requires.1))

pub step-second-requires : goal.step-second-requires
step-second-requires c =
    let f = c.factor-k in
    omega (arith, c.step-first.ensures.rest, large c.args.d f.result f.ensures c.requires.1)

pub returns : goal.returns
returns c =
    let first = c.step-first in
    let second = c.step-second in
    let f = c.factor-k in
    let k = f.result in
    let high = c.product-p.result.high in
    let low = c.product-p.result.low in
    two_digits (c.args.high * k + high) low (c.args.d * k) first.result.digit first.result.rest second.result.digit second.result.rest
    first.ensures.whole second.ensures.whole second.ensures.rest
    ∙ same_quotient c.args.high c.args.low c.args.d k high low f.ensures c.requires.0 (omega arith) c.product-p.ensures
