-- `step` meets its contract: the guess is never too small, and each turn lowers one that is too large. Assumes nothing.
use Prim.Native.Nat.{◌+◌, ◌*◌, ◌/◌, ◌%◌, ◌≤◌, ◌<◌}
use native.Mathlib.Omega.{arith}
use Rattle.wide.specs.Words.{half, word, Divided}
use Rattle.wide.proofs.Halves.{short}
use Rattle.wide.proofs.Digits.{taken, remains, first_fits, first_guess, positive, next_guess, last_guess}
use Rattle.wide.proofs.division.step.Goals as goal
use Rattle.wide.proofs.division.step.Goals.{After-min-q, After-loop-left, At-loop-left}

pub overflow_sub-gap : goal.overflow_sub-gap
overflow_sub-gap c = omega arith

pub overflow_sub-gap-2 : goal.overflow_sub-gap-2
overflow_sub-gap-2 c = omega arith

pub nonzero_div-rest : goal.nonzero_div-rest
nonzero_div-rest c = omega arith

pub overflow_sub-min : goal.overflow_sub-min
overflow_sub-min c = omega arith

fits : (c : After-min-q) → c.min-q.result * (c.args.d / half) ≤ c.args.rest
fits c =
    first_fits c.args.rest c.args.next c.args.d c.requires.0 c.requires.1.0 c.requires.1.1 c.min-q.result (omega (arith, c.min-q.ensures))

pub overflow_mul-left : goal.overflow_mul-left
overflow_mul-left c = omega (arith, fits (goal.at.overflow_mul-left c).After-min-q)

pub overflow_sub-left : goal.overflow_sub-left
overflow_sub-left c = omega (arith, fits (goal.at.overflow_sub-left c).After-min-q)

pub loop-left-init : goal.loop-left-init
loop-left-init c =
    first_guess c.args.rest c.args.next c.args.d c.requires.0 c.requires.1.0 c.requires.1.1 c.min-q.result (omega (arith, c.min-q.ensures))

-- the low half of d, taken q times
low_fits : (c : At-loop-left) → taken c.args.next c.args.d c.loop-left.q < word
low_fits c = omega (arith, short {a = c.loop-left.q} {b = c.args.d % half} c.loop-left.invariant.digit (omega arith))

pub overflow_mul-q : goal.overflow_mul-q
overflow_mul-q c = omega (arith, low_fits (goal.at.overflow_mul-q c).At-loop-left)

pub overflow_add-q : goal.overflow_add-q
overflow_add-q c = omega (arith, low_fits (goal.at.overflow_add-q c).At-loop-left)

pub overflow_sub-q : goal.overflow_sub-q
overflow_sub-q c =
    omega (arith, positive c.args.rest c.args.next c.args.d c.requires.1.0 c.loop-left.q c.loop-left.left c.loop-left-test.true)

pub overflow_add-left : goal.overflow_add-left
overflow_add-left c = omega (arith, low_fits (goal.at.overflow_add-left c).At-loop-left)

pub loop-left-smaller : goal.loop-left-smaller
loop-left-smaller c = omega (arith, overflow_sub-q c)

pub loop-left-preserved : goal.loop-left-preserved
loop-left-preserved c =
    next_guess c.args.rest c.args.next c.args.d c.requires.1.0 c.loop-left.q c.loop-left.left c.loop-left.invariant c.loop-left-test.true

pub overflow_mul-taken : goal.overflow_mul-taken
overflow_mul-taken c = omega (arith, low_fits (goal.at.overflow_mul-taken c).At-loop-left)

pub overflow_add-taken : goal.overflow_add-taken
overflow_add-taken c = omega (arith, low_fits (goal.at.overflow_add-taken c).At-loop-left)

done : (c : After-loop-left)
    → Divided (c.args.rest * half + c.args.next) c.args.d c.loop-left.q (remains c.args.rest c.args.next c.args.d c.requires.1.0 c.loop-left.q c.loop-left.left)
done c =
    last_guess c.args.rest c.args.next c.args.d c.requires.1.0 c.loop-left.q c.loop-left.left c.loop-left.invariant c.loop-left-test.false

pub overflow_sub-result : goal.overflow_sub-result
overflow_sub-result c = omega arith

pub overflow_mul-result : goal.overflow_mul-result
overflow_mul-result c = omega (arith, (done (goal.at.overflow_mul-result c).After-loop-left).rest)

pub overflow_sub-result-2 : goal.overflow_sub-result-2
overflow_sub-result-2 c = omega arith

pub overflow_sub-result-3 : goal.overflow_sub-result-3
overflow_sub-result-3 c = omega arith

pub overflow_add-result : goal.overflow_add-result
overflow_add-result c = omega (arith, (done (goal.at.overflow_add-result c).After-loop-left).rest)

pub returns : goal.returns
returns c = done (goal.at.returns c).After-loop-left
