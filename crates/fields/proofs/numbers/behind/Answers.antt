-- `behind` meets its contract: two bytes, three or four.
use Prim.Native.Nat.{◌+◌, ◌<◌}
use native.Mathlib.Omega.{arith}
use Rattle.fields.proofs.Groups.{two_bytes, three_bytes, four_bytes}
use Rattle.fields.proofs.numbers.behind.Goals as goal
use Rattle.fields.proofs.numbers.behind.Goals.{After-from-fourth, After-from-second, After-from-third}

-- each of them is a byte
first : (c : After-from-second) → c.args.first < 256
first c = omega (arith, c.requires.byte, c.shared_slice_known-2-1.given c.args.place)

second : (c : After-from-second) → c.from-second.result < 256
second c = omega (arith, c.from-second.ensures, c.shared_slice_known-2-1.given (c.args.place + 1))

third : (c : After-from-third) → c.from-third.result < 256
third c =
    let place = c.args.place in
    omega (arith, c.from-third.ensures, c.shared_slice_known-3-1.given (place + 2))

fourth : (c : After-from-fourth) → c.from-fourth.result < 256
fourth c =
    let place = c.args.place in
    omega (arith, c.from-fourth.ensures, c.shared_slice_known-4-1.given (place + 3))

pub overflow_mul-two : goal.overflow_mul-two
overflow_mul-two c = omega (arith, second (goal.at.overflow_mul-two c).After-from-second)

pub overflow_add-two : goal.overflow_add-two
overflow_add-two c = omega (arith, first (goal.at.overflow_add-two c).After-from-second, second (goal.at.overflow_add-two c).After-from-second)

pub returns-then-second-lt128 : goal.returns-then-second-lt128
returns-then-second-lt128 c z l =
    let pre = c.requires in
    two_bytes _ _ _ _ (omega (arith, pre.inside)) pre.byte c.from-second.ensures pre.more (first (goal.at.returns-then-second-lt128 c).After-from-second) z l

pub overflow_mul-three : goal.overflow_mul-three
overflow_mul-three c = omega (arith, third (goal.at.overflow_mul-three c).After-from-third)

pub overflow_add-three : goal.overflow_add-three
overflow_add-three c = omega (arith, first (goal.at.overflow_add-three c).After-from-second, second (goal.at.overflow_add-three c).After-from-second, third (goal.at.overflow_add-three c).After-from-third)

pub returns-then-third-lt128 : goal.returns-then-third-lt128
returns-then-third-lt128 c z l =
    let pre = c.requires in
    three_bytes _ _ _ _ (omega (arith, pre.inside)) pre.byte c.from-second.ensures pre.more (first (goal.at.returns-then-third-lt128 c).After-from-second)
    _ (omega (arith, pre.inside)) c.from-third.ensures (omega arith) (second (goal.at.returns-then-third-lt128 c).After-from-second) z l

pub overflow_mul-result : goal.overflow_mul-result
overflow_mul-result c = omega (arith, fourth (goal.at.overflow_mul-result c).After-from-fourth)

pub overflow_add-result-2 : goal.overflow_add-result-2
overflow_add-result-2 c =
    omega (arith, first (goal.at.overflow_add-result-2 c).After-from-second, second (goal.at.overflow_add-result-2 c).After-from-second, third (goal.at.overflow_add-result-2 c).After-from-third, fourth (goal.at.overflow_add-result-2 c).After-from-fourth)

pub returns : goal.returns
returns c z l =
    let pre = c.requires in
    four_bytes _ _ _ _ (omega (arith, pre.inside)) pre.byte c.from-second.ensures pre.more (first (goal.at.returns c).After-from-second)
    _ (omega (arith, pre.inside)) c.from-third.ensures (omega arith) (second (goal.at.returns c).After-from-second)
    _ pre.inside c.from-fourth.ensures (omega arith) (third (goal.at.returns c).After-from-third) z l
