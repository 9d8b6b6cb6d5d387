-- `subtract` meets its contract: one is borrowed where the low word is below what is taken from it. Assumes nothing.
use Rattle.std.proofs.Common.{arith}
use Rattle.money.proofs.ExactParts.{Near, near, difference_fits, borrow_fits, difference_is, borrow_is}
use Rattle.money.proofs.exact.subtract.Goals as goal
use Rattle.money.proofs.exact.subtract.Goals.{After-struct_told-2-1}

left : (c : After-struct_told-2-1) → Near c.args.a
left c =
    let g = c.struct_told-1.given in
    near c.args.a g.0.1 g.1.0.1 c.requires.0

right : (c : After-struct_told-2-1) → Near c.args.b
right c =
    let g = c.struct_told-2-1.given in
    near c.args.b g.0.1 g.1.0.1 c.requires.1

pub overflow_sub-high : goal.overflow_sub-high
overflow_sub-high c = difference_fits (left (goal.at.overflow_sub-high c).After-struct_told-2-1) (right (goal.at.overflow_sub-high c).After-struct_told-2-1)

pub overflow_sub-result : goal.overflow_sub-result
overflow_sub-result c = borrow_fits (left (goal.at.overflow_sub-result c).After-struct_told-2-1) (right (goal.at.overflow_sub-result c).After-struct_told-2-1)

pub returns-then-a-b : goal.returns-then-a-b
returns-then-a-b c =
    borrow_is (left (goal.at.returns-then-a-b c).After-struct_told-2-1) (right (goal.at.returns-then-a-b c).After-struct_told-2-1) _ (omega (arith, left (goal.at.returns-then-a-b c).After-struct_told-2-1, right (goal.at.returns-then-a-b c).After-struct_told-2-1))

pub returns-else-a-b : goal.returns-else-a-b
returns-else-a-b c =
    difference_is (left (goal.at.returns-else-a-b c).After-struct_told-2-1) (right (goal.at.returns-else-a-b c).After-struct_told-2-1) _ (omega (arith, left (goal.at.returns-else-a-b c).After-struct_told-2-1, right (goal.at.returns-else-a-b c).After-struct_told-2-1))
