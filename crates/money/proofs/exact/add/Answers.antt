-- `add` meets its contract: the low words carry where their sum is below a part of it. Assumes nothing.
use Rattle.std.proofs.Common.{arith}
use Rattle.money.proofs.ExactParts.{Near, near, sum_fits, carry_fits, sum_is, carry_is}
use Rattle.money.proofs.exact.add.Goals as goal
use Rattle.money.proofs.exact.add.Goals.{After-struct_told-2-1}

left : (c : After-struct_told-2-1) → Near c.args.a
left c =
    let g = c.struct_told-1.given in
    near c.args.a g.0.1 g.1.0.1 c.requires.0

right : (c : After-struct_told-2-1) → Near c.args.b
right c =
    let g = c.struct_told-2-1.given in
    near c.args.b g.0.1 g.1.0.1 c.requires.1

pub overflow_add-high : goal.overflow_add-high
overflow_add-high c = sum_fits (left (goal.at.overflow_add-high c).After-struct_told-2-1) (right (goal.at.overflow_add-high c).After-struct_told-2-1)

pub overflow_add-result : goal.overflow_add-result
overflow_add-result c = carry_fits (left (goal.at.overflow_add-result c).After-struct_told-2-1) (right (goal.at.overflow_add-result c).After-struct_told-2-1)

pub returns-then-low-a : goal.returns-then-low-a
returns-then-low-a c =
    carry_is (left (goal.at.returns-then-low-a c).After-struct_told-2-1) (right (goal.at.returns-then-low-a c).After-struct_told-2-1) _ (omega (arith, left (goal.at.returns-then-low-a c).After-struct_told-2-1, right (goal.at.returns-then-low-a c).After-struct_told-2-1))

pub returns-else-low-a : goal.returns-else-low-a
returns-else-low-a c =
    sum_is (left (goal.at.returns-else-low-a c).After-struct_told-2-1) (right (goal.at.returns-else-low-a c).After-struct_told-2-1) _ (omega (arith, left (goal.at.returns-else-low-a c).After-struct_told-2-1, right (goal.at.returns-else-low-a c).After-struct_told-2-1))
