-- `few_rows` meets its contract: by how few there are.
use native.Mathlib.Omega.{arith}
use Rattle.spending.proofs.budgets.few_rows.Goals as goal

pub overflow_add-charges : goal.overflow_add-charges
overflow_add-charges c = omega (arith, c.requires.are_few.charged)

pub sized_rows-requires : goal.sized_rows-requires
sized_rows-requires c =
    let few = c.are_within.ensures c.if-are_within.true in
    record { asked = c.requires.asked; room = (omega (arith, few.rated), omega (arith, few.charged), omega (arith, few.charged)); most = (omega arith, omega arith, omega arith) }

pub sized_rows-requires-2 : goal.sized_rows-requires-2
sized_rows-requires-2 c =
    let few = c.requires.are_few in
    record { asked = c.requires.asked; room = (omega (arith, few.rated), omega (arith, few.charged), omega (arith, few.charged)); most = (omega arith, omega arith, omega arith) }
