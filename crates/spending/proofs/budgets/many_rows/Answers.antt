-- `many_rows` meets its contract: the arrays have room for any book.
use native.Mathlib.Omega.{arith}
use Rattle.book.proofs.Plan.{resources_most}
use Rattle.spending.proofs.Asking.{asked_plan, full_charges}
use Rattle.spending.proofs.budgets.many_rows.Goals as goal

pub sized_rows-requires : goal.sized_rows-requires
sized_rows-requires c =
    let charges = full_charges c.requires in
    record { asked = c.requires; room = (omega (arith, resources_most (asked_plan c.requires)), omega (arith, charges), omega (arith, charges)); most = (omega arith, omega arith, omega arith) }
