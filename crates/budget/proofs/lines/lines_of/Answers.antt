-- `lines_of` meets its contract: the arrays have room for the activities, few or not.
use native.Mathlib.Omega.{arith}
use Rattle.book.proofs.Plan.{activities_most}
use Rattle.budget.proofs.lines.lines_of.Goals as goal

pub sized_lines-requires : goal.sized_lines-requires
sized_lines-requires c =
    let few = c.if-opened.true in
    record { opened = c.requires; room = (omega (arith, few), omega (arith, few), omega (arith, few)); most = (omega arith, omega arith, omega arith) }

pub sized_lines-requires-2 : goal.sized_lines-requires-2
sized_lines-requires-2 c =
    let most = activities_most c.requires.plan in
    record { opened = c.requires; room = (omega (arith, most), omega (arith, most), omega (arith, most)); most = (omega arith, omega arith, omega arith) }
