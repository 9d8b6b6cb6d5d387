-- `vary_lines` meets its contract: the arrays have room for the activities, few or not.
use native.Mathlib.Omega.{arith}
use Rattle.book.proofs.Plan.{activities_most}
use Rattle.variances.proofs.vary_lines.Goals as goal

pub sized_lines-requires : goal.sized_lines-requires
sized_lines-requires c =
    let r = c.requires in
    let few = c.if-plan.true in
    record { plan_of = r.plan_of; room = (omega (arith, few), omega (arith, few)); most = (omega arith, omega arith); out_value = r.out_value }

pub sized_lines-requires-2 : goal.sized_lines-requires-2
sized_lines-requires-2 c =
    let r = c.requires in
    let most = activities_most r.plan_of in
    record { plan_of = r.plan_of; room = (omega (arith, most), omega (arith, most)); most = (omega arith, omega arith); out_value = r.out_value }
