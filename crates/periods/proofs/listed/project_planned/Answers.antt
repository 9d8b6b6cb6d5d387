-- `project_planned` meets its contract: nothing without activities; else the tables have room for them, few or not.
use native.Mathlib.Omega.{arith}
use mathlib.Core.Path.{◌∙◌}
use Rattle.format.specs.Verdict.{content}
use Rattle.book.proofs.Plan.{activities_count, activities_most}
use Rattle.model.proofs.Tree.{parents_count}
use Rattle.periods.proofs.listed.project_planned.Goals as goal

pub clear-requires : goal.clear-requires
clear-requires c = c.requires.out_len

pub returns-then-n-eq0 : goal.returns-then-n-eq0
returns-then-n-eq0 c =
    let b = content c.args.book.now in
    let none = activities_count c.requires.opened.plan ∙ c.if-n-eq0.true in
    record {
      marks = λ i h. absurd (omega (arith, parents_count b, none));
      planned = c.clear.ensures b none;
    }

pub own_plan-requires : goal.own_plan-requires
own_plan-requires c =
    let r = c.requires in
    let few = c.if-n-le-FEW.true in
    record { opened = r.opened; room = (omega (arith, few), omega (arith, few)); most = (omega arith, omega arith); out_len = r.out_len }

pub own_plan-requires-2 : goal.own_plan-requires-2
own_plan-requires-2 c =
    let r = c.requires in
    let most = activities_most r.opened.plan in
    record { opened = r.opened; room = (omega (arith, most), omega (arith, most)); most = (omega arith, omega arith); out_len = r.out_len }
