-- `project_earned` meets its contract: nothing without activities, else the leaves' sums, with room for few or many.
use native.Mathlib.Omega.{arith}
use mathlib.Core.Path.{◌∙◌}
use Rattle.format.specs.Verdict.{content}
use Rattle.book.proofs.Plan.{activities_count, activities_most}
use Rattle.answers.proofs.Nothing.{nothing_earned}
use Rattle.progress.proofs.project.project_earned.Goals as goal

pub returns-then-count-eq0 : goal.returns-then-count-eq0
returns-then-count-eq0 c =
    nothing_earned (content c.args.book.now) (activities_count c.requires.plan ∙ c.if-count-eq0.true) c.args.date

pub sized_earned-requires : goal.sized_earned-requires
sized_earned-requires c = record { opened = c.requires; room = (omega (arith, c.if-count-le-FEW.true), omega (arith, c.if-count-le-FEW.true)); most = (omega arith, omega arith) }

pub sized_earned-requires-2 : goal.sized_earned-requires-2
sized_earned-requires-2 c = record { opened = c.requires; room = (omega (arith, activities_most c.requires.plan), omega (arith, activities_most c.requires.plan)); most = (omega arith, omega arith) }
