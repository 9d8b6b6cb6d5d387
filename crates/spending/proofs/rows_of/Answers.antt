-- `rows_of` meets its contract: nothing without activities; else the schedule has room, for few or many.
use mathlib.Core.Path.{◌∙◌}
use native.Mathlib.Omega.{arith}
use Rattle.format.specs.Verdict.{content}
use Rattle.book.proofs.Plan.{activities_count, activities_most}
use Rattle.answers.proofs.Nothing.{no_spending}
use Rattle.spending.proofs.Written.{writes_none}
use Rattle.spending.proofs.rows_of.Goals as goal

pub returns-then-opened-eq0 : goal.returns-then-opened-eq0
returns-then-opened-eq0 c =
    let a = c.args in
    writes_none a.grain _ (no_spending (content a.book.now) (activities_count c.requires.plan ∙ c.if-opened-eq0.true) a.between.from a.between.to)

pub sized_rows-requires : goal.sized_rows-requires
sized_rows-requires c = record { opened = c.requires; room = omega (arith, c.if-opened.true); most = omega arith }

pub sized_rows-requires-2 : goal.sized_rows-requires-2
sized_rows-requires-2 c = record { opened = c.requires; room = omega (arith, activities_most c.requires.plan); most = omega arith }
