-- `planned_curve_of` meets its contract: without activities there is no point.
use mathlib.Core.Path.{◌∙◌}
use borrow.Author.Rules.{rules}
use Rattle.format.specs.Verdict.{content}
use Rattle.book.proofs.Plan.{activities_count, activities_most}
use Rattle.answers.specs.Rows.{planned_curve_rows}
use Rattle.answers.proofs.Nothing.{no_curve}
use Rattle.bydate.proofs.Writing.{nothing_points}
use Rattle.curve.proofs.planned_curve_of.Goals as goal

pub returns-then-opened-eq0 : goal.returns-then-opened-eq0
unfolding planned_curve_rows
returns-then-opened-eq0 c =
    nothing_points _ _ (no_curve (content c.args.book.now) (activities_count c.requires.plan ∙ c.if-opened-eq0.true) c.args.from c.args.to)

pub many_rows-requires : goal.many_rows-requires
many_rows-requires c = let s = c.requires in record { opened = s; count_bound = activities_most s.plan }

pub returns-then-opened : goal.returns-then-opened
unfolding planned_curve_rows
returns-then-opened c = c.few_rows.ensures

pub returns : goal.returns
unfolding planned_curve_rows
returns c = c.many_rows.ensures
