-- `figures_at` meets its contract: the activity's row of the table.
use mathlib.Core.Path.{◌∙◌}
use borrow.Author.Rules.{rules}
use Rattle.format.specs.Verdict.{content}
use Rattle.book.proofs.Plan.{activities_count}
use Rattle.value.proofs.Reading.{rolled_read}
use Rattle.progress.proofs.rolled.figures_at.Goals as goal

pub returns : goal.returns
returns c =
    c.earned_at.ensures ∙ rolled_read (content c.args.book.now) c.args.date c.args.opened.plan.activities.count (activities_count c.requires.opened.plan) c.roll_values.ensures c.args.activity c.requires.activity_lt_count
