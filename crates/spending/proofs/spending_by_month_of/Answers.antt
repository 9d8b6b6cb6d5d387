-- `spending_by_month_of` meets its contract: all the points, by month.
use mathlib.Core.Path.{refl}
use Rattle.format.specs.Verdict.{content}
use Rattle.format.proofs.Theorems.{content_in_range}
use Rattle.answers.proofs.Replies.{if_puts}
use Rattle.spending.specs.Grained.{are_held}
use Rattle.spending.proofs.ByMonth.{spending_months_lem}
use Rattle.spending.proofs.spending_by_month_of.Goals as goal

pub returns : goal.returns
unfolding are_held
returns c =
    rw (← spending_months_lem (content c.args.book.now) (content_in_range c.args.book.now c.requires.plan.accepted)) (if_puts refl c.rows_of.ensures)
