-- `with_date` meets its contract: one condition more is tested.
use mathlib.Core.Path.{sym, ◌∙◌}
use Rattle.answers.proofs.Replies.{asked_met, asked_unmet}
use Rattle.answers.proofs.open.Opened.with_date.Goals as goal

pub returns-then-is_date : goal.returns-then-is_date
returns-then-is_date c cs s w = asked_met w _ (sym c.is_date.ensures ∙ c.if-is_date.true)

pub returns : goal.returns
returns c cs s w = asked_unmet w _ (sym c.is_date.ensures ∙ c.if-is_date.false)
