-- `with_activity` meets its contract: one condition more is tested.
use Rattle.book.proofs.Plan.{activities_count}
use mathlib.Core.Path.{refl}
use Rattle.answers.proofs.Replies.{in_book, not_in_book, asked_met, asked_unmet}
use Rattle.answers.proofs.open.Opened.with_activity.Goals as goal

pub returns-then-activity-self : goal.returns-then-activity-self
returns-then-activity-self c cs s w = asked_met w _ (in_book _ _ _ (activities_count (w.opens _ refl).plan) c.if-activity-self.true)

pub returns : goal.returns
returns c cs s w = asked_unmet w _ (not_in_book _ _ _ (activities_count (w.opens _ refl).plan) c.if-activity-self.false)
