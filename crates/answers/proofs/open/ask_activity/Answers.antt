-- `ask_activity` meets its contract: what is refused stays so, and one condition more is tested.
use borrow.Author.Rules.{rules}
use Rattle.answers.proofs.Replies.{asked_so, still_refused}
use Rattle.answers.proofs.open.ask_activity.Goals as goal

pub returns-in_err-asked : goal.returns-in_err-asked
returns-in_err-asked c cs s w = still_refused w c.in_err-asked.was _ (search rules)

pub returns : goal.returns
returns c cs s w = c.with_activity.ensures cs s (asked_so w c.in_ok-asked.was)
