-- `open_on` meets its contract: one condition behind the other.
use borrow.Author.Rules.{rules}
use Rattle.answers.proofs.Replies.{asked_so, still_refused}
use Rattle.answers.proofs.open.open_on.Goals as goal

pub returns-in_err-open : goal.returns-in_err-open
returns-in_err-open c = still_refused c.open.ensures c.in_err-open.was _ (search rules)

pub returns : goal.returns
returns c = c.with_activity.ensures _ _ (asked_so c.open.ensures c.in_ok-open.was)
