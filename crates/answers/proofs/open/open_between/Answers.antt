-- `open_between` meets its contract: one condition behind the other.
use borrow.Author.Rules.{rules}
use Rattle.answers.proofs.Replies.{asked_so, still_refused}
use Rattle.answers.proofs.open.open_between.Goals as goal

pub returns-in_err-open_at : goal.returns-in_err-open_at
returns-in_err-open_at c = still_refused c.open_at.ensures c.in_err-open_at.was _ (search rules)

pub returns : goal.returns
returns c = c.with_date.ensures _ _ (asked_so c.open_at.ensures c.in_ok-open_at.was)
