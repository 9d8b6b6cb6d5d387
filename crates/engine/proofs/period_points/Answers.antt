-- `period_points` meets its contract: a refused book, or what is answered with its rows.
use borrow.Author.Rules.{rules}
use Rattle.answers.proofs.Replies.{call_answered, call_refused}
use Rattle.engine.proofs.period_points.Goals as goal

pub returns-in_err-opened : goal.returns-in_err-opened
returns-in_err-opened c = call_refused _ _ _ _ c.open.ensures c.in_err-opened.was (search rules)

pub period_points_of-requires : goal.period_points_of-requires
period_points_of-requires c = c.open.ensures.opens _ c.in_ok-opened.was

pub returns : goal.returns
returns c = call_answered _ _ _ _ c.open.ensures c.in_ok-opened.was c.period_points_of.ensures
