-- `costs` meets its contract: a refused book, or what is answered with its rows.
use borrow.Author.Rules.{rules}
use Rattle.answers.proofs.Replies.{call_answered, call_refused}
use Rattle.engine.proofs.costs.Goals as goal

pub returns-in_err-opened : goal.returns-in_err-opened
returns-in_err-opened c = call_refused _ _ _ _ c.open.ensures c.in_err-opened.was (search rules)

pub costs_of-requires : goal.costs_of-requires
costs_of-requires c = c.open.ensures.opens _ c.in_ok-opened.was

pub returns : goal.returns
returns c = call_answered _ _ _ _ c.open.ensures c.in_ok-opened.was c.costs_of.ensures
