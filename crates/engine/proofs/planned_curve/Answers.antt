-- `planned_curve` meets its contract: a refused book or call, or what is answered with its rows.
use borrow.Author.Rules.{rules}
use Rattle.answers.proofs.Replies.{call_answered, call_refused}
use Rattle.engine.proofs.planned_curve.Goals as goal

pub returns-in_err-opened : goal.returns-in_err-opened
returns-in_err-opened c = call_refused _ _ _ _ c.open_between.ensures c.in_err-opened.was (search rules)

pub planned_curve_of-requires : goal.planned_curve_of-requires
planned_curve_of-requires c = c.open_between.ensures.opens _ c.in_ok-opened.was

pub returns : goal.returns
returns c = call_answered _ _ _ _ c.open_between.ensures c.in_ok-opened.was c.planned_curve_of.ensures
