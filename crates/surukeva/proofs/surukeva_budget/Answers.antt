-- `surukeva_budget` meets its contract: the call's answer, given in C's way.
use borrow.Author.Rules.{rules}
use Rattle.answers.proofs.Replies.{returned}
use Rattle.surukeva.proofs.surukeva_budget.Goals as goal

pub returns : goal.returns
returns c = returned _ _ _ _ c.budget-answer.ensures c.give.ensures.0 c.give.ensures.1
