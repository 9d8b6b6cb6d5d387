-- `surukeva_project_earned` meets its contract: the call's answer, given in C's way.
use borrow.Author.Rules.{rules}
use Rattle.answers.proofs.Replies.{returned}
use Rattle.surukeva.proofs.surukeva_project_earned.Goals as goal

pub returns : goal.returns
returns c = returned _ _ _ _ c.project_earned-answer.ensures c.give.ensures.0 c.give.ensures.1
