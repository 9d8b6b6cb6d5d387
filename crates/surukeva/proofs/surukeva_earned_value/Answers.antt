-- `surukeva_earned_value` meets its contract: the call's answer, given in C's way.
use borrow.Author.Rules.{rules}
use Rattle.answers.proofs.Replies.{returned}
use Rattle.surukeva.proofs.surukeva_earned_value.Goals as goal

pub returns : goal.returns
returns c = returned _ _ _ _ c.earned_value-answer.ensures c.give.ensures.0 c.give.ensures.1
