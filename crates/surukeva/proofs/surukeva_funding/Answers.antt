-- `surukeva_funding` meets its contract: the call's answer, given in C's way.
use borrow.Author.Rules.{rules}
use Rattle.answers.proofs.Replies.{returned}
use Rattle.surukeva.proofs.surukeva_funding.Goals as goal

pub returns : goal.returns
returns c = returned _ _ _ _ c.funding-answer.ensures c.give.ensures.0 c.give.ensures.1
