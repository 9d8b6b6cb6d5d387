-- `give` meets its contract: the number and the place of the answer.
use mathlib.Core.Path.{refl, ◌∙◌}
use Rattle.answers.specs.Calls.{reply_number, reply_place}
use Rattle.answers.proofs.give.Goals as goal

pub returns-in-Ok : goal.returns-in-Ok
unfolding reply_number reply_place
returns-in-Ok c = rw c.in-Ok.is (refl, refl)

pub returns-in-Err : goal.returns-in-Err
unfolding reply_number reply_place
returns-in-Err c = rw c.in-Err.is (c.give_refusal.ensures.0 ∙ c.from.ensures, c.give_refusal.ensures.1)
