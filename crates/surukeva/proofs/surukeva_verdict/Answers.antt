-- `surukeva_verdict` meets its contract: it gives the number and the place of the answer. Assumes nothing.
use mathlib.Core.Path.{refl, ◌∙◌}
use borrow.Author.Rules.{rules}
use Rattle.format.specs.Verdict.{answer_number, answer_place}
use Rattle.surukeva.proofs.surukeva_verdict.Goals as goal

pub returns-in-Ok : goal.returns-in-Ok
unfolding answer_number answer_place
returns-in-Ok c = rw (← c.judge-answer.ensures, c.in-Ok.is) (refl, refl)

pub returns-in-Err : goal.returns-in-Err
unfolding answer_number answer_place
returns-in-Err c = rw (← c.judge-answer.ensures, c.in-Err.is) (c.give_refusal.ensures.0 ∙ c.from.ensures, c.give_refusal.ensures.1)
