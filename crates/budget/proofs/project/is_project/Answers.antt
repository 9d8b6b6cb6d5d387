-- `is_project` meets its contract.
use Rattle.format.specs.Format.{names}
use borrow.Author.Rules.{rules}
use Rattle.budget.proofs.project.is_project.Goals as goal

pub returns-in-None : goal.returns-in-None
unfolding names
returns-in-None c = rw c.in-None.is

pub returns-in-Some : goal.returns-in-Some
unfolding names
returns-in-Some c = search rules
