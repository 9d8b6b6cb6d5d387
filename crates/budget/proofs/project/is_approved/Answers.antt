-- `is_approved` meets its contract: another status has another number.
use mathlib.Core.Path.{◌≡◌, refl}
use mathlib.Core.Bool.{false}
use Rattle.format.specs.declared.ChangeStatus.{ChangeStatus}
use Rattle.format.specs.declared.ChangeStatus.TheVariants.{Pending, Approved, NotApproved}
use Rattle.format.specs.Enumeration.{change_status_number}
use Rattle.model.specs.Budgets.{same_status}
use Rattle.budget.proofs.project.is_approved.Goals as goal

other : (s : ChangeStatus) → (s ≡ Approved → ⊥) → false ≡ same_status s Approved
unfolding change_status_number
other Pending h = refl
other Approved h = absurd (h refl)
other NotApproved h = refl

pub returns-in_default : goal.returns-in_default
returns-in_default c = other c.args.status c.in_default.not-Approved
