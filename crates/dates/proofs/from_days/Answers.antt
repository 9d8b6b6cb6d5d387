-- `dates::from_days` meets its contract.
-- Assumes nothing.
use Rattle.std.proofs.Common.{◌≡◌, ◌∙◌, Bool, true, false, ℤ, cond, Some, None, refl, to_z-of_z}
use Rattle.std.specs.Bool.{then_some}
use Rattle.dates.specs.Date.{is_day, from_days}
use Rattle.dates.proofs.from_days.Goals as goal

picked : (b : Bool) (z : ℤ) → then_some b z ≡ cond b (Some z) None
picked true z = refl
picked false z = refl

pub returns : goal.returns
unfolding from_days
returns c = c.then_some.ensures ∙ rw (c.is_day.ensures, to_z-of_z c.ranges.days) (picked (is_day c.args.days) c.args.days)
