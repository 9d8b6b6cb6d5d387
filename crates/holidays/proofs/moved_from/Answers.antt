-- `holidays::moved_from` meets its contract.
-- Assumes nothing.
use Prim.Native.Nat.{ℕ, ◌<◌}
use mathlib.Core.Path.{◌≡◌}
use mathlib.Core.Bool.{true}
use lib.IntN.{ℤ, pos, ◌+ℤ◌}
use lib.ListN.{get_or}
use mir.Syntax.{w32}
use mir.Val.{SFits, to_z, of_z}
use mir.Facts.{to_z-of_z}
use Rattle.dates.specs.Date.{is_day}
use Rattle.holidays.specs.Holiday.{distances}
use Rattle.holidays.proofs.Ranges.{day_fits}
use Rattle.holidays.proofs.Years.{distances_fit, moved_fits}
use Rattle.holidays.proofs.moved_from.Goals as goal

-- Easter Sunday e, and the code's sum
module _ (e : ℤ) (k : ℕ) (inside : is_day e ≡ true) (below : k < 4) where
  is_sum : to_z w32 (of_z w32 e) +ℤ to_z w32 (of_z w32 (get_or distances k (pos 0))) ≡ e +ℤ get_or distances k (pos 0)
  is_sum = rw (to_z-of_z (day_fits e inside), to_z-of_z (distances_fit k below))

  fits : SFits w32 (e +ℤ get_or distances k (pos 0))
  fits = moved_fits e inside k below

pub overflow_add-result : goal.overflow_add-result
overflow_add-result c =
    let d = c.requires.1 _ c.in_ok-sunday.was in rw (is_sum _ _ d c.requires.0) (fits _ _ d c.requires.0)

pub returns : goal.returns
returns c =
    let d = c.requires.1 _ c.in_ok-sunday.was in rw (c.in_ok-sunday.was, is_sum _ _ d c.requires.0, to_z-of_z (fits _ _ d c.requires.0))
