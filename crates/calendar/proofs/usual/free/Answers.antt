-- `free` meets its contract: a day before 1970 is in no table.
use Rattle.std.specs.Prelude.{Option, Some}
use Prim.Native.Nat.{ℕ}
use mathlib.Core.Path.{◌≡◌, refl, ap, ◌∙◌}
use mathlib.Core.Bool.{false, true}
use lib.IntN.{ℤ, pos, nat_abs}
use lib.Signed.{le_z}
use mir.Syntax.{w32}
use mir.Val.{SFits}
use mir.Facts.{to_z-of_z}
use Rattle.dates.specs.Date.{is_day}
use Rattle.integer.specs.Linear.{linear, within, seen, abs}
use Rattle.gregorian.proofs.Counts.{tested}
use Rattle.holidays.proofs.Ranges.{day_fits}
use Rattle.calendar.specs.Tables.{marked, freed}
use Rattle.calendar.proofs.Freed.{freed_from, freed_before}
use Rattle.calendar.proofs.usual.free.Goals as goal

-- the day, as the code reads it
fits : (day : Option ℤ) → ((z : ℤ) → day ≡ Some z → is_day z ≡ true) → (z : ℤ) → day ≡ Some z → SFits w32 z
fits day h z e = day_fits z (h z e)

pub overflow_cast-z : goal.overflow_cast-z
overflow_cast-z c =
    let z = c.in-Some.z in
    omega (linear, within (fits c.args.day c.requires z c.in-Some.is), abs (seen w32 z))

pub returns-then-z-ge0 : goal.returns-then-z-ge0
returns-then-z-ge0 c =
    let s = c.args in
    let z = c.in-Some.z in
    let f = fits s.day c.requires z c.in-Some.is in
    rw (c.in-Some.is, freed_from s.base s.days.now z (tested (le_z (pos 0)) f refl c.if-z-ge0.true))
    (c.mark.ensures ∙ ap (λ (v : ℤ). marked s.base (nat_abs v) false s.days.now) (to_z-of_z f))

pub returns-else-z-ge0 : goal.returns-else-z-ge0
returns-else-z-ge0 c =
    let s = c.args in
    let z = c.in-Some.z in
    rw (c.in-Some.is, freed_before s.base s.days.now z (tested (le_z (pos 0)) (fits s.day c.requires z c.in-Some.is) refl c.if-z-ge0.false))

pub returns-in-None : goal.returns-in-None
unfolding freed
returns-in-None c = rw c.in-None.is
