-- `holidays::is_holiday` meets its contract.
-- Assumes nothing.
use Rattle.std.specs.Prelude.{Some}
use Prim.Native.Nat.{ℕ}
use mathlib.Core.Path.{◌≡◌, ap, sym, ◌∙◌}
use mathlib.Core.Bool.{Bool}
use lib.IntN.{ℤ}
use mir.Syntax.{w32}
use mir.Val.{SFits, to_z, of_z}
use mir.Facts.{to_z-of_z}
use Rattle.dates.specs.Date.{is_day, ymd_of}
use Rattle.dates.proofs.Laws.{from_ymd_at, ymd_of_lem, day_of_ymd}
use Rattle.computus.specs.Easter.{easter_of}
use Rattle.holidays.specs.Holiday.{is_awareness, by_easter, is_holiday_on, is_holiday}
use Rattle.holidays.proofs.Ranges.{year_fits}
use Rattle.holidays.proofs.is_holiday.Goals as goal
use Rattle.holidays.proofs.is_holiday.Goals.{In-Some}

-- the date of the day
date : (c : In-Some) → ymd_of c.args.days ≡ Some c.in-Some.date
date c = ap ymd_of (sym (to_z-of_z c.ranges.days)) ∙ sym c.ymd.ensures ∙ c.in-Some.is

fits : (c : In-Some) → SFits w32 c.in-Some.date.year
fits c =
    year_fits c.in-Some.date.year (from_ymd_at c.in-Some.date.year c.in-Some.date.month c.in-Some.date.day c.args.days (day_of_ymd c.args.days c.in-Some.date.year c.in-Some.date.month c.in-Some.date.day (date c))).year

aware : (y : ℤ) (m d : ℕ) → SFits w32 y → {b : Bool} → is_awareness (to_z w32 (of_z w32 y)) m d ≡ b → is_awareness y m d ≡ b
aware y m d f e = ap (λ (v : ℤ). is_awareness v m d) (sym (to_z-of_z f)) ∙ e

pub returns-then-is_fixed : goal.returns-then-is_fixed
unfolding is_holiday is_holiday_on
returns-then-is_fixed c = rw (date (goal.at.returns-then-is_fixed c).In-Some, sym c.is_fixed.ensures ∙ c.if-is_fixed.true) c.if-is_fixed.true

pub returns-then-is_awareness : goal.returns-then-is_awareness
unfolding is_holiday is_holiday_on
returns-then-is_awareness c =
    let k = (goal.at.returns-then-is_awareness c).In-Some in
    rw (date k, sym c.is_fixed.ensures ∙ c.if-is_fixed.false, aware _ _ _ (fits k) (sym c.is_awareness.ensures ∙ c.if-is_awareness.true)) c.if-is_awareness.true

pub is_by_easter-requires : goal.is_by_easter-requires
is_by_easter-requires c =
    ap is_day (to_z-of_z c.ranges.days) ∙ (ymd_of_lem c.args.days c.in-Some.date.year c.in-Some.date.month c.in-Some.date.day (date (goal.at.is_by_easter-requires c).In-Some)).in_range_lem

pub returns-else-is_awareness : goal.returns-else-is_awareness
unfolding is_holiday is_holiday_on
returns-else-is_awareness c =
    let k = (goal.at.returns-else-is_awareness c).In-Some in
    rw (date k, sym c.is_fixed.ensures ∙ c.if-is_fixed.false, aware _ _ _ (fits k) (sym c.is_awareness.ensures ∙ c.if-is_awareness.false))
    (c.is_by_easter.ensures ∙ ap (by_easter _) (to_z-of_z c.ranges.days) ∙ ap (λ (v : ℤ). by_easter (easter_of v) c.args.days) (to_z-of_z (fits k)))

pub returns-in-None : goal.returns-in-None
unfolding is_holiday is_holiday_on
returns-in-None c =
    let n = ap ymd_of (sym (to_z-of_z c.ranges.days)) ∙ sym c.ymd.ensures ∙ c.in-None.is in
    rw n
