-- `free_year` meets its contract: what is left of the year's holidays, taken off, leaves what all of them leave.
use Prim.Native.Nat.{ℕ, ◌<◌}
use mathlib.Core.Path.{◌≡◌, refl, sym, ap, ◌∙◌}
use mathlib.Core.List.{foldl}
use native.Mathlib.Omega.{arith}
use lib.IntN.{ℤ}
use lib.ListN.{drop}
use mir.Syntax.{w32}
use mir.Val.{to_z, of_z}
use mir.Facts.{to_z-of_z}
use Rattle.holidays.specs.Year.{holidays_in}
use Rattle.holidays.proofs.Years.{self, falls, holiday_at, holiday_day}
use Rattle.calendar.specs.Tables.{freed}
use Rattle.calendar.proofs.Freed.{free_next}
use Rattle.calendar.proofs.usual.free_year.Goals as goal

pub loop-k-init : goal.loop-k-init
loop-k-init c = (omega arith, refl, refl)

pub holiday_in-day-requires : goal.holiday_in-day-requires
holiday_in-day-requires c = (c.easter-sunday.ensures, omega arith)

pub free-requires : goal.free-requires
free-requires c =
    λ z e.
    holiday_day z
    (holiday_at z (to_z w32 (of_z w32 c.args.year)) c.loop-k.k (omega arith)
    (ap (falls z) (sym c.holiday_in-day.ensures ∙ e) ∙ self z))

pub loop-k-preserved : goal.loop-k-preserved
unfolding holidays_in
loop-k-preserved c =
    let l = c.loop-k in
    let s = c.args in
    let y = to_z w32 (of_z w32 s.year) in
    let h : l.k < 13 = omega arith in (
      omega arith,
      c.free.auto.days ∙ l.invariant.1,
      free_next s.base (holidays_in y) l.k h l.days (c.free.ensures ∙ ap (freed s.base l.days) c.holiday_in-day.ensures) ∙ l.invariant.2,
    )

pub returns : goal.returns
unfolding holidays_in
returns c =
    let l = c.loop-k in
    let y = to_z w32 (of_z w32 c.args.year) in
    let e : l.k ≡ 13 = omega arith in
    sym (ap (λ (k : ℕ). foldl (freed c.args.base) l.days (drop k (holidays_in y))) e) ∙ l.invariant.2 ∙ ap (λ (v : ℤ). foldl (freed c.args.base) c.args.days.now (holidays_in v)) (to_z-of_z c.ranges.year)
