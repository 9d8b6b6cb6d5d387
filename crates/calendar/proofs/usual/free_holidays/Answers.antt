-- `free_holidays` meets its contract: what is left of the years, taken off, leaves what all of them leave.
use Prim.Native.Nat.{◌+◌}
use mathlib.Core.Path.{refl, sym, ap, ◌∙◌}
use mathlib.Core.List.{foldl}
use lib.IntN.{ℤ, pos}
use mir.Syntax.{w32}
use mir.Val.{SFits}
use mir.Facts.{to_z-of_z}
use Rattle.integer.specs.Linear.{linear}
use Rattle.holidays.specs.Year.{holidays_in}
use Rattle.calendar.specs.Tables.{freed}
use native.Mathlib.Omega.{arith}
use Rattle.calendar.proofs.Freed.{years_past, free_next_year, free_no_year, shows_freed}
use Rattle.calendar.proofs.usual.free_holidays.Goals as goal

pub returns-then-to-from : goal.returns-then-to-from
returns-then-to-from c = λ p s. record { at = λ date h k. absurd (omega arith) }

pub loop-n-init : goal.loop-n-init
loop-n-init c = (refl, refl)

pub loop-n-preserved : goal.loop-n-preserved
loop-n-preserved c =
    let l = c.loop-n in
    let s = c.args in
    let f : SFits w32 (pos (l.n + 1970)) = omega linear in
    let e = to_z-of_z f in (
      c.free_year.auto.days ∙ l.invariant.0,
      free_next_year s.from (years_past s.to) l.n (omega arith) l.days (c.free_year.ensures ∙ ap (λ (y : ℤ). foldl (freed s.from) l.days (holidays_in y)) e) ∙ l.invariant.1,
    )

pub returns : goal.returns
returns c =
    let l = c.loop-n in
    shows_freed c.args.from c.args.to c.requires.to_bound c.args.days.now c.requires.from_in_bounds
    (sym (free_no_year c.args.from (years_past c.args.to) l.n (omega arith) l.days) ∙ l.invariant.1)
