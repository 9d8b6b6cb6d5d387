-- `fill_week` meets its contract: each date passed has its entry.
use Prim.Native.Nat.{ℕ, ◌-◌}
use mathlib.Core.Path.{refl, ap, ◌∙◌}
use native.Mathlib.Omega.{arith}
use lib.IntN.{pos}
use lib.ListN.{length-set}
use Rattle.dates.specs.Date.{weekday_of}
use Rattle.model.specs.Calendar.{works_on}
use Rattle.calendar.specs.Tables.{one}
use Rattle.calendar.proofs.Spans.{entries_more}
use Rattle.calendar.proofs.usual.fill_week.Goals as goal

pub loop-date-init : goal.loop-date-init
loop-date-init c = (refl, λ e h k. absurd (omega arith))

pub loop-date-preserved : goal.loop-date-preserved
loop-date-preserved c =
    let l = c.loop-date in
    let s = c.args in
    let f : ℕ → ℕ = λ e. one (works_on s.week (weekday_of (pos e))) in (
      length-set l.days (l.date - s.from) c.bit.result ∙ l.invariant.0,
      entries_more f s.from l.date l.days c.bit.result (omega arith) (omega arith) (c.bit.ensures ∙ ap one c.works_on_week.ensures) l.invariant.1,
    )

pub shape_of-days : goal.shape_of-days
shape_of-days c = c.loop-date.invariant.0

pub returns : goal.returns
returns c = record { at = λ e h k. c.loop-date.invariant.1 e h (omega arith) }
