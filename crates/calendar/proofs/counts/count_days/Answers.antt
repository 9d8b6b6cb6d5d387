-- `count_days` meets its contract: n is the count before the date, and so is each entry passed.
use Prim.Native.Nat.{◌-◌}
use mathlib.Core.Path.{refl, sym, ◌∙◌}
use native.Mathlib.Omega.{arith}
use lib.ListN.{length, length-set}
use Rattle.lists.specs.Lists.{span, keep}
use Rattle.calendar.specs.Tables.{works}
use Rattle.calendar.proofs.Spans.{entries_more, one_most, kept_none, kept_more}
use Rattle.calendar.proofs.counts.count_days.Goals as goal

pub loop-date-init : goal.loop-date-init
loop-date-init c = (refl, omega arith, sym (kept_none _ _), λ e h k. absurd (omega arith))

pub overflow_add-n : goal.overflow_add-n
overflow_add-n c =
    let s = c.args in
    omega (arith, c.worked-n.ensures, one_most (works s.from s.days.now c.loop-date.date))

pub loop-date-preserved : goal.loop-date-preserved
loop-date-preserved c =
    let s = c.args in
    let l = c.loop-date in
    let p = works s.from s.days.now in (
      length-set l.counts (l.date - s.from) l.n ∙ l.invariant.0,
      omega (arith, c.worked-n.ensures, one_most (p l.date)),
      omega (arith, c.worked-n.ensures, kept_more p s.from l.date l.auto.date),
      entries_more (λ e. length (keep p (span s.from (e - s.from)))) s.from l.date l.counts l.n (omega arith) (omega arith) l.invariant.2 l.invariant.3,
    )

pub shape_of-counts : goal.shape_of-counts
shape_of-counts c = c.loop-date.invariant.0

pub returns : goal.returns
returns c = record { at = λ e h k. c.loop-date.invariant.3 e h (omega arith) }
