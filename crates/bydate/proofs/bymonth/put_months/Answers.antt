-- `put_months` meets its contract: the loop keeps that with the rows of the months that are left all are written.
use mathlib.Core.Path.{◌≡◌, sym, ap, ap₂, subst, ◌∙◌}
use mathlib.Core.List.{[]}
use Prim.Native.Nat.{ℕ, ◌^◌, ◌+◌, ◌<◌, min}
use native.Mathlib.Omega.{arith}
use lib.Dec.{ltb}
use lib.ListN.{length}
use mir.Syntax.{w64}
use mir.Val.{hbits}
use lib.Signed.{mag}
use Rattle.integer.specs.Linear.{back}
use Rattle.money.specs.Words.{bits}
use Rattle.lists.specs.Lists.{cons_if}
use Rattle.months.specs.Months.{first_day, january2000}
use Rattle.months.proofs.Table.{first_most}
use Rattle.months.proofs.Guess.{months_in}
use Rattle.model.specs.Amounts.{on, saturated_sum}
use Rattle.model.specs.Months.{month_start}
use Rattle.bydate.specs.Pointed.{points_in, row_if}
use Rattle.bydate.proofs.Writing.{row_most, row_if_lem, putting_none, putting_more, putting_count, putting_end}
use Rattle.bydate.proofs.MonthDays.{month_end, start_is, in_month_lem, Here, here_end, here_next}
use Rattle.bydate.proofs.Monthly.{months_from, month_next, months_end}
use Rattle.bydate.proofs.bymonth.put_months.Goals as goal
use Rattle.bydate.proofs.bymonth.put_months.Goals.{After-min-last, In-loop-date}

pub returns-then-to-from : goal.returns-then-to-from
returns-then-to-from c =
    let s = c.args in
    let none = months_end s.base s.table.now s.to s.from c.if-to-from.true in
    let w = putting_none (months_from s.base s.table.now s.to s.from) s.out.now in
    record {
      value = putting_count w none;
      out_after = putting_end w none;
    }

pub month_at-month-requires : goal.month_at-month-requires
month_at-month-requires c = (c.requires.days_value, (c.requires.le_from, omega (arith, c.requires.reaches.latest, c.if-to-from.false)))

pub first_day-first-requires : goal.first_day-first-requires
first_day-first-requires c = (c.requires.days_value, c.month_at-month.ensures.below)

pub loop-date-init : goal.loop-date-init
loop-date-init c =
    let from = c.args.from in
    let month = c.month_at-month.ensures.month in
    (omega arith, omega arith, (λ h. record { number = month; begins = c.first_day-first.ensures ∙ ap first_day month ∙ sym (start_is from) }), putting_none _ _)

-- the place of the loop's date in the table of months
below : (c : In-loop-date) → c.loop-date.month < 1200
below c =
    let here = c.loop-date.invariant.2 c.loop-date-test.true in
    omega (arith, here.number, months_in c.loop-date.date (omega (arith, c.requires.le_from, c.loop-date.invariant.0)) (omega (arith, c.requires.reaches.latest, c.loop-date-test.true)))

pub last_day-end-requires : goal.last_day-end-requires
last_day-end-requires c = (c.requires.days_value, below (goal.at.last_day-end-requires c).In-loop-date)

-- the month's last date, and the last one of it or of all
end_is : (c : After-min-last) → c.last_day-end.result ≡ month_end c.loop-date.date
end_is c = here_end _ (c.loop-date.invariant.2 c.loop-date-test.true) c.last_day-end.ensures

last_is : (c : After-min-last) → c.min-last.result ≡ min c.args.to (month_end c.loop-date.date)
last_is c = c.min-last.ensures ∙ ap (min c.args.to) (end_is c)

pub sum_between-sum-requires : goal.sum_between-sum-requires
sum_between-sum-requires c =
    let s = c.requires.reaches in
    let is = last_is (goal.at.sum_between-sum-requires c).After-min-last in
    record { start = omega (arith, s.start, c.loop-date.invariant.0); reach = omega (arith, s.reach, is); latest = omega (arith, s.latest, is) }

pub put_point-j-requires : goal.put_point-j-requires
put_point-j-requires c =
    omega (arith, c.requires.reaches.latest, c.loop-date.invariant.1, c.loop-date-test.true)

pub overflow_add-date : goal.overflow_add-date
overflow_add-date c = omega (arith, last_is (goal.at.overflow_add-date c).After-min-last, c.requires.reaches.latest)

pub overflow_add-first : goal.overflow_add-first
overflow_add-first c =
    let month = c.loop-date.month in
    omega (arith, c.last_day-end.ensures, first_most (january2000 + month + 1) (omega (arith, below (goal.at.overflow_add-first c).In-loop-date)))

pub overflow_add-month : goal.overflow_add-month
overflow_add-month c = omega (arith, below (goal.at.overflow_add-month c).In-loop-date)

pub loop-date-smaller : goal.loop-date-smaller
loop-date-smaller c = omega (arith, last_is (goal.at.loop-date-smaller c).After-min-last, in_month_lem c.loop-date.date, c.loop-date-test.true)

pub loop-date-preserved : goal.loop-date-preserved
loop-date-preserved c =
    let e = (goal.at.loop-date-preserved c).After-min-last in
    let s = c.args in
    let l = c.loop-date in
    let w = l.invariant.2 c.loop-date-test.true in
    let end = c.last_day-end in
    let last = c.min-last.result in
    let sum = c.sum_between-sum in
    let r = c.put_point-j in
    let points = points_in s.base s.table.now l.date last in
    let is = last_is e in
    let bound : mag c.sum_between-sum.result.total < 2 ^ hbits w64 = omega arith in
    let row =
    row_if_lem (ltb 0 (length points)) (month_start l.date) (saturated_sum points)
    ∙ sym
    (ap₂ (λ (n d : ℕ). row_if (ltb 0 n) d c.to_bits.result) sum.ensures.points w.begins
    ∙ ap (row_if (ltb 0 (length points)) (month_start l.date)) (c.to_bits.ensures ∙ ap bits (back w64 sum.result.total bound ∙ sum.ensures.total)))
    in (
      omega (arith, l.invariant.0, is, in_month_lem l.date),
      omega (arith, l.invariant.0, l.invariant.1, r.ensures.value, row_most (ltb 0 sum.result.points) l.first c.to_bits.result, is, in_month_lem l.date),
      (λ h. let q : end.result + 1 ≡ last + 1 = omega (arith, is, end_is e) in subst (λ (d : ℕ). Here d (l.month + 1) (end.result + 1)) q (here_next _ w end.ensures)),
      putting_more l.invariant.3 (cons_if (ltb 0 (length points)) (on (month_start l.date) (saturated_sum points)) [])
          (month_next s.base s.table.now s.to l.date last c.loop-date-test.true is) row r.ensures.value r.ensures.out_after,
    )

pub shape_of-out : goal.shape_of-out
shape_of-out c = c.loop-date.invariant.3.long

pub returns : goal.returns
returns c =
    let s = c.args in
    let l = c.loop-date in
    let none = months_end s.base s.table.now s.to l.date c.loop-date-test.false in
    record {
      value = putting_count l.invariant.3 none;
      out_after = putting_end l.invariant.3 none;
    }
