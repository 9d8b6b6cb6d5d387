-- `sum_month` meets its contract: the dates of the month, as far as they are of the reach.
use Prim.Native.Nat.{◌+◌}
use native.Mathlib.Omega.{arith}
use mathlib.Core.Path.{◌∙◌}
use Rattle.months.specs.Months.{january2000}
use Rattle.twelve.proofs.Points.{month_sum_lem}
use Rattle.twelve.proofs.sums.sum_month.Goals as goal

pub sum_between-requires : goal.sum_between-requires
sum_between-requires c =
    let r = c.requires.has_reach.0.reaches in
    record {
      start = omega (arith, r.start, c.max-first.ensures);
      reach = omega (arith, r.reach, c.min-last.ensures);
      latest = omega (arith, r.latest, c.min-last.ensures);
    }

pub returns : goal.returns
returns c =
    let a = c.args in
    let sum = c.sum_between.ensures in
    record {
      sum = sum.sum ∙ month_sum_lem a.table.now a.reach (january2000 + a.i) _ _ (omega (arith, c.max-first.ensures, c.first_day.ensures)) (omega (arith, c.min-last.ensures, c.last_day.ensures));
      small = sum.small;
    }

pub first_day-requires : goal.first_day-requires
first_day-requires c = (c.requires.days_value, c.requires.has_reach.1)

pub last_day-requires : goal.last_day-requires
last_day-requires c = (c.requires.days_value, c.requires.has_reach.1)
