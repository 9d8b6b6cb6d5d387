-- `count_row` meets its contract: the two dates of the line.
use native.Mathlib.Omega.{arith}
use mathlib.Core.Path.{refl, sym, ◌∙◌}
use lib.ListN.{length-set}
use Rattle.variances.specs.Days.{counted_between}
use Rattle.variances.proofs.Counting.{has_count}
use Rattle.variances.proofs.Dating.{start_reached, finish_reached, row_dated, row_passed}
use Rattle.variances.proofs.days.count_row.Goals as goal

pub between-start-requires : goal.between-start-requires
between-start-requires c =
    let w = c.requires.reaches (sym c.is_under.ensures ∙ c.if-is_under.true) in
    record { has_count = has_count c.requires.counted w.early_start; has_count_2 = has_count c.requires.counted (start_reached c.args.out.now w) }

pub between-finish-requires : goal.between-finish-requires
between-finish-requires c =
    let w = c.requires.reaches (sym c.is_under.ensures ∙ c.if-is_under.true) in
    record { has_count = has_count c.requires.counted w.early_finish; has_count_2 = has_count c.requires.counted (finish_reached c.args.out.now w) }

pub bounds-out-at-then-is_under-3 : goal.bounds-out-at-then-is_under-3
bounds-out-at-then-is_under-3 c =
    simp length-set (omega (arith, c.requires.i_in_bounds))

pub returns-then-is_under : goal.returns-then-is_under
returns-then-is_under c =
    let a = c.args in
    row_dated (counted_between a.reach.from a.counts.now) a.schedule.now a.out.now a.number a.i c.requires.i_in_bounds.1
    (sym c.is_under.ensures ∙ c.if-is_under.true) c.between-start.ensures c.between-finish.ensures refl

pub returns-else-is_under : goal.returns-else-is_under
returns-else-is_under c =
    let a = c.args in
    row_passed (counted_between a.reach.from a.counts.now) a.schedule.now a.out.now a.number a.i (sym c.is_under.ensures ∙ c.if-is_under.false)
