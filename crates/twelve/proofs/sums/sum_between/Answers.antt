-- `sum_between` meets its contract: the loop keeps that with the points that are left all are added.
use Prim.Native.Nat.{◌+◌, ◌-◌, ◌*◌, ◌^◌, ◌≤◌, ◌<◌}
use mathlib.Core.Path.{sym, ap, ◌∙◌}
use native.Mathlib.Omega.{arith}
use lib.IntN.{nat_abs}
use lib.ListN.{length, get_or}
use Rattle.money.specs.Exact.{value_of}
use Rattle.money.proofs.ExactWords.{of_bits_small}
use Rattle.twelve.proofs.Adding.{adding_none, adding_past, adding_more, adding_small, adding_within, adding_end}
use borrow.Author.Rules.{rules}
use Rattle.twelve.proofs.sums.sum_between.Goals as goal
use Rattle.twelve.proofs.sums.sum_between.Goals.{In-loop-date, then-is_marked, else-is_marked}

-- a date of the loop is in the table
inside : (c : In-loop-date) → let a = c.args in (c.loop-date.date - a.base) * 2 + 1 < length a.table.now
inside c = omega (arith, c.requires.start, c.requires.reach, c.loop-date.invariant.begun)

pub is_marked-requires : goal.is_marked-requires
is_marked-requires c = omega (arith, inside (goal.at.is_marked-requires c).In-loop-date, c.requires.start, c.loop-date.invariant.begun)

pub add-total-requires : goal.add-total-requires
add-total-requires c = (adding_small _ _ c.loop-date.invariant, omega (arith, ap nat_abs c.widened-sum.ensures, of_bits_small (get_or c.args.table.now ((c.loop-date.date - c.args.base) * 2 + 1) 0) (search rules)))

pub loop-date-preserved : goal.loop-date-preserved
loop-date-preserved c =
    elim c.if-is_marked.branch [
      | then-is_marked w ↦
          let sum = w.widened-sum in
          let small : nat_abs (value_of sum.result) ≤ 2 ^ 63 = omega (arith, ap nat_abs sum.ensures, of_bits_small (get_or c.args.table.now ((c.loop-date.date - c.args.base) * 2 + 1) 0) (search rules)) in
          rw w.total-is (adding_more _ _ c.loop-date.invariant (omega arith) c.requires.latest (sym c.is_marked.ensures ∙ w.if-is_marked.true) small sum.ensures w.add-total.ensures)
      | else-is_marked w ↦ rw w.total-is (adding_past _ _ c.loop-date.invariant (omega arith) c.requires.latest (sym c.is_marked.ensures ∙ w.if-is_marked.false))
    ]

pub returns : goal.returns
returns c = record {
  sum = adding_end _ _ c.loop-date.invariant (omega arith);
  small = adding_within _ _ c.loop-date.invariant;
}

pub loop-date-init : goal.loop-date-init
loop-date-init c = adding_none _ _ _ _

pub overflow_sub-date : goal.overflow_sub-date
overflow_sub-date c = omega (arith, c.requires.start, c.loop-date.invariant.begun)

pub overflow_mul-date : goal.overflow_mul-date
overflow_mul-date c = omega (arith, inside (goal.at.overflow_mul-date c).In-loop-date)

pub bounds-table-date : goal.bounds-table-date
bounds-table-date c = omega (arith, inside (goal.at.bounds-table-date c).In-loop-date)
