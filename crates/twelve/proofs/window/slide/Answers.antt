-- `slide` meets its contract: a month is taken in, and one is dropped where the window has twelve.
use Prim.Native.Nat.{◌+◌}
use native.Mathlib.Omega.{arith}
use Rattle.money.specs.Exact.{value_of}
use Rattle.twelve.specs.Parts.{IsWithin}
use Rattle.twelve.proofs.Windows.{within_sum, within_dif, within_more, within_small, moved_on, moved_past}
use Rattle.twelve.proofs.window.slide.Goals as goal
use Rattle.twelve.proofs.window.slide.Goals.{After-add-wider}

-- how large the window is with the month taken in
wider : (c : After-add-wider) → IsWithin (c.args.month + c.args.month + 1) (value_of c.add-wider.result)
wider c =
    within_sum (c.args.month + c.args.month) 1 (value_of c.args.window) (value_of c.sum_month.result) c.requires.window_value.1 c.sum_month.ensures.small c.add-wider.ensures

pub add-wider-requires : goal.add-wider-requires
add-wider-requires c =
    (within_small (c.args.month + c.args.month) (value_of c.args.window) (omega (arith, c.requires.first_le_month.1)) c.requires.window_value.1, within_small 1 (value_of c.sum_month.result) (omega arith) c.sum_month.ensures.small)

pub returns-then-month-first : goal.returns-then-month-first
returns-then-month-first c =
    let i = c.args.month in record {
      sum = moved_on _ i c.requires.window_value.0 c.sum_month.ensures.sum c.add-wider.ensures c.args.first c.requires.has_reach.1 (omega (arith, c.if-month-first.true));
      small = within_more (i + i + 1) (i + i + 2) (value_of c.add-wider.result) (omega arith) (wider (goal.at.returns-then-month-first c).After-add-wider);
    }

pub subtract-requires : goal.subtract-requires
subtract-requires c =
    let i = c.args.month in
    (within_small (i + i + 1) (value_of c.add-wider.result) (omega (arith, c.requires.first_le_month.1)) (wider (goal.at.subtract-requires c).After-add-wider), within_small 1 (value_of c.sum_month-2.result) (omega arith) c.sum_month-2.ensures.small)

pub returns : goal.returns
returns c =
    let i = c.args.month in
    let old = c.sum_month-2 in record {
      sum = moved_past _ i c.requires.window_value.0 c.sum_month.ensures.sum c.add-wider.ensures (omega (arith, c.if-month-first.false)) old.ensures.sum c.subtract.ensures;
      small = within_more (i + i + 1 + 1) (i + i + 2) (value_of c.subtract.result) (omega arith)
          (within_dif (i + i + 1) 1 (value_of c.add-wider.result) (value_of old.result) (wider (goal.at.returns c).After-add-wider) old.ensures.small c.subtract.ensures);
    }

pub sum_month-requires : goal.sum_month-requires
sum_month-requires c = record { days_value = c.requires.days_value; has_reach = (c.requires.has_reach.0, c.requires.first_le_month.1) }

pub overflow_add-first : goal.overflow_add-first
overflow_add-first c = omega (arith, c.requires.first_le_month)

pub overflow_sub-month : goal.overflow_sub-month
overflow_sub-month c = omega (arith, c.if-month-first.false)

pub sum_month-requires-2 : goal.sum_month-requires-2
sum_month-requires-2 c = record { days_value = c.requires.days_value; has_reach = (c.requires.has_reach.0, omega (arith, c.requires.first_le_month)) }
