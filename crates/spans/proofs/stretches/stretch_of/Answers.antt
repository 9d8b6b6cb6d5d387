-- `stretch_of` meets its contract: one row a turn.
use Prim.Native.Nat.{ℕ, ◌+◌, ◌*◌, ◌≤◌, ◌<◌}
use native.Mathlib.Omega.{arith}
use mathlib.Core.Path.{◌≡◌}
use mathlib.Core.List.{List}
use lib.ListN.{length, get_or, get_or-eq_default}
use Rattle.flat.proofs.Cells.{row_inside, cell_inside}
use Rattle.spans.proofs.Covering.{covering_none, covering_more, covers_closed}
use Rattle.spans.proofs.stretches.stretch_of.Goals as goal
use Rattle.spans.proofs.stretches.stretch_of.Goals.{In-loop-i}

pub loop-i-init : goal.loop-i-init
loop-i-init c = covering_none _ _

-- a span is in the table
inside : (c : In-loop-i) → c.loop-i.i * c.args.width + c.args.at + 1 < length c.args.table.now
inside c =
    omega (arith, cell_inside {i = c.loop-i.i} {j = c.args.at + 1} {n = c.args.n} {width = c.args.width} c.loop-i-test.true c.requires.table_len.1, c.requires.table_len.0)

pub overflow_mul-k : goal.overflow_mul-k
overflow_mul-k c = omega (arith, inside (goal.at.overflow_mul-k c).In-loop-i)

pub overflow_add-k : goal.overflow_add-k
overflow_add-k c = omega (arith, inside (goal.at.overflow_add-k c).In-loop-i)

pub offset_bounds-table-k : goal.offset_bounds-table-k
offset_bounds-table-k c = omega (arith, inside (goal.at.offset_bounds-table-k c).In-loop-i)

pub bounds-table-k : goal.bounds-table-k
bounds-table-k c = omega (arith, inside (goal.at.bounds-table-k c).In-loop-i)

pub overflow_add-k-in-loop-i : goal.overflow_add-k-in-loop-i
overflow_add-k-in-loop-i c = omega (arith, inside (goal.at.overflow_add-k-in-loop-i c).In-loop-i)

pub offset_bounds-table-k-in-loop-i : goal.offset_bounds-table-k-in-loop-i
offset_bounds-table-k-in-loop-i c = omega (arith, inside (goal.at.offset_bounds-table-k-in-loop-i c).In-loop-i)

pub bounds-table-k-in-loop-i : goal.bounds-table-k-in-loop-i
bounds-table-k-in-loop-i c = omega (arith, inside (goal.at.bounds-table-k-in-loop-i c).In-loop-i)

pub loop-i-preserved : goal.loop-i-preserved
loop-i-preserved c =
    covering_more c.loop-i.invariant c.requires.dated_spans c.widen-known.ensures

-- past the rows there is nothing
past : (table : List ℕ) (n width at i j : ℕ) → length table ≡ n * width → n ≤ i → i ≤ j → get_or table (j * width + at) 0 ≡ 0
past table n width at i j e h k = get_or-eq_default table 0 {n = j * width + at} (omega (arith, row_inside {i = n} {n = j + 1} width (omega arith)))

pub returns : goal.returns
returns c =
    covers_closed c.loop-i.invariant (λ j h. past c.args.table.now c.args.n c.args.width c.args.at c.loop-i.i j c.requires.table_len.0 c.loop-i-test.false h) c.close.ensures
