-- `put_points` meets its contract: the loop keeps that with the rows of the dates that are left all are written.
use mathlib.Core.List.{[]}
use Prim.Native.Nat.{◌+◌, ◌*◌, ◌-◌}
use native.Mathlib.Omega.{arith}
use Rattle.lists.specs.Lists.{cons_if}
use Rattle.laid.specs.Laid.{sum_of}
use Rattle.bydate.specs.Pointed.{sum_on}
use Rattle.bydate.proofs.Writing.{row_most, row_held, putting_none, putting_more, putting_count, putting_end, points_next, points_end}
use Rattle.bydate.proofs.points.put_points.Goals as goal

pub loop-date-init : goal.loop-date-init
loop-date-init c = (omega arith, omega arith, putting_none _ _)

pub is_marked-marked-requires : goal.is_marked-marked-requires
is_marked-marked-requires c = omega (arith, c.requires.start, c.requires.reach, c.loop-date.invariant.0)

pub overflow_sub-sum : goal.overflow_sub-sum
overflow_sub-sum c = omega (arith, c.requires.start, c.loop-date.invariant.0)

pub overflow_mul-sum : goal.overflow_mul-sum
overflow_mul-sum c = omega (arith, c.requires.reach)

pub overflow_add-sum : goal.overflow_add-sum
overflow_add-sum c = omega (arith, c.requires.reach)

pub bounds-table-date : goal.bounds-table-date
bounds-table-date c = omega (arith, c.requires.start, c.requires.reach, c.loop-date.invariant.0)

pub put_point-j-requires : goal.put_point-j-requires
put_point-j-requires c = omega (arith, c.requires.latest, c.loop-date.invariant.1)

pub loop-date-preserved : goal.loop-date-preserved
loop-date-preserved c =
    let s = c.args in
    let l = c.loop-date in
    let marked = c.is_marked-marked in
    let r = c.put_point-j in (
      omega (arith, l.invariant.0),
      omega (arith, l.invariant.0, l.invariant.1, r.ensures.value, row_most marked.result l.date (sum_of s.base s.table.now l.date)),
      putting_more l.invariant.2 (cons_if marked.result (sum_on s.base s.table.now l.date) [])
          (points_next s.base s.to s.table.now l.date marked.result (omega arith) marked.ensures)
          (row_held marked.result l.date (sum_of s.base s.table.now l.date) (c.type_inv.table ((l.date - s.base) * 2 + 1)).fits)
          r.ensures.value r.ensures.out_after,
    )

pub shape_of-out : goal.shape_of-out
shape_of-out c = c.loop-date.invariant.2.long

pub returns : goal.returns
returns c =
    let s = c.args in
    let l = c.loop-date in
    let none = points_end s.base s.to s.table.now l.date (omega arith) in
    record {
      value = putting_count l.invariant.2 none;
      out_after = putting_end l.invariant.2 none;
    }
