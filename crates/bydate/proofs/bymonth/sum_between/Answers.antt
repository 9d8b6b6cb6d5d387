-- `sum_between` meets its contract: the loop keeps that with the points that are left all are counted and added.
use mathlib.Core.Path.{sym, ap, ◌∙◌}
use native.Mathlib.Omega.{arith}
use lib.IntN.{ℤ, ◌+ℤ◌}
use mir.Syntax.{w64}
use mir.Val.{to_z}
use Rattle.integer.specs.Clamp.{clamp}
use Rattle.integer.specs.Linear.{back}
use Rattle.bydate.proofs.Monthly.{adding_none, adding_past, adding_more, adding_count, adding_sum}
use Rattle.bydate.proofs.bymonth.sum_between.Goals as goal
use Rattle.bydate.proofs.bymonth.sum_between.Goals.{then-is_marked, else-is_marked}

pub loop-date-init : goal.loop-date-init
loop-date-init c = adding_none _ _ _ _

pub is_marked-requires : goal.is_marked-requires
is_marked-requires c = omega (arith, c.requires.start, c.requires.reach, c.loop-date.invariant.begun)

pub overflow_sub-date : goal.overflow_sub-date
overflow_sub-date c = omega (arith, c.requires.start, c.loop-date.invariant.begun)

pub overflow_mul-date : goal.overflow_mul-date
overflow_mul-date c = omega (arith, c.requires.reach)

pub bounds-table-date : goal.bounds-table-date
bounds-table-date c = omega (arith, c.requires.start, c.requires.reach, c.loop-date.invariant.begun)

pub overflow_add-points : goal.overflow_add-points
overflow_add-points c = omega (arith, c.requires.latest, c.loop-date.invariant.most)

pub loop-date-preserved : goal.loop-date-preserved
loop-date-preserved c =
    elim c.if-is_marked.branch [
      | then-is_marked w ↦
          let old = w.from_bits-sum in
          let new = w.saturating_add-total in
          rw w.points-is
          (adding_more _ _ c.loop-date.invariant (omega arith) (sym c.is_marked.ensures ∙ w.if-is_marked.true)
          (w.total-is
          ∙ back w64 new.result new.type_inv
          ∙ new.ensures
          ∙ ap (λ (z : ℤ). clamp w64 (to_z w64 c.loop-date.total-bits +ℤ z)) (back w64 old.result old.type_inv ∙ old.ensures)))
      | else-is_marked w ↦ rw w.points-is (rw w.total-is (adding_past _ _ c.loop-date.invariant (omega arith) (sym c.is_marked.ensures ∙ w.if-is_marked.false)))
    ]

pub returns : goal.returns
returns c = record {
  points = adding_count _ _ c.loop-date.invariant (omega arith);
  total = adding_sum _ _ c.loop-date.invariant (omega arith);
}
