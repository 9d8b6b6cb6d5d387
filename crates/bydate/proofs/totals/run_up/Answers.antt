-- `run_up` meets its contract: the loop keeps that with the dates that are left made totals, all are.
use mathlib.Core.Path.{sym, ap, ◌∙◌}
use native.Mathlib.Omega.{arith}
use lib.IntN.{ℤ, ◌+ℤ◌}
use mir.Syntax.{w64}
use mir.Val.{to_z}
use Rattle.integer.specs.Clamp.{clamp}
use Rattle.money.specs.Words.{bits}
use Rattle.integer.specs.Linear.{back}
use Rattle.bydate.proofs.Running.{totalling_none, totalling_past, totalling_more, totalling_long, totalling_end}
use Rattle.bydate.proofs.totals.run_up.Goals as goal
use Rattle.bydate.proofs.totals.run_up.Goals.{then-is_marked, else-is_marked}

pub loop-date-init : goal.loop-date-init
loop-date-init c = totalling_none _ _ _ _

pub is_marked-requires : goal.is_marked-requires
is_marked-requires c =
    let l = c.loop-date in
    omega (arith, c.requires.start, c.requires.reach, l.invariant.begun, totalling_long _ _ _ l.invariant)

pub overflow_sub-at : goal.overflow_sub-at
overflow_sub-at c = omega (arith, c.requires.start, c.loop-date.invariant.begun)

pub overflow_mul-at : goal.overflow_mul-at
overflow_mul-at c = omega (arith, c.requires.latest)

pub overflow_add-at : goal.overflow_add-at
overflow_add-at c = omega (arith, c.requires.latest)

pub bounds-table-at : goal.bounds-table-at
bounds-table-at c =
    let l = c.loop-date in
    omega (arith, c.requires.start, c.requires.reach, l.invariant.begun, totalling_long _ _ _ l.invariant)

pub bounds-table-at-then-is_marked : goal.bounds-table-at-then-is_marked
bounds-table-at-then-is_marked c =
    let l = c.loop-date in
    omega (arith, c.requires.start, c.requires.reach, l.invariant.begun, totalling_long _ _ _ l.invariant)

pub shape_of-table : goal.shape_of-table
shape_of-table c = totalling_long _ _ _ c.loop-date.invariant

pub loop-date-preserved : goal.loop-date-preserved
loop-date-preserved c =
    elim c.if-is_marked.branch [
      | then-is_marked w ↦
          let old = w.from_bits in
          let new = w.saturating_add-total in
          rw w.table-is
          (totalling_more _ _ _ c.loop-date.invariant (omega arith) (sym c.is_marked.ensures ∙ w.if-is_marked.true)
          (w.total-is
          ∙ back w64 new.result new.type_inv
          ∙ new.ensures
          ∙ ap (λ (z : ℤ). clamp w64 (to_z w64 c.loop-date.total-bits +ℤ z)) (back w64 old.result old.type_inv ∙ old.ensures))
          (w.to_bits.ensures ∙ ap bits (sym w.total-is)))
      | else-is_marked w ↦ rw w.table-is (rw w.total-is (totalling_past _ _ _ c.loop-date.invariant (omega arith) (sym c.is_marked.ensures ∙ w.if-is_marked.false)))
    ]

pub returns : goal.returns
returns c = totalling_end _ _ _ c.loop-date.invariant (omega arith) c.requires
