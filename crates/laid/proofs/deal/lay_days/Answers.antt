-- `lay_days` meets its contract: the loop keeps that with the dates that are left all are laid.
use mathlib.Core.Path.{refl, sym, ap, ◌∙◌}
use mathlib.Core.Bool.{true, false}
use mathlib.Core.List.{[], ◌∷◌}
use Prim.Native.Nat.{◌+◌, ◌≤◌}
use native.Mathlib.Omega.{arith}
use lib.IntN.{ℤ}
use lib.ListN.{length}
use mir.Syntax.{w64}
use Rattle.integer.specs.Linear.{back}
use Rattle.model.specs.Amounts.{on}
use Rattle.laid.specs.Dealt.{dealt, of_deal}
use Rattle.laid.specs.Listed.{in_row, worked_in}
use Rattle.laid.proofs.Laying.{laying_none, laying_more, laying_past, laying_end, laid_same}
use Rattle.laid.proofs.Dealing.{dealt_parted}
use Rattle.laid.proofs.Dates.{none_left, one_first, count_first}
use Rattle.laid.proofs.deal.lay_days.Goals as goal
use Rattle.laid.proofs.deal.lay_days.Goals.{then-is_working, else-is_working}

pub loop-date-init : goal.loop-date-init
loop-date-init c = (omega arith, omega arith, refl, laying_none _ _ _)

pub is_working-requires : goal.is_working-requires
is_working-requires c = omega (arith, c.requires.covers.start, c.requires.covers.reach)

pub overflow_add-next : goal.overflow_add-next
overflow_add-next c = omega (arith, c.requires.covers.latest, c.loop-date.invariant.1)

pub loop-date-preserved : goal.loop-date-preserved
unfolding dealt
loop-date-preserved c =
    let s = c.args in
    let l = c.loop-date in
    let p = in_row s.span.row s.span.base s.days.now in
    let test : l.date ≤ s.last = omega arith in
    let rest = worked_in s.days.now s.span (l.date + 1) s.last in
    elim c.if-is_working.branch [
      | then-is_working w ↦
          let works = sym c.is_working.ensures ∙ w.if-is_working.true in
          let amount = w.amount_of-amount in (
            omega (arith, l.invariant.0),
            omega (arith, w.next-is, l.invariant.1),
            omega (arith, w.next-is, l.invariant.2, count_first p l.date s.last true test works),
            rw w.next-is
                (rw w.table-is
                (laying_more l.invariant.3
                (dealt_parted (λ d. of_deal s.deal) l.next (l.next + 1) _ (l.date ∷ []) rest (one_first p l.date s.last true test works) refl)
                (laid_same (ap (λ (z : ℤ). on l.date z ∷ []) (back w64 amount.result amount.type_inv ∙ amount.ensures)) w.lay.ensures))),
          )
      | else-is_working w ↦
          let idle = sym c.is_working.ensures ∙ w.if-is_working.false in (
            omega (arith, l.invariant.0),
            omega (arith, w.next-is, l.invariant.1),
            omega (arith, w.next-is, l.invariant.2, count_first p l.date s.last false test idle),
            rw w.next-is (rw w.table-is (laying_past l.invariant.3 (ap (dealt (λ d. of_deal s.deal) l.next) (one_first p l.date s.last false test idle)))),
          )
    ]

pub shape_of-table : goal.shape_of-table
shape_of-table c = c.loop-date.invariant.3.long

pub returns : goal.returns
unfolding dealt
returns c =
    let s = c.args in
    let l = c.loop-date in
    let none = none_left (in_row s.span.row s.span.base s.days.now) l.date s.last (omega arith) in
    record {
      value = omega (arith, l.invariant.2, ap length none);
      laid = laying_end l.invariant.3 (ap (dealt (λ d. of_deal s.deal) l.next) none);
    }
