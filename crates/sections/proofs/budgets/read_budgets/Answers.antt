-- `read_budgets` meets its contract: what is marked is what a budget before names.
use Prim.Native.Nat.{◌<◌}
use native.Mathlib.Omega.{arith}
use mathlib.Core.Path.{◌≡◌, ap, sym, subst}
use mathlib.Core.List.{[], ◌∷◌}
use lib.Dec.{eqb}
use lib.ListN.{get_or}
use Rattle.format.specs.Field.{index}
use Rattle.format.specs.Codec.{O}
use Rattle.format.specs.Format.{is_new, budget}
use Rattle.sections.specs.Sections.{budget_of}
use Rattle.sections.proofs.Lists.{going_none, going_more, going_end}
use Rattle.sections.proofs.Marks.{Small, none_marked, one_marked, place_below, index_small, budget_small}
use Rattle.sections.proofs.budgets.read_budgets.Goals as goal
use Rattle.sections.proofs.budgets.read_budgets.Goals.{After-mark_of-j, After-mark_of-k}

pub loop-init : goal.loop-init
loop-init c = ([], (going_none _ _ _ _ _ _, none_marked))

at_mark : (c : After-mark_of-k) → c.mark_of-k.result < 501
at_mark c = place_below c.optional_index-named.result.value c.mark_of-k.ensures

at_mark2 : (c : After-mark_of-j) → c.mark_of-j.result < 501
at_mark2 c = place_below c.read_budget-b.result.activity c.mark_of-j.ensures

pub offset_bounds-marks-k : goal.offset_bounds-marks-k
offset_bounds-marks-k c = omega (arith, at_mark (goal.at.offset_bounds-marks-k c).After-mark_of-k)

pub bounds-marks-k : goal.bounds-marks-k
bounds-marks-k c = omega (arith, at_mark (goal.at.bounds-marks-k c).After-mark_of-k)

pub offset_bounds-marks-j : goal.offset_bounds-marks-j
offset_bounds-marks-j c = omega (arith, at_mark2 (goal.at.offset_bounds-marks-j c).After-mark_of-j)

pub bounds-marks-j : goal.bounds-marks-j
bounds-marks-j c = omega (arith, at_mark2 (goal.at.bounds-marks-j c).After-mark_of-j)

pub loop-preserved : goal.loop-preserved
unfolding budget_of
loop-preserved c =
    let l = c.loop in
    let n = c.args.activities in
    let bytes = c.args.book.now in
    let before = l.invariant.0 in
    let read = ((O (index n)).read bytes l.next).0 in
    let name = c.read_budget-b.result.activity in
    let small : Small read = index_small n bytes l.next c.requires in
    let named : c.optional_index-named.result.value ≡ read = ap (λ v. v.0) c.optional_index-named.ensures in
    let new : eqb (get_or l.marks c.mark_of-k.result 0) 0 ≡ is_new before read = rw (c.mark_of-k.ensures, named) (sym (l.invariant.1.1.same _ small)) in
    let b = c.read_budget-b.ensures before new in
    let its : name ≡ ((budget n before).read bytes l.next).0.activity = ap (λ v. v.0.activity) b in
    let held : Small name = subst Small (sym its) (budget_small n before bytes l.next c.requires) in
    (name ∷ before, (going_more l.invariant.1.0 c.loop-test.true b, rw c.mark_of-j.ensures (one_marked l.invariant.1.1 name held)))

pub returns-then-count-eq0 : goal.returns-then-count-eq0
returns-then-count-eq0 c = record { lead = c.field-lead.ensures; rest = going_end (going_none _ _ _ _ _ _) (omega (arith, c.if-count-eq0.true)) }

pub returns : goal.returns
returns c = record { lead = c.field-lead.ensures; rest = going_end c.loop.invariant.1.0 c.loop-test.false }
