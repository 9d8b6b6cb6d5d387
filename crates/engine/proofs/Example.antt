-- The client's third demand on document 01's example: what it asks for is met, so that it says something.
use Rattle.std.specs.Prelude.{None, Some, Ok}
use Prim.Native.Nat.{ℕ, zero, suc, ◌*◌, ◌<◌}
use mathlib.Core.Path.{◌≡◌, refl, sym, ap, ◌∙◌, subst}
use mathlib.Core.Bool.{true}
use mathlib.Core.List.{List, [], ◌∷◌}
use native.Mathlib.Omega.{arith}
use lib.IntN.{pos}
use lib.ListN.{length, get_or, replicate, length-replicate}
use Rattle.integer.specs.Folds.{magnitudes}
use Rattle.format.specs.Book.{Book}
use Rattle.format.specs.Format as layout
use Rattle.format.specs.Bytes.{Bytes}
use Rattle.format.specs.InRange.{InRange}
use Rattle.format.specs.Verdict.{verdict, content}
use Rattle.format.proofs.Theorems.{content_in_range, verdict_accepts}
use Rattle.format.proofs.Example.{bytes, example, example_written, read_back}
use Rattle.lists.specs.Lists.{any, span, keep}
use Rattle.model.specs.declared.Earned.{Earned}
use Rattle.model.specs.Tree.{Parents, parents, parent_of, is_leaf, leaves, Ancestor, parent, above}
use Rattle.model.specs.Planned.{planned_curve_between}
use Rattle.model.specs.Earned.{no_earned, earned_at, earned_value}
use Rattle.model.specs.Demand.{NoOwnAncestor, SmallBudgets, PlannedValue}
use Rattle.model.proofs.Example.{example_earned, example_curve}
use Rattle.answers.specs.Rows.{earned_width}
use Rattle.answers.specs.Calls.{is_date}
use Rattle.engine.specs.Demand.{LentAt, AllAccepted, HasRoom, HasCurveRoom, lent_reading, lent_curve}
use Rattle.engine.proofs.Demand.{reads, all_accepted, planned_value_accepted}
use Rattle.lists.proofs.Options.{none_ne_some, some_injective}
use Rattle.format.specs.Position.{Pos}

-- ---- the calls: at its data date and at the last date of all, with just as much lent as they need

abbrev lent_at : ℕ → LentAt
lent_at date = record { date = date; earned = replicate (2 * earned_width) 0; project = replicate earned_width 0 }

abbrev curve : List ℕ
curve = replicate 6 0

accepted : verdict bytes ≡ Ok 67
accepted = ap (λ (l : List (ℕ × Pos)). (get_or l 0 (0, Ok 0)).1) read_back.1

written : Bytes bytes
written i = subst (λ (s : List ℕ). get_or s i 0 < 256) example_written ((layout.book).bytes example i)

in_range_lem : InRange (content bytes)
in_range_lem = content_in_range bytes (verdict_accepts bytes written 67 accepted)

activities : length (content bytes).activities ≡ 2
activities = ap (λ (b : Book). length b.activities) read_back.0

enough : (date : ℕ) → HasRoom bytes (lent_at date)
enough date = record { for_activities = rw (activities, length-replicate {A = ℕ} (2 * earned_width) 0) (omega arith); for_project = rw (length-replicate {A = ℕ} earned_width 0) (omega arith) }

curve_enough : HasCurveRoom bytes 47481 curve
curve_enough =
    let points : length (planned_curve_between (content bytes) 10957 47481) ≡ 3 = ap (λ (b : Book). length (planned_curve_between b 10957 47481)) read_back.0 ∙ ap length example_curve in
    rw (points, length-replicate {A = ℕ} 6 0) (omega arith)

dated : (is_date 19724 ≡ true) × (is_date 47481 ≡ true)
unfolding is_date
dated = (refl, refl)

all : AllAccepted bytes (lent_at 19724) (lent_at 47481) curve
all = all_accepted bytes accepted (lent_at 19724) (lent_at 47481) curve dated.0 dated.1 (enough 19724) (enough 47481) curve_enough

-- ---- activity 0 is the parent of 1, and none is its own ancestor

abbrev tree : Parents
tree = None ∷ Some 0 ∷ []

named : (i : ℕ) {q : ℕ} → parent_of tree i ≡ Some q → (i ≡ 1) × (q ≡ 0)
named zero {q} e = absurd (none_ne_some q e)
named (suc zero) {q} e = (refl, sym (some_injective 0 q e))
named (suc (suc i)) {q} e = absurd (none_ne_some q e)

below : {p i : ℕ} → Ancestor tree p i → (i ≡ 1) × (p ≡ 0)
below {p} {i} (parent e) = named i e
below {p} {i} (above e a) = let n = named i e in let m = below a in absurd (omega (arith, n.1, m.0))

no_circle : NoOwnAncestor (content bytes)
unfolding parents
no_circle = subst NoOwnAncestor (sym read_back.0) (λ i a. let n = below a in omega (arith, n.0, n.1))

-- ---- its one leaf has a budget of 1,000

leaf_budget : (earned_at example 19724 1).budget ≡ pos 1000
unfolding earned_value parents span
leaf_budget = ap (λ (l : List Earned). (get_or l 1 no_earned).budget) example_earned

budget_read : (lent_reading bytes (lent_at 19724)).budget 1 ≡ pos 1000
budget_read =
    (reads bytes in_range_lem (lent_at 19724) all.earned_at_d all.project_at_d).budget 1 (omega (arith, activities))
    ∙ ap (λ (b : Book). (earned_at b 19724 1).budget) read_back.0
    ∙ leaf_budget

one_leaf : leaves (parents (content bytes)) ≡ 1 ∷ []
unfolding leaves is_leaf parents any span keep
one_leaf = ap (λ (b : Book). leaves (parents b)) read_back.0

small : SmallBudgets (content bytes) (lent_reading bytes (lent_at 19724))
unfolding magnitudes
small = rw (one_leaf, budget_read) (omega arith)

-- ---- so all sentences hold

pub example_planned_value : PlannedValue (content bytes) (lent_reading bytes (lent_at 19724)) (lent_reading bytes (lent_at 47481)) (lent_curve bytes 47481 curve)
example_planned_value =
    planned_value_accepted bytes written accepted (lent_at 19724) (lent_at 47481) curve dated.0 dated.1 (enough 19724) (enough 47481) curve_enough no_circle small (omega arith)
