-- The rows of earned value: a leaf's is its own, a parent has none of its own; without a circle a parent's is made of the leaves below it; their budgets and
-- planned values are of 64 bits.
use Prim.Native.Nat.{ℕ}
use mathlib.Core.Path.{◌≡◌, refl, ap, ◌∙◌}
use mathlib.Core.Bool.{Bool, true, false, cond}
use mathlib.Core.List.{map, flat_map, foldl}
use native.Mathlib.Omega.{arith}
use lib.IntN.{ℤ, pos}
use mir.Syntax.{w64}
use mir.Val.{SFits}
use Rattle.format.specs.Book.{Book}
use Rattle.format.specs.InRange.{InRange}
use Rattle.model.specs.declared.Earned.{Earned}
use Rattle.lists.specs.Lists.{keep}
use Rattle.model.specs.Amounts.{amounts, saturated_sum}
use Rattle.model.specs.Tree.{parents, indices, is_leaf, leaves, NoCircle, below, brought, roll_up}
use Rattle.model.specs.Planned.{planned_amounts, is_up_to, planned_on}
use Rattle.model.specs.Earned.{no_earned, add_earned, leaf_earned, own_earned, earned_at, project_earned}
use Rattle.lists.proofs.Lists.{map_kept}
use Rattle.model.proofs.Tree.{roll_up_lem, leaf_row}
use Rattle.model.proofs.Figures.{FigureOf, added_fits}
use Rattle.model.proofs.Saturating.{saturated_fits}
use Rattle.model.proofs.Planned.{budget_fits}

-- each of the five figures is added by itself
pub earned_figures_lem :
    FigureOf add_earned (λ e. e.budget) × FigureOf add_earned (λ e. e.planned) × FigureOf add_earned (λ e. e.earned)
    × FigureOf add_earned (λ e. e.actual) × FigureOf add_earned (λ e. e.remaining)
earned_figures_lem = (λ a b. refl, λ a b. refl, λ a b. refl, λ a b. refl, λ a b. refl)

module _ (book : Book) (date : ℕ) where
  pub leaf_own : (i : ℕ) → is_leaf (parents book) i ≡ true → own_earned book date i ≡ leaf_earned book date i
  unfolding own_earned
  leaf_own i l = rw l

  pub parent_own : (i : ℕ) → is_leaf (parents book) i ≡ false → own_earned book date i ≡ no_earned
  unfolding own_earned
  parent_own i l = rw l

  pub leaf_earned_lem : (i : ℕ) → is_leaf (parents book) i ≡ true → earned_at book date i ≡ leaf_earned book date i
  unfolding earned_at
  leaf_earned_lem i l = leaf_row add_earned (parents book) (own_earned book date) i l ∙ leaf_own i l

  pub earned_below : NoCircle (parents book) → (p : ℕ) → earned_at book date p ≡ foldl add_earned (own_earned book date p) (map (own_earned book date) (below (parents book) p))
  unfolding earned_at
  earned_below a p = roll_up_lem (parents book) add_earned (own_earned book date) a p

  pub project_earned_lem : project_earned book date ≡ foldl add_earned no_earned (map (leaf_earned book date) (leaves (parents book)))
  unfolding project_earned leaves
  project_earned_lem = ap (foldl add_earned no_earned) (map_kept (is_leaf (parents book)) (earned_at book date) (leaf_earned book date) (indices (parents book)) leaf_earned_lem)

  -- ---- in 64 bits
  earned_fits : (f : Earned → ℤ) → FigureOf add_earned f → (i : ℕ) → SFits w64 (f (own_earned book date i)) → SFits w64 (f (earned_at book date i))
  unfolding earned_at roll_up
  earned_fits f g i h = added_fits add_earned f g (own_earned book date i) (flat_map (brought add_earned (parents book) (own_earned book date) i) (indices (parents book))) h

  own_fits : (f : Earned → ℤ) (i : ℕ) → SFits w64 (f (leaf_earned book date i)) → SFits w64 (f no_earned) → SFits w64 (f (own_earned book date i))
  unfolding own_earned
  own_fits f i h z = go (is_leaf (parents book) i)
    where
      go : (b : Bool) → SFits w64 (f (cond b (leaf_earned book date i) no_earned))
      go true = h
      go false = z

  zero_fits : SFits w64 (pos 0)
  zero_fits = record { sfits = omega arith }

  pub earned_planned_fits : (i : ℕ) → SFits w64 (earned_at book date i).planned
  unfolding leaf_earned planned_on saturated_sum
  earned_planned_fits i =
      earned_fits (λ e. e.planned) earned_figures_lem.1 i
      (own_fits (λ e. e.planned) i (saturated_fits w64 (pos 0) zero_fits (amounts (keep (is_up_to date) (planned_amounts book i)))) zero_fits)

  pub earned_budget_fits : InRange book → (i : ℕ) → SFits w64 (earned_at book date i).budget
  unfolding leaf_earned
  earned_budget_fits ok i = earned_fits (λ e. e.budget) earned_figures_lem.0 i (own_fits (λ e. e.budget) i (budget_fits book i ok) zero_fits)

  pub project_planned_fits : SFits w64 (project_earned book date).planned
  unfolding project_earned
  project_planned_fits = added_fits add_earned (λ e. e.planned) earned_figures_lem.1 no_earned (map (earned_at book date) (leaves (parents book))) zero_fits
