-- A book without activities: no leaf, nothing planned, earned or charged.
use Prim.Native.Nat.{ℕ}
use native.Mathlib.Omega.{arith}
use mathlib.Core.Path.{◌≡◌, refl, sym, ap, ◌∙◌}
use mathlib.Core.Bool.{false}
use mathlib.Core.List.{List, [], ◌∷◌, map, flat_map, foldl}
use lib.IntN.{pos}
use lib.ListN.{length}
use Rattle.format.specs.Book.{Activity, Book}
use Rattle.lists.specs.Lists.{any, span, keep}
use Rattle.lists.proofs.Lists.{keep_none}
use Rattle.model.specs.declared.Way.TheVariants.{Planned}
use Rattle.model.specs.Days.{dates_between}
use Rattle.model.specs.Amounts.{is_between, is_charged, point_on, points_between, last_day, points}
use Rattle.model.specs.Tree.{Parents, parents, indices, leaves}
use Rattle.model.specs.Costs.{by_day, budget_by_day, spending_between}
use Rattle.model.specs.Planned.{planned_amounts, planned_by_day, running, planned_curve, planned_curve_between}
use Rattle.model.specs.Earned.{no_earned, add_earned, earned_at, project_earned}

module _ (book : Book) (none : length book.activities ≡ 0) where
  no_parents : parents book ≡ []
  unfolding parents
  no_parents = go book.activities none
    where
      go : (xs : List Activity) → length xs ≡ 0 → map (λ (a : Activity). a.parent) xs ≡ []
      go [] e = refl
      go (x ∷ xs) e = absurd (omega arith)

  no_leaves : leaves (parents book) ≡ []
  unfolding leaves keep span
  no_leaves = ap leaves no_parents

  pub nothing_earned : (date : ℕ) → no_earned ≡ project_earned book date
  unfolding project_earned
  nothing_earned date = sym (ap (λ (is : List ℕ). foldl add_earned no_earned (map (earned_at book date) is)) no_leaves)

  no_points : planned_curve book ≡ []
  unfolding planned_curve planned_by_day running points points_between last_day dates_between is_charged any span keep flat_map
  no_points = ap (λ (is : List ℕ). running (pos 0) (points (flat_map (planned_amounts book) is))) no_leaves

  pub no_curve : (from to : ℕ) → planned_curve_between book from to ≡ []
  unfolding planned_curve_between keep
  no_curve from to = ap (keep (is_between from to)) no_points

  pub no_spending : (from to : ℕ) → spending_between book from to ≡ []
  unfolding spending_between budget_by_day points_between is_charged any span flat_map
  no_spending from to =
      ap (λ (ps : Parents). points_between (flat_map (by_day book Planned) (indices ps)) from to) no_parents
      ∙ ap (map (point_on [])) (keep_none (λ (d : ℕ). false) (dates_between from to) (λ d m. refl))
