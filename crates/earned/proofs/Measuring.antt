-- The activities' own figures, as the tables they are made from hold them.
use Prim.Native.Nat.{ℕ, ◌+◌, ◌*◌, ◌<◌}
use native.Mathlib.Numerals.{add-one, add-two, add-three, add-four}
use native.Mathlib.Omega.{arith}
use mathlib.Core.Path.{◌≡◌, refl, ap, sym, ◌∙◌}
use mathlib.Core.Bool.{Bool, true, false, cond}
use mathlib.Core.List.{List, [], ◌∷◌, flat_map}
use lib.IntN.{ℤ, pos}
use lib.ListN.{length, get_or, set}
use lib.Seq.{sets}
use Rattle.floats.specs.Figures.{earned_of}
use Rattle.money.specs.declared.costs.Cost.{Cost}
use Rattle.format.specs.declared.EvTechnique.{EvTechnique}
use Rattle.format.specs.InRange.{InRange}
use Rattle.format.specs.Book.{Book}
use Rattle.lists.specs.Lists.{span}
use Rattle.model.specs.Tree.{parents, is_leaf}
use Rattle.model.specs.Costs.{own_cost, cost_of}
use Rattle.model.specs.Planned.{budget_of}
use Rattle.model.specs.Earned.{performance}
use Rattle.lists.proofs.Spans.{span_in_lem}
use Rattle.model.proofs.Costs.{leaf_cost}
use Rattle.flat.proofs.Tables.{flat_same}
use Rattle.tree.specs.Figures.{figure_of, MarksLeaves}
use Rattle.tree.specs.Tables.{own_costs}
use Rattle.tree.proofs.Figured.{own_cost_at}
use Rattle.activities.specs.Schedule.{schedule_of}
use Rattle.baseline.specs.Listed.{if_leaf, budgets_of}
use Rattle.baseline.proofs.Listing.{budget_at_lem}
use Rattle.model.proofs.Tree.{parents_count}
use Rattle.earned.specs.Done.{done_in}
use Rattle.earned.specs.Units.{AreUnits}
use Rattle.earned.specs.Measured.{measured_row, measured_of}
use Rattle.earned.proofs.Shares.{share_is}

-- five figures set one behind the other
pub five_set :
    (out : List ℤ) (at : ℕ) (a b c d e : ℤ) → set (set (set (set (set out at a) (at + 1) b) (at + 2) c) (at + 3) d) (at + 4) e ≡ sets out at (a ∷ b ∷ c ∷ d ∷ e ∷ [])
five_set out at a b c d e = rw (add-one at, add-two at, add-three at, add-four at) refl

-- a row with the same figures
pub same_row :
    (out : List ℤ) (at : ℕ) {a v c d a' v' c' d' : ℤ} → a ≡ a' → v ≡ v' → c ≡ c' → d ≡ d' →
    sets out at (a ∷ pos 0 ∷ v ∷ c ∷ d ∷ []) ≡ sets out at (a' ∷ pos 0 ∷ v' ∷ c' ∷ d' ∷ [])
same_row out at e f g h = rw (e, f, g, h) refl

-- ---- a row as the code makes it

abbrev pub measured_in : EvTechnique → List ℕ → List ℕ → List ℤ → List ℤ → List ℤ → ℕ → List ℤ
measured_in technique marks schedule units costs budgets i =
    figure_of budgets i
    ∷ pos 0
    ∷ if_leaf (get_or marks i 0) (earned_of (figure_of budgets i) (done_in technique schedule i (figure_of units (i * 2)) (figure_of units (i * 2 + 1))))
    ∷ if_leaf (get_or marks i 0) (figure_of costs (i * 3 + 1))
    ∷ if_leaf (get_or marks i 0) (figure_of costs (i * 3 + 2))
    ∷ []

module _ (b : Book) (r : InRange b) (technique : EvTechnique) (t : b.technique ≡ technique) {schedule : List ℕ} (e : schedule ≡ schedule_of b)
    {units costs budgets : List ℤ} (u : AreUnits b technique units) (c : costs ≡ own_costs b) (g : budgets ≡ budgets_of b) (marks : List ℕ) (m : MarksLeaves marks (parents b)) where
  measured_row_lem : (i : ℕ) → i < length b.activities → measured_in technique marks schedule units costs budgets i ≡ measured_row b i
  unfolding measured_row
  measured_row_lem i h =
      rw (m i (omega (arith, parents_count b)), budget_at_lem b g i h, own_cost_at b c i 1 h (omega arith), own_cost_at b c i 2 h (omega arith), share_is b i e r h technique t (u.done i h) (u.total i h))
      (go (is_leaf (parents b) i) (leaf_cost b i))
    where
      go :
          (leaf : Bool) → (leaf ≡ true → cost_of b i ≡ own_cost b i) →
          cond leaf (budget_of b i) (pos 0)
          ∷ pos 0
          ∷ cond leaf (earned_of (cond leaf (budget_of b i) (pos 0)) (performance b i)) (pos 0)
          ∷ cond leaf (own_cost b i).actual (pos 0)
          ∷ cond leaf (own_cost b i).remaining (pos 0)
          ∷ []
          ≡ cond leaf (budget_of b i) (pos 0)
          ∷ pos 0
          ∷ cond leaf (earned_of (budget_of b i) (performance b i)) (pos 0)
          ∷ cond leaf (cost_of b i).actual (pos 0)
          ∷ cond leaf (cost_of b i).remaining (pos 0)
          ∷ []
      go true l = ap (λ (x : Cost). budget_of b i ∷ pos 0 ∷ earned_of (budget_of b i) (performance b i) ∷ x.actual ∷ x.remaining ∷ []) (sym (l refl))
      go false l = refl

  pub measured_is : (n : ℕ) → length b.activities ≡ n → flat_map (measured_in technique marks schedule units costs budgets) (span 0 n) ≡ measured_of b
  unfolding measured_of
  measured_is n k =
      flat_same (measured_in technique marks schedule units costs budgets) (measured_row b) (span 0 n) (λ i l. let s = span_in_lem 0 n i l in measured_row_lem i (omega arith))
      ∙ ap (λ (j : ℕ). flat_map (measured_row b) (span 0 j)) (sym (parents_count b ∙ k))
