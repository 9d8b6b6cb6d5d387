-- The client's third demand, on the planned value: its sentences in their order, each under a name.
use Rattle.std.specs.Prelude.{ℕ, ◌-◌, ◌≤◌, ◌<◌, ◌≡◌, ◌↔◌, true, false, cond, leb, ℤ, pos, nat_abs, ◌-ℤ◌, length, get_or}
use mathlib.Core.List.{List, map, foldl, Memᴰ}
use Rattle.std.specs.Int.{w64}
use Rattle.integer.specs.Signs.{Between}
use Rattle.integer.specs.Clamp.{most}
use Rattle.integer.specs.Sums.{ints, total}
use Rattle.integer.specs.Folds.{magnitudes}
use Rattle.format.specs.Book.{Book}
use Rattle.model.specs.Amounts.{Dated}
use Rattle.model.specs.Tree.{parents, is_leaf, leaves, leaves_below, Ancestor, NoCircle}
use Rattle.model.specs.Planned.{listed_days, planned_curve_between}
use Rattle.model.specs.Earned.{earned_at, project_earned}

-- what is read at a status date: the planned value and the budget of each activity, and the planned value of the project
pub record Reading : Type 0 where
  pub date : ℕ
  pub planned : ℕ → ℤ
  pub budget : ℕ → ℤ
  pub project : ℤ

-- ---- words of the sentences

-- at D and at E
abbrev pub AtBoth : Reading → Reading → (Reading → Type 0) → Type 0
AtBoth D E Says = Says D × Says E

abbrev pub distance : ℤ → ℤ → ℕ
distance x y = nat_abs (x -ℤ y)

-- the first and the last of listed days, which are never none
abbrev pub first_of : List ℕ → ℕ
first_of days = get_or days 0 0

abbrev pub last_of : List ℕ → ℕ
last_of days = get_or days (length days - 1) 0

-- over the activities of a list
abbrev pub exact_sum : (ℕ → ℤ) → List ℕ → ℤ
exact_sum figure is = total ints (map figure is)

-- the last figure dated d or earlier, zero if none
unfoldable pub last_figure : ℕ → List Dated → ℤ
last_figure d points = foldl (λ (figure : ℤ) (x : Dated). cond (leb x.day d) x.amount figure) (pos 0) points

module _ (book : Book) where
  -- an activity that no other, nor itself, names as parent
  abbrev pub Leaf : ℕ → Type 0
  Leaf i = (i < length book.activities) × (is_leaf (parents book) i ≡ true)

  -- any other activity
  abbrev pub Parent : ℕ → Type 0
  Parent p = (p < length book.activities) × (is_leaf (parents book) p ≡ false)

  -- ---- what is asked of the book

  -- no activity is its own ancestor
  abbrev pub NoOwnAncestor : Type 0
  NoOwnAncestor = NoCircle (parents book)

  -- the leaf budgets, signs dropped, add to at most 2^63 − 1
  abbrev pub SmallBudgets : Reading → Type 0
  SmallBudgets at = magnitudes (map at.budget (leaves (parents book))) ≤ most w64

  -- ---- the sentences

  -- of the planned value, for two status dates, D no later than E; `curve` is the planned curve asked from 10,957 to E
  pub record PlannedValue (D E : Reading) (curve : List Dated) : Type 0 where
    -- every leaf's lies between zero and its budget at D and E
    pub between : AtBoth D E (λ at. (i : ℕ) → Leaf i → Between (at.planned i) (at.budget i))
    -- at E it is no further from the budget than at D
    pub nearer : (i : ℕ) → Leaf i → distance (E.budget i) (E.planned i) ≤ distance (D.budget i) (D.planned i)
    -- (the budget is the same at both)
    pub same_budget : (i : ℕ) → Leaf i → E.budget i ≡ D.budget i
    -- it is zero before the leaf's first listed day
    pub before : AtBoth D E (λ at. (i : ℕ) → Leaf i → at.date < first_of (listed_days book i) → at.planned i ≡ pos 0)
    -- and exactly the budget from its last listed day on
    pub after : AtBoth D E (λ at. (i : ℕ) → Leaf i → last_of (listed_days book i) ≤ at.date → at.planned i ≡ at.budget i)
    -- every parent's equals the exact sum of those of all leaves below it
    pub parent : AtBoth D E (λ at. (p : ℕ) → Parent p → at.planned p ≡ exact_sum at.planned (leaves_below (parents book) p))
    -- (the leaves below a parent are the leaves that have it as an ancestor)
    pub below : (p i : ℕ) → Memᴰ i (leaves_below (parents book) p) ↔ (Leaf i × Ancestor (parents book) p i)
    -- the project's that over all leaves
    pub project : AtBoth D E (λ at. at.project ≡ exact_sum at.planned (leaves (parents book)))
    -- the project's at D equals the last figure dated D or earlier (zero if none) of the planned curve
    pub on_curve : D.project ≡ last_figure D.date curve

  -- ---- as the figures are defined

  -- an activity's planned value and budget are those numbers of its row, the project's planned value that of its own
  abbrev pub defined_at : ℕ → Reading
  defined_at date = record {
    date = date;
    planned = λ i. (earned_at book date i).planned;
    budget = λ i. (earned_at book date i).budget;
    project = (project_earned book date).planned;
  }

  -- so the sentences of two dates
  abbrev pub DefinedPlannedValue : ℕ → ℕ → Type 0
  DefinedPlannedValue d e = PlannedValue (defined_at d) (defined_at e) (planned_curve_between book 10957 e)
