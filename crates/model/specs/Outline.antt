-- The outline of the tree of activities: its lines, in their order, and what document 02 promises of them.
use Rattle.std.specs.Prelude.{ℕ, zero, suc, ◌+◌, ◌≤◌, ◌<◌, ◌≡◌, ◌⊎◌, Bool, true, false, length, get_or, None, Option, Some}
use mathlib.Core.List.{List, [], ◌∷◌, flat_map}
use Rattle.lists.specs.Lists.{keep}
use Rattle.model.specs.Tree.{Parents, parent_of, indices, names, Ancestor, steps_made, step_limit}

-- ---- the lines

-- how far down an activity stands, 1 for a top, and which it is
pub record Line : Type 0 where
  pub level : ℕ
  pub index : ℕ

abbrev pub line : ℕ → ℕ → Line
line l i = record { level = l; index = i }

abbrev pub is_none : Option ℕ → Bool
is_none None = true
is_none (Some p) = false

-- document 02's tops: the activities that name no parent, in index order
unfoldable pub tops : Parents → List ℕ
tops ps = keep (λ (i : ℕ). is_none (parent_of ps i)) (indices ps)

-- the activities that name p, in index order
unfoldable pub children : Parents → ℕ → List ℕ
children ps p = keep (λ (i : ℕ). names p (parent_of ps i)) (indices ps)

-- the branch of an activity: its line, then the branches of its children, a level further down, while there are levels left
unfoldable pub branch : (ℕ → List ℕ) → (left level : ℕ) → ℕ → List Line
branch kids zero level i = []
branch kids (suc left) level i = line level i ∷ flat_map (branch kids left (suc level)) (kids i)

-- the branches of some activities, one whole behind the other
unfoldable pub branches : (ℕ → List ℕ) → (left level : ℕ) → List ℕ → List Line
branches kids left level is = flat_map (branch kids left level) is

-- from every top down, at most as many levels as there are activities
unfoldable pub outline : Parents → List Line
outline ps = branches (children ps) (length ps) 1 (tops ps)

-- ---- what is promised

-- line k
abbrev pub line_at : List Line → ℕ → Line
line_at lines k = get_or lines k (line 0 0)

-- a top: an activity that names no parent
abbrev pub Top : Parents → ℕ → Type 0
Top ps t = (t < length ps) × (parent_of ps t ≡ None)

-- in the branch of an activity: that one, or below it
abbrev pub InBranch : Parents → ℕ → ℕ → Type 0
InBranch ps a i = (i ≡ a) ⊎ Ancestor ps a i

-- a top, or an activity below one
abbrev pub HasTop : Parents → ℕ → Type 0
HasTop ps i = (t : ℕ) × Top ps t × InBranch ps t i

-- on a circle, or hanging on one
abbrev pub OnCircle : Parents → ℕ → Type 0
OnCircle ps i = (c : ℕ) × Ancestor ps c c × Ancestor ps c i

-- each parent is an activity, as in every accepted book
abbrev pub ParentsInside : Parents → Type 0
ParentsInside ps = (i p : ℕ) → parent_of ps i ≡ Some p → p < length ps

-- activity i has a line
abbrev pub Appears : List Line → ℕ → Type 0
Appears lines i = (k : ℕ) × (k < length lines) × ((line_at lines k).index ≡ i)

pub record IsOutlineOf (ps : Parents) (lines : List Line) : Type 0 where
  -- tops, and the children of one parent, in index order, the whole branch of each before the next one
  pub order : (a b : ℕ) → parent_of ps a ≡ parent_of ps b → a < b → (j k : ℕ) → j < length lines → k < length lines → InBranch ps a (line_at lines j).index → (line_at lines k).index ≡ b → j < k
  -- every top and every activity below one appears
  pub appears : (i : ℕ) → HasTop ps i → Appears lines i
  -- one time
  pub once : (j k : ℕ) → j < k → k < length lines → (line_at lines j).index ≡ (line_at lines k).index → ⊥
  -- and after its parent where it has one
  pub after : (k p : ℕ) → k < length lines → parent_of ps (line_at lines k).index ≡ Some p → (j : ℕ) × (j < k) × ((line_at lines j).index ≡ p)
  -- nothing else appears
  pub only : (i : ℕ) → Appears lines i → HasTop ps i
  -- so nothing that hangs on a circle, and what does not appear hangs on one
  pub circles : (i : ℕ) → OnCircle ps i → Appears lines i → ⊥
  pub others : ParentsInside ps → (i : ℕ) → i < length ps → Appears lines i ⊎ OnCircle ps i
  -- the level is 1 and the steps of the walk to the top
  pub level : (k : ℕ) → k < length lines → (line_at lines k).level ≡ 1 + steps_made ps (step_limit ps) (line_at lines k).index
  -- there are no more lines than activities
  pub room : length lines ≤ length ps
