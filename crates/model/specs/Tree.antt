-- The tree of activities and the roll-up. The tree is the list of the parents that the activities name.
use Rattle.std.specs.Prelude.{ℕ, zero, suc, ◌+◌, ◌≡◌, Bool, false, not, eqb, length, get_or, None, Option, Some}
use mathlib.Core.List.{List, [], ◌∷◌, map, flat_map, foldl}
use Rattle.format.specs.Book.{Activity, Book}
use Rattle.lists.specs.Lists.{any, span, keep}

abbrev pub Parents : Type 0
Parents = List (Option ℕ)

unfoldable pub parents : Book → Parents
parents book = map (λ (a : Activity). a.parent) book.activities

abbrev pub parent_of : Parents → ℕ → Option ℕ
parent_of ps i = get_or ps i None

-- the indices of all activities
abbrev pub indices : Parents → List ℕ
indices ps = span 0 (length ps)

-- ---- leaves and ancestors

abbrev pub names : ℕ → Option ℕ → Bool
names i None = false
names i (Some p) = eqb p i

-- document 01's leaf: an activity that no other, nor itself, names as parent; any other is a parent
unfoldable pub is_leaf : Parents → ℕ → Bool
is_leaf ps i = not (any (names i) ps)

unfoldable pub leaves : Parents → List ℕ
leaves ps = keep (is_leaf ps) (indices ps)

-- document 01's ancestors of an activity: those reached from it by one or more steps, each to the parent named
pub data Ancestor (ps : Parents) (p : ℕ) : ℕ → Type 0 where
  parent : {i : ℕ} → parent_of ps i ≡ Some p → Ancestor ps p i
  above : {i q : ℕ} → parent_of ps i ≡ Some q → Ancestor ps p q → Ancestor ps p i

-- no activity is its own ancestor
abbrev pub NoCircle : Parents → Type 0
NoCircle ps = (i : ℕ) → Ancestor ps i i → ⊥

-- ---- the walk to the top

-- the indices stepped on, at most `limit`: the first, then on from the parent that it names
unfoldable pub steps : Parents → ℕ → Option ℕ → List ℕ
steps ps zero to = []
steps ps (suc limit) None = []
steps ps (suc limit) (Some p) = p ∷ steps ps limit (parent_of ps p)

unfoldable pub walk : Parents → ℕ → ℕ → List ℕ
walk ps limit i = steps ps limit (parent_of ps i)

-- how many steps the walk made
unfoldable pub steps_made : Parents → ℕ → ℕ → ℕ
steps_made ps limit i = length (walk ps limit i)

-- the walk of costs and of planned value stops after count + 1 steps, so a circle ends
abbrev pub step_limit : Parents → ℕ
step_limit ps = length ps + 1

unfoldable pub walk_up : Parents → ℕ → List ℕ
walk_up ps i = walk ps (step_limit ps) i

-- p is an ancestor of i: the walk from i steps on it
unfoldable pub is_below : Parents → ℕ → ℕ → Bool
is_below ps p i = any (eqb p) (walk_up ps i)

-- the activities below p
unfoldable pub below : Parents → ℕ → List ℕ
below ps p = keep (is_below ps p) (indices ps)

-- document 01's leaves below a parent: the leaves that have it as an ancestor
unfoldable pub leaves_below : Parents → ℕ → List ℕ
leaves_below ps p = keep (is_leaf ps) (below ps p)

-- ---- the roll-up, of rows of any type that can be added

module _ {Row : Type 0} (add : Row → Row → Row) (ps : Parents) (own : ℕ → Row) where
  -- what activity i brings to p: its own row, once for each step of its walk on p
  unfoldable pub brought : ℕ → ℕ → List Row
  brought p i = map (λ (q : ℕ). own i) (keep (eqb p) (walk_up ps i))

  -- the row of p: its own, then what the activities bring to it, in index order
  unfoldable pub roll_up : ℕ → Row
  roll_up p = foldl add (own p) (flat_map (brought p) (indices ps))
