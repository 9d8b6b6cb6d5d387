-- Leaves: a leaf is an activity no other, nor itself, names as parent. Any other activity is a parent.
use Rattle.std.specs.Prelude.{ℕ, Bool, true, false, cond, List, [], ◌∷◌, Some}
use Rattle.format.specs.Book.{Activity}
use Rattle.format.specs.Format.{names}

-- whether one of the activities names activity i as its parent
unfoldable pub is_parent : ℕ → List Activity → Bool
is_parent i [] = false
is_parent i (a ∷ l) = cond (names a.parent (Some i)) true (is_parent i l)

-- the mark of activity i: 1 for a parent, 0 for a leaf
abbrev pub leaf_mark : ℕ → List Activity → ℕ
leaf_mark i l = cond (is_parent i l) 1 0
