-- The tree as two columns: the first child of each activity, and the next child of its parent. The tops hang on one place more, behind the activities'.
use Rattle.std.specs.Prelude.{ℕ, zero, suc, ◌+◌, ◌*◌, ◌≤◌, ◌<◌, ◌≡◌, cond, List, [], ◌∷◌, ltb, length, get_or}
use Rattle.model.specs.Outline.{Line, tops, children, branches, line_at}
use Rattle.tree.specs.Figures.{parents_of}

-- where an activity hangs: on its parent, or behind all
abbrev pub place_of : ℕ → ℕ → ℕ
place_of count parent = cond (ltb parent count) parent count

-- from i on, each to the next, as far as these are activities
unfoldable pub chain : List ℕ → ℕ → ℕ → List ℕ
chain next zero i = []
chain next (suc fuel) i = cond (ltb i (length next)) (i ∷ chain next fuel (get_or next i 0)) []

unfoldable pub chain_from : List ℕ → ℕ → List ℕ
chain_from next i = chain next (length next) i

-- those that hang on a place
unfoldable pub linked : List ℕ → List ℕ → ℕ → List ℕ
linked first next p = chain_from next (get_or first p 0)

-- each next is a later one
abbrev pub Rises : ℕ → List ℕ → Type 0
Rises from next = (i : ℕ) → from ≤ i → i < length next → i < get_or next i 0

pub record IsLinksOf (numbers first next : List ℕ) : Type 0 where
  pub rises : Rises 0 next
  pub tops_are : linked first next (length numbers) ≡ tops (parents_of numbers)
  pub children_are : (p : ℕ) → p < length numbers → linked first next p ≡ children (parents_of numbers) p

-- the lines of the branches below p
unfoldable pub lines_below : List ℕ → List ℕ → (left level p : ℕ) → List Line
lines_below first next left level p = branches (linked first next) left level (linked first next p)

-- a line as it is put
abbrev pub line_numbers : Line → List ℕ
line_numbers x = x.level ∷ x.index ∷ []

-- what the way down from p asks
pub record Ready (first next lines : List ℕ) (left level p from : ℕ) : Type 0 where
  pub place : p < length first
  pub one_more : length first ≡ length next + 1
  pub rises : Rises 0 next
  pub few : left + level ≤ length first
  pub room : (from + length (lines_below first next left level p)) * 2 ≤ length lines

-- so many lines stand in a table, line k at k * 2
pub record Stands (lines : List Line) (count : ℕ) (table : List ℕ) : Type 0 where
  pub counted : count ≡ length lines
  pub levels : (k : ℕ) → k < count → get_or table (k * 2) 0 ≡ (line_at lines k).level
  pub indexes : (k : ℕ) → k < count → get_or table (k * 2 + 1) 0 ≡ (line_at lines k).index
