-- The activities' own figures that no date changes: of leaves, 0 for parents; planned value, which depends on a date, stands as 0.
use Rattle.std.specs.Prelude.{ℕ, ◌+◌, ◌*◌, ◌<◌, ◌≡◌, ℤ, pos, length, get_or}
use mathlib.Core.List.{List, [], ◌∷◌, flat_map}
use Rattle.floats.specs.Figures.{earned_of}
use Rattle.format.specs.Book.{Book}
use Rattle.model.specs.Tree.{parents, indices}
use Rattle.model.specs.Costs.{cost_of}
use Rattle.model.specs.Planned.{budget_of}
use Rattle.model.specs.Earned.{performance}
use Rattle.baseline.specs.Listed.{of_leaf}

-- the budget, 0, earned value, actual cost, remaining cost
unfoldable pub measured_row : Book → ℕ → List ℤ
measured_row book i =
    of_leaf book (budget_of book) i
    ∷ pos 0
    ∷ of_leaf book (λ k. earned_of (budget_of book k) (performance book k)) i
    ∷ of_leaf book (λ k. (cost_of book k).actual) i
    ∷ of_leaf book (λ k. (cost_of book k).remaining) i
    ∷ []

unfoldable pub measured_of : Book → List ℤ
measured_of book = flat_map (measured_row book) (indices (parents book))

-- a table of these rows, with any planned value
pub record Measured (book : Book) (own : List ℤ) : Type 0 where
  pub long : length own ≡ length book.activities * 5
  pub at : (i j : ℕ) → i < length book.activities → j < 5 → (j ≡ 1 → ⊥) → get_or own (i * 5 + j) (pos 0) ≡ get_or (measured_row book i) j (pos 0)
