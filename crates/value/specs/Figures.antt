-- A row of earned value in a table of figures, alone and behind a line of the outline.
use Rattle.std.specs.Prelude.{ℕ, ◌+◌, ◌*◌, ◌≤◌, ◌<◌, ◌≡◌, List, ◌∷◌, ℤ, length, get_or}
use Rattle.model.specs.declared.Earned.{Earned}
use Rattle.tree.specs.Figures.{figure_of}
use Rattle.answers.specs.Rows.{earned_row}

-- how many figures an activity has in a table
abbrev pub figures : ℕ
figures = 5

-- the figures of activity i
abbrev pub earned_in : List ℤ → ℕ → Earned
earned_in table i =
    record {
      budget = figure_of table (i * 5);
      planned = figure_of table (i * 5 + 1);
      earned = figure_of table (i * 5 + 2);
      actual = figure_of table (i * 5 + 3);
      remaining = figure_of table (i * 5 + 4);
    }

-- the row of line k of the outline, which stands as its level and its index at k * 2
abbrev pub outlined_in : List ℤ → List ℕ → ℕ → List ℕ
outlined_in table lines k = get_or lines (k * 2) 0 ∷ get_or lines (k * 2 + 1) 0 ∷ earned_row (earned_in table (get_or lines (k * 2 + 1) 0))

-- the first lines stand there, and each of their activities has its figures
pub record HasFigures (table : List ℤ) (lines : List ℕ) (count : ℕ) : Type 0 where
  pub most : count * 2 ≤ length lines
  pub figured : (k : ℕ) → k < count → get_or lines (k * 2 + 1) 0 * figures + 4 < length table

-- tables of n activities: their figures, the columns of their tree, and its lines
pub record HasColumns (n : ℕ) (table : List ℤ) (first next lines : List ℕ) : Type 0 where
  pub figured : length table ≡ n * figures
  pub firsts : length first ≡ n + 1
  pub nexts : length next ≡ n
  pub listed : length lines ≡ n * 2
