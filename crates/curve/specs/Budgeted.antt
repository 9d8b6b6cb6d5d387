-- The leaves' budgets, laid over the days that a table lists for their spans; the table has `width` dates a row, from `base` on.
use Rattle.std.specs.Prelude.{ℕ, cond, ℤ, length}
use mathlib.Core.List.{List, [], flat_map}
use Rattle.lists.specs.Lists.{span}
use Rattle.model.specs.Amounts.{Dated, spread_over}
use Rattle.tree.specs.Figures.{figure_of, is_unmarked}
use Rattle.planned.specs.Tabled.{tabled}

module _ (base width : ℕ) (days marks listed : List ℕ) (budgets : List ℤ) where
  -- of a leaf, whose mark is 0; nothing of a parent
  abbrev pub budget_laid : ℕ → List Dated
  budget_laid i = cond (is_unmarked marks i) (spread_over (figure_of budgets i) (tabled base width days listed i)) []

  unfoldable pub budgets_laid : List Dated
  budgets_laid = flat_map budget_laid (span 0 (length budgets))
