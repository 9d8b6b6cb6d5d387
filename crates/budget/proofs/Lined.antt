-- The rows of the lines, and how many there are.
use Rattle.std.specs.Prelude.{None, Some}
use Prim.Native.Nat.{ℕ, ◌+◌, ◌*◌, ◌<◌}
use native.Mathlib.Omega.{arith}
use mathlib.Core.Path.{◌≡◌, refl, sym, ap, ◌∙◌}
use mathlib.Core.List.{List, [], ◌∷◌, map, flat_map, foldl}
use lib.IntN.{ℤ, pos}
use lib.ListN.{length, length-map}
use Rattle.format.specs.Book.{Activity, Book}
use Rattle.lists.specs.Lists.{span, keep}
use Rattle.model.specs.Tree.{parents, leaves}
use Rattle.money.specs.Costs.{sum_of}
use Rattle.model.specs.Costs.{cost_of, no_cost, project_cost}
use Rattle.model.specs.Budgets.{BudgetLine, line_accounts, depth_of, line_for, budget_lines}
use Rattle.tree.specs.Figures.{parents_of, figure_of}
use Rattle.tree.specs.Tables.{rolled_costs}
use Rattle.model.proofs.Tree.{parents_count}
use Rattle.tree.proofs.Figured.{rolled_at}
use Rattle.flat.proofs.Tables.{flat_map_map}
use Rattle.rows.specs.Rows.{numbers}
use Rattle.answers.specs.Rows.{budget_row, budget_rows}
use Rattle.ledger.specs.Accounts.{booked, marked_of, MarksLines}
use Rattle.ledger.specs.Lines.{line_in, lines_in}
use Rattle.ledger.proofs.Named.{marked_accounts}
use Rattle.ledger.proofs.Handed.{none_handed}
use Rattle.ledger.proofs.Lined.{lines_are}

module _ (book : Book) where
  -- the planned cost of activity i, with those below it
  pub scheduled_at : {costs : List ℤ} → costs ≡ rolled_costs book → (i : ℕ) → i < length (parents book) → figure_of costs (i * 3) ≡ (cost_of book i).budget
  scheduled_at {costs} e i h =
      let z : i * 3 ≡ i * 3 + 0 = omega arith in
      ap (figure_of costs) z ∙ rolled_at book e i 0 (omega (arith, parents_count book)) (omega arith)

  -- as many as are marked, and the project's
  pub lines_count : (marks : List ℕ) (n : ℕ) → n ≡ length (parents book) → MarksLines marks book → length (budget_lines book) ≡ length (marked_of marks n) + 1
  unfolding budget_lines
  lines_count marks n e m =
      let line : ℕ → BudgetLine = λ (i : ℕ). line_for book (Some i) (depth_of book i) (cost_of book i).budget in
      omega (arith, length-map (line_accounts book) line, ap length (marked_accounts book marks n e m))

  -- the rows that the code puts
  pub rows_are : {lines : List BudgetLine} → lines ≡ budget_lines book → flat_map budget_row lines ≡ numbers (budget_rows book)
  unfolding numbers budget_rows
  rows_are e = ap (flat_map budget_row) e ∙ sym (flat_map_map (λ (row : List ℕ). row) budget_row (budget_lines book))

  -- ---- a book without activities

  module _ (e : length book.activities ≡ 0) where
    no_parents : parents book ≡ []
    unfolding parents
    no_parents = go book.activities e
      where
        go : (xs : List Activity) → length xs ≡ 0 → map (λ (a : Activity). a.parent) xs ≡ []
        go [] e = refl
        go (x ∷ xs) e = absurd (omega arith)

    no_cost_lem : pos 0 ≡ (project_cost book).budget
    unfolding project_cost leaves span keep
    no_cost_lem = sym (ap (λ (ps : List _). (foldl sum_of no_cost (map (cost_of book) (leaves ps))).budget) no_parents)

    pub alone : {table : List ℤ} → table ≡ booked book → line_in table None 0 (pos 0) ∷ [] ≡ budget_lines book
    unfolding lines_in span keep parents_of
    alone t =
        lines_are book [] [] [] (sym (ap length no_parents)) (omega (arith, ap length no_parents)) (sym no_parents) (λ i h. absurd (omega (arith, ap length no_parents)))
        (λ i h. absurd (omega (arith, ap length no_parents))) no_cost_lem (t ∙ none_handed book e)
