-- The lines that the table of accounts makes are the book's.
use Rattle.std.specs.Prelude.{None, Some}
use Prim.Native.Nat.{ℕ, zero, suc, ◌+◌, ◌*◌, ◌≤◌, ◌<◌}
use native.Mathlib.Omega.{arith}
use mathlib.Core.Path.{◌≡◌, refl, ap, ap₂, ◌∙◌}
use mathlib.Core.List.{List, ◌∷◌, ◌++◌, map, Memᴰ}
use lib.IntN.{ℤ, pos}
use lib.ListN.{length, get_or, length-append}
use Rattle.format.specs.Book.{Book}
use Rattle.sections.specs.Sections.{mark_of}
use Rattle.sections.proofs.Marks.{Small, place_below}
use Rattle.lists.specs.Lists.{span}
use Rattle.model.specs.Tree.{Parents, parents, walk, steps, steps_made}
use Rattle.model.specs.Costs.{cost_of, project_cost}
use Rattle.model.specs.Budgets.{Account, BudgetLine, current_of, proposed_of, distributed_of, has_line, line_accounts, depth_of, line_for, budget_lines}
use Rattle.lists.proofs.Lists.{map_same, keep_in}
use Rattle.lists.proofs.Spans.{span_in_lem}
use Rattle.tree.specs.Figures.{parents_of, figure_of}
use Rattle.rows.specs.Rows.{optional}
use Rattle.rows.proofs.Sets.{optional_two}
use Rattle.answers.specs.Rows.{budget_row}
use Rattle.ledger.specs.Accounts.{account_row, accounts, account_figure, MarksLines}
use Rattle.ledger.specs.Lines.{line_in, activity_line, lines_in}
use Rattle.ledger.proofs.Numbered.{account_back, account_figure_lem}
use Rattle.ledger.proofs.Named.{marked_accounts}

pub row_long : (l : BudgetLine) → length (budget_row l) ≡ 10
unfolding budget_row optional
row_long l = behind l.activity _
  where
    behind : (o : Account) (rest : List ℕ) → length (optional o ++ rest) ≡ 2 + length rest
    behind o rest = length-append (optional o) rest ∙ ap (λ (n : ℕ). n + length rest) (optional_two o)

-- a walk makes no more steps than its limit
steps_most : (ps : Parents) (limit : ℕ) (to : Account) → length (steps ps limit to) ≤ limit
unfolding steps
steps_most ps zero to = omega arith
steps_most ps (suc limit) None = omega arith
steps_most ps (suc limit) (Some p) = omega (arith, steps_most ps limit (get_or ps p None))

pub made_most : (ps : Parents) (limit i : ℕ) → steps_made ps limit i ≤ limit
unfolding steps_made walk
made_most ps limit i = steps_most ps limit (get_or ps i None)

module _ (book : Book) where
  below : (i : ℕ) → Memᴰ i (line_accounts book) → i < length (parents book)
  unfolding line_accounts
  below i q = omega (arith, span_in_lem 0 (length (parents book)) i (keep_in (has_line book) i (span 0 (length (parents book))) q).0)

  figure : (o : Account) → Small o → (j : ℕ) → j < 6 → account_figure (accounts book) (mark_of o) j ≡ get_or (account_row (distributed_of book) book o) j (pos 0)
  figure o h j l =
      account_figure_lem (distributed_of book) book (mark_of o) j (place_below o refl) l ∙ ap (λ (a : Account). get_or (account_row (distributed_of book) book a) j (pos 0)) (account_back o h)

  line_is : (o : Account) → Small o → (depth : ℕ) (cost : ℤ) → line_in (accounts book) o depth cost ≡ line_for book o depth cost
  unfolding line_in line_for current_of proposed_of account_row
  line_is o h depth cost =
      rw (figure o h 0 (omega arith), figure o h 1 (omega arith), figure o h 2 (omega arith), figure o h 3 (omega arith), figure o h 5 (omega arith))

  pub lines_are :
      (numbers marks : List ℕ) (costs : List ℤ) {table : List ℤ} {whole : ℤ} → length numbers ≡ length (parents book) → length (parents book) ≤ 500 → parents_of numbers ≡ parents book →
      MarksLines marks book → ((i : ℕ) → i < length (parents book) → figure_of costs (i * 3) ≡ (cost_of book i).budget) → whole ≡ (project_cost book).budget →
      table ≡ accounts book → lines_in table numbers costs marks whole ≡ budget_lines book
  unfolding lines_in budget_lines activity_line depth_of
  lines_are numbers marks costs {table} {whole} n l e m s p t =
      let ps = parents book in
      ap (λ (t : List ℤ). lines_in t numbers costs marks whole) t
      ∙ ap₂ ◌∷◌ (line_is None tt 0 whole ∙ ap (line_for book None 0) p)
      (ap (map (activity_line (accounts book) numbers costs)) (marked_accounts book marks (length numbers) n m)
      ∙ map_same (activity_line (accounts book) numbers costs) (λ (i : ℕ). line_for book (Some i) (depth_of book i) (cost_of book i).budget) (line_accounts book)
      (λ i q.
      let h = below i q in
      line_is (Some i) (omega arith) (1 + steps_made (parents_of numbers) (length numbers) i) (figure_of costs (i * 3))
      ∙ ap₂ (line_for book (Some i)) (ap₂ (λ (t : Parents) (k : ℕ). 1 + steps_made t k i) e n) (s i h)))
