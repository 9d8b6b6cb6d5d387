-- Rows of earned value and of the outline on small books, by computation: what is spent is there where the row's own budget is not 0, what hangs on a circle has no
-- line, and a credit below 64 bits is their smallest number.
use Prim.Native.Nat.{ℕ, suc, ◌-◌, ◌^◌}
use mathlib.Core.Path.{◌≡◌}
use mathlib.Core.List.{List, [], ◌∷◌}
use Rattle.money.specs.Scale.{in_range, scaled_by}
use Rattle.format.specs.Book.{Calendar}
use Rattle.model.proofs.SpentCases.{free_repair, spent_zero, total_cancels, no_leaf, empty, rows_figured, totals_figured}
use Rattle.model.proofs.CreditCases.{overflow, signs, overflow_earned, spent_earned}
use Rattle.model.proofs.OutlineCases.{outline_circle, outline_figures, circle_leaf, books_outlined, figures_outlined}
use Rattle.rows.specs.Rows.{optional}
use Rattle.answers.specs.Rows.{earned_row, earned_value_rows, project_earned_rows, outline_row, outline_rows}

-- a row of zeros: no budget, nothing spent, and no share
abbrev zeros : List ℕ
zeros = 0 ∷ 0 ∷ 0 ∷ 0 ∷ 0 ∷ 0 ∷ 0 ∷ []

-- 700 spent without a budget
abbrev repair : List ℕ
repair = 0 ∷ 0 ∷ 0 ∷ 700 ∷ 0 ∷ 0 ∷ 0 ∷ []

-- 6 spent where two budgets cancel
abbrev cancelled : List ℕ
cancelled = 0 ∷ 0 ∷ 0 ∷ 6 ∷ 0 ∷ 0 ∷ 0 ∷ []

-- 3 of −5: −6,000
abbrev credit : List ℕ
credit = (2 ^ 64 - 5) ∷ (2 ^ 64 - 5) ∷ 0 ∷ 3 ∷ 0 ∷ 1 ∷ (2 ^ 64 - 6000) ∷ []

-- 7 planned, nothing spent of it; and 1
abbrev seven : List ℕ
seven = 7 ∷ 7 ∷ 0 ∷ 0 ∷ 0 ∷ 1 ∷ 0 ∷ []

abbrev single : List ℕ
single = 1 ∷ 1 ∷ 0 ∷ 0 ∷ 0 ∷ 1 ∷ 0 ∷ []

module _ (calendar : Calendar) where
  pub rows_spent :
      (earned_value_rows 47481 (free_repair calendar) ≡ repair ∷ [])
      -- a share of 0 is there: nothing of 5, and 1 of 20,000
      × (earned_value_rows 47481 (spent_zero calendar) ≡ zeros ∷ (5 ∷ 5 ∷ 0 ∷ 0 ∷ 0 ∷ 1 ∷ 0 ∷ []) ∷ (20000 ∷ 20000 ∷ 0 ∷ 1 ∷ 0 ∷ 1 ∷ 0 ∷ []) ∷ [])
      × (earned_value_rows 47481 (total_cancels calendar) ≡ cancelled ∷ (5 ∷ 5 ∷ 0 ∷ 3 ∷ 0 ∷ 1 ∷ 6000 ∷ []) ∷ credit ∷ [])
      × (earned_value_rows 47481 (no_leaf calendar) ≡ zeros ∷ [])
      × (earned_value_rows 47481 (empty calendar) ≡ [])
  unfolding earned_value_rows earned_row optional scaled_by in_range
  rows_spent = let f = rows_figured calendar in (rw f.0, rw f.1, rw f.2, rw f.3, rw f.4)

  -- of the summed figures, and not of a leaf's
  pub totals_spent :
      (project_earned_rows 47481 (free_repair calendar) ≡ repair ∷ [])
      × (project_earned_rows 47481 (spent_zero calendar) ≡ (20005 ∷ 20005 ∷ 0 ∷ 1 ∷ 0 ∷ 1 ∷ 0 ∷ []) ∷ [])
      × (project_earned_rows 47481 (total_cancels calendar) ≡ cancelled ∷ [])
      × (project_earned_rows 47481 (no_leaf calendar) ≡ zeros ∷ [])
      × (project_earned_rows 47481 (empty calendar) ≡ zeros ∷ [])
  unfolding project_earned_rows earned_row optional scaled_by in_range
  totals_spent = let f = totals_figured calendar in (rw f.0, rw f.1, rw f.2, rw f.3, rw f.4)

  -- `credit-overflow`: −2^63 planned and spent, −9 × 10^15 earned; `spent_signs`: a share below the range, and one above it
  pub rows_credited :
      (earned_value_rows 47481 (overflow calendar) ≡ (2 ^ 63 ∷ 2 ^ 63 ∷ (2 ^ 64 - 9000000000000000) ∷ 2 ^ 63 ∷ 0 ∷ 1 ∷ 10000 ∷ []) ∷ [])
      × (earned_value_rows 47481 (signs calendar)
      ≡ (1 ∷ 1 ∷ 0 ∷ suc (2 ^ 63) ∷ 0 ∷ 1 ∷ 2 ^ 63 ∷ [])
      ∷ ((2 ^ 64 - 1) ∷ (2 ^ 64 - 1) ∷ 0 ∷ (2 ^ 63 - 1) ∷ 0 ∷ 1 ∷ 2 ^ 63 ∷ [])
      ∷ ((2 ^ 64 - 1) ∷ (2 ^ 64 - 1) ∷ 0 ∷ suc (2 ^ 63) ∷ 0 ∷ 1 ∷ (2 ^ 63 - 1) ∷ [])
      ∷ (1 ∷ 1 ∷ 0 ∷ (2 ^ 63 - 1) ∷ 0 ∷ 1 ∷ (2 ^ 63 - 1) ∷ [])
      ∷ [])
  unfolding earned_value_rows earned_row optional scaled_by in_range
  rows_credited = (rw (overflow_earned calendar), rw (spent_earned calendar).1)

  -- 7 under a top beside a circle; a parent's own charge is not in its row; nothing where all is on a circle
  pub rows_outlined :
      (outline_rows 47481 (outline_circle calendar) ≡ (1 ∷ 2 ∷ seven) ∷ (2 ∷ 3 ∷ seven) ∷ [])
      × (outline_rows 47481 (outline_figures calendar) ≡ (1 ∷ 0 ∷ single) ∷ (2 ∷ 1 ∷ single) ∷ [])
      × (outline_rows 47481 (circle_leaf calendar) ≡ [])
  unfolding outline_rows outline_row earned_row optional scaled_by in_range
  rows_outlined =
      let b = books_outlined calendar in
      let f = figures_outlined calendar in
      (rw (b.0, f.0, f.1), rw (b.1, f.2, f.3), rw b.2)
