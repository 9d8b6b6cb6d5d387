-- Document 01's example: its status is the text that document 01 prints, and its outline. What is printed for a share that is absent, or 0, and beside a circle.
use Rattle.std.specs.Prelude.{Ok}
use Prim.Native.Nat.{ℕ}
use mathlib.Core.Path.{◌≡◌, ap, ◌∙◌}
use mathlib.Core.List.{List, [], ◌∷◌, flat_map}
use lib.IntN.{pos}
use lib.ListN.{get_or}
use Rattle.lists.specs.Lists.{span, keep}
use Rattle.money.specs.Scale.{in_range, scaled_by}
use Rattle.format.specs.Book.{Calendar}
use Rattle.format.specs.Verdict.{content}
use Rattle.format.proofs.Example.{bytes, example, read_back}
use Rattle.model.specs.declared.Earned.{Earned}
use Rattle.model.specs.Tree.{parents}
use Rattle.model.specs.Outline.{tops, children, branch, branches, outline}
use Rattle.model.specs.Earned.{earned_at, earned_value}
use Rattle.model.proofs.Example.{example_earned, example_total, example_curve}
use Rattle.model.proofs.SpentCases.{spent_zero, total_cancels, rows_figured, totals_figured}
use Rattle.model.proofs.OutlineCases.{outline_circle, circle_leaf, books_outlined, figures_outlined}
use Rattle.answers.specs.Rows.{earned_row}
use Rattle.rows.specs.Rows.{optional}
use Rattle.text.specs.Text.{places, decimal, pair, signed, marked, figures, line}
use Rattle.report.specs.Lines.{earned_line, point_line}
use Rattle.report.specs.Status.{activity_line, total_line, earned_text, curve_text, text_at, status_text}
use Rattle.report.specs.Outline.{outline_line, listed_text, outlined_at, outline_text}
use Rattle.format.specs.Position.{Pos}

-- `0 1000 667 500 400 600 4000`, `1` and `total` with the same, `19723 334`, `19724 667`, `19725 1000`
abbrev printed : List ℕ
printed =
    48 ∷ 32 ∷ 49 ∷ 48 ∷ 48 ∷ 48 ∷ 32 ∷ 54 ∷ 54 ∷ 55 ∷ 32 ∷ 53 ∷ 48 ∷ 48 ∷ 32 ∷ 52 ∷ 48 ∷ 48 ∷ 32 ∷ 54 ∷ 48 ∷ 48 ∷ 32 ∷ 52 ∷ 48 ∷ 48 ∷ 48 ∷ 10
    ∷ 49 ∷ 32 ∷ 49 ∷ 48 ∷ 48 ∷ 48 ∷ 32 ∷ 54 ∷ 54 ∷ 55 ∷ 32 ∷ 53 ∷ 48 ∷ 48 ∷ 32 ∷ 52 ∷ 48 ∷ 48 ∷ 32 ∷ 54 ∷ 48 ∷ 48 ∷ 32 ∷ 52 ∷ 48 ∷ 48 ∷ 48 ∷ 10
    ∷ 116 ∷ 111 ∷ 116 ∷ 97 ∷ 108 ∷ 32 ∷ 49 ∷ 48 ∷ 48 ∷ 48 ∷ 32 ∷ 54 ∷ 54 ∷ 55 ∷ 32 ∷ 53 ∷ 48 ∷ 48 ∷ 32 ∷ 52 ∷ 48 ∷ 48 ∷ 32 ∷ 54 ∷ 48 ∷ 48 ∷ 32 ∷ 52 ∷ 48 ∷ 48 ∷ 48 ∷ 10
    ∷ 49 ∷ 57 ∷ 55 ∷ 50 ∷ 51 ∷ 32 ∷ 51 ∷ 51 ∷ 52 ∷ 10
    ∷ 49 ∷ 57 ∷ 55 ∷ 50 ∷ 52 ∷ 32 ∷ 54 ∷ 54 ∷ 55 ∷ 10
    ∷ 49 ∷ 57 ∷ 55 ∷ 50 ∷ 53 ∷ 32 ∷ 49 ∷ 48 ∷ 48 ∷ 48 ∷ 10
    ∷ []

abbrev row : Earned
row = record { budget = pos 1000; planned = pos 667; earned = pos 500; actual = pos 400; remaining = pos 600 }

rows : (earned_at example 19724 0 ≡ row) × (earned_at example 19724 1 ≡ row)
unfolding earned_value parents span
rows = (ap (λ (l : List Earned). get_or l 0 row) example_earned, ap (λ (l : List Earned). get_or l 1 row) example_earned)

example_text : text_at (Ok 67) example ≡ printed
unfolding
    earned_text curve_text activity_line total_line earned_line point_line line marked figures signed decimal places earned_row optional scaled_by in_range
    parents span flat_map
example_text = rw (rows.0, rows.1, example_total, example_curve)

pub example_status : status_text bytes ≡ printed
unfolding status_text
example_status = ap (λ (p : Pos). text_at p (content bytes)) (ap (λ (l : List (ℕ × Pos)). (get_or l 0 (0, Ok 0)).1) read_back.1) ∙ ap (text_at (Ok 67)) read_back.0 ∙ example_text

-- its outline: `1 0 1000 667 500 400 600 4000`, `2 1` with the same
abbrev printed_outline : List ℕ
printed_outline =
    49 ∷ 32 ∷ 48 ∷ 32 ∷ 49 ∷ 48 ∷ 48 ∷ 48 ∷ 32 ∷ 54 ∷ 54 ∷ 55 ∷ 32 ∷ 53 ∷ 48 ∷ 48 ∷ 32 ∷ 52 ∷ 48 ∷ 48 ∷ 32 ∷ 54 ∷ 48 ∷ 48 ∷ 32 ∷ 52 ∷ 48 ∷ 48 ∷ 48 ∷ 10
    ∷ 50 ∷ 32 ∷ 49 ∷ 32 ∷ 49 ∷ 48 ∷ 48 ∷ 48 ∷ 32 ∷ 54 ∷ 54 ∷ 55 ∷ 32 ∷ 53 ∷ 48 ∷ 48 ∷ 32 ∷ 52 ∷ 48 ∷ 48 ∷ 32 ∷ 54 ∷ 48 ∷ 48 ∷ 32 ∷ 52 ∷ 48 ∷ 48 ∷ 48 ∷ 10
    ∷ []

example_lines : outlined_at (Ok 67) example ≡ printed_outline
unfolding
    listed_text outline_line pair earned_line marked figures signed decimal places earned_row optional scaled_by in_range outline branches branch tops children
    parents keep span flat_map
example_lines = rw (rows.0, rows.1)

pub example_outline : outline_text bytes ≡ printed_outline
unfolding outline_text
example_outline =
    ap (λ (p : Pos). outlined_at p (content bytes)) (ap (λ (l : List (ℕ × Pos)). (get_or l 0 (0, Ok 0)).1) read_back.1) ∙ ap (outlined_at (Ok 67)) read_back.0 ∙ example_lines

-- ---- what is spent, on two small books: `-` without a budget, 0 where a share is 0

-- the row of activity i in a list of rows
abbrev row_at : ℕ → List Earned → Earned
row_at i rows = get_or rows i row

module _ (calendar : Calendar) where
  -- `0 0 0 0 0 0 -`, `1 5 5 0 0 0 0`, `2 20000 20000 0 1 0 0`, `total 20005 20005 0 1 0 0`
  pub zero_text : earned_text (spent_zero calendar) 47481 ≡
      48 ∷ 32 ∷ 48 ∷ 32 ∷ 48 ∷ 32 ∷ 48 ∷ 32 ∷ 48 ∷ 32 ∷ 48 ∷ 32 ∷ 45 ∷ 10
      ∷ 49 ∷ 32 ∷ 53 ∷ 32 ∷ 53 ∷ 32 ∷ 48 ∷ 32 ∷ 48 ∷ 32 ∷ 48 ∷ 32 ∷ 48 ∷ 10
      ∷ 50 ∷ 32 ∷ 50 ∷ 48 ∷ 48 ∷ 48 ∷ 48 ∷ 32 ∷ 50 ∷ 48 ∷ 48 ∷ 48 ∷ 48 ∷ 32 ∷ 48 ∷ 32 ∷ 49 ∷ 32 ∷ 48 ∷ 32 ∷ 48 ∷ 10
      ∷ 116 ∷ 111 ∷ 116 ∷ 97 ∷ 108 ∷ 32 ∷ 50 ∷ 48 ∷ 48 ∷ 48 ∷ 53 ∷ 32 ∷ 50 ∷ 48 ∷ 48 ∷ 48 ∷ 53 ∷ 32 ∷ 48 ∷ 32 ∷ 49 ∷ 32 ∷ 48 ∷ 32 ∷ 48 ∷ 10
      ∷ []
  unfolding
      earned_text activity_line total_line earned_line marked figures signed decimal places earned_row optional scaled_by in_range earned_value parents span flat_map
  zero_text =
      let rows = (rows_figured calendar).1 in
      rw (ap (row_at 0) rows, ap (row_at 1) rows, ap (row_at 2) rows, (totals_figured calendar).1)

  -- `0 0 0 0 6 0 -`, `1 5 5 0 3 0 6000`, `2 -5 -5 0 3 0 -6000`, `total 0 0 0 6 0 -`
  pub cancelled_text : earned_text (total_cancels calendar) 47481 ≡
      48 ∷ 32 ∷ 48 ∷ 32 ∷ 48 ∷ 32 ∷ 48 ∷ 32 ∷ 54 ∷ 32 ∷ 48 ∷ 32 ∷ 45 ∷ 10
      ∷ 49 ∷ 32 ∷ 53 ∷ 32 ∷ 53 ∷ 32 ∷ 48 ∷ 32 ∷ 51 ∷ 32 ∷ 48 ∷ 32 ∷ 54 ∷ 48 ∷ 48 ∷ 48 ∷ 10
      ∷ 50 ∷ 32 ∷ 45 ∷ 53 ∷ 32 ∷ 45 ∷ 53 ∷ 32 ∷ 48 ∷ 32 ∷ 51 ∷ 32 ∷ 48 ∷ 32 ∷ 45 ∷ 54 ∷ 48 ∷ 48 ∷ 48 ∷ 10
      ∷ 116 ∷ 111 ∷ 116 ∷ 97 ∷ 108 ∷ 32 ∷ 48 ∷ 32 ∷ 48 ∷ 32 ∷ 48 ∷ 32 ∷ 54 ∷ 32 ∷ 48 ∷ 32 ∷ 45 ∷ 10
      ∷ []
  unfolding
      earned_text activity_line total_line earned_line marked figures signed decimal places earned_row optional scaled_by in_range earned_value parents span flat_map
  cancelled_text =
      let rows = (rows_figured calendar).2 in
      rw (ap (row_at 0) rows, ap (row_at 1) rows, ap (row_at 2) rows, (totals_figured calendar).2)

  -- ---- beside a circle, and where all is on one

  -- `1 2 7 7 0 0 0 0`, `2 3 7 7 0 0 0 0`; nothing
  pub circle_text :
      (listed_text (outline_circle calendar) 47481
      ≡ 49 ∷ 32 ∷ 50 ∷ 32 ∷ 55 ∷ 32 ∷ 55 ∷ 32 ∷ 48 ∷ 32 ∷ 48 ∷ 32 ∷ 48 ∷ 32 ∷ 48 ∷ 10
      ∷ 50 ∷ 32 ∷ 51 ∷ 32 ∷ 55 ∷ 32 ∷ 55 ∷ 32 ∷ 48 ∷ 32 ∷ 48 ∷ 32 ∷ 48 ∷ 32 ∷ 48 ∷ 10
      ∷ [])
      × (listed_text (circle_leaf calendar) 47481 ≡ [])
  unfolding listed_text outline_line pair earned_line marked figures signed decimal places earned_row optional scaled_by in_range flat_map
  circle_text =
      let b = books_outlined calendar in
      let f = figures_outlined calendar in
      (rw (b.0, f.0, f.1), rw b.2)
