-- The status of a book as text: document 01's section 'The status program'.
use Rattle.std.specs.Prelude.{ℕ, zero, suc, ◌+◌, ◌*◌, ◌≤◌, ◌≡◌, length, None, Option, Some, Ok, Err}
use mathlib.Core.List.{List, [], ◌∷◌, ◌++◌, flat_map}
use Rattle.format.specs.Book.{Book}
use Rattle.format.specs.Verdict.{verdict, content, Accepted}
use Rattle.money.specs.Words.{bits}
use Rattle.model.specs.Amounts.{Dated}
use Rattle.model.specs.Tree.{parents, indices}
use Rattle.model.specs.Planned.{planned_curve_between}
use Rattle.model.specs.Earned.{earned_at, project_earned}
use Rattle.answers.specs.Rows.{earned_width, earned_row}
use Rattle.text.specs.Text.{decimal}
use Rattle.report.specs.Lines.{earned_line, point_line, refusal_line, activity_lines}
use Rattle.format.specs.Position.{Pos, refused}
use Rattle.format.specs.Refusals.{reason_number}

-- the date that a book is asked at: its data date, or the last date of D's range
abbrev pub asked_at : Option ℕ → ℕ
asked_at None = 47481
asked_at (Some day) = day

-- ---- of an accepted book

-- an activity's index and figures at a date
unfoldable pub activity_line : Book → ℕ → ℕ → List ℕ
activity_line book date i = earned_line (decimal i) (earned_row (earned_at book date i))

-- `total`, and the figures of the leaves' sum
unfoldable pub total_line : Book → ℕ → List ℕ
total_line book date = earned_line (116 ∷ 111 ∷ 116 ∷ 97 ∷ 108 ∷ []) (earned_row (project_earned book date))

-- a line for each activity, and the total
unfoldable pub earned_text : Book → ℕ → List ℕ
earned_text book date = flat_map (activity_line book date) (indices (parents book)) ++ total_line book date

-- a point's date and figure
abbrev pub curve_line : Dated → List ℕ
curve_line x = point_line x.day (bits x.amount ∷ [])

-- a line for each point of the curve between two dates
unfoldable pub curve_text : Book → ℕ → ℕ → List ℕ
curve_text book from to = flat_map curve_line (planned_curve_between book from to)

-- ---- of any bytes

-- the refusal; or earned value at the asked date, and the curve over all dates of D's range
abbrev pub text_at : Pos → Book → List ℕ
text_at (Err e) book = refusal_line (reason_number e.reason) e.place
text_at (Ok i) book = earned_text book (asked_at book.data_date) ++ curve_text book 10957 47481

unfoldable pub status_text : List ℕ → List ℕ
status_text s = text_at (verdict s) (content s)

-- ---- the same in four pages: earned value or the refusal, then the curve, a third of D's dates to a page

abbrev pub page_at : Pos → Book → ℕ → List ℕ
page_at (Err e) book zero = refusal_line (reason_number e.reason) e.place
page_at (Err e) book (suc k) = []
page_at (Ok i) book zero = earned_text book (asked_at book.data_date)
page_at (Ok i) book (suc k) = let from = 10957 + k * 12175 in curve_text book from (from + 12174)

unfoldable pub status_page : List ℕ → ℕ → List ℕ
status_page s k = page_at (verdict s) (content s) k

-- ---- what the first page is made of

-- the rows of earned value of an accepted book at its own date, so many, stand at the front of lent memory
pub record EarnedIn (s : List ℕ) (date count : ℕ) (lent : List ℕ) : Type 0 where
  pub accepted : Accepted s
  pub asked : date ≡ asked_at (content s).data_date
  pub few : count ≤ 500
  pub room : count * earned_width ≤ length lent
  pub lines : activity_lines lent count ≡ flat_map (activity_line (content s) date) (indices (parents (content s)))
