-- The outline of a book as text: document 02's outline print for site meetings.
use Rattle.std.specs.Prelude.{ℕ, Ok, Err}
use mathlib.Core.List.{List, flat_map}
use Rattle.format.specs.Book.{Book}
use Rattle.format.specs.Verdict.{verdict, content}
use Rattle.model.specs.Tree.{parents}
use Rattle.model.specs.Outline.{Line, outline}
use Rattle.model.specs.Earned.{earned_at}
use Rattle.answers.specs.Rows.{earned_row}
use Rattle.text.specs.Text.{pair}
use Rattle.report.specs.Lines.{earned_line, refusal_line}
use Rattle.report.specs.Status.{asked_at}
use Rattle.format.specs.Position.{Pos, refused}
use Rattle.format.specs.Refusals.{reason_number}

-- a line's level and index, and its activity's figures at a date
unfoldable pub outline_line : Book → ℕ → Line → List ℕ
outline_line book date x = earned_line (pair x.level x.index) (earned_row (earned_at book date x.index))

-- a line for each line of the outline, and nothing else
unfoldable pub listed_text : Book → ℕ → List ℕ
listed_text book date = flat_map (outline_line book date) (outline (parents book))

-- of any bytes: the status program's refusal; or the outline at the status program's date
abbrev pub outlined_at : Pos → Book → List ℕ
outlined_at (Err e) book = refusal_line (reason_number e.reason) e.place
outlined_at (Ok i) book = listed_text book (asked_at book.data_date)

unfoldable pub outline_text : List ℕ → List ℕ
outline_text s = outlined_at (verdict s) (content s)
