-- The lines of a report, in ASCII.
use Rattle.std.specs.Prelude.{ℕ, ◌+◌, ◌*◌, get_or, take, drop}
use mathlib.Core.List.{List, [], ◌∷◌, ◌++◌, flat_map}
use Rattle.lists.specs.Lists.{span}
use Rattle.answers.specs.Rows.{earned_width, outline_width}
use Rattle.text.specs.Text.{decimal, pair, marked, figures, line}

-- a row of earned value: what leads the line, then budget, planned, earned, actual and remaining, then what is spent, `-` where it is absent. Here the row's numbers become text
unfoldable pub earned_line : List ℕ → List ℕ → List ℕ
earned_line head row = head ++ (figures (take 5 row) ++ ((32 ∷ marked (get_or row 5 0) (get_or row 6 0)) ++ (10 ∷ [])))

-- a row of the outline: its level and its index lead the row of earned value
unfoldable pub outline_row_line : List ℕ → List ℕ
outline_row_line row = earned_line (pair (get_or row 0 0) (get_or row 1 0)) (drop 2 row)

-- a point of the curve: its date, and its figure in two's complement
unfoldable pub point_line : ℕ → List ℕ → List ℕ
point_line day figure = line (decimal day) figure

-- `refused`, the number and the place
unfoldable pub refusal_line : ℕ → ℕ → List ℕ
refusal_line number place = line (114 ∷ 101 ∷ 102 ∷ 117 ∷ 115 ∷ 101 ∷ 100 ∷ []) (number ∷ place ∷ [])

-- ---- of rows that stand in lent memory, one behind the other

-- the line of row i of earned value, led by its index
abbrev pub activity_line_in : List ℕ → ℕ → List ℕ
activity_line_in lent i = earned_line (decimal i) (take earned_width (drop (i * earned_width) lent))

-- the line of row i of the outline
abbrev pub outline_line_in : List ℕ → ℕ → List ℕ
outline_line_in lent i = outline_row_line (take outline_width (drop (i * outline_width) lent))

-- the line of point i
abbrev pub point_line_in : List ℕ → ℕ → List ℕ
point_line_in lent i = point_line (get_or lent (i * 2) 0) (take 1 (drop (i * 2 + 1) lent))

-- those of the first n rows, of earned value and of the outline, and of the first n points
unfoldable pub activity_lines : List ℕ → ℕ → List ℕ
activity_lines lent n = flat_map (activity_line_in lent) (span 0 n)

unfoldable pub outline_lines : List ℕ → ℕ → List ℕ
outline_lines lent n = flat_map (outline_line_in lent) (span 0 n)

unfoldable pub point_lines : List ℕ → ℕ → List ℕ
point_lines lent n = flat_map (point_line_in lent) (span 0 n)
