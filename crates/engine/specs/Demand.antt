-- The client's third demand over lent memory: what is read there after calls of `earned_value`, `project_earned` and `planned_curve`.
use Rattle.std.specs.Prelude.{ℕ, ◌+◌, ◌*◌, ◌≤◌, ◌≡◌, List, [], ◌∷◌, map, ℤ, length, get_or, Ok}
use Rattle.money.specs.Words.{of_bits}
use Rattle.format.specs.Verdict.{content}
use Rattle.lists.specs.Lists.{span}
use Rattle.model.specs.Amounts.{Dated, on}
use Rattle.model.specs.Planned.{planned_curve_between}
use Rattle.model.specs.Demand.{Reading}
use Rattle.answers.specs.Rows.{earned_width, earned_value_rows, project_earned_rows, planned_curve_rows}
use Rattle.answers.specs.Calls.{Condition, date_asked, reply, left, reply_place}
use Rattle.answers.specs.Reply.{Reply}

-- ---- the numbers of a row

-- number k of row i, where rows have so many numbers
abbrev pub number_at : ℕ → List ℕ → ℕ → ℕ → ℕ
number_at width out i k = get_or out (i * width + k) 0

-- of an `Earned` row: number 0 is the budget, number 1 the planned value
abbrev pub budget_in : List ℕ → ℕ → ℤ
budget_in out i = of_bits (number_at earned_width out i 0)

abbrev pub planned_in : List ℕ → ℕ → ℤ
planned_in out i = of_bits (number_at earned_width out i 1)

-- of a curve's row, which has two: number 0 is the date, number 1 the figure
abbrev pub point_in : List ℕ → ℕ → Dated
point_in out i = on (number_at 2 out i 0) (of_bits (number_at 2 out i 1))

-- ---- the five calls

-- a status date, and what is lent to `earned_value` and to `project_earned` at it: any numbers, any lengths
pub record LentAt : Type 0 where
  pub date : ℕ
  pub earned : List ℕ
  pub project : List ℕ

abbrev pub IsAccepted : Reply → Type 0
IsAccepted r = (n : ℕ) × (r ≡ Ok n)

-- what the calls ask: a date, or two of them
abbrev pub at_date : ℕ → List Condition
at_date date = date_asked date ∷ []

abbrev pub between : ℕ → ℕ → List Condition
between from to = date_asked from ∷ date_asked to ∷ []

-- on a book of these bytes
module _ (s : List ℕ) where
  abbrev pub earned_reply : LentAt → Reply
  earned_reply at = reply (at_date at.date) (earned_value_rows at.date) s (length at.earned)

  abbrev pub project_reply : LentAt → Reply
  project_reply at = reply (at_date at.date) (project_earned_rows at.date) s (length at.project)

  -- from 10,957 to a date
  abbrev pub curve_reply : ℕ → List ℕ → Reply
  curve_reply to lent = reply (between 10957 to) (planned_curve_rows 10957 to) s (length lent)

  -- both calls at D and at E, and the planned curve to E, with what is lent to it
  pub record AllAccepted (D E : LentAt) (curve : List ℕ) : Type 0 where
    pub earned_at_d : IsAccepted (earned_reply D)
    pub earned_at_e : IsAccepted (earned_reply E)
    pub project_at_d : IsAccepted (project_reply D)
    pub project_at_e : IsAccepted (project_reply E)
    pub curve_to_e : IsAccepted (curve_reply E.date curve)

  -- what is lent is enough: an `Earned` row for each activity, one for the project
  pub record HasRoom (at : LentAt) : Type 0 where
    pub for_activities : length (content s).activities * earned_width ≤ length at.earned
    pub for_project : earned_width ≤ length at.project

  -- and two for each point of the curve up to a date
  abbrev pub HasCurveRoom : ℕ → List ℕ → Type 0
  HasCurveRoom to lent = length (planned_curve_between (content s) 10957 to) * 2 ≤ length lent

  -- ---- what is read in lent memory after them

  -- an activity's planned value and budget are those numbers of its row, the project's planned value that of the only row
  abbrev pub lent_reading : LentAt → Reading
  lent_reading at =
      let earned = left (at_date at.date) (earned_value_rows at.date) s at.earned in
      let project = left (at_date at.date) (project_earned_rows at.date) s at.project in
      record { date = at.date; planned = planned_in earned; budget = budget_in earned; project = planned_in project 0 }

  -- the points, as many as the rows that are answered
  abbrev pub lent_curve : ℕ → List ℕ → List Dated
  lent_curve to lent = map (point_in (left (between 10957 to) (planned_curve_rows 10957 to) s lent)) (span 0 (reply_place (curve_reply to lent)))
