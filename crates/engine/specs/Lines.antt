-- The outline over lent memory: what is read there after a call of `outline`, and beside a call of `earned_value` at the same date.
use Rattle.std.specs.Prelude.{ℕ, ◌+◌, ◌<◌, ◌≡◌, List, map, length}
use Rattle.lists.specs.Lists.{span}
use Rattle.format.specs.Verdict.{content}
use Rattle.model.specs.Tree.{parents}
use Rattle.model.specs.Outline.{Line, line, line_at, ParentsInside, IsOutlineOf}
use Rattle.answers.specs.Rows.{earned_width, earned_value_rows, outline_width, outline_rows}
use Rattle.answers.specs.Calls.{reply, left, reply_place}
use Rattle.engine.specs.Demand.{number_at, at_date}
use Rattle.answers.specs.Reply.{Reply}

-- on a book of these bytes, at a date
module _ (s : List ℕ) (date : ℕ) where
  -- what the two calls answer, and what they leave in what is lent to them
  abbrev pub outline_reply : List ℕ → Reply
  outline_reply lent = reply (at_date date) (outline_rows date) s (length lent)

  abbrev pub outline_left : List ℕ → List ℕ
  outline_left lent = left (at_date date) (outline_rows date) s lent

  abbrev pub value_reply : List ℕ → Reply
  value_reply lent = reply (at_date date) (earned_value_rows date) s (length lent)

  abbrev pub value_left : List ℕ → List ℕ
  value_left lent = left (at_date date) (earned_value_rows date) s lent

  -- of a row, number 0 is the level and number 1 the index: the lines, as many as the rows that are answered
  abbrev pub lent_lines : List ℕ → List Line
  lent_lines lent = map (λ (r : ℕ). line (number_at outline_width (outline_left lent) r 0) (number_at outline_width (outline_left lent) r 1)) (span 0 (reply_place (outline_reply lent)))

  -- what is promised of them, with what is lent to `outline` and to `earned_value`
  pub record OutlineLent (lent values : List ℕ) : Type 0 where
    -- document 02's sentences, and every parent is an activity, so that what does not appear hangs on a circle
    pub outlined : IsOutlineOf (parents (content s)) (lent_lines lent)
    pub inside : ParentsInside (parents (content s))
    -- the numbers behind the index are those of the activity's row of `earned_value`
    pub figures : (r k : ℕ) → r < length (lent_lines lent) → k < earned_width → number_at outline_width (outline_left lent) r (2 + k) ≡ number_at earned_width (value_left values) (line_at (lent_lines lent) r).index k
