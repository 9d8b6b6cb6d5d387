-- What is answered to a call, and what it leaves in lent memory: document 01's table.
use Rattle.std.specs.Prelude.{ℕ, ◌≡◌, Bool, ◌&&◌, cond, List, [], ◌∷◌, ◌++◌, leb, ltb, length, drop, Err, Ok}
use Rattle.format.specs.Book.{Book}
use Rattle.format.specs.Verdict.{verdict, content}
use Rattle.model.specs.TwelveMonths.{are_words, spending_months}
use Rattle.rows.specs.Rows.{numbers}
use Rattle.answers.specs.Rows.{Rows}
use Rattle.format.specs.declared.Reason.TheVariants.{TooShort, UnknownActivity, DateOutOfRange, SumOutOfRange}
use Rattle.format.specs.Position.{Pos, refused}
use Rattle.answers.specs.Reply.{Reply}
use Rattle.format.specs.declared.Reason.{Reason}
use Rattle.format.specs.Refusals.{reason_number}

-- ---- what a call asks

-- a condition on an accepted book, and why it is refused where it does not hold
pub record Condition : Type 0 where
  pub reason : Reason
  pub holds : Book → Bool

unfoldable pub is_activity : ℕ → Book → Bool
is_activity i book = ltb i (length book.activities)

-- document 01's status date is within D's range, and so is every asked date
unfoldable pub is_date : ℕ → Bool
is_date d = leb 10957 d && leb d 47481

-- 8: an asked activity is in the book
abbrev pub activity_asked : ℕ → Condition
activity_asked i = record { reason = UnknownActivity; holds = is_activity i }

-- 9: an asked date is within the range
abbrev pub date_asked : ℕ → Condition
date_asked d = record { reason = DateOutOfRange; holds = λ book. is_date d }

-- 11: each twelve-month sum is a number of 64 bits
abbrev pub sums_asked : Condition
sums_asked = record { reason = SumOutOfRange; holds = λ book. are_words (spending_months book) }

-- ---- what is answered

-- the first condition that does not hold refuses the call; the place is 0
unfoldable pub checked : List Condition → Book → Reply → Reply
checked [] book r = r
checked (c ∷ cs) book r = cond (c.holds book) (checked cs book r) (refused c.reason 0)

-- a book that meets them all is not refused for them
pub record Met (conditions : List Condition) (book : Book) : Type 0 where
  pub passes : (r : Reply) → checked conditions book r ≡ r

-- the rows, with their count; 10 where the lent slice is too short for their numbers
unfoldable pub fitted : Rows → ℕ → Reply
fitted rows lent = cond (leb (length (numbers rows)) lent) (Ok (length rows)) (refused TooShort 0)

-- a refused book before all else
abbrev pub reply_at : Pos → Reply → Reply
reply_at (Ok i) r = r
reply_at (Err e) r = Err e

-- the rows go to the front of lent memory, and the rest keeps its numbers; a refusal leaves it untouched
unfoldable pub lent_after : Reply → Rows → List ℕ → List ℕ
lent_after (Ok n) rows out = numbers rows ++ drop (length (numbers rows)) out
lent_after (Err e) rows out = out

-- r is answered with these rows where `out` is lent, and `after` is left in it
pub record Puts (rows : Rows) (out : List ℕ) (r : Reply) (after : List ℕ) : Type 0 where
  pub answer : r ≡ fitted rows (length out)
  pub lent : after ≡ lent_after r rows out

-- the same where the figures themselves are tested: where they do not pass, the call is refused for a reason, before 10
pub record PutsIf (passes : Bool) (reason : Reason) (rows : Rows) (out : List ℕ) (r : Reply) (after : List ℕ) : Type 0 where
  pub answer : r ≡ cond passes (fitted rows (length out)) (refused reason 0)
  pub lent : after ≡ lent_after r rows out

-- the number that is returned: 0 for accepted
unfoldable pub reply_number : Reply → ℕ
reply_number (Ok n) = 0
reply_number (Err e) = reason_number e.reason

-- the count of rows, or the place
unfoldable pub reply_place : Reply → ℕ
reply_place (Ok n) = n
reply_place (Err e) = e.place

-- a call with these conditions, in the order in which they refuse, and these rows
module _ (conditions : List Condition) (rows : Book → Rows) (s : List ℕ) where
  -- what it answers to any bytes, with so much lent
  unfoldable pub reply : ℕ → Reply
  reply lent = reply_at (verdict s) (checked conditions (content s) (fitted (rows (content s)) lent))

  -- what it leaves in lent memory
  unfoldable pub left : List ℕ → List ℕ
  left out = lent_after (reply (length out)) (rows (content s)) out

  -- the contract of a call: r is its answer, and `after` what is left in lent memory that was `out`
  pub record Answers (out : List ℕ) (r : Reply) (after : List ℕ) : Type 0 where
    pub answer : r ≡ reply (length out)
    pub lent : after ≡ left out

  -- the contract as C has it: the number is returned, the place set
  pub record Returns (out : List ℕ) (number place : ℕ) (after : List ℕ) : Type 0 where
    pub returned : number ≡ reply_number (reply (length out))
    pub placed : place ≡ reply_place (reply (length out))
    pub lent : after ≡ left out
