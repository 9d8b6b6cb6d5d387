-- What is answered to a byte string, and the book that an accepted one holds.
use Rattle.std.specs.Prelude.{ℕ, ◌≤◌, ◌≡◌, cond, List, length, ltb, Err, Ok}
use Rattle.format.specs.Bytes.{Bytes}
use Rattle.format.specs.Book.{Book}
use Rattle.format.specs.Format.{book}
use Rattle.format.specs.declared.Reason.TheVariants.{BookTooLong, BytesLeft}
use Rattle.format.specs.Position.{Answer, Pos, refused}
use Rattle.format.specs.Refusals.{reason_number}

-- refusal 1, place 0: over 60,000 bytes
unfoldable pub begin : List ℕ → Pos
begin s = cond (ltb 60000 (length s)) (refused BookTooLong 0) (Ok 0)

-- refusal 7, place of the first: bytes after the last section
unfoldable pub end : List ℕ → Pos → Pos
end s (Ok i) = cond (ltb i (length s)) (refused BytesLeft i) (Ok i)
end s (Err e) = Err e

-- 1 first; 2 to 6 by reading order, the range before 6; then 7; where nothing refuses, the position after the book
unfoldable pub verdict : List ℕ → Pos
verdict s = end s (book.read s (begin s)).1

-- the book of an accepted byte string
unfoldable pub content : List ℕ → Book
content s = (book.read s (begin s)).0

-- accepted, or the refusal
unfoldable pub answer_of : Pos → Answer
answer_of (Ok i) = Ok tt
answer_of (Err e) = Err e

-- the number that is returned: 0 for accepted
unfoldable pub answer_number : Answer → ℕ
answer_number (Ok u) = 0
answer_number (Err e) = reason_number e.reason

-- the place that is returned: 0 for accepted
unfoldable pub answer_place : Answer → ℕ
answer_place (Ok u) = 0
answer_place (Err e) = e.place

-- a book is accepted when nothing refuses it
pub record Accepted (s : List ℕ) : Type 0 where
  pub bytes : Bytes s
  pub whole : verdict s ≡ Ok (length s)

-- every field is as the format says, and the bytes are at most 60,000
pub record WellFormed (b : Book) : Type 0 where
  pub fields : book.ok b
  pub short : length (book.write b) ≤ 60000
