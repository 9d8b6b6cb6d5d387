-- Document 01's table of refusals: the number of each reason.
use Rattle.std.specs.Prelude.{ℕ}
use Rattle.format.specs.declared.Reason.{Reason}
use Rattle.format.specs.declared.Reason.TheVariants.{BookTooLong, EndsEarly, NotShortest, OutOfRange, CountOutOfRange, OutOfOrder, BytesLeft, UnknownActivity, DateOutOfRange, TooShort, SumOutOfRange}

abbrev pub reason_number : Reason → ℕ
reason_number BookTooLong = 1
reason_number EndsEarly = 2
reason_number NotShortest = 3
reason_number OutOfRange = 4
reason_number CountOutOfRange = 5
reason_number OutOfOrder = 6
reason_number BytesLeft = 7
reason_number UnknownActivity = 8
reason_number DateOutOfRange = 9
reason_number TooShort = 10
reason_number SumOutOfRange = 11
