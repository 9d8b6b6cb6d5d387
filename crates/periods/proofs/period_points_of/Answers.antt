-- `period_points_of` meets its contract: too short a slice, no periods, or the rows.
use borrow.Author.Rules.{rules}
use native.Mathlib.Omega.{arith}
use mathlib.Core.Path.{sym}
use lib.Seq.{length-take-le}
use Rattle.format.specs.Verdict.{content}
use Rattle.book.proofs.Plan.{periods_most}
use Rattle.answers.specs.Rows.{period_points_rows}
use Rattle.answers.proofs.Sized.{no_room, in_front, nothing_there}
use Rattle.periods.proofs.Made.{rows_sized}
use Rattle.periods.proofs.period_points_of.Goals as goal

pub overflow_mul-n : goal.overflow_mul-n
overflow_mul-n c = let o = c.requires in record { fits = omega (arith, periods_most o.plan o.ledger) }

pub returns-then-out-n : goal.returns-then-out-n
returns-then-out-n c =
    no_room (period_points_rows (content c.args.book.now)) _ (rows_sized c.requires) (omega (arith, c.if-out-n.true))

pub returns-then-n-eq0 : goal.returns-then-n-eq0
returns-then-n-eq0 c =
    nothing_there (period_points_rows (content c.args.book.now)) _ (rows_sized c.requires) (omega (arith, c.if-n-eq0.true))

pub slice_bounds-put_periods-end-2 : goal.slice_bounds-put_periods-end-2
slice_bounds-put_periods-end-2 c = sym (length-take-le _ _ (omega (arith, c.if-out-n.false)))

pub put_periods-requires : goal.put_periods-requires
put_periods-requires c = record { opened = c.requires; out_len = sym (slice_bounds-put_periods-end-2 c) }

pub returns : goal.returns
returns c =
    in_front (period_points_rows (content c.args.book.now)) _ (rows_sized c.requires) (omega (arith, c.if-out-n.false)) _ c.put_periods.ensures
