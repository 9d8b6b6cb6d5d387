-- `variances_of` meets its contract: too short a slice, or the rows.
use borrow.Author.Rules.{rules}
use native.Mathlib.Omega.{arith}
use mathlib.Core.Path.{sym}
use lib.Seq.{length-take-le}
use Rattle.format.specs.Verdict.{content}
use Rattle.book.proofs.Plan.{activities_most}
use Rattle.answers.specs.Rows.{variances_rows}
use Rattle.answers.proofs.Sized.{no_room, in_front}
use Rattle.variances.proofs.Varying.{rows_sized}
use Rattle.variances.proofs.variances_of.Goals as goal

pub overflow_mul-n : goal.overflow_mul-n
overflow_mul-n c = record { fits = omega (arith, activities_most c.requires.plan) }

pub returns-then-out-n : goal.returns-then-out-n
returns-then-out-n c =
    no_room (variances_rows (content c.args.book.now)) _ (rows_sized c.requires.plan) (omega (arith, c.if-out-n.true))

pub slice_bounds-fill_variances-end-2 : goal.slice_bounds-fill_variances-end-2
slice_bounds-fill_variances-end-2 c = sym (length-take-le _ _ (omega (arith, c.if-out-n.false)))

pub fill_variances-requires : goal.fill_variances-requires
fill_variances-requires c = record { opened = c.requires; out_len = sym (slice_bounds-fill_variances-end-2 c) }

pub returns : goal.returns
returns c =
    in_front (variances_rows (content c.args.book.now)) _ (rows_sized c.requires.plan) (omega (arith, c.if-out-n.false)) _ c.fill_variances.ensures
