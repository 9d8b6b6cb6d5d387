-- `roll_own` meets its contract: the own figures, then each row along the walks.
use native.Mathlib.Omega.{arith}
use borrow.Author.Rules.{rules}
use Rattle.format.specs.Verdict.{content}
use Rattle.format.proofs.Theorems.{content_in_range}
use Rattle.book.proofs.Plan.{activities_count, activities_most}
use Rattle.progress.proofs.Answering.{values_from}
use Rattle.progress.proofs.rolled.roll_own.Goals as goal

pub copy_parents-requires : goal.copy_parents-requires
copy_parents-requires c =
    omega (arith, c.schedule-1.given, c.requires.schedule_len.0, c.requires.schedule_len.2)

pub roll_rows-requires : goal.roll_rows-requires
roll_rows-requires c =
    let n = c.requires.schedule_len.2 in
    (omega (arith, c.parents-1.given, n, c.own-1.given, c.requires.schedule_len.1), omega (arith, c.parents-1.given, n, c.requires.schedule_len.3))

pub returns : goal.returns
returns c =
    let p = c.requires.opened.plan in
    let b = content c.args.book.now in
    let named = c.copy_parents.ensures b c.own_values.ensures.schedule in record {
      parents = named;
      out = values_from b c.args.date (content_in_range c.args.book.now p.accepted) (omega (arith, activities_count p, activities_most p)) named c.own_values.ensures.own c.roll_rows.ensures;
    }

pub shape_of-schedule : goal.shape_of-schedule
shape_of-schedule c = c.schedule-1.given

pub shape_of-own : goal.shape_of-own
shape_of-own c = c.own-1.given

pub shape_of-parents : goal.shape_of-parents
shape_of-parents c = c.parents-1.given

pub shape_of-out : goal.shape_of-out
shape_of-out c = c.out-1.given
