-- `days_between` meets its contract: a table of counts goes up by the count of the span.
use mathlib.Core.Path.{sym}
use native.Mathlib.Omega.{arith}
use borrow.Author.Rules.{rules}
use Rattle.calendar.proofs.Spans.{none_between, rises_between_lem}
use Rattle.calendar.proofs.counts.days_between.Goals as goal

pub returns-then-to-from : goal.returns-then-to-from
returns-then-to-from c = sym (none_between _ _ _ c.if-to-from.true)

pub overflow_sub-result : goal.overflow_sub-result
overflow_sub-result c =
    omega (arith, rises_between_lem c.args.base c.args.counts.now c.args.from c.args.to c.requires.rises c.if-to-from.false)

pub returns : goal.returns
returns c =
    omega (arith, rises_between_lem c.args.base c.args.counts.now c.args.from c.args.to c.requires.rises c.if-to-from.false)
