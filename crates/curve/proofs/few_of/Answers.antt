-- `few_of` meets its contract: a long stretch is left to `many_rows`.
use native.Mathlib.Omega.{arith}
use Rattle.book.proofs.Plan.{activities_most}
use Rattle.bydate.proofs.Writing.{nothing_points}
use Rattle.curve.proofs.Curving.{narrowed_asked, narrowed_short, narrowed_rows, narrowed_nothing, short_days}
use borrow.Author.Rules.{rules}
use Rattle.curve.proofs.few_of.Goals as goal

pub returns-then-asked : goal.returns-then-asked
returns-then-asked c =
    nothing_points _ _ (narrowed_nothing c.reach_of-reach.ensures c.requires.are_phased c.args.between c.ask-asked.ensures c.if-asked.true)

pub sized_rows-requires : goal.sized_rows-requires
sized_rows-requires c =
    let reach = c.reach_of-reach.ensures in
    let asked = narrowed_asked reach c.requires.are_phased c.args.between c.ask-asked.ensures c.if-asked.false in
    let short = narrowed_short reach c.requires.are_phased c.args.between c.ask-asked.ensures 256 c.if-reach.true in
    record { asked = asked; room = (short_days asked 256 short, omega (arith, short)); most = (omega arith, omega arith) }

pub returns-then-reach : goal.returns-then-reach
returns-then-reach c =
    narrowed_rows c.reach_of-reach.ensures c.requires.are_phased c.args.between c.ask-asked.ensures c.sized_rows.ensures

pub many_rows-requires : goal.many_rows-requires
many_rows-requires c =
    let s = c.requires in
    record { opened = s.opened; count_bound = activities_most s.opened.plan }
