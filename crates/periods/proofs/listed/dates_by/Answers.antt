-- `dates_by` meets its contract: the days of the calendars, then the planned value at each date.
use native.Mathlib.Omega.{arith}
use borrow.Author.Rules.{rules}
use Rattle.format.specs.Verdict.{content}
use Rattle.planned.proofs.Reaching.{reach_calendars, reach_tabled, reach_days}
use Rattle.periods.proofs.listed.dates_by.Goals as goal

pub fill_all-requires : goal.fill_all-requires
fill_all-requires c = let s = c.requires in record { to_bound = s.reach.covers.most; from_in_bounds = s.known_in_bounds; every = reach_calendars s.reach }

pub fill_planned-requires : goal.fill_planned-requires
fill_planned-requires c =
    let s = c.requires in
    record { from_bound = (s.reach.covers.ahead, s.reach.covers.most); are_tabled = reach_tabled s.reach (omega (arith, s.known_in_bounds, c.days-1.given)); out_len = s.out_len }

pub returns : goal.returns
returns c =
    c.fill_planned.ensures (content c.args.book.now) (reach_days c.requires.reach (omega (arith, c.requires.known_in_bounds, c.days-1.given)) c.fill_all.ensures) c.requires.marks_leaves
