-- `date_by` meets its contract: the days of the calendars, then each activity's planned value.
use native.Mathlib.Omega.{arith}
use borrow.Author.Rules.{rules}
use Rattle.format.specs.Verdict.{content}
use Rattle.baseline.proofs.Listing.{budgets_long_lem}
use Rattle.planned.proofs.Reaching.{reach_calendars, reach_tabled, reach_days}
use Rattle.earned.proofs.dated.date_by.Goals as goal

pub fill_all-requires : goal.fill_all-requires
fill_all-requires c = let s = c.requires in record { to_bound = s.reach.covers.most; from_in_bounds = s.known_in_bounds; every = reach_calendars s.reach }

pub put_planned-requires : goal.put_planned-requires
put_planned-requires c =
    let reach = c.requires.reach in record {
      from_bound = (reach.covers.ahead, reach.covers.most);
      are_tabled = reach_tabled reach (omega (arith, c.requires.known_in_bounds, c.days-1.given));
      out_len = omega (arith, c.requires.measured.long, budgets_long_lem (content c.args.book.now) reach.budgeted);
    }

pub returns : goal.returns
returns c =
    c.put_planned.ensures (content c.args.book.now) (reach_days c.requires.reach (omega (arith, c.requires.known_in_bounds, c.days-1.given)) c.fill_all.ensures) c.requires.measured
