-- `rows_in` meets its contract: what is charged is laid over the days, and its points are written.
use native.Mathlib.Omega.{arith}
use Rattle.format.specs.Verdict.{content}
use Rattle.model.specs.Costs.{budget_by_day}
use Rattle.laid.specs.Laid.{Laid}
use Rattle.spending.proofs.Asking.{asked_calendars, asked_ready, asked_laid, asked_reach, asked_rows}
use Rattle.spending.proofs.dated.rows_in.Goals as goal
use Rattle.spending.proofs.dated.rows_in.Goals.{After-lay_activities}

-- what is charged is laid
laid : (c : After-lay_activities) → Laid c.args.asked.known.from (budget_by_day (content c.args.book.now)) c.args.table.now c.lay_activities.new.table
laid c =
    let s = c.requires in
    asked_laid s.asked (omega (arith, s.known_in_bounds, c.fill_all.auto.days)) s.charged c.fill_all.ensures c.lay_activities.ensures

pub fill_all-requires : goal.fill_all-requires
fill_all-requires c =
    let s = c.requires in
    record { to_bound = s.asked.covers.most; from_in_bounds = s.known_in_bounds; every = asked_calendars s.asked }

pub lay_activities-requires : goal.lay_activities-requires
lay_activities-requires c =
    let s = c.requires in
    let ready = asked_ready s.asked (omega (arith, s.known_in_bounds, c.fill_all.auto.days)) s.charged in
    record { are_charged = ready.0; are_spans = ready.1 }

pub write_rows-requires : goal.write_rows-requires
write_rows-requires c =
    let s = c.requires in
    (asked_reach s.asked s.empty (laid (goal.at.write_rows-requires c).After-lay_activities), omega (arith, s.asked.covers.least, s.asked.begins))

pub returns : goal.returns
returns c =
    let s = c.requires in
    asked_rows s.asked s.empty (laid (goal.at.returns c).After-lay_activities) c.write_rows.ensures
