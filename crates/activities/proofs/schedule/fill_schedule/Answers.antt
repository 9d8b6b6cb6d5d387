-- `fill_schedule` meets its contract: the rows of the activities at the plan's places.
use borrow.Author.Rules.{rules}
use Rattle.activities.specs.Schedule.{schedule_of}
use Rattle.activities.proofs.schedule.fill_schedule.Goals as goal

pub returns : goal.returns
unfolding schedule_of
returns c =
    let p = c.requires.plan_of in
    rw (p.data_date, p.activities.listed) c.fill_rows.ensures
