-- `fill_assigned` meets its contract: the assignments at the plan's places.
use Rattle.charges.specs.Assigned.{links_of, units_in}
use Rattle.charges.proofs.assigned.fill_assigned.Goals as goal

pub returns : goal.returns
unfolding links_of units_in
returns c =
    let p = c.requires.plan_of in
    record { booked = rw p.assignments.listed c.fill_assignments.ensures.booked; counted = rw p.assignments.listed c.fill_assignments.ensures.counted }
