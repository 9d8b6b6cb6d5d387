-- `fill_expensed` meets its contract: the expenses at the plan's places.
use Rattle.charges.proofs.expensed.fill_expensed.Goals as goal

pub returns : goal.returns
returns c =
    let p = c.requires.plan_of in
    record { booked = rw p.expenses.listed c.fill_expenses.ensures.booked; counted = rw p.expenses.listed c.fill_expenses.ensures.counted }
