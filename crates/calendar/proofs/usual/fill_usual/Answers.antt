-- `fill_usual` meets its contract: no region has no holidays.
use Rattle.model.specs.Calendar.{is_region_holiday}
use Rattle.calendar.proofs.usual.fill_usual.Goals as goal

pub returns-in-None : goal.returns-in-None
unfolding is_region_holiday
returns-in-None c = rw c.in-None.is c.fill_week.ensures

pub returns-in-Brazil : goal.returns-in-Brazil
unfolding is_region_holiday
returns-in-Brazil c =
    rw c.in-Brazil.is (c.free_holidays.ensures _ c.fill_week.ensures)
