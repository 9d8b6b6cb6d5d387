-- `fill_columns` meets its contract: one table after the other.
use Rattle.phased.proofs.fill_columns.Goals as goal

pub list_spans-requires : goal.list_spans-requires
list_spans-requires c =
    record {
      opened = c.requires.opened;
      schedule_value = c.fill_schedule.ensures;
      costs_value = c.own_costs.ensures;
      listed_len = (c.requires.has_room.listed_long, c.requires.has_room.budgets_long);
    }

pub returns : goal.returns
returns c =
    record {
      scheduled = c.fill_schedule.ensures;
      charged = c.own_costs.ensures;
      spanned = c.list_spans.ensures.listed;
      budgeted = c.list_spans.ensures.budgets;
    }
