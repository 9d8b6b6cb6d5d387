-- `charged_rows` meets its contract: the tables are filled, and the charges are chained.
use Rattle.spending.proofs.Asking.{asked_charged}
use Rattle.spending.proofs.budgets.charged_rows.Goals as goal

pub dated_rows-requires : goal.dated_rows-requires
dated_rows-requires c =
    let a = c.requires.asked in
    record { asked = a; charged = asked_charged a c.fill_charges.ensures c.fill_rates.ensures c.chain-heads.ensures }
