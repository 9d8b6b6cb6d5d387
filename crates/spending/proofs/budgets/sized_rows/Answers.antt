-- `sized_rows` meets its contract: the arrays are lent as far as the book needs them.
use Rattle.spending.proofs.Asking.{arrays_room}
use Rattle.spending.proofs.budgets.sized_rows.Goals as goal

pub charged_rows-requires : goal.charged_rows-requires
charged_rows-requires g c =
    let r = c.requires in
    record { asked = r.asked; has_room = arrays_room c.args.asked.opened.plan g.row.RATES g.row.LINKS g.row.UNITS r.room.0 r.room.1 r.room.2 }
