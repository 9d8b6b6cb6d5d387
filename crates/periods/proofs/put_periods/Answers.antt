-- `put_periods` meets its contract: the tables have room for the periods, few or not.
use native.Mathlib.Omega.{arith}
use Rattle.book.proofs.Plan.{periods_most}
use Rattle.periods.proofs.put_periods.Goals as goal

pub sized_periods-requires : goal.sized_periods-requires
sized_periods-requires c =
    let r = c.requires in
    let few = c.if-opened-le24.true in
    record { opened = r.opened; room = (omega (arith, few), omega (arith, few)); most = (omega arith, omega arith); out_len = r.out_len }

pub sized_periods-requires-2 : goal.sized_periods-requires-2
sized_periods-requires-2 c =
    let r = c.requires in
    let most = periods_most r.opened.plan r.opened.ledger in
    record { opened = r.opened; room = (omega (arith, most), omega (arith, most)); most = (omega arith, omega arith); out_len = r.out_len }
