-- `last_at` meets its contract: two dates a way.
use Prim.Native.Nat.{◌+◌, ◌*◌}
use mathlib.Core.Path.{◌≡◌, ap, ◌∙◌}
use native.Mathlib.Omega.{arith}
use Rattle.activities.specs.Schedule.{entry_at, last_place}
use Rattle.activities.proofs.Scheduling.{dates_place}
use Rattle.activities.proofs.schedule.last_at.Goals as goal

pub entry-requires : goal.entry-requires
entry-requires c = omega (arith, c.way_number.ensures, (dates_place c.args.way).0)

pub returns : goal.returns
returns c =
    let e : 2 + c.way_number.result * 2 + 1 ≡ last_place c.args.way = omega (arith, c.way_number.ensures, (dates_place c.args.way).1.1) in
    c.entry.ensures ∙ ap (entry_at c.args.schedule.now c.args.i) e
