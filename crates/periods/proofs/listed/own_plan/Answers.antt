-- `own_plan` meets its contract: the tables have room for the activities.
use Prim.Native.Nat.{ℕ}
use mathlib.Core.Path.{sym}
use lib.IntN.{pos}
use Rattle.bydate.proofs.Arrays.{front_long}
use Rattle.periods.proofs.listed.own_plan.Goals as goal

pub plan_dates-requires : goal.plan_dates-requires
plan_dates-requires g c =
    let r = c.requires in
    record { opened = r.opened; listed_len = (sym (front_long {A = ℕ} g.row.LISTED 0 _ r.room.0), sym (front_long g.row.BUDGETS (pos 0) _ r.room.1)); out_len = r.out_len }
