-- `reach_all` meets its contract: four times.
use native.Mathlib.Omega.{arith}
use Rattle.variances.proofs.Reaching.{early_dates, all_reached}
use Rattle.variances.proofs.stretch.reach_all.Goals as goal

pub reach-early-requires : goal.reach-early-requires
reach-early-requires c =
    record { table_len = (c.requires.tables.scheduled, omega arith); bounded = record { least = omega arith; latest = omega arith; most = omega arith }; are_dates = (early_dates c.requires.dated).0 }

pub reach-planned-requires : goal.reach-planned-requires
reach-planned-requires c =
    record { table_len = (c.requires.tables.scheduled, omega arith); bounded = c.reach-early.ensures.bounded; are_dates = (early_dates c.requires.dated).1 }

pub returns : goal.returns
returns c = record {
  bounded = c.reach.ensures.bounded;
  by_index = all_reached c.requires.dated c.reach-early.ensures c.reach-planned.ensures c.reach-begun.ensures c.reach.ensures;
}
