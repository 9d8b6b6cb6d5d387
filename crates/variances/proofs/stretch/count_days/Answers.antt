-- `count_days` meets its contract: with the tables that have room.
use native.Mathlib.Omega.{arith}
use Rattle.variances.proofs.stretch.count_days.Goals as goal

pub overflow_add-all : goal.overflow_add-all
overflow_add-all c = omega (arith, c.reach_all-all.ensures.bounded.latest)

pub overflow_add-all-2 : goal.overflow_add-all-2
overflow_add-all-2 c = omega (arith, c.reach_all-all.ensures.bounded.latest)

pub count_sized-requires : goal.count_sized-requires
count_sized-requires c =
    let s = c.requires in
    let all = c.reach_all-all.ensures in
    record { every = s.every; tables = s.tables; by_index = s.by_index; by_index_2 = all.by_index; bounded = all.bounded; room = (omega (arith, c.if-all.true), omega (arith, c.if-all.true)); most = (omega arith, omega arith) }

pub count_sized-requires-then-all-2 : goal.count_sized-requires-then-all-2
count_sized-requires-then-all-2 c =
    let s = c.requires in
    let all = c.reach_all-all.ensures in
    record { every = s.every; tables = s.tables; by_index = s.by_index; by_index_2 = all.by_index; bounded = all.bounded; room = (omega (arith, c.if-all-2.true), omega (arith, c.if-all-2.true)); most = (omega arith, omega arith) }

pub count_sized-requires-2 : goal.count_sized-requires-2
count_sized-requires-2 c =
    let s = c.requires in
    let all = c.reach_all-all.ensures in
    record { every = s.every; tables = s.tables; by_index = s.by_index; by_index_2 = all.by_index; bounded = all.bounded; room = (omega (arith, all.bounded.least, all.bounded.most), omega (arith, all.bounded.least, all.bounded.most)); most = (omega arith, omega arith) }
