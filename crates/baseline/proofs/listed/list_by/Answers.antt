-- `list_by` meets its contract: the lines, then the spans and the budgets by them.
use Prim.Native.Nat.{ℕ, ◌*◌, ◌≤◌}
use native.Mathlib.Omega.{arith}
use mathlib.Core.Path.{◌≡◌, sym, ◌∙◌}
use lib.ListN.{length, take, replicate, length-replicate}
use lib.Seq.{length-take-le}
use Rattle.format.specs.Verdict.{content}
use Rattle.activities.proofs.Scheduling.{schedule_length}
use Rattle.model.proofs.Tree.{parents_count}
use Rattle.tree.proofs.Figured.{own_costs_long}
use Rattle.baseline.proofs.Taking.{zeros_taken}
use Rattle.baseline.proofs.listed.list_by.Given.{Over}
use Rattle.baseline.proofs.listed.list_by.Goals as goal
use Rattle.baseline.proofs.listed.list_by.Goals.{Start}

-- a number of each activity
counted : (g : Over) (c : Start g) → length (content c.args.book.now).activities ≡ length c.args.budgets.now
counted g c = sym (parents_count (content c.args.book.now)) ∙ c.requires.lines.0.counted

scheduled : (g : Over) (c : Start g) → length c.args.schedule.now ≡ length c.args.budgets.now * 13
scheduled g c = schedule_length (content c.args.book.now) c.requires.schedule_value ∙ omega (arith, counted g c)

-- the part of the table has room
room : (n m : ℕ) → n * 5 ≤ m → length {A = ℕ} (take (n * 5) (replicate m 0)) ≡ n * 5
room n m h = length-take-le (n * 5) (replicate m 0) (omega (arith, length-replicate {A = ℕ} m 0))

pub whole_as_front-lines : goal.whole_as_front-lines
whole_as_front-lines g c = (c.requires.room.0, omega (arith, c.requires.room.1))

pub take_lines-requires : goal.take_lines-requires
take_lines-requires g c =
    let n = length c.args.budgets.now in
    record { lines = c.requires.lines.0; out_len = (room n g.row.N c.requires.room.0, zeros_taken (n * 5) g.row.N) }

pub fill_spans-requires : goal.fill_spans-requires
fill_spans-requires g c =
    let n = length c.args.budgets.now in
    (scheduled g (goal.at.fill_spans-requires g c).Start, c.take_lines.auto.out ∙ room n g.row.N c.requires.room.0, c.requires.listed_len)

pub fill_budgets-requires : goal.fill_budgets-requires
fill_budgets-requires g c =
    let n = length c.args.budgets.now in
    let at = (goal.at.fill_budgets-requires g c).Start in
    (scheduled g at, c.take_lines.auto.out ∙ room n g.row.N c.requires.room.0, omega (arith, own_costs_long (content c.args.book.now) c.requires.costs_value, counted g at), c.requires.lines.2)

pub returns : goal.returns
returns g c =
    let b = content c.args.book.now in
    let taken = c.take_lines.ensures in
    record {
      listed = c.fill_spans.ensures b c.requires.schedule_value taken;
      budgets = c.fill_budgets.ensures b c.requires.lines.1 c.requires.schedule_value taken c.requires.costs_value;
    }
