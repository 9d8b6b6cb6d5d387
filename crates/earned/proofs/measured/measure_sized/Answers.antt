-- `measure_sized` meets its contract: the table of units has room for the activities.
use native.Mathlib.Omega.{arith}
use Prim.Native.Nat.{◌*◌}
use mathlib.Core.Path.{◌≡◌, sym, ◌∙◌}
use lib.ListN.{length}
use lib.IntN.{pos}
use Rattle.bydate.proofs.Arrays.{front_long}
use Rattle.format.specs.Verdict.{content}
use Rattle.book.proofs.Plan.{activities_count}
use Rattle.baseline.proofs.Listing.{budgets_long_lem}
use Rattle.earned.proofs.Adding.{nothing_taken}
use Rattle.earned.proofs.measured.measure_sized.Goals as goal

pub measure_by-requires : goal.measure_by-requires
measure_by-requires g c =
    let r = c.requires in
    let n = length c.args.budgets.now in
    let counted : n ≡ c.args.opened.plan.activities.count = budgets_long_lem (content c.args.book.now) r.schedule_value.2 ∙ activities_count r.opened.plan in
    record { opened = r.opened; schedule_value = r.schedule_value; units_len = (sym (front_long g.row.UNITS (pos 0) _ r.room) ∙ omega arith, nothing_taken (n * 2) g.row.UNITS, r.out_len) }

pub whole_as_front-measure_by : goal.whole_as_front-measure_by
whole_as_front-measure_by g c = (omega (arith, c.requires.room), omega (arith, c.requires.most))
