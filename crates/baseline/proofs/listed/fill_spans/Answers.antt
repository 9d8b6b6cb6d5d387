-- `fill_spans` meets its contract: one row a turn.
use Prim.Native.Nat.{◌+◌, ◌*◌}
use native.Mathlib.Omega.{arith}
use mathlib.Core.Path.{◌≡◌, refl, ap, sym, ◌∙◌}
use lib.ListN.{length, get_or, length-set}
use Rattle.flat.proofs.Spans.{rows_none, rows_more, rows_end}
use Rattle.activities.proofs.Scheduling.{schedule_length}
use Rattle.baseline.proofs.Listing.{three_set, spans_listed}
use Rattle.baseline.proofs.listed.fill_spans.Goals as goal

pub loop-i-init : goal.loop-i-init
loop-i-init c = (c.requires.2, rows_none 3 _ (λ i. refl) _ _ c.requires.2)

pub loop-i-preserved : goal.loop-i-preserved
loop-i-preserved c =
    let schedule = c.args.schedule.now in
    let i = c.loop-i.i in
    let last : i * 13 + 2 + 1 ≡ i * 13 + 3 = omega arith in (
      ap length c.put_row.ensures ∙ simp length-set c.loop-i.invariant.0,
      rows_more 3 _ (λ j. refl) _ c.loop-i.invariant.1 c.loop-i-test.true (omega arith)
          (c.put_row.ensures ∙ three_set c.loop-i.out (i * 3) (get_or schedule (i * 13 + 1) 0) c.lined_or.ensures (rw last at c.lined_or-in-loop-i.ensures)),
    )

pub shape_of-out : goal.shape_of-out
shape_of-out c = c.loop-i.invariant.0 ∙ sym c.requires.2

pub returns : goal.returns
returns c =
    λ book e t.
    rows_end 3 _ (λ i. refl) _ c.loop-i.invariant.1 c.loop-i-test.false
    ∙ spans_listed book e t c.args.n (omega (arith, schedule_length book e, c.requires.0))
