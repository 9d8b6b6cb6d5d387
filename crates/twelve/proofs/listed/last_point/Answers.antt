-- `last_point` meets its contract: no date that it has passed has a point, and the first one has.
use Prim.Native.Nat.{◌-◌}
use mathlib.Core.Path.{◌≡◌, sym, ◌∙◌}
use mathlib.Core.Bool.{false}
use native.Mathlib.Omega.{arith}
use Rattle.bydate.specs.Pointed.{is_marked}
use Rattle.twelve.proofs.Searching.{passed_down}
use Rattle.twelve.proofs.listed.last_point.Goals as goal

pub loop-date-init : goal.loop-date-init
loop-date-init c = (omega (arith, c.requires.point.to), omega arith, λ d h l. absurd (omega arith))

pub is_marked-requires : goal.is_marked-requires
is_marked-requires c =
    let w = c.requires in
    let r = w.has_reach.reaches in
    omega (arith, r.start, r.reach, w.point.from, c.loop-date.invariant.0, c.loop-date.invariant.1)

pub returns-then-is_marked : goal.returns-then-is_marked
returns-then-is_marked c =
    let w = c.loop-date.invariant in
    record {
      point = record { from = omega (arith, c.requires.point.from, w.0); to = omega (arith, w.1); here = sym c.is_marked.ensures ∙ c.if-is_marked.true };
      none = λ d h l. w.2 d (omega (arith, h)) l;
    }

pub loop-date-preserved : goal.loop-date-preserved
loop-date-preserved c =
    let a = c.args in
    let w = c.loop-date.invariant in (
      omega arith,
      omega (arith, w.1),
      passed_down (λ d. is_marked a.reach.base a.table.now d ≡ false) (c.loop-date.date - 1) (sym c.is_marked.ensures ∙ c.if-is_marked.false) a.reach.to (λ d h l. w.2 d (omega (arith, h)) l),
    )

pub returns : goal.returns
returns c =
    let w = c.loop-date.invariant in
    record { point = c.requires.point; none = λ d h l. w.2 d (omega (arith, h)) l }
