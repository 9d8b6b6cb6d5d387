-- `first_point` meets its contract: no date that it has passed has a point.
use mathlib.Core.Path.{◌≡◌, sym, ◌∙◌}
use mathlib.Core.Bool.{false}
use native.Mathlib.Omega.{arith}
use Rattle.bydate.specs.Pointed.{is_marked}
use Rattle.twelve.proofs.Searching.{passed_up}
use Rattle.twelve.proofs.listed.first_point.Goals as goal

pub is_marked-requires : goal.is_marked-requires
is_marked-requires c = let r = c.requires.reaches in omega (arith, r.start, r.reach, c.loop-date.invariant.0)

pub returns-then-is_marked : goal.returns-then-is_marked
returns-then-is_marked c = let w = c.loop-date.invariant in (record { from = w.0; none = w.1; here = λ h. sym c.is_marked.ensures ∙ c.if-is_marked.true }, omega arith)

pub loop-date-preserved : goal.loop-date-preserved
loop-date-preserved c =
    let a = c.args in
    (omega (arith, c.loop-date.invariant.0), passed_up (λ d. is_marked a.reach.base a.table.now d ≡ false) c.loop-date.date (sym c.is_marked.ensures ∙ c.if-is_marked.false) a.reach.from c.loop-date.invariant.1)

pub returns : goal.returns
returns c = λ d h l. c.loop-date.invariant.1 d h (omega (arith, l))

pub loop-date-init : goal.loop-date-init
loop-date-init c = (omega arith, λ d h l. absurd (omega arith))
