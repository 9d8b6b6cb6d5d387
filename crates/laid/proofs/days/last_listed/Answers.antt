-- `last_listed` meets its contract: none of the dates passed works.
use mathlib.Core.Path.{refl, sym, ap, ◌∙◌}
use mathlib.Core.List.{List}
use Prim.Native.Nat.{ℕ, ◌-◌}
use native.Mathlib.Omega.{arith}
use lib.ListN.{length, get_or}
use Rattle.model.specs.Days.{dates_between, or_alone}
use Rattle.laid.specs.Listed.{in_row}
use Rattle.laid.proofs.Dates.{skip_last, last_kept, none_before}
use Rattle.laid.proofs.days.last_listed.Goals as goal

pub loop-date-init : goal.loop-date-init
unfolding dates_between
loop-date-init c = (omega arith, refl)

pub is_working-requires : goal.is_working-requires
is_working-requires c = omega (arith, c.requires.covers.start, c.requires.covers.reach, c.loop-date.invariant.0)

pub returns-then-is_working : goal.returns-then-is_working
returns-then-is_working c =
    let s = c.args.span in
    let l = c.loop-date in
    sym (ap (λ (ds : List ℕ). get_or (or_alone s.first ds) (length (or_alone s.first ds) - 1) 0) l.invariant.1
    ∙ last_kept (in_row s.row s.base c.args.days.now) s.first s.first l.date (omega arith) (sym c.is_working.ensures ∙ c.if-is_working.true))

pub loop-date-preserved : goal.loop-date-preserved
loop-date-preserved c =
    let s = c.args.span in
    let l = c.loop-date in
    (omega (arith, l.invariant.0), l.invariant.1 ∙ skip_last (in_row s.row s.base c.args.days.now) s.first l.date (omega arith) (sym c.is_working.ensures ∙ c.if-is_working.false))

pub returns : goal.returns
returns c =
    let s = c.args.span in
    let l = c.loop-date in
    sym (ap (λ (ds : List ℕ). get_or (or_alone s.first ds) (length (or_alone s.first ds) - 1) 0) (l.invariant.1 ∙ none_before (in_row s.row s.base c.args.days.now) s.first l.date (omega arith)))
