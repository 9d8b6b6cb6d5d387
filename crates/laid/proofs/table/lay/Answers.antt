-- `lay` meets its contract: a date that the table does not have changes nothing.
use Prim.Native.Nat.{ℕ, ◌+◌, ◌-◌, ◌*◌}
use mathlib.Core.Path.{sym, ap, ap₂, ◌∙◌, subst}
use mathlib.Core.List.{[], ◌∷◌}
use lib.IntN.{ℤ, ◌+ℤ◌}
use mir.Syntax.{w64}
use mir.Facts.{to_z-of_z}
use Rattle.integer.specs.Clamp.{clamp}
use Rattle.integer.specs.Linear.{back}
use Rattle.money.specs.Words.{bits}
use Rattle.model.specs.Amounts.{on}
use Rattle.laid.specs.Laid.{Laid}
use native.Mathlib.Omega.{arith}
use lib.ListN.{set, length-set}
use Rattle.laid.proofs.Laying.{laid_past, laid_here}
use Rattle.laid.proofs.table.lay.Goals as goal

pub returns-then-date-base : goal.returns-then-date-base
returns-then-date-base c = laid_past _ _ _ _ (λ b r. omega (arith, c.if-date-base.true))

pub bounds-table-at-then-i-table-2 : goal.bounds-table-at-then-i-table-2
bounds-table-at-then-i-table-2 c = omega (arith, length-set c.args.table.now ((c.args.date - c.args.base) * 2) 1)

pub returns-then-i-table : goal.returns-then-i-table
returns-then-i-table c =
    let at = (c.args.date - c.args.base) * 2 in
    let old = c.from_bits-sum in
    let new = c.saturating_add in
    let total =
    c.to_bits.ensures
    ∙ ap bits
    (back w64 new.result new.type_inv ∙ new.ensures
    ∙ ap₂ (λ (a b : ℤ). clamp w64 (a +ℤ b)) (back w64 old.result old.type_inv ∙ old.ensures) (to_z-of_z c.ranges.amount)) in
    subst (λ (v : ℕ). Laid c.args.base (on c.args.date c.args.amount ∷ []) c.args.table.now (set (set c.args.table.now at 1) (at + 1) v)) (sym total)
    (laid_here c.args.base c.args.date c.args.amount c.args.table.now c.if-date-base.false c.if-i-table.true)

pub returns-else-i-table : goal.returns-else-i-table
returns-else-i-table c = laid_past _ _ _ _ (λ b r. omega (arith, c.if-i-table.false))
