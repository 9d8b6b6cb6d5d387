-- `sum_amounts` meets its contract: one amount a turn.
use Prim.Native.Nat.{ℕ, ◌+◌, ◌-◌}
use mathlib.Core.Path.{◌≡◌, refl, sym, ap, ◌∙◌}
use mathlib.Core.List.{List}
use lib.IntN.{ℤ, pos}
use lib.ListN.{drop}
use mir.Syntax.{w64}
use mir.Val.{to_z}
use Rattle.integer.specs.Linear.{back}
use Rattle.integer.specs.Folds.{saturated}
use Rattle.format.specs.Codec.{alike, stay}
use Rattle.format.specs.Format.{amount}
use Rattle.sections.specs.Sections.{elements}
use Rattle.tree.specs.Figures.{saturating_add}
use Rattle.ledger.proofs.Reading.{Reading, reading_none, reading_more, reading_next, reading_end}
use borrow.Author.Rules.{rules}
use Rattle.ledger.proofs.amounts.sum_amounts.Invariants.{listed}
use Rattle.ledger.proofs.amounts.sum_amounts.Goals as goal
use Rattle.format.specs.Position.{Pos}

pub loop-init : goal.loop-init
unfolding elements
loop-init c =
    (reading_none (λ (x : Unit {0}). amount) stay _ _ tt c.args.list refl, refl)

pub loop-preserved : goal.loop-preserved
unfolding saturated
loop-preserved c =
    let l = c.loop in
    let more = c.loop-test.true in
    let e = reading_next l.invariant.0 more c.amount-a.ensures in (
      reading_more l.invariant.0 more c.amount-a.ensures,
      ap (λ (z : ℤ). saturated w64 z (drop (l.counter + 1) (listed c.args.book.now c.args.list.count c.args.list.first)))
          (back w64 c.saturating_add-sum.result c.saturating_add-sum.type_inv
          ∙ c.saturating_add-sum.ensures
          ∙ ap (saturating_add (to_z w64 l.sum-bits)) (back w64 c.amount-a.result.value c.struct_told-1.given.0.1))
          ∙ sym (ap (saturated w64 (to_z w64 l.sum-bits)) e)
          ∙ l.invariant.1,
    )

pub returns : goal.returns
unfolding elements saturated
returns c =
    let l = c.loop in
    sym (ap (saturated w64 (to_z w64 l.sum-bits)) (reading_end l.invariant.0 c.loop-test.false)) ∙ l.invariant.1
