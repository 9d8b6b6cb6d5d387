-- `fill_planned` meets its contract: one date a turn.
use borrow.Author.Rules.{rules}
use native.Mathlib.Omega.{arith}
use Prim.Native.Nat.{ℕ, ◌-◌}
use mathlib.Core.Path.{◌≡◌, sym, ◌∙◌}
use lib.ListN.{length, length-set}
use mir.Syntax.{w64}
use Rattle.integer.specs.Linear.{back}
use Rattle.format.specs.Book.{Book}
use Rattle.model.specs.Tree.{parents}
use Rattle.model.specs.Earned.{project_earned}
use Rattle.flat.proofs.Mapped.{Mapped, mapped_none, mapped_more, mapped_end}
use Rattle.tree.specs.Figures.{MarksLeaves}
use Rattle.planned.specs.Reached.{AreDays}
use Rattle.planned.proofs.Settling.{leaves_all}
use Rattle.periods.proofs.listed.fill_planned.Goals as goal

pub loop-i-init : goal.loop-i-init
loop-i-init c = let long = c.requires.out_len in (long, λ b d m. mapped_none _ _ _ long)

pub leaves_planned-requires : goal.leaves_planned-requires
leaves_planned-requires c = c.requires.are_tabled

pub bounds-out-i : goal.bounds-out-i
bounds-out-i c = omega (arith, c.loop-i.invariant.0, c.loop-i-test.true)

pub loop-i-preserved : goal.loop-i-preserved
loop-i-preserved c =
    let value = c.leaves_planned in
    let loop = c.loop-i in (
      length-set loop.out loop.i _ ∙ loop.invariant.0,
      λ b d m. mapped_more (loop.invariant.1 b d m) 0 c.loop-i-test.true (back w64 value.result value.type_inv ∙ value.ensures ∙ leaves_all d _ c.args.marks.now m),
    )

pub shape_of-out : goal.shape_of-out
shape_of-out c = c.loop-i.invariant.0 ∙ sym c.requires.out_len

pub returns : goal.returns
returns c = λ b d m. mapped_end (c.loop-i.invariant.1 b d m) c.loop-i-test.false
