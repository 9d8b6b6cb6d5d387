-- `fill_finishes` meets its contract: one period a turn.
use Prim.Native.Nat.{ℕ}
use Rattle.format.specs.Field.{D}
use Rattle.format.specs.Codec.{field}
use Rattle.sections.proofs.Filled.{Filled}
use Rattle.periods.proofs.finishes.fill_finishes.Given as goal

abbrev pub invariant-loop-i : goal.invariant-loop-i
invariant-loop-i l = Filled (field D) (λ (d : ℕ). d) l.book l.count l.initial.next l.i l.next l.out
