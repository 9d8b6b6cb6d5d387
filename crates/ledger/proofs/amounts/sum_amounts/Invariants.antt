-- `sum_amounts` meets its contract: one amount a turn.
use Prim.Native.Nat.{ℕ, ◌+◌, ◌-◌}
use mathlib.Core.Path.{◌≡◌, refl, sym, ap, ◌∙◌}
use mathlib.Core.List.{List}
use lib.IntN.{ℤ, pos}
use lib.ListN.{drop}
use mir.Syntax.{w64}
use mir.Val.{to_z}
use Rattle.integer.specs.Linear.{back}
use Rattle.integer.specs.Folds.{saturated}
use Rattle.format.specs.Codec.{alike, stay}
use Rattle.format.specs.Format.{amount}
use Rattle.sections.specs.Sections.{elements}
use Rattle.tree.specs.Figures.{saturating_add}
use Rattle.ledger.proofs.Reading.{Reading, reading_none, reading_more, reading_next, reading_end}
use borrow.Author.Rules.{rules}
use Rattle.ledger.proofs.amounts.sum_amounts.Given as goal
use Rattle.format.specs.Position.{Pos}

abbrev pub listed : List ℕ → ℕ → Pos → List ℤ
listed book count first = ((alike count amount).read book first).0

-- the sum so far, with what is left, is the whole
abbrev pub Along : List ℕ → ℕ → Pos → ℤ → ℕ → Pos → Type 0
Along book count first sum i next =
    Reading (λ (x : Unit {0}). amount) stay book (listed book count first) count i tt next
    × (saturated w64 sum (drop i (listed book count first)) ≡ saturated w64 (pos 0) (listed book count first))

abbrev pub invariant-loop : goal.invariant-loop
invariant-loop l = Along l.book l.end l.initial.next l.sum l.counter l.next
