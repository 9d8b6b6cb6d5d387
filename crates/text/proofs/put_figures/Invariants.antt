-- `put_figures` meets its contract. In the loop: the text so far with the figures that are left is all that is to stand there.
-- Assumes nothing.
use Prim.Native.Nat.{◌+◌, ◌*◌, ◌-◌, ◌≤◌}
use native.Mathlib.Omega.{arith}
use mathlib.Core.Path.{◌≡◌, refl, sym, ◌∙◌}
use mathlib.Core.List.{◌++◌}
use lib.ListN.{length, take, drop}
use borrow.Author.Rules.{rules}
use Rattle.text.specs.Text.{figures}
use Rattle.text.proofs.Spelling.{figures_next, figures_end}
use Rattle.text.proofs.put_figures.Given as goal

abbrev pub invariant-loop-number : goal.invariant-loop-number
invariant-loop-number l =
    (length l.out ≡ length l.initial.out) × (l.number-index ≤ length l.numbers) × (l.end ≤ l.at + 22 * l.number-index)
    × (take l.end l.out ++ figures (drop l.number-index l.numbers) ≡ take l.at l.initial.out ++ figures l.numbers)
