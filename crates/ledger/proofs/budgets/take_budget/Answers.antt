-- `take_budget` meets its contract: two figures.
use Prim.Native.Nat.{ℕ, ◌+◌, ◌*◌}
use mathlib.Core.Path.{◌≡◌, ◌∙◌}
use mathlib.Core.List.{List}
use lib.IntN.{ℤ}
use lib.ListN.{set}
use mir.Syntax.{w64}
use Rattle.integer.specs.Linear.{back}
use Rattle.sections.specs.Sections.{budget_of}
use borrow.Author.Rules.{rules}
use Rattle.ledger.proofs.budgets.take_budget.Goals as goal

-- the figures that are set, by what is equal
taken : (table : List ℤ) {k m : ℕ} {x y a b : ℤ} → k ≡ m → x ≡ a → y ≡ b → set (set table (k * 6) x) (k * 6 + 1) y ≡ set (set table (m * 6) a) (m * 6 + 1) b
taken table e g h = rw (e, g, h)

pub returns : goal.returns
unfolding budget_of
returns c =
    taken c.args.accounts.now c.account_number-at.ensures.0 (back w64 c.args.budget.original c.struct_told-1.given.1.0.1)
    (back w64 c.sum_amounts.result c.sum_amounts.type_inv ∙ c.sum_amounts.ensures)
