-- How many rows each call has, and how many numbers.
use Rattle.std.specs.Prelude.{Ok}
use Prim.Native.Nat.{ℕ, ◌≤◌}
use mathlib.Core.Path.{◌≡◌, refl, sym}
use mathlib.Core.List.{List, [], ◌∷◌, flat_map}
use native.Mathlib.Omega.{arith}
use lib.ListN.{length, set}
use Rattle.format.specs.Book.{Book}
use Rattle.model.specs.Budgets.{budget_lines, funded, not_covered}
use Rattle.money.specs.Words.{bits}
use Rattle.rows.specs.Rows.{numbers}
use Rattle.answers.specs.Rows.{budget_row, budget_rows, funding_row, funding_rows}
use Rattle.answers.specs.Calls.{Puts}
use Rattle.answers.proofs.Sized.{Sized, sized, one_sized, in_front}
use Rattle.ledger.proofs.Lined.{row_long}

pub budget_sized : (book : Book) (n : ℕ) → n ≡ length (budget_lines book) → Sized (budget_rows book) n 10
unfolding budget_rows
budget_sized book n e = sized budget_row 10 row_long (budget_lines book) n (sym e)

pub funding_sized : (book : Book) → Sized (funding_rows book) 1 2
unfolding funding_rows funding_row
funding_sized book = one_sized (funding_row book) 2 refl

-- the funding's two numbers, set in front
pub funding_put :
    (book : Book) (out : List ℕ) (x y : ℕ) → x ≡ bits (funded book) → y ≡ bits (not_covered book) → 2 ≤ length out → Puts (funding_rows book) out (Ok 1) (set (set out 0 x) 1 y)
unfolding funding_rows funding_row numbers flat_map
funding_put book [] x y e f h = absurd (omega arith)
funding_put book (u ∷ []) x y e f h = absurd (omega arith)
funding_put book (u ∷ v ∷ out) x y e f h = rw (e, f) (in_front (funding_rows book) (u ∷ v ∷ out) (funding_sized book) h _ refl)
