-- The table of accounts: whose each row is, and what makes a table this one.
use Rattle.std.specs.Prelude.{None, Some}
use Prim.Native.Nat.{ℕ, ◌≤◌, ◌<◌, min}
use native.Mathlib.Omega.{arith}
use mathlib.Core.Path.{◌≡◌, refl, sym, ap, ◌∙◌}
use mathlib.Core.Bool.{Bool, true, false, true≢false, cond}
use mathlib.Core.List.{List}
use lib.Dec.{eqb, ltb}
use lib.IntN.{ℤ, pos}
use lib.ListN.{length, get_or}
use borrow.Author.Tests.{eqb-true, eq-eqb, ne_eqb, ltb-true, ltb-false, lt-ltb}
use Rattle.format.specs.Inverse.{Given}
use Rattle.format.specs.Book.{Book}
use Rattle.format.specs.Format.{names}
use Rattle.sections.specs.Sections.{mark_of}
use Rattle.sections.proofs.Marks.{Small}
use Rattle.model.specs.Budgets.{Account}
use Rattle.flat.proofs.Spans.{rows_length, rows_at, rows_cells}
use Rattle.ledger.specs.Accounts.{account_at, account_row, accounts_with, account_figure}

-- ---- whose a row is

-- what an accepted book names has a place of its own
pub small_given : (n : ℕ) (o : Account) → n ≤ 500 → Given (λ (i : ℕ). i < n) o → Small o
small_given n None l h = tt
small_given n (Some i) l h = omega arith

pub account_is : (a o : Account) → names a o ≡ true → a ≡ o
unfolding names
account_is None None e = refl
account_is None (Some j) e = absurd (true≢false (sym e))
account_is (Some i) None e = absurd (true≢false (sym e))
account_is (Some i) (Some j) e = ap Some (eqb-true i j e)

pub same_place : (o : Account) → Small o → (k : ℕ) → k < 501 → eqb (mark_of o) k ≡ names o (account_at k)
unfolding mark_of names
same_place o h k l = go o h (ltb k 500) refl
  where
    go : (o : Account) → Small o → (b : Bool) → ltb k 500 ≡ b → eqb (mark_of o) k ≡ names o (cond b (Some k) None)
    go None h true e = ne_eqb 500 k (λ q. omega (arith, ltb-true k 500 e))
    go None h false e = eq-eqb 500 k (omega (arith, ltb-false k 500 e))
    go (Some v) h true e = let z : min v 500 ≡ v = omega arith in ap (λ (m : ℕ). eqb m k) z
    go (Some v) h false e = ne_eqb (min v 500) k (λ q. omega (arith, ltb-false k 500 e))

pub activity_at_lem : (i : ℕ) → i < 500 → account_at i ≡ Some i
activity_at_lem i h = ap (λ (b : Bool). cond b (Some i) None) (lt-ltb i 500 h)

pub account_back : (o : Account) → Small o → account_at (mark_of o) ≡ o
unfolding mark_of
account_back None h = refl
account_back (Some v) h = let z : min v 500 ≡ v = omega arith in ap account_at z ∙ activity_at_lem v h

-- ---- the table

module _ (distributed : Account → ℤ) (book : Book) where
  abbrev row : ℕ → List ℤ
  row k = account_row distributed book (account_at k)

  wide : (k : ℕ) → length (row k) ≡ 6
  unfolding account_row
  wide k = refl

  pub accounts_length : length (accounts_with distributed book) ≡ 3006
  unfolding accounts_with
  accounts_length = rows_length 6 row wide 501

  -- figure j of account k
  pub account_figure_lem : (k j : ℕ) → k < 501 → j < 6 → account_figure (accounts_with distributed book) k j ≡ get_or (account_row distributed book (account_at k)) j (pos 0)
  unfolding accounts_with
  account_figure_lem k j h l = rows_at 6 row wide 501 k j (pos 0) h l

  -- a table with these figures is it
  pub accounts_are :
      (table : List ℤ) → length table ≡ 3006 → ((k j : ℕ) → k < 501 → j < 6 → account_figure table k j ≡ get_or (account_row distributed book (account_at k)) j (pos 0)) →
      table ≡ accounts_with distributed book
  unfolding accounts_with
  accounts_are table e h = rows_cells 6 row wide 501 (pos 0) table e h
