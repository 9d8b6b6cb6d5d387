-- A table that is filled in two parts, the one behind the other.
use Prim.Native.Nat.{ℕ, ◌*◌, ◌-◌}
use mathlib.Core.Path.{◌≡◌, ap, ap₂, ◌∙◌}
use mathlib.Core.List.{List, ◌++◌, append-nil}
use native.Mathlib.Omega.{arith}
use lib.IntN.{ℤ}
use lib.ListN.{length, take, drop, length-append, length-take, drop_of_length-le}
use lib.Seq.{take_at, drop_at}
use borrow.Rule.Slice.PartMut.{put_mid}
use Rattle.format.specs.Book.{Book}
use Rattle.charges.specs.Assigned.{AreAssigned}
use Rattle.charges.specs.Expensed.{AreExpensed}
use Rattle.charges.proofs.Assigning.{links_length, units_length}
use Rattle.spending.specs.Charged.{AreTables}

module _ {A : Type 0} (a : ℕ) (front rest : List A) (e : length front ≡ a) where
  behind : drop a (front ++ rest) ≡ rest
  behind = drop_at front rest a e

  -- the second part is as long as the rest
  pub second_long : {n : ℕ} → length rest ≡ n → length (take (length (front ++ rest) - a) (drop a (front ++ rest))) ≡ n
  second_long h = length-take (length (front ++ rest) - a) (drop a (front ++ rest)) ∙ omega (arith, ap length behind, length-append front rest)

  module _ (part : List A) where
    both : put_mid a (length (front ++ rest) - a) (front ++ rest) part ≡ front ++ part
    both =
        ap₂ (λ (l r : List A). l ++ (part ++ r)) (take_at front rest a e)
        (ap (drop (length (front ++ rest) - a)) behind ∙ drop_of_length-le rest {i = length (front ++ rest) - a} (omega (arith, length-append front rest)))
        ∙ ap (λ (l : List A). front ++ l) (append-nil part)

    first_back : take a (put_mid a (length (front ++ rest) - a) (front ++ rest) part) ≡ front
    first_back = ap (take a) both ∙ take_at front part a e

    second_back : drop a (put_mid a (length (front ++ rest) - a) (front ++ rest) part) ≡ part
    second_back = ap (drop a) both ∙ drop_at front part a e

-- the assignments, and then the expenses
pub tables_are :
    {b : Book} {m : ℕ} → m ≡ length b.assignments → {links accruals : List ℕ} {units amounts : List ℤ} (restLinks : List ℕ) (restUnits : List ℤ) →
    AreAssigned b links units → AreExpensed b accruals amounts →
    AreTables b m (put_mid (m * 2) (length (links ++ restLinks) - m * 2) (links ++ restLinks) accruals) (put_mid (m * 3) (length (units ++ restUnits) - m * 3) (units ++ restUnits) amounts)
tables_are {b} {m} e {links} {accruals} {units} {amounts} restLinks restUnits w x =
    let l : length links ≡ m * 2 = omega (arith, links_length w) in
    let u : length units ≡ m * 3 = omega (arith, units_length w) in
    record {
      count = e;
      assigned = rw (first_back (m * 2) links restLinks l accruals, first_back (m * 3) units restUnits u amounts) w;
      expensed = rw (second_back (m * 2) links restLinks l accruals, second_back (m * 3) units restUnits u amounts) x;
    }
