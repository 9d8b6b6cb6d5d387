-- What is charged to the budgets falls on the activities' planned days, and so within the stretch of their spans.
use Rattle.std.specs.Prelude.{None, Option, Some}
use Prim.Native.Nat.{ℕ, zero, suc, ◌-◌, ◌<◌}
use mathlib.Core.Path.{◌≡◌, refl, sym, ap, ◌∙◌}
use mathlib.Core.Bool.{Bool, true, false, true≢false, cond, ◌||◌}
use mathlib.Core.List.{List, [], ◌∷◌, map, Memᴰ}
use native.Mathlib.Omega.{arith}
use lib.Dec.{eqb}
use lib.IntN.{ℤ}
use lib.ListN.{length, take, drop, length-map}
use Rattle.format.specs.declared.Accrual.{Accrual}
use Rattle.format.specs.declared.Accrual.TheVariants.{Start, End, Uniform}
use Rattle.format.specs.Book.{Activity, Book}
use Rattle.lists.specs.Lists.{any}
use Rattle.money.specs.Scale.{priced_at}
use Rattle.money.specs.Shares.{spread}
use Rattle.model.specs.declared.Way.TheVariants.{Planned}
use Rattle.model.specs.Days.{days_of}
use Rattle.model.specs.Amounts.{Dated, on, dated, spread_over, is_dated, is_charged}
use Rattle.model.specs.Tree.{parents, indices}
use Rattle.model.specs.Costs.{priced, accrued, priced_by, by_day, budget_by_day}
use Rattle.lists.proofs.Spans.{span_in_lem}
use Rattle.lists.proofs.Lists.{take_in}
use Rattle.bydate.proofs.Falling.{charged_some, charged_dated}
use Rattle.spending.specs.Charged.{Charge, work, cost, charges, charged_to, charged_over, charge_of}
use Rattle.spending.proofs.Charging.{by_day_lem}

drop_in : {A : Type 0} (x : A) (n : ℕ) (xs : List A) → Memᴰ x (drop n xs) → Memᴰ x xs
drop_in x zero xs m = m
drop_in x (suc n) [] m = m
drop_in x (suc n) (y ∷ ys) m = Memᴰ.tail (drop_in x n ys m)

-- a date on which something falls, and what follows from that
module _ (d : ℕ) {P : Type 0} where
  charged_priced : (z : ℤ) (days : List ℕ) (price : ℕ → ℤ) → (Memᴰ d days → P) → is_charged (priced z days price) d ≡ true → P
  unfolding priced spread_over is_charged any
  charged_priced z days price h e = charged_dated d days (spread z (length days)) h (sym (same (dated days (spread z (length days)))) ∙ e)
    where
      same : (xs : List Dated) → any (is_dated d) (map (λ (x : Dated). on x.day (priced_at x.amount (price x.day))) xs) ≡ any (is_dated d) xs
      same [] = refl
      same (x ∷ xs) = ap (λ (b : Bool). is_dated d x || b) (same xs)

  charged_accrued : (z : ℤ) (days : List ℕ) (a : Accrual) → (Memᴰ d days → P) → is_charged (accrued z days a) d ≡ true → P
  unfolding accrued spread_over
  charged_accrued z days Start h e = charged_dated d (take 1 days) (z ∷ []) (λ m. h (take_in d 1 days m)) e
  charged_accrued z days End h e = charged_dated d (drop (length days - 1) days) (z ∷ []) (λ m. h (drop_in d (length days - 1) days m)) e
  charged_accrued z days Uniform h e = charged_dated d days (spread z (length days)) h e

  charged_over_lem : (book : Book) (days : List ℕ) (c : Charge) → (Memᴰ d days → P) → is_charged (charged_over book days c) d ≡ true → P
  unfolding is_charged any
  charged_over_lem book days (work x) h e = go x.resource e
    where
      go : (o : Option ℕ) → is_charged (priced_by book o x.planned days) d ≡ true → P
      go None e = absurd (true≢false (sym e))
      go (Some r) e = charged_priced x.planned days _ h e
  charged_over_lem book days (cost y) h e = charged_accrued y.planned days y.accrual h e

  charged_of : (book : Book) (i : ℕ) (days : List ℕ) (c : Charge) → (Memᴰ d days → P) → is_charged (charge_of book i days c) d ≡ true → P
  unfolding charge_of is_charged any
  charged_of book i days c h e = go (eqb (charged_to c) i) e
    where
      go : (b : Bool) → is_charged (cond b (charged_over book days c) []) d ≡ true → P
      go true e = charged_over_lem book days c h e
      go false e = absurd (true≢false (sym e))

  -- it is a planned day of an activity
  pub budget_day : (book : Book) → ((i : ℕ) → i < length book.activities → Memᴰ d (days_of book Planned i) → P) → is_charged (budget_by_day book) d ≡ true → P
  unfolding budget_by_day parents
  budget_day book h e =
      charged_some d (by_day book Planned) (indices (parents book))
      (λ i m q. charged_some d (charge_of book i (days_of book Planned i)) (charges book)
      (λ c k. charged_of book i (days_of book Planned i) c (h i (omega (arith, span_in_lem 0 (length (parents book)) i m, length-map book.activities (λ (a : Activity). a.parent)))))
      (sym (ap (λ (xs : List Dated). is_charged xs d) (by_day_lem book i)) ∙ q))
      e
