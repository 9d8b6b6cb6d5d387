-- What the budgets and the log make of an empty table: the figures that are booked.
use Rattle.std.specs.Prelude.{None}
use Prim.Native.Nat.{ℕ, zero, suc, ◌+◌, ◌*◌, ◌≤◌, ◌<◌}
use native.Mathlib.Omega.{arith}
use mathlib.Core.Path.{◌≡◌, refl, sym, ap, ◌∙◌}
use mathlib.Core.Logic.{◌⊎◌, inl, inr}
use mathlib.Core.Bool.{Bool, true, false, ◌&&◌, cond}
use mathlib.Core.List.{List, [], ◌∷◌, map, foldl, Memᴰ}
use lib.Dec.{eqb}
use lib.IntN.{ℤ, pos}
use lib.ListN.{length, get_or, set, replicate, length-map, length-set, length-replicate, get_or-replicate}
use mir.Syntax.{w64}
use borrow.Author.Tests.{eqb-true, eqb-false, eq-eqb, ne_eqb}
use Rattle.integer.specs.Folds.{saturated}
use Rattle.format.specs.declared.ChangeStatus.{ChangeStatus}
use Rattle.format.specs.declared.ChangeStatus.TheVariants.{Pending, Approved, NotApproved}
use Rattle.format.specs.Enumeration.{change_status_number}
use Rattle.format.specs.InRange.{Every, NoTwoAlike, BudgetInRange, BudgetChangeInRange}
use Rattle.format.specs.Book.{Budget, BudgetChange, Book}
use Rattle.format.specs.Format.{names}
use Rattle.format.proofs.Every.{every_in}
use Rattle.sections.proofs.Marks.{Small}
use Rattle.lists.specs.Lists.{cons_if, keep}
use Rattle.model.specs.Budgets.{Account, no_budget, budget_for, is_change, changes}
use Rattle.lists.proofs.Lists.{keep_none, at_map}
use Rattle.ledger.specs.Accounts.{account_at, account_row, booked, account_figure, budget_place, change_place, budget_taken, change_taken}
use Rattle.ledger.proofs.Numbered.{small_given, account_is, same_place, accounts_are}
use Rattle.ledger.proofs.Changed.{set_figure, folded_length, folded_at, added_length, added_at}

-- ---- the budgets: an account has one at most

abbrev name_of : Budget → Account
name_of b = b.activity

abbrev held_by : Account → Budget → Bool
held_by o b = names b.activity o

others : (b : Budget) (bs : List Budget) → NoTwoAlike (map name_of (b ∷ bs)) → Every (λ (x : Budget). name_of b ≡ name_of x → ⊥) bs
others b bs h k d l e = h 0 (suc k) (omega arith) (omega (arith, length-map bs name_of)) (e ∙ sym (at_map name_of bs k d None l))

alone : (o : Account) (bs : List Budget) → NoTwoAlike (map name_of bs) → length (keep (held_by o) bs) ≤ 1
unfolding keep
alone o [] h = omega arith
alone o (b ∷ bs) h = go (held_by o b) refl (alone o bs (λ j k l m. h (suc j) (suc k) (omega arith) (omega arith)))
  where
    other : held_by o b ≡ true → (x : Budget) → Memᴰ x bs → (t : Bool) → held_by o x ≡ t → held_by o x ≡ false
    other e x m false q = q
    other e x m true q = absurd (every_in (λ (x : Budget). name_of b ≡ name_of x → ⊥) bs (others b bs h) x m (account_is (name_of b) o e ∙ sym (account_is (name_of x) o q)))

    go : (t : Bool) → held_by o b ≡ t → length (keep (held_by o) bs) ≤ 1 → length (cons_if t b (keep (held_by o) bs)) ≤ 1
    go false e ih = ih
    go true e ih = omega (arith, ap length (keep_none (held_by o) bs (λ x m. other e x m (held_by o x) refl)))

-- what a budget makes of figure j of its account
abbrev budget_figure : ℕ → ℤ → Budget → ℤ
budget_figure zero z b = b.original
budget_figure (suc zero) z b = saturated w64 (pos 0) b.plan
budget_figure (suc (suc j)) z b = z

unchanged : (j : ℕ) → 2 ≤ j → (z : ℤ) (bs : List Budget) → foldl (budget_figure j) z bs ≡ z
unchanged zero h z bs = absurd (omega arith)
unchanged (suc zero) h z bs = absurd (omega arith)
unchanged (suc (suc j)) h z [] = refl
unchanged (suc (suc j)) h z (b ∷ bs) = unchanged (suc (suc j)) h z bs

only : (j : ℕ) (d : Budget) (ys : List Budget) → length ys ≤ 1 → j < 2 → budget_figure j (pos 0) d ≡ pos 0 → foldl (budget_figure j) (pos 0) ys ≡ budget_figure j (pos 0) (get_or ys 0 d)
only j d [] h l e = sym e
only zero d (y ∷ []) h l e = refl
only (suc zero) d (y ∷ []) h l e = refl
only (suc (suc j)) d (y ∷ []) h l e = absurd (omega arith)
only j d (y ∷ x ∷ ys) h l e = absurd (omega arith)

taken_length : (t : List ℤ) (b : Budget) → length (budget_taken t b) ≡ length t
taken_length t b =
    let p = budget_place b * 6 in
    length-set (set t p b.original) (p + 1) (saturated w64 (pos 0) b.plan) ∙ length-set t p b.original

-- a budget changes two figures of its account
taken_at :
    (k j : ℕ) → k < 501 → j < 6 → (b : Budget) → Small b.activity → (t : List ℤ) → k * 6 + j < length t →
    account_figure (budget_taken t b) k j ≡ cond (held_by (account_at k) b) (budget_figure j (account_figure t k j) b) (account_figure t k j)
taken_at k j h l b s t m =
    let p = budget_place b * 6 in
    let first = set t p b.original in
    let plan = saturated w64 (pos 0) b.plan in
    set_figure first (p + 1) (k * 6 + j) plan (omega (arith, length-set t p b.original))
    ∙ ap (λ (z : ℤ). cond (eqb (p + 1) (k * 6 + j)) plan z) (set_figure t p (k * 6 + j) b.original m)
    ∙ go (eqb (budget_place b) k) refl j l
    ∙ ap (λ (x : Bool). cond x (budget_figure j (account_figure t k j) b) (account_figure t k j)) (same_place b.activity s k h)
  where
    go :
        (x : Bool) → eqb (budget_place b) k ≡ x → (j : ℕ) → j < 6 →
        cond (eqb (budget_place b * 6 + 1) (k * 6 + j)) (saturated w64 (pos 0) b.plan) (cond (eqb (budget_place b * 6) (k * 6 + j)) b.original (account_figure t k j))
        ≡ cond x (budget_figure j (account_figure t k j) b) (account_figure t k j)
    go true e zero l =
        let same : budget_place b ≡ k = eqb-true (budget_place b) k e in
        rw (ne_eqb (budget_place b * 6 + 1) (k * 6 + 0) (λ q. omega arith), eq-eqb (budget_place b * 6) (k * 6 + 0) (omega arith))
    go true e (suc zero) l =
        let same : budget_place b ≡ k = eqb-true (budget_place b) k e in
        rw (eq-eqb (budget_place b * 6 + 1) (k * 6 + 1) (omega arith))
    go true e (suc (suc j)) l =
        let same : budget_place b ≡ k = eqb-true (budget_place b) k e in
        rw (ne_eqb (budget_place b * 6 + 1) (k * 6 + suc (suc j)) (λ q. omega arith), ne_eqb (budget_place b * 6) (k * 6 + suc (suc j)) (λ q. omega arith))
    go false e j l =
        let other : budget_place b ≡ k → ⊥ = eqb-false (budget_place b) k e in
        rw (ne_eqb (budget_place b * 6 + 1) (k * 6 + j) (λ q. other (omega arith)), ne_eqb (budget_place b * 6) (k * 6 + j) (λ q. other (omega arith)))

-- ---- the changes: figure 2 and the status's number

abbrev change_figure : BudgetChange → ℕ
change_figure c = change_place c * 6 + (2 + change_status_number c.status)

status_below : (s : ChangeStatus) → change_status_number s < 3
unfolding change_status_number
status_below Pending = omega arith
status_below Approved = omega arith
status_below NotApproved = omega arith

-- it changes the figure of its account and its status
hits : (k : ℕ) → k < 501 → (status : ChangeStatus) (c : BudgetChange) → Small c.activity → eqb (change_figure c) (k * 6 + (2 + change_status_number status)) ≡ is_change (account_at k) status c
hits k h status c s =
    go (eqb (change_place c) k) (eqb (change_status_number c.status) (change_status_number status)) refl refl
    ∙ ap (λ (x : Bool). x && eqb (change_status_number c.status) (change_status_number status)) (same_place c.activity s k h)
  where
    low : change_status_number c.status < 3
    low = status_below c.status

    most : change_status_number status < 3
    most = status_below status

    go :
        (x y : Bool) → eqb (change_place c) k ≡ x → eqb (change_status_number c.status) (change_status_number status) ≡ y →
        eqb (change_figure c) (k * 6 + (2 + change_status_number status)) ≡ (x && y)
    go true true e f =
        let a : change_place c ≡ k = eqb-true (change_place c) k e in
        let b : change_status_number c.status ≡ change_status_number status = eqb-true (change_status_number c.status) (change_status_number status) f in
        eq-eqb (change_figure c) (k * 6 + (2 + change_status_number status)) (omega arith)
    go true false e f =
        ne_eqb (change_figure c) (k * 6 + (2 + change_status_number status))
        (λ q. let a : change_place c ≡ k = eqb-true (change_place c) k e in eqb-false (change_status_number c.status) (change_status_number status) f (omega arith))
    go false y e f =
        ne_eqb (change_figure c) (k * 6 + (2 + change_status_number status)) (λ q. eqb-false (change_place c) k e (omega (arith, low, most)))

-- and no figure of another kind
misses : (k j : ℕ) → j < 6 → (j < 2) ⊎ (j ≡ 5) → (c : BudgetChange) → eqb (change_figure c) (k * 6 + j) ≡ false
misses k j l o c = ne_eqb (change_figure c) (k * 6 + j) (λ q. go o q)
  where
    go : (j < 2) ⊎ (j ≡ 5) → change_figure c ≡ k * 6 + j → ⊥
    go (inl h) q = omega (arith, status_below c.status)
    go (inr h) q = omega (arith, status_below c.status)

-- ---- both

module _ (book : Book) (n : ℕ) (most : n ≤ 500) (budgets : Every (BudgetInRange n) book.budgets) (once : NoTwoAlike (map name_of book.budgets)) (log : Every (BudgetChangeInRange n) book.log) where
  abbrev empty : List ℤ
  empty = replicate 3006 (pos 0)

  abbrev first : List ℤ
  first = foldl budget_taken empty book.budgets

  first_long : length first ≡ 3006
  first_long = folded_length budget_taken taken_length empty book.budgets ∙ length-replicate {A = ℤ} 3006 (pos 0)

  -- after the budgets
  first_at_lem : (k j : ℕ) → k < 501 → j < 6 → account_figure first k j ≡ foldl (budget_figure j) (pos 0) (keep (held_by (account_at k)) book.budgets)
  first_at_lem k j h l =
      let inside : k * 6 + j < 3006 = omega arith in
      folded_at budget_taken taken_length (k * 6 + j) (held_by (account_at k)) (budget_figure j) empty book.budgets (omega (arith, length-replicate {A = ℤ} 3006 (pos 0)))
      (λ b m t q. taken_at k j h l b (small_given n b.activity most (every_in (BudgetInRange n) book.budgets budgets b m).activity) t q)
      ∙ ap (λ (z : ℤ). foldl (budget_figure j) z (keep (held_by (account_at k)) book.budgets)) (get_or-replicate 3006 (k * 6 + j) (pos 0) (pos 0) inside)

  own : (k j : ℕ) → k < 501 → j < 2 → budget_figure j (pos 0) (no_budget (account_at k)) ≡ pos 0 → account_figure first k j ≡ budget_figure j (pos 0) (budget_for book (account_at k))
  unfolding budget_for
  own k j h l e = first_at_lem k j h (omega arith) ∙ only j (no_budget (account_at k)) (keep (held_by (account_at k)) book.budgets) (alone (account_at k) book.budgets once) l e

  nothing : (k j : ℕ) → k < 501 → 2 ≤ j → j < 6 → account_figure first k j ≡ pos 0
  nothing k j h m l = first_at_lem k j h l ∙ unchanged j m (pos 0) (keep (held_by (account_at k)) book.budgets)

  -- and after the log
  abbrev both : List ℤ
  both = foldl change_taken first book.log

  abbrev amount_of : BudgetChange → ℤ
  amount_of c = c.amount

  kept : (k j : ℕ) → k < 501 → j < 6 → (j < 2) ⊎ (j ≡ 5) → account_figure both k j ≡ account_figure first k j
  unfolding saturated keep
  kept k j h l o =
      added_at change_figure amount_of (k * 6 + j) (λ c. false) first book.log (omega (arith, first_long)) (λ c m. misses k j l o c)
      ∙ ap (λ (cs : List BudgetChange). saturated w64 (account_figure first k j) (map amount_of cs)) (keep_none (λ c. false) book.log (λ c m. refl))

  changed : (k : ℕ) → k < 501 → (status : ChangeStatus) → account_figure both k (2 + change_status_number status) ≡ changes book status (account_at k)
  unfolding changes
  changed k h status =
      let low = status_below status in
      added_at change_figure amount_of (k * 6 + (2 + change_status_number status)) (is_change (account_at k) status) first book.log (omega (arith, first_long))
      (λ c m. hits k h status c (small_given n c.activity most (every_in (BudgetChangeInRange n) book.log log c m).activity))
      ∙ ap (λ (z : ℤ). saturated w64 z (map amount_of (keep (is_change (account_at k) status) book.log))) (nothing k (2 + change_status_number status) h (omega arith) (omega arith))

  pub all_booked : both ≡ booked book
  unfolding account_row change_status_number saturated
  all_booked =
      accounts_are (λ (o : Account). pos 0) book both (added_length change_figure amount_of first book.log ∙ first_long)
      (λ k j h l. go k h j l)
    where
      go : (k : ℕ) → k < 501 → (j : ℕ) → j < 6 → account_figure both k j ≡ get_or (account_row (λ (o : Account). pos 0) book (account_at k)) j (pos 0)
      go k h zero l = kept k 0 h l (inl (omega arith)) ∙ own k 0 h (omega arith) refl
      go k h (suc zero) l = kept k 1 h l (inl (omega arith)) ∙ own k 1 h (omega arith) refl
      go k h (suc (suc zero)) l = changed k h Pending
      go k h (suc (suc (suc zero))) l = changed k h Approved
      go k h (suc (suc (suc (suc zero)))) l = changed k h NotApproved
      go k h (suc (suc (suc (suc (suc zero))))) l = kept k 5 h l (inr refl) ∙ nothing k 5 h (omega arith) (omega arith)
      go k h (suc (suc (suc (suc (suc (suc j)))))) l = absurd (omega arith)
