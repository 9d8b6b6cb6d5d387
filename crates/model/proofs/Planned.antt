-- An activity's planned value by itself: what the first k of its n listed days get of its budget, where k of them are up to the date.
use Rattle.std.specs.Prelude.{None, Option, Some, unwrap_or}
use Prim.Native.Nat.{ℕ, zero, suc, ◌-◌, ◌≤◌, ◌<◌, min}
use mathlib.Core.Path.{◌≡◌, refl, sym, ap, ◌∙◌}
use mathlib.Core.Bool.{Bool, true, false, cond}
use mathlib.Core.List.{List, [], ◌∷◌, zip_with, Memᴰ}
use native.Mathlib.Omega.{arith}
use native.Mathlib.Decide.{dec_lt}
use borrow.Author.Tests.{leb-true, leb-false, le-leb, lt-leb}
use lib.Dec.{eqb, leb}
use lib.IntN.{ℤ, pos, nat_abs, ◌-ℤ◌, +ℤ_idl}
use lib.ListN.{length, get_or}
use mir.Syntax.{w64}
use mir.Val.{SFits}
use Rattle.integer.specs.Clamp.{clamp, clamp_same}
use Rattle.integer.specs.Signs.{Between, like_abs, like_fits}
use Rattle.integer.specs.Sums.{ints, nats, sum, total}
use Rattle.integer.specs.Folds.{saturated, magnitudes}
use Rattle.money.specs.Shares.{share_of, shares_from}
use Rattle.money.proofs.Spread.{extra, part, parts, parts_next, parts_all, parts_le, share_like, sum_like, shares_all, shares_between, shares_nearer}
use Rattle.format.specs.Inverse.{Given}
use Rattle.format.specs.Book.{Calendar, BaselineLine, Book}
use Rattle.format.specs.InRange.{IsDate, Every, Rising, BaselineLineInRange, BaselineInRange, InRange}
use Rattle.lists.specs.Lists.{span, cons_if, keep}
use Rattle.model.specs.Lookup.{activity_at, no_activity}
use Rattle.model.specs.Calendar.{calendar_of}
use Rattle.model.specs.Days.{working_days, day_list, planned_days}
use Rattle.model.specs.Amounts.{on, dated, spread_over, amounts, saturated_sum}
use Rattle.model.specs.Costs.{cost_of}
use Rattle.model.specs.Planned.{first_line, line_of, budget_by, budget_of, days_by, listed_days, planned_amounts, is_up_to, planned_on}
use Rattle.model.specs.Walk.{count_up_to}
use Rattle.model.specs.Demand.{first_of, last_of}
use Rattle.lists.proofs.Lists.{keep_none, keep_all, keep_length, keep_fewer, first_at_lem}
use Rattle.model.proofs.Rising.{rest_rises, least}
use Rattle.model.proofs.Days.{working_up_to_lem, day_list_counted, day_list_empty, day_list_some, day_list_rises, day_list_within}
use Rattle.model.proofs.Totals.{total_span, magnitudes_total}
use Rattle.model.proofs.Saturating.{saturated_shares}
use Rattle.model.proofs.Amounts.{shares_span, amounts_spread}
use Rattle.model.proofs.Costs.{cost_budget_fits}

-- ---- the shares of an amount over rising days
module _ (date : ℕ) where
  -- those up to the date are the first
  first_shares : (z : ℤ) (n k : ℕ) (days : List ℕ) → Rising days → amounts (keep (is_up_to date) (dated days (shares_from z n k (length days)))) ≡ shares_from z n k (count_up_to date days)
  unfolding keep zip_with shares_from
  first_shares z n k [] r = refl
  first_shares z n k (d ∷ ds) r = go (leb d date) refl (first_shares z n (suc k) ds (rest_rises d ds r))
    where
      none_later : leb d date ≡ false → count_up_to date ds ≡ 0
      none_later e = ap length (keep_none (λ x. leb x date) ds (λ x m. lt-leb x date (omega (arith, leb-false d date e, least d ds r x m))))

      go : (b : Bool) → leb d date ≡ b → amounts (keep (is_up_to date) (dated ds (shares_from z n (suc k) (length ds)))) ≡ shares_from z n (suc k) (count_up_to date ds)
          → amounts (cons_if b (on d (share_of z n k)) (keep (is_up_to date) (dated ds (shares_from z n (suc k) (length ds))))) ≡ shares_from z n k (length (cons_if b d (keep (λ x. leb x date) ds)))
      go true e ih = ap (λ (l : List ℤ). share_of z n k ∷ l) ih
      go false e ih = ih ∙ ap (shares_from z n (suc k)) (none_later e) ∙ sym (ap (shares_from z n k) (none_later e))

  module _ (z : ℤ) (days : List ℕ) (r : Rising days) where
    pub shares_up_to : amounts (keep (is_up_to date) (spread_over z days)) ≡ shares_from z (length days) 0 (count_up_to date days)
    unfolding spread_over
    shares_up_to = first_shares z (length days) 0 days r

    -- added with saturation or exactly, they are what the first days get
    pub spread_up_to : SFits w64 z → 0 < length days → saturated_sum (keep (is_up_to date) (spread_over z days)) ≡ sum ints (share_of z (length days)) (count_up_to date days)
    unfolding saturated_sum
    spread_up_to f p =
        let n = length days in
        let k = count_up_to date days in
        ap (saturated w64 (pos 0)) shares_up_to
        ∙ saturated_shares w64 (pos 0) (record { sfits = omega arith }) z n k
        ∙ ap (clamp w64) (+ℤ_idl (sum ints (share_of z n) k))
        ∙ clamp_same w64 (sum ints (share_of z n) k) (rw (sum_like z n k) (like_fits f (parts_le (nat_abs z) n k p (keep_length (λ d. leb d date) days))))

    pub total_up_to : total ints (amounts (keep (is_up_to date) (spread_over z days))) ≡ sum ints (share_of z (length days)) (count_up_to date days)
    total_up_to = ap (total ints) (shares_up_to ∙ shares_span z (length days) 0 (count_up_to date days)) ∙ total_span ints (share_of z (length days)) (count_up_to date days)

-- ---- their magnitudes add up to the amount's
abs_share : (z : ℤ) (n k : ℕ) → nat_abs (share_of z n k) ≡ part (nat_abs z) n k
abs_share z n k = ap nat_abs (share_like z n k) ∙ like_abs z (part (nat_abs z) n k)

abs_shares : (z : ℤ) (n k : ℕ) → sum nats (λ j. nat_abs (share_of z n j)) k ≡ parts (nat_abs z) n k
unfolding sum
abs_shares z n zero = omega arith
abs_shares z n (suc k) = omega (arith, abs_shares z n k, abs_share z n k, parts_next (nat_abs z) n k)

pub spread_magnitudes : (z : ℤ) (days : List ℕ) → 0 < length days → magnitudes (amounts (spread_over z days)) ≡ nat_abs z
spread_magnitudes z days p =
    let n = length days in
    ap magnitudes (amounts_spread z days ∙ shares_span z n 0 n)
    ∙ magnitudes_total (share_of z n) (span 0 n)
    ∙ total_span nats (λ k. nat_abs (share_of z n k)) n
    ∙ abs_shares z n n
    ∙ parts_all (nat_abs z) n p

-- ---- how many days are up to a date
module _ (days : List ℕ) where
  pub count_less : (date : ℕ) → count_up_to date days ≤ length days
  count_less date = keep_length (λ d. leb d date) days

  pub count_rises : (d e : ℕ) → d ≤ e → count_up_to d days ≤ count_up_to e days
  count_rises d e h = keep_fewer (λ x. leb x d) (λ x. leb x e) days (λ x t. le-leb x e (omega (arith, leb-true x d t)))

  module _ (r : Rising days) (date : ℕ) where
    -- before the first day none, from the last on all
    pub count_before : date < first_of days → count_up_to date days ≡ 0
    count_before h = ap length (keep_none (λ d. leb d date) days (λ d m. lt-leb d date (let f = first_at_lem d days m in omega (arith, f.here, from_first f.at f.inside))))
      where
        from_first : (k : ℕ) → k < length days → first_of days ≤ get_or days k 0
        from_first zero l = omega arith
        from_first (suc k) l = omega (arith, r 0 (suc k) (omega arith) l)

    pub count_after : last_of days ≤ date → count_up_to date days ≡ length days
    count_after h = ap length (keep_all (λ d. leb d date) days (λ d m. le-leb d date (let f = first_at_lem d days m in omega (arith, f.here, to_last f.at f.inside (dec_lt f.at (length days - 1))))))
      where
        to_last : (k : ℕ) → k < length days → Dec (k < length days - 1) → get_or days k 0 ≤ last_of days
        to_last k l (yes h) = omega (arith, r k (length days - 1) h (omega arith))
        to_last k l (no h) = let same : k ≡ length days - 1 = omega arith in omega (arith, ap (λ (j : ℕ). get_or days j 0) same)

-- of a day list: the working days of a shorter span, or the first date alone
module _ (c : Calendar) (from to date : ℕ) where
  pub count_working : 0 < length (working_days c from to) → count_up_to date (day_list c from to) ≡ length (working_days c from (min to date))
  count_working h = rw (day_list_counted c from to h) (ap length (working_up_to_lem c from to date))

  pub count_alone : length (working_days c from to) ≡ 0 → count_up_to date (day_list c from to) ≡ extra (leb from date)
  unfolding keep
  count_alone h = rw (day_list_empty c from to h) (go (leb from date))
    where
      go : (b : Bool) → length (cons_if b from []) ≡ extra b
      go true = refl
      go false = refl

-- ---- of a book
-- the first line found is one of them
found_line : (P : BaselineLine → Type 0) (ls : List BaselineLine) → Every P ls → (i : ℕ) → Given P (first_line ls i)
unfolding first_line
found_line P [] e i = tt
found_line P (l ∷ ls) e i = go (eqb l.activity i) (found_line P ls (λ k d h. e (suc k) d (omega arith)) i)
  where
    go : (b : Bool) → Given P (first_line ls i) → Given P (cond b (Some l) (first_line ls i))
    go true h = e 0 l (omega arith)
    go false h = h

lines_in_range : (n : ℕ) (o : Option (List BaselineLine)) → Given (BaselineInRange n) o → Every (BaselineLineInRange n) (unwrap_or o [])
lines_in_range n None g k d h = absurd (omega arith)
lines_in_range n (Some ls) g k d h = g.lines k d h

module _ (book : Book) (i : ℕ) where
  pub listed_rise : Rising (listed_days book i)
  unfolding listed_days days_by planned_days
  listed_rise = go (line_of book i)
    where
      go : (o : Option BaselineLine) → Rising (days_by book i o)
      go None = day_list_rises (calendar_of book (activity_at book i)) (activity_at book i).early_start (activity_at book i).early_finish
      go (Some l) = day_list_rises (calendar_of book (activity_at book i)) l.start l.finish

  pub listed_some : 0 < length (listed_days book i)
  unfolding listed_days days_by planned_days
  listed_some = go (line_of book i)
    where
      go : (o : Option BaselineLine) → 0 < length (days_by book i o)
      go None = day_list_some (calendar_of book (activity_at book i)) (activity_at book i).early_start (activity_at book i).early_finish
      go (Some l) = day_list_some (calendar_of book (activity_at book i)) l.start l.finish

  module _ (ok : InRange book) where
    pub line_in_range : Given (BaselineLineInRange (length book.activities)) (line_of book i)
    unfolding line_of
    line_in_range = found_line (BaselineLineInRange (length book.activities)) (unwrap_or book.baseline []) (lines_in_range (length book.activities) book.baseline ok.baseline) i

    -- the listed days are dates
    pub listed_dates : i < length book.activities → (d : ℕ) → Memᴰ d (listed_days book i) → IsDate d
    unfolding listed_days days_by planned_days
    listed_dates h d m = go (line_of book i) line_in_range m
      where
        among : (from to : ℕ) → IsDate from → IsDate to → Memᴰ d (day_list (calendar_of book (activity_at book i)) from to) → IsDate d
        among from to f t m =
            let w = day_list_within (calendar_of book (activity_at book i)) from to d m in
            record { first = omega (arith, f.first); last = omega (arith, f.last, t.last) }

        go : (o : Option BaselineLine) → Given (BaselineLineInRange (length book.activities)) o → Memᴰ d (days_by book i o) → IsDate d
        go None g m = let a = ok.activities i no_activity h in among (activity_at book i).early_start (activity_at book i).early_finish a.early_start a.early_finish m
        go (Some l) g m = among l.start l.finish g.start g.finish m

    pub budget_fits : SFits w64 (budget_of book i)
    unfolding budget_of
    budget_fits = go (line_of book i) line_in_range
      where
        go : (o : Option BaselineLine) → Given (BaselineLineInRange (length book.activities)) o → SFits w64 (budget_by o (cost_of book i).budget)
        go None g = cost_budget_fits book i
        go (Some l) g = g.cost

    module _ (date : ℕ) where
      -- as the code computes it
      pub leaf_planned : planned_on book date i ≡ sum ints (share_of (budget_of book i) (length (listed_days book i))) (count_up_to date (listed_days book i))
      unfolding planned_on planned_amounts
      leaf_planned = spread_up_to date (budget_of book i) (listed_days book i) listed_rise budget_fits listed_some

      -- nothing saturates
      pub planned_exact : planned_on book date i ≡ total ints (amounts (keep (is_up_to date) (planned_amounts book i)))
      unfolding planned_amounts
      planned_exact = leaf_planned ∙ sym (total_up_to date (budget_of book i) (listed_days book i) listed_rise)

      pub planned_between : Between (planned_on book date i) (budget_of book i)
      planned_between = rw leaf_planned (shares_between (budget_of book i) (length (listed_days book i)) (count_up_to date (listed_days book i)) listed_some (count_less (listed_days book i) date))

      pub planned_less : nat_abs (planned_on book date i) ≤ nat_abs (budget_of book i)
      planned_less =
          let z = budget_of book i in
          let n = length (listed_days book i) in
          let k = count_up_to date (listed_days book i) in
          omega (arith, ap nat_abs (leaf_planned ∙ sum_like z n k) ∙ like_abs z (parts (nat_abs z) n k), parts_le (nat_abs z) n k listed_some (count_less (listed_days book i) date))

      pub planned_before : date < first_of (listed_days book i) → planned_on book date i ≡ pos 0
      unfolding sum
      planned_before h = leaf_planned ∙ ap (sum ints (share_of (budget_of book i) (length (listed_days book i)))) (count_before (listed_days book i) listed_rise date h)

      pub planned_after : last_of (listed_days book i) ≤ date → planned_on book date i ≡ budget_of book i
      planned_after h =
          leaf_planned
          ∙ ap (sum ints (share_of (budget_of book i) (length (listed_days book i)))) (count_after (listed_days book i) listed_rise date h)
          ∙ shares_all (budget_of book i) (length (listed_days book i)) listed_some

    -- at a later date no further from the budget
    pub planned_nearer : (d e : ℕ) → d ≤ e → nat_abs (budget_of book i -ℤ planned_on book e i) ≤ nat_abs (budget_of book i -ℤ planned_on book d i)
    planned_nearer d e h =
        let days = listed_days book i in
        rw (leaf_planned d, leaf_planned e)
        (shares_nearer (budget_of book i) (length days) (count_up_to d days) (count_up_to e days) listed_some (count_rises days d e h) (count_less days e))
