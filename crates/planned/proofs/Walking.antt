-- What the walk counts: of the dates up to a date, and of those behind them.
use Prim.Native.Nat.{ℕ, ◌+◌, ◌-◌, ◌≤◌, ◌<◌, min}
use native.Mathlib.Decide.{dec_lt}
use native.Mathlib.Omega.{arith}
use mathlib.Core.Path.{◌≡◌, refl, sym, ap, ap₂, ◌∙◌}
use mathlib.Core.Bool.{Bool, true, false}
use mathlib.Core.List.{List, [], ◌∷◌}
use borrow.Author.Tests.{le-leb, lt-leb, ne_eqb}
use lib.Dec.{leb}
use lib.ListN.{length, length-append}
use Rattle.lists.specs.Lists.{cons_if, keep}
use Rattle.model.specs.declared.DayWalk.{DayWalk}
use Rattle.model.specs.Days.{dates_between, or_alone}
use Rattle.model.specs.Walk.{counts_of}
use Rattle.model.proofs.Days.{kept_up_to}
use Rattle.model.proofs.Walk.{counts}
use Rattle.calendar.specs.Tables.{one}
use Rattle.laid.specs.declared.days.Tested.{Tested}
use Rattle.laid.specs.Listed.{in_row, worked_between, tested_between}
use Rattle.laid.proofs.Dates.{dates_between_lem, none_left, parted, most_between}
use Rattle.planned.specs.Walked.{walked_in, both_of, or_first, Few}

same_counts : {a b c x y z : ℕ} → a ≡ x → b ≡ y → c ≡ z → counts a b c ≡ counts x y z
same_counts {c = c} {x = x} {y = y} e f g = ap₂ (λ (l u : ℕ). counts l u c) e f ∙ ap (counts x y) g

-- ---- the first date alone, where none works

module _ (w : DayWalk) (date first : ℕ) where
  pub some_listed : 0 < w.listed → w ≡ or_first date first w
  some_listed h = sym (rw (ne_eqb w.listed 0 (λ e. omega arith)))

  pub first_early : w.listed ≡ 0 → first ≤ date → counts 1 1 w.tested ≡ or_first date first w
  first_early none h = sym (rw (none, le-leb first date h))

  pub first_late : w.listed ≡ 0 → date < first → counts 1 0 w.tested ≡ or_first date first w
  first_late none h = sym (rw (none, lt-leb first date h))

-- ---- in two stretches

pub few_tested : (row base : ℕ) (days : List ℕ) (first last : ℕ) {t : Tested} → t ≡ tested_between row base days first last → last ≤ 47481 → Few t
few_tested row base days first last e h =
    let n = dates_between_lem first last in
    record { tested = rw e (omega (arith, n)); working = rw e (omega (arith, n, most_between (in_row row base days) first last)) }

module _ (row base : ℕ) (days : List ℕ) (date first last : ℕ) where
  abbrev worked : List ℕ
  worked = worked_between row base days first last

  abbrev all : ℕ
  all = length (dates_between first last)

  -- by the working dates
  walked_by : or_first date first (counts_of date worked all) ≡ walked_in row base days date first last
  unfolding walked_in keep
  walked_by = go worked
    where
      alone : (b : Bool) → one b ≡ length (cons_if b first [])
      alone true = refl
      alone false = refl

      go : (l : List ℕ) → or_first date first (counts_of date l all) ≡ counts_of date (or_alone first l) all
      go [] = ap (λ (k : ℕ). counts 1 k all) (alone (leb first date))
      go (d ∷ ds) = sym (some_listed (counts_of date (d ∷ ds) all) date first (omega arith))

  -- up to the date, and from the date behind that on
  module _ (until : ℕ) (u : until ≡ min last date) where
    abbrev next : ℕ
    next = first + length (dates_between first until)

    working_parts : length (worked_between row base days first until) + length (worked_between row base days next last) ≡ length worked
    working_parts = go (dec_lt until first)
      where
        p : ℕ → Bool
        p = in_row row base days

        go : Dec (until < first) → length (worked_between row base days first until) + length (worked_between row base days next last) ≡ length worked
        go (yes h) =
            let e : next ≡ first = omega (arith, dates_between_lem first until) in
            omega (arith, ap length (none_left p first until h), ap (λ (d : ℕ). length (keep p (dates_between d last))) e)
        go (no h) =
            let e : next ≡ until + 1 = omega (arith, dates_between_lem first until) in
            let f : until + 1 - 1 ≡ until = omega arith in
            omega (
              arith,
              ap length (parted p first (until + 1) last (omega arith) (omega (arith, u))),
              length-append (keep p (dates_between first (until + 1 - 1))) (keep p (dates_between (until + 1) last)),
              ap (λ (d : ℕ). length (keep p (dates_between first d))) f,
              ap (λ (d : ℕ). length (keep p (dates_between d last))) e,
            )

    pub walked_parts :
        {early late : Tested} → early ≡ tested_between row base days first until → late ≡ tested_between row base days (first + early.tested) last →
        or_first date first (both_of early late) ≡ walked_in row base days date first last
    walked_parts {early} {late} e l = rw (l, e) (
        ap (or_first date first)
        (same_counts
        working_parts
        (sym (ap length (kept_up_to (in_row row base days) first last date) ∙ ap (λ (d : ℕ). length (worked_between row base days first d)) (sym u)))
        (omega (arith, u, dates_between_lem first until, dates_between_lem next last, dates_between_lem first last)))
        ∙ walked_by)
