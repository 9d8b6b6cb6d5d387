-- Rows with working days instead of dates: row by row, and calendar by calendar.
use Prim.Native.Nat.{ℕ, suc, ◌+◌, ◌*◌, ◌/◌, ◌≤◌, ◌<◌}
use native.Mathlib.Omega.{arith}
use native.Mathlib.Decide.{dec_lt, ℕ_discrete}
use mathlib.Core.Path.{◌≡◌, refl, sym, ap, ap₂, ◌∙◌, subst}
use mathlib.Core.Bool.{Bool, true, false, cond, ◌&&◌}
use mathlib.Core.List.{List, [], ◌∷◌}
use lib.Dec.{eqb, ltb}
use lib.IntN.{ℤ}
use lib.ListN.{length, get_or, set}
use lib.Seq.{sets, length-sets}
use borrow.Author.Tests.{eq-eqb, ne_eqb, eqb-true, lt-ltb, le-ltb}
use Rattle.gregorian.proofs.Laws.{and_both}
use Rattle.format.specs.Book.{Calendar}
use Rattle.money.specs.Words.{bits}
use Rattle.model.specs.Lookup.{no_calendar}
use Rattle.model.specs.Calendar.{is_working}
use Rattle.model.specs.Variances.{working_between}
use Rattle.calendar.specs.Tables.{Counts}
use Rattle.spans.specs.declared.Stretch.{Stretch}
use Rattle.variances.specs.Changed.{row_of, changed, RowChanged}
use Rattle.activities.specs.Schedule.{entry_at}
use Rattle.variances.specs.Days.{has_line, is_under, dated, dated_under, dated_by, Tables, all_rows, InStretch, Reaches, counted_between}
use Rattle.variances.proofs.Changing.{row_at, sets_row, no_row, changed_same, changed_none, changed_length, changed_row, changed_twice}
use Rattle.variances.proofs.Counting.{dated_counted}

-- what holds below i, and of i, holds below i + 1
pub one_more : (P : ℕ → Type 0) {i : ℕ} → ((k : ℕ) → k < i → P k) → P i → (k : ℕ) → k < i + 1 → P k
one_more P {i} before here k h = go (ℕ_discrete k i)
  where
    go : Dec (k ≡ i) → P k
    go (yes e) = subst P (sym e) here
    go (no e) = before k (omega arith)

-- the mark of a row
pub mark_at : (out : List ℕ) (i : ℕ) → get_or (row_of 5 out i) 0 0 ≡ get_or out (i * 5) 0
mark_at out i = let e : i * 5 + 0 ≡ i * 5 = omega arith in row_at 5 out i 0 (omega arith) ∙ ap (λ (k : ℕ). get_or out k 0) e

-- the dates of a row are of the stretch
module _ {r : Stretch} {schedule : List ℕ} (out : List ℕ) {i : ℕ} (w : Reaches r schedule i (row_of 5 out i)) where
  pub start_reached : InStretch r (get_or out (i * 5 + 1) 0)
  start_reached = subst (InStretch r) (row_at 5 out i 1 (omega arith)) w.start

  pub finish_reached : InStretch r (get_or out (i * 5 + 2) 0)
  finish_reached = subst (InStretch r) (row_at 5 out i 2 (omega arith)) w.finish

-- ---- one row

module _ (between : ℕ → ℕ → ℤ) (schedule out : List ℕ) (number i : ℕ) where
  pub row_dated :
      {after : List ℕ} {x y : ℕ} → i * 5 + 5 ≤ length out → is_under schedule number i (row_of 5 out i) ≡ true →
      x ≡ bits (between (entry_at schedule i 2) (get_or out (i * 5 + 1) 0)) → y ≡ bits (between (entry_at schedule i 3) (get_or out (i * 5 + 2) 0)) →
      after ≡ set (set out (i * 5 + 1) x) (i * 5 + 2) y → RowChanged 5 i (dated_under between schedule number i) out after
  row_dated {x = x} {y = y} room under e f g =
      let row = row_of 5 out i in
      let next : i * 5 + 2 ≡ suc (i * 5 + 1) = omega arith in
      let start : x ≡ bits (between (entry_at schedule i 2) (get_or row 1 0)) = e ∙ ap (λ (d : ℕ). bits (between (entry_at schedule i 2) d)) (sym (row_at 5 out i 1 (omega arith))) in
      let finish : y ≡ bits (between (entry_at schedule i 3) (get_or row 2 0)) = f ∙ ap (λ (d : ℕ). bits (between (entry_at schedule i 3) d)) (sym (row_at 5 out i 2 (omega arith))) in
      sets_row 1 (x ∷ y ∷ []) (omega arith) room (g ∙ ap (λ (k : ℕ). set (set out (i * 5 + 1) x) k y) next)
      (ap₂ (λ (x y : ℕ). sets row 1 (x ∷ y ∷ [])) start finish ∙ sym (ap (λ (b : Bool). cond b (dated between schedule i row) row) under))

  pub row_passed : is_under schedule number i (row_of 5 out i) ≡ false → RowChanged 5 i (dated_under between schedule number i) out out
  row_passed under = no_row refl (sym (ap (λ (b : Bool). cond b (dated between schedule i (row_of 5 out i)) (row_of 5 out i)) under))

-- ---- one calendar

module _ (schedule out : List ℕ) (number : ℕ) where
  pub calendar_counted :
      (c : Calendar) {r : Stretch} {counts : List ℕ} → Counts (is_working c) r.from r.to counts →
      ((i : ℕ) → i < length out / 5 → is_under schedule number i (row_of 5 out i) ≡ true → Reaches r schedule i (row_of 5 out i)) →
      all_rows (dated_under (counted_between r.from counts) schedule number) out ≡ all_rows (dated_under (working_between c) schedule number) out
  calendar_counted c {r} {counts} t w =
      changed_same 5 (length out / 5) out (dated_under (counted_between r.from counts) schedule number) (dated_under (working_between c) schedule number)
      (λ i h. go i (is_under schedule number i (row_of 5 out i)) (w i h))
    where
      go :
          (i : ℕ) (b : Bool) → (b ≡ true → Reaches r schedule i (row_of 5 out i)) →
          cond b (dated (counted_between r.from counts) schedule i (row_of 5 out i)) (row_of 5 out i) ≡ cond b (dated (working_between c) schedule i (row_of 5 out i)) (row_of 5 out i)
      go i true h = dated_counted c t (h refl)
      go i false h = refl

  -- no activity with a line has it
  pub calendar_unused :
      (between : ℕ → ℕ → ℤ) → Tables schedule out → ((i : ℕ) → i < length out / 5 → is_under schedule number i (row_of 5 out i) ≡ false) →
      out ≡ all_rows (dated_under between schedule number) out
  calendar_unused between t h =
      sym
      (changed_none 5 (length out / 5) out (dated_under between schedule number) t.rows
      (λ i l. ap (λ (b : Bool). cond b (dated between schedule i (row_of 5 out i)) (row_of 5 out i)) (h i l)))

-- ---- calendar by calendar

and_true : (b : Bool) {e : Bool} → e ≡ true → (b && e) ≡ b
and_true true h = h
and_true false h = refl

and_false : (b : Bool) {e : Bool} → e ≡ false → (b && e) ≡ false
and_false true h = h
and_false false h = refl

module _ (cs : List Calendar) (schedule : List ℕ) where
  -- those of the first k calendars
  abbrev pub dated_below : ℕ → ℕ → List ℕ → List ℕ
  dated_below k i row =
      cond (has_line row && ltb (entry_at schedule i 1) k) (dated (working_between (get_or cs (entry_at schedule i 1) no_calendar)) schedule i row) row

  below_wide : (k i : ℕ) (row : List ℕ) → length row ≡ 5 → length (dated_below k i row) ≡ 5
  below_wide k i row l = go (has_line row && ltb (entry_at schedule i 1) k)
    where
      between : ℕ → ℕ → ℤ
      between = working_between (get_or cs (entry_at schedule i 1) no_calendar)

      go : (b : Bool) → length (cond b (dated between schedule i row) row) ≡ 5
      go true = length-sets row 1 (bits (between (entry_at schedule i 2) (get_or row 1 0)) ∷ bits (between (entry_at schedule i 3) (get_or row 2 0)) ∷ []) ∙ l
      go false = l

  -- by what is said of the activity's calendar
  below_is : (k i : ℕ) (row : List ℕ) {b : Bool} → (has_line row && ltb (entry_at schedule i 1) k) ≡ b → dated_below k i row ≡ cond b (dated (working_between (get_or cs (entry_at schedule i 1) no_calendar)) schedule i row) row
  below_is k i row e = ap (λ (b : Bool). cond b (dated (working_between (get_or cs (entry_at schedule i 1) no_calendar)) schedule i row) row) e

  -- none is of an earlier one
  below_not : (k i : ℕ) (row : List ℕ) → k ≤ entry_at schedule i 1 → dated_below k i row ≡ row
  below_not k i row h = below_is k i row (and_false (has_line row) (le-ltb (entry_at schedule i 1) k h))

  -- one calendar more, of one row
  below_next :
      (k i : ℕ) (row : List ℕ) {c : Calendar} → get_or cs k no_calendar ≡ c → dated_under (working_between c) schedule k i (dated_below k i row) ≡ dated_below (k + 1) i row
  below_next k i row {c} is = go (ℕ_discrete (entry_at schedule i 1) k)
    where
      number : ℕ
      number = entry_at schedule i 1

      go : Dec (number ≡ k) → dated_under (working_between c) schedule k i (dated_below k i row) ≡ dated_below (k + 1) i row
      go (yes s) =
          let same : get_or cs number no_calendar ≡ c = ap (λ (j : ℕ). get_or cs j no_calendar) s ∙ is in
          ap (dated_under (working_between c) schedule k i) (below_not k i row (omega arith))
          ∙ ap (λ (b : Bool). cond b (dated (working_between c) schedule i row) row) (and_true (has_line row) (eq-eqb number k s))
          ∙ ap (λ (x : Calendar). cond (has_line row) (dated (working_between x) schedule i row) row) (sym same)
          ∙ sym (below_is (k + 1) i row (and_true (has_line row) (lt-ltb number (k + 1) (omega arith))))
      go (no s) =
          let before = dated_below k i row in
          ap (λ (b : Bool). cond b (dated (working_between c) schedule i before) before) (and_false (has_line before) (ne_eqb number k s))
          ∙ below_is k i row (ap (λ (b : Bool). has_line row && b) (less (dec_lt number k)))
        where
          less : Dec (number < k) → ltb number k ≡ ltb number (k + 1)
          less (yes l) = lt-ltb number k l ∙ sym (lt-ltb number (k + 1) (omega arith))
          less (no l) = le-ltb number k (omega arith) ∙ sym (le-ltb number (k + 1) (omega arith))

-- the rows of the first k calendars are dated
pub record Below (cs : List Calendar) (schedule out : List ℕ) (k : ℕ) (after : List ℕ) : Type 0 where
  pub tables : Tables schedule out
  pub rows : after ≡ all_rows (dated_below cs schedule k) out

pub below_none : (cs : List Calendar) {schedule out : List ℕ} → Tables schedule out → Below cs schedule out 0 out
below_none cs {schedule} {out} t =
    record { tables = t; rows = sym (changed_none 5 (length out / 5) out (dated_below cs schedule 0) t.rows (λ i h. below_not cs schedule 0 i (row_of 5 out i) (omega arith))) }

module _ {cs : List Calendar} {schedule out : List ℕ} {k : ℕ} {after : List ℕ} (w : Below cs schedule out k after) where
  pub below_length : length after ≡ length out
  below_length = ap length w.rows ∙ changed_length 5 (length out / 5) out (dated_below cs schedule k) (below_wide cs schedule k) ∙ sym w.tables.rows

  pub below_tables : Tables schedule after
  below_tables = record { rows = omega (arith, w.tables.rows, below_length); scheduled = omega (arith, w.tables.scheduled, below_length) }

  -- a row of the next calendar is as it was
  row_kept : (i : ℕ) → i < length out / 5 → entry_at schedule i 1 ≡ k → row_of 5 after i ≡ row_of 5 out i
  row_kept i h s =
      ap (λ (l : List ℕ). row_of 5 l i) w.rows
      ∙ changed_row 5 (length out / 5) out (dated_below cs schedule k) (below_wide cs schedule k) i h
      ∙ below_not cs schedule k i (row_of 5 out i) (omega arith)

  pub below_reaches :
      {r : Stretch} → ((i : ℕ) → i < length out / 5 → has_line (row_of 5 out i) ≡ true → Reaches r schedule i (row_of 5 out i)) →
      (i : ℕ) → i < length after / 5 → is_under schedule k i (row_of 5 after i) ≡ true → Reaches r schedule i (row_of 5 after i)
  below_reaches {r} reached i h u =
      let both = and_both (has_line (row_of 5 after i)) (eqb (entry_at schedule i 1) k) u in
      let l : i < length out / 5 = omega (arith, below_length) in
      let same = row_kept i l (eqb-true (entry_at schedule i 1) k both.1) in
      subst (Reaches r schedule i) (sym same) (reached i l (ap has_line (sym same) ∙ both.0))

  pub below_more :
      {c : Calendar} {next : List ℕ} → get_or cs k no_calendar ≡ c → next ≡ all_rows (dated_under (working_between c) schedule k) after → Below cs schedule out (k + 1) next
  below_more {c} is g =
      let n = length out / 5 in
      let under = dated_under (working_between c) schedule k in
      let before = dated_below cs schedule k in
      let count : length after / 5 ≡ n = ap (λ (l : ℕ). l / 5) below_length in
      record {
        tables = w.tables;
        rows =
            g
            ∙ ap (λ (m : ℕ). changed 5 under m after) count
            ∙ ap (changed 5 under n) w.rows
            ∙ changed_twice 5 n out before (below_wide cs schedule k) under
            ∙ changed_same 5 n out (λ i r. under i (before i r)) (dated_below cs schedule (k + 1)) (λ i h. below_next cs schedule k i (row_of 5 out i) is);
      }

  pub below_all : {count : ℕ} → ((i : ℕ) → i < length out / 5 → entry_at schedule i 1 < count) → count ≤ k → after ≡ all_rows (dated_by cs schedule) out
  below_all named most =
      w.rows
      ∙ changed_same 5 (length out / 5) out (dated_below cs schedule k) (dated_by cs schedule)
      (λ i h. below_is cs schedule k i (row_of 5 out i) (and_true (has_line (row_of 5 out i)) (lt-ltb (entry_at schedule i 1) k (omega (arith, named i h)))))
