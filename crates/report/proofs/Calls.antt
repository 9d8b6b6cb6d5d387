-- What the calls of the status and of the outline answer, and what they leave in lent memory. Assumes nothing.
use Rattle.std.specs.Prelude.{None, Option, Some, Err, Ok}
use Prim.Native.Nat.{ℕ, ◌+◌, ◌*◌, ◌-◌, ◌≤◌}
use native.Mathlib.Omega.{arith}
use mathlib.Core.Path.{◌≡◌, refl, sym, ap, ap₂, ◌∙◌}
use mathlib.Core.Bool.{true, ◌&&◌}
use mathlib.Core.List.{List, [], ◌∷◌, ◌++◌, append-nil}
use borrow.Author.Tests.{le-leb}
use lib.ListN.{length, drop, drop_of_length-le}
use Rattle.format.specs.Bytes.{Bytes}
use Rattle.format.specs.Inverse.{Given}
use Rattle.format.specs.InRange.{IsDate}
use Rattle.format.specs.Book.{Book}
use Rattle.format.specs.Verdict.{verdict, content}
use Rattle.format.specs.Verdict as format
use Rattle.format.proofs.Theorems.{content_in_range, content_limits, verdict_accepts}
use Rattle.rows.specs.Rows.{numbers}
use Rattle.model.specs.Tree.{parents}
use Rattle.model.specs.Outline.{outline}
use Rattle.model.specs.Planned.{planned_curve_between}
use Rattle.model.specs.Earned.{project_earned}
use Rattle.model.proofs.Tree.{parents_count}
use Rattle.model.proofs.Outline.{outline_is}
use Rattle.answers.specs.Rows.{Rows, point_row, earned_width, earned_row, earned_value_rows, project_earned_rows, outline_width, outline_rows, planned_curve_rows}
use Rattle.answers.specs.Calls.{Condition, is_date, checked, fitted, reply_at, reply_number, reply_place, reply, Answers}
use Rattle.answers.proofs.Replies.{met, none_asked}
use Rattle.answers.proofs.Sized.{Sized, sized, one_numbers}
use Rattle.answers.proofs.SizedEarned.{values_sized, project_sized, outline_sized}
use Rattle.answers.proofs.Accepted.{accepted_book, accepted_count, accepted_lent}
use Rattle.engine.specs.Demand.{IsAccepted, at_date, between}
use Rattle.engine.proofs.Demand.{accepted_call}
use Rattle.report.specs.Lines.{refusal_line, activity_lines, outline_lines, point_lines}
use Rattle.report.specs.Status.{asked_at, EarnedIn, curve_text}
use Rattle.report.specs.Outline.{listed_text, outlined_at, outline_text}
use Rattle.report.proofs.Rows.{activities_in, outline_in, points_in_lem}
use Rattle.report.proofs.Stretches.{few_points}
use Rattle.format.specs.Position.{Pos, refused}
use Rattle.format.specs.Refusals.{reason_number}
use Rattle.answers.specs.Reply.{Reply}
use Rattle.format.specs.declared.Refusal.{Refusal}

is_date_lem : (d : ℕ) → 10957 ≤ d → d ≤ 47481 → is_date d ≡ true
unfolding is_date
is_date_lem d h l = ap₂ ◌&&◌ (le-leb 10957 d h) (le-leb d 47481 l)

asked_is_date : (o : Option ℕ) → Given IsDate o → is_date (asked_at o) ≡ true
asked_is_date None r = is_date_lem 47481 (omega arith) (omega arith)
asked_is_date (Some d) r = is_date_lem d r.first r.last

asked_in_range : (s : List ℕ) → format.Accepted s → is_date (asked_at (content s).data_date) ≡ true
asked_in_range s w = asked_is_date (content s).data_date (content_in_range s w).data_date

-- a call that no accepted book refuses is refused where the book is, as it is
refused_not : {A : Type 0} (e : Refusal) (n : ℕ) → ◌≡◌ {A = Reply} (Err e) (Ok n) → A
refused_not e n h = let z : ◌≡◌ {A = ℕ} 0 1 = cc in absurd (omega arith)

book_refuses :
    (conditions : List Condition) (rows : Book → Rows) (s : List ℕ) (lent : ℕ) → ((j : ℕ) → verdict s ≡ Ok j → IsAccepted (reply conditions rows s lent)) →
    {e : Refusal} → reply conditions rows s lent ≡ Err e → verdict s ≡ Err e
unfolding reply reply_number reply_place
book_refuses conditions rows s lent sure {e} r = go (verdict s) refl r
  where
    go : (q : Pos) → verdict s ≡ q → reply_at q (checked conditions (content s) (fitted (rows (content s)) lent)) ≡ Err e → verdict s ≡ Err e
    go (Ok j) v h = let a = sure j v in refused_not e a.0 (sym r ∙ a.1)
    go (Err f) v h = v ∙ h

-- ---- earned value
module _ (s : List ℕ) (bytes : Bytes s) {day : ℕ} (asked : day ≡ asked_at (content s).data_date) {out after : List ℕ} {r : Reply} where
  module _ (a : Answers (at_date day) (earned_value_rows day) s out r after) (size : length out ≡ 500 * earned_width) where
    -- where the call is accepted, there is a row for each activity
    pub earned_in_lem : {count : ℕ} → length after ≡ 500 * earned_width → r ≡ Ok count → EarnedIn s day count after
    earned_in_lem {count} kept e =
        let answer = sym a.answer ∙ e in
        let j = accepted_book (at_date day) (earned_value_rows day) s out answer in
        let w = verdict_accepts s bytes j.0 j.1 in
        let many : count ≡ length (content s).activities = accepted_count (at_date day) (earned_value_rows day) s out answer ∙ (values_sized day (content s) (length (content s).activities) refl).many in
        record {
          accepted = w;
          asked = asked;
          few = omega (arith, many, (content_limits s w).activities);
          room = omega (arith, many, (content_limits s w).activities, kept);
          lines =
              ap₂ activity_lines (a.lent ∙ accepted_lent (at_date day) (earned_value_rows day) s out answer) (many ∙ sym (parents_count (content s)))
              ∙ activities_in (content s) day (drop (length (numbers (earned_value_rows day (content s)))) out);
        }

    -- it is refused where the book is
    pub earned_refused : {e : Refusal} → r ≡ Err e → verdict s ≡ Err e
    earned_refused e =
        book_refuses (at_date day) (earned_value_rows day) s (length out)
        (λ j v.
        let w = verdict_accepts s bytes j v in
        accepted_call (at_date day) (earned_value_rows day) s (length out) v (met (ap is_date asked ∙ asked_in_range s w) none_asked)
        (omega (arith, (values_sized day (content s) (length (content s).activities) refl).long, (content_limits s w).activities, size)))
        (sym a.answer ∙ e)

-- ---- the outline
module _ (s : List ℕ) (bytes : Bytes s) {day : ℕ} (asked : day ≡ asked_at (content s).data_date) {out after : List ℕ} {r : Reply}
    (a : Answers (at_date day) (outline_rows day) s out r after) where
  abbrev listed : ℕ
  listed = length (outline (parents (content s)))

  few_lines : {j : ℕ} → verdict s ≡ Ok j → listed ≤ 500
  few_lines {j} v = omega (arith, (outline_is (parents (content s))).room, parents_count (content s), (content_limits s (verdict_accepts s bytes j v)).activities)

  -- where the call is accepted, there is a row for each line
  module _ {count : ℕ} (e : r ≡ Ok count) where
    outlined : reply (at_date day) (outline_rows day) s (length out) ≡ Ok count
    outlined = sym a.answer ∙ e

    all : count ≡ listed
    all = accepted_count (at_date day) (outline_rows day) s out outlined ∙ (outline_sized day (content s) listed refl).many

    pub outline_few : count ≤ 500
    outline_few = omega (arith, all, few_lines (accepted_book (at_date day) (outline_rows day) s out outlined).1)

    pub outline_room : length after ≡ 500 * outline_width → count * outline_width ≤ length after
    outline_room kept = omega (arith, outline_few, kept)

    pub outline_lines_lem : outline_lines after count ≡ outline_text s
    unfolding outline_text
    outline_lines_lem =
        ap₂ outline_lines (a.lent ∙ accepted_lent (at_date day) (outline_rows day) s out outlined) all
        ∙ outline_in (content s) day (drop (length (numbers (outline_rows day (content s)))) out)
        ∙ ap (listed_text (content s)) asked
        ∙ ap (λ (p : Pos). outlined_at p (content s)) (sym (accepted_book (at_date day) (outline_rows day) s out outlined).1)

  -- it is refused where the book is
  pub outline_refused : length out ≡ 500 * outline_width → {e : Refusal} → r ≡ Err e → refusal_line (reason_number e.reason) e.place ≡ outline_text s
  unfolding outline_text
  outline_refused size e =
      ap (λ (p : Pos). outlined_at p (content s))
      (sym
      (book_refuses (at_date day) (outline_rows day) s (length out)
      (λ j v.
      accepted_call (at_date day) (outline_rows day) s (length out) v (met (ap is_date asked ∙ asked_in_range s (verdict_accepts s bytes j v)) none_asked)
      (omega (arith, (outline_sized day (content s) listed refl).long, few_lines v, size)))
      (sym a.answer ∙ e)))

-- the project's row, where just its numbers are lent
pub project_row :
    (s : List ℕ) → format.Accepted s → (day : ℕ) → day ≡ asked_at (content s).data_date → {out after : List ℕ} {r : Reply} → length out ≡ earned_width →
    Answers (at_date day) (project_earned_rows day) s out r after → after ≡ earned_row (project_earned (content s) day)
unfolding project_earned_rows earned_row
project_row s w day d {out} l a =
    let row = earned_row (project_earned (content s) day) in
    let size = (project_sized day (content s)).long in
    let sure = accepted_call (at_date day) (project_earned_rows day) s (length out) w.whole (met (ap is_date d ∙ asked_in_range s w) none_asked) (omega (arith, size, l)) in
    a.lent
    ∙ accepted_lent (at_date day) (project_earned_rows day) s out sure.1
    ∙ ap₂ ◌++◌ (one_numbers row) (drop_of_length-le out {i = length (numbers (row ∷ []))} (omega (arith, size, l)))
    ∙ append-nil row

-- ---- the curve between two dates
curve_sized : (book : Book) (from to : ℕ) → Sized (planned_curve_rows from to book) (length (planned_curve_between book from to)) 2
unfolding planned_curve_rows
curve_sized book from to = sized point_row 2 (λ x. refl) (planned_curve_between book from to) (length (planned_curve_between book from to)) refl

module _ (s : List ℕ) (from to : ℕ) {out after : List ℕ} {r : Reply} (a : Answers (between from to) (planned_curve_rows from to) s out r after) where
  -- where the call is accepted, there is at most a point for each date
  module _ {count : ℕ} (e : r ≡ Ok count) where
    answer : reply (between from to) (planned_curve_rows from to) s (length out) ≡ Ok count
    answer = sym a.answer ∙ e

    many : count ≡ length (planned_curve_between (content s) from to)
    many = accepted_count (between from to) (planned_curve_rows from to) s out answer ∙ (curve_sized (content s) from to).many

    pub curve_few : count ≤ to + 1 - from
    curve_few = omega (arith, many, few_points (content s) from to)

    pub curve_accepted : (j : ℕ) × (verdict s ≡ Ok j)
    curve_accepted = accepted_book (between from to) (planned_curve_rows from to) s out answer

    pub curve_lines : point_lines after count ≡ curve_text (content s) from to
    unfolding planned_curve_rows curve_text
    curve_lines =
        ap₂ point_lines (a.lent ∙ accepted_lent (between from to) (planned_curve_rows from to) s out answer) many
        ∙ points_in_lem (planned_curve_between (content s) from to) (drop (length (numbers (planned_curve_rows from to (content s)))) out)

  -- it is refused where the book is
  pub curve_refused : 10957 ≤ from → to ≤ 47481 → from ≤ to → (to + 1 - from) * 2 ≤ length out → {e : Refusal} → r ≡ Err e → verdict s ≡ Err e
  curve_refused f t order room e =
      book_refuses (between from to) (planned_curve_rows from to) s (length out)
      (λ j v.
      accepted_call (between from to) (planned_curve_rows from to) s (length out) v (met (is_date_lem from f (omega arith)) (met (is_date_lem to (omega arith) t) none_asked))
      (omega (arith, (curve_sized (content s) from to).long, few_points (content s) from to, room)))
      (sym a.answer ∙ e)
