-- The client's third demand over lent memory: what is read there are the definitions' figures, so the sentences hold of it.
use Rattle.std.specs.Prelude.{Ok}
use Prim.Native.Nat.{ℕ, ◌≤◌, ◌<◌}
use mathlib.Core.Path.{◌≡◌, refl, ap, ap₂, ◌∙◌}
use mathlib.Core.Bool.{Bool, true, cond}
use mathlib.Core.List.{List, [], ◌∷◌, ◌++◌, map, Memᴰ}
use native.Mathlib.Omega.{arith}
use lib.IntN.{ℤ, pos}
use lib.ListN.{length, get_or, length-map}
use lib.Seq.{ext_get_or}
use borrow.Author.Tests.{le-leb}
use mir.Syntax.{w64}
use mir.Val.{SFits}
use Rattle.money.specs.Words.{bits, of_bits}
use Rattle.format.specs.Book.{Book}
use Rattle.format.specs.Bytes.{Bytes}
use Rattle.format.specs.Verdict.{verdict, content}
use Rattle.format.specs.InRange.{InRange}
use Rattle.format.proofs.Theorems.{content_in_range, verdict_accepts}
use Rattle.rows.specs.Rows.{numbers}
use Rattle.lists.proofs.Spans.{made_length, made_at}
use Rattle.model.specs.declared.Earned.{Earned}
use Rattle.lists.specs.Lists.{span}
use Rattle.model.specs.Amounts.{Dated, on}
use Rattle.model.specs.Tree.{parents}
use Rattle.model.specs.Planned.{planned_curve_between}
use Rattle.model.specs.Earned.{earned_at, earned_value, project_earned}
use Rattle.model.specs.Demand.{NoOwnAncestor, SmallBudgets, PlannedValue}
use Rattle.lists.proofs.Lists.{got_in}
use Rattle.model.proofs.EarnedValue.{earned_planned_fits, earned_budget_fits, project_planned_fits}
use Rattle.model.proofs.Curve.{curve_fits}
use Rattle.model.proofs.Demand.{Reads, planned_value_read}
use Rattle.model.proofs.Tree.{parents_count}
use Rattle.answers.specs.Rows.{Rows, point_row, earned_width, earned_row, earned_value_rows, project_earned_rows, planned_curve_rows}
use Rattle.answers.specs.Calls.{Condition, is_date, checked, Met, fitted, reply_at, reply_place, reply, left}
use Rattle.answers.proofs.Replies.{met, none_asked}
use Rattle.answers.proofs.Sized.{sized}
use Rattle.answers.proofs.SizedEarned.{row_wide, values_sized, project_sized}
use Rattle.answers.proofs.Accepted.{accepted_book, accepted_count, accepted_lent, number_is, figure_is}
use Rattle.format.specs.declared.Reason.TheVariants.{TooShort}
use Rattle.engine.specs.Demand.{number_at, point_in, LentAt, IsAccepted, at_date, between, earned_reply, project_reply, curve_reply, AllAccepted, HasRoom, HasCurveRoom, lent_reading, lent_curve}
use Rattle.format.specs.Position.{Pos, refused}

-- ---- the calls at a status date
module _ (s : List ℕ) (at : LentAt) (k : ℕ) (l : k < earned_width) (f : Earned → ℤ) (put : (e : Earned) → get_or (earned_row e) k 0 ≡ bits (f e)) where
  earned_read :
      IsAccepted (earned_reply s at) → (i : ℕ) → i < length (content s).activities → SFits w64 (f (earned_at (content s) at.date i)) →
      of_bits (number_at earned_width (left (at_date at.date) (earned_value_rows at.date) s at.earned) i k) ≡ f (earned_at (content s) at.date i)
  unfolding earned_value_rows earned_value
  earned_read a i h fits =
      let row : ℕ → Earned = earned_at (content s) at.date in
      let n = length (parents (content s)) in
      let here : i < n = omega (arith, parents_count (content s)) in
      ap (λ (out : List ℕ). of_bits (number_at earned_width out i k)) (accepted_lent (at_date at.date) (earned_value_rows at.date) s at.earned a.1)
      ∙ figure_is earned_width earned_row row_wide k l f put (earned_value (content s) at.date) (row 0) _ i (omega (arith, made_length row n)) (row i) (made_at row (row 0) n i here) fits

  project_read :
      IsAccepted (project_reply s at) → SFits w64 (f (project_earned (content s) at.date)) →
      of_bits (number_at earned_width (left (at_date at.date) (project_earned_rows at.date) s at.project) 0 k) ≡ f (project_earned (content s) at.date)
  unfolding project_earned_rows
  project_read a fits =
      let row = project_earned (content s) at.date in
      ap (λ (out : List ℕ). of_bits (number_at earned_width out 0 k)) (accepted_lent (at_date at.date) (project_earned_rows at.date) s at.project a.1)
      ∙ figure_is earned_width earned_row row_wide k l f put (row ∷ []) row _ 0 (omega arith) row refl fits

pub reads : (s : List ℕ) → InRange (content s) → (at : LentAt) → IsAccepted (earned_reply s at) → IsAccepted (project_reply s at) → Reads (content s) (lent_reading s at)
unfolding earned_row
reads s ok at a b = record {
  planned = λ i h. earned_read s at 1 (omega arith) (λ e. e.planned) (λ e. refl) a i h (earned_planned_fits (content s) at.date i);
  budget = λ i h. earned_read s at 0 (omega arith) (λ e. e.budget) (λ e. refl) a i h (earned_budget_fits (content s) at.date ok i);
  project = project_read s at 1 (omega arith) (λ e. e.planned) (λ e. refl) b (project_planned_fits (content s) at.date);
}

-- ---- the curve
points_back :
    (points : List Dated) (rest : List ℕ) → ((x : Dated) → Memᴰ x points → SFits w64 x.amount) →
    map (point_in (numbers (map point_row points) ++ rest)) (span 0 (length points)) ≡ points
points_back points rest fits = ext_get_or none (map (point_in out) (span 0 (length points))) points (made_length (point_in out) (length points)) at
  where
    none : Dated
    none = on 0 (pos 0)

    out : List ℕ
    out = numbers (map point_row points) ++ rest

    at : (i : ℕ) → i < length (map (point_in out) (span 0 (length points))) → get_or (map (point_in out) (span 0 (length points))) i none ≡ get_or points i none
    at i h =
        let x = get_or points i none in
        let here : i < length points = omega (arith, made_length (point_in out) (length points)) in
        made_at (point_in out) none (length points) i here
        ∙ ap₂ on (number_is 2 point_row (λ x. refl) points none rest i 0 here (omega arith))
        (figure_is 2 point_row (λ x. refl) 1 (omega arith) (λ x. x.amount) (λ x. refl) points none rest i here x refl (fits x (got_in points none i here)))

curve_read : (s : List ℕ) (to : ℕ) (lent : List ℕ) → IsAccepted (curve_reply s to lent) → lent_curve s to lent ≡ planned_curve_between (content s) 10957 to
unfolding planned_curve_rows reply_place
curve_read s to lent a =
    let points = planned_curve_between (content s) 10957 to in
    let count : reply_place (curve_reply s to lent) ≡ length points =
    ap reply_place a.1 ∙ accepted_count (between 10957 to) (planned_curve_rows 10957 to) s lent a.1 ∙ length-map points point_row in
    rw (count, accepted_lent (between 10957 to) (planned_curve_rows 10957 to) s lent a.1) (points_back points _ (curve_fits (content s) 10957 to))

-- ---- that the calls are accepted

-- a call on an accepted book, whose conditions hold and whose rows fit
pub accepted_call :
    (conditions : List Condition) (rows : Book → Rows) (s : List ℕ) (lent : ℕ) {j : ℕ} → verdict s ≡ Ok j → Met conditions (content s) →
    length (numbers (rows (content s))) ≤ lent → IsAccepted (reply conditions rows s lent)
unfolding reply fitted
accepted_call conditions rows s lent v m h =
    let n = length (rows (content s)) in (
      n,
      ap (λ (p : Pos). reply_at p (checked conditions (content s) (fitted (rows (content s)) lent))) v
          ∙ m.passes (fitted (rows (content s)) lent)
          ∙ ap (λ (b : Bool). cond b (Ok n) (refused TooShort 0)) (le-leb _ lent h),
    )

module _ (s : List ℕ) {j : ℕ} (v : verdict s ≡ Ok j) where
  dated : (date : ℕ) → is_date date ≡ true → Met (at_date date) (content s)
  dated date d = met d none_asked

  earned_accepted : (at : LentAt) → is_date at.date ≡ true → HasRoom s at → IsAccepted (earned_reply s at)
  earned_accepted at d room =
      let b = content s in
      accepted_call (at_date at.date) (earned_value_rows at.date) s (length at.earned) v (dated at.date d)
      (omega (arith, (values_sized at.date b (length b.activities) refl).long, room.for_activities))

  project_accepted : (at : LentAt) → is_date at.date ≡ true → HasRoom s at → IsAccepted (project_reply s at)
  project_accepted at d room =
      accepted_call (at_date at.date) (project_earned_rows at.date) s (length at.project) v (dated at.date d)
      (omega (arith, (project_sized at.date (content s)).long, room.for_project))

  curve_accepted : (to : ℕ) (lent : List ℕ) → is_date to ≡ true → HasCurveRoom s to lent → IsAccepted (curve_reply s to lent)
  unfolding planned_curve_rows is_date
  curve_accepted to lent d room =
      let points = planned_curve_between (content s) 10957 to in
      accepted_call (between 10957 to) (planned_curve_rows 10957 to) s (length lent) v (met refl (met d none_asked))
      (omega (arith, (sized point_row 2 (λ x. refl) points (length points) refl).long, room))

  -- all five, wherever the book is accepted, the dates are in range and what is lent is enough
  pub all_accepted :
      (D E : LentAt) (curve : List ℕ) → is_date D.date ≡ true → is_date E.date ≡ true → HasRoom s D → HasRoom s E → HasCurveRoom s E.date curve →
      AllAccepted s D E curve
  all_accepted D E curve d e roomD roomE roomCurve =
      record {
        earned_at_d = earned_accepted D d roomD;
        earned_at_e = earned_accepted E e roomE;
        project_at_d = project_accepted D d roomD;
        project_at_e = project_accepted E e roomE;
        curve_to_e = curve_accepted E.date curve e roomCurve;
      }

-- ---- the theorem

-- after accepted calls on any bytes, where no activity is its own ancestor and the leaf budgets read at D, signs dropped, add to at most 2^63 − 1
pub planned_value_lent :
    (s : List ℕ) → Bytes s → (D E : LentAt) (curve : List ℕ) → AllAccepted s D E curve →
    NoOwnAncestor (content s) → SmallBudgets (content s) (lent_reading s D) → D.date ≤ E.date →
    PlannedValue (content s) (lent_reading s D) (lent_reading s E) (lent_curve s E.date curve)
planned_value_lent s bytes D E curve a tree small order =
    let j = accepted_book (at_date D.date) (earned_value_rows D.date) s D.earned a.earned_at_d.1 in
    let w = verdict_accepts s bytes j.0 j.1 in
    let ok = content_in_range s w in
    rw (curve_read s E.date curve a.curve_to_e)
    (planned_value_read s w tree (lent_reading s D) (lent_reading s E) (reads s ok D a.earned_at_d a.project_at_d) (reads s ok E a.earned_at_e a.project_at_e) order small)

-- for every accepted book, with dates in range and enough lent
pub planned_value_accepted :
    (s : List ℕ) → Bytes s → {j : ℕ} → verdict s ≡ Ok j → (D E : LentAt) (curve : List ℕ) →
    is_date D.date ≡ true → is_date E.date ≡ true → HasRoom s D → HasRoom s E → HasCurveRoom s E.date curve →
    NoOwnAncestor (content s) → SmallBudgets (content s) (lent_reading s D) → D.date ≤ E.date →
    PlannedValue (content s) (lent_reading s D) (lent_reading s E) (lent_curve s E.date curve)
planned_value_accepted s bytes v D E curve d e roomD roomE roomCurve = planned_value_lent s bytes D E curve (all_accepted s v D E curve d e roomD roomE roomCurve)
