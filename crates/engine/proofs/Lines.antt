-- The outline over lent memory: what is read there are the outline's lines and the rows of earned value.
use Rattle.std.specs.Prelude.{Ok}
use Prim.Native.Nat.{ℕ, suc, ◌+◌, ◌*◌, ◌≤◌, ◌<◌}
use mathlib.Core.Path.{◌≡◌, refl, sym, ap, ap₂, ◌∙◌, subst}
use mathlib.Core.Bool.{true}
use mathlib.Core.List.{List, ◌∷◌, map}
use native.Mathlib.Omega.{arith}
use lib.ListN.{length, get_or, length-map}
use Rattle.lists.specs.Lists.{span}
use Rattle.lists.proofs.Lists.{map_same}
use Rattle.lists.proofs.Spans.{span_in_lem, elements, made_at, made_length}
use Rattle.format.specs.Bytes.{Bytes}
use Rattle.format.specs.Verdict.{verdict, content}
use Rattle.format.proofs.Theorems.{content_in_range, verdict_accepts}
use Rattle.model.specs.declared.Earned.{Earned}
use Rattle.model.specs.Tree.{parents}
use Rattle.model.specs.Outline.{Line, line, outline, line_at, IsOutlineOf}
use Rattle.model.specs.Earned.{earned_at, earned_value}
use Rattle.model.proofs.Outline.{outline_is, line_inside, parents_inside}
use Rattle.answers.specs.Rows.{earned_width, earned_row, earned_value_rows, outline_width, outline_row, outline_rows}
use Rattle.answers.specs.Calls.{is_date, reply_place}
use Rattle.answers.proofs.Replies.{met, none_asked}
use Rattle.answers.proofs.SizedEarned.{row_wide, values_sized, line_wide, outline_sized}
use Rattle.answers.proofs.Accepted.{accepted_book, accepted_count, accepted_lent, number_is}
use Rattle.engine.specs.Demand.{number_at, IsAccepted, at_date}
use Rattle.engine.specs.Lines.{outline_reply, outline_left, value_reply, value_left, lent_lines, OutlineLent}
use Rattle.engine.proofs.Demand.{accepted_call}

module _ (s : List ℕ) (date : ℕ) (lent : List ℕ) (a : IsAccepted (outline_reply s date lent)) where
  abbrev lines : List Line
  lines = outline (parents (content s))

  -- number k of row r
  number_read : (r k : ℕ) → r < length lines → k < outline_width → number_at outline_width (outline_left s date lent) r k ≡ get_or (outline_row date (content s) (line_at lines r)) k 0
  unfolding outline_rows
  number_read r k h l =
      ap (λ (out : List ℕ). number_at outline_width out r k) (accepted_lent (at_date date) (outline_rows date) s lent a.1)
      ∙ number_is outline_width (outline_row date (content s)) (line_wide date (content s)) lines (line 0 0) _ r k h l

  count_read : reply_place (outline_reply s date lent) ≡ length lines
  unfolding reply_place outline_rows
  count_read = ap reply_place a.1 ∙ accepted_count (at_date date) (outline_rows date) s lent a.1 ∙ length-map lines (outline_row date (content s))

  pub lines_read : lent_lines s date lent ≡ lines
  unfolding outline_row
  lines_read =
      let at : ℕ → Line = λ r. line (number_at outline_width (outline_left s date lent) r 0) (number_at outline_width (outline_left s date lent) r 1) in
      ap (λ (n : ℕ). map at (span 0 n)) count_read
      ∙ map_same at (line_at lines) (span 0 (length lines)) (λ r m. let h = span_in_lem 0 (length lines) r m in ap₂ line (number_read r 0 (omega arith) (omega arith)) (number_read r 1 (omega arith) (omega arith)))
      ∙ elements lines (line 0 0)

-- number k of row i of earned value
value_read :
    (s : List ℕ) (date : ℕ) (lent : List ℕ) → IsAccepted (value_reply s date lent) → (i k : ℕ) → i < length (parents (content s)) → k < earned_width →
    number_at earned_width (value_left s date lent) i k ≡ get_or (earned_row (earned_at (content s) date i)) k 0
unfolding earned_value_rows earned_value
value_read s date lent a i k h l =
    let row : ℕ → Earned = earned_at (content s) date in
    let n = length (parents (content s)) in
    ap (λ (out : List ℕ). number_at earned_width out i k) (accepted_lent (at_date date) (earned_value_rows date) s lent a.1)
    ∙ number_is earned_width earned_row row_wide (earned_value (content s) date) (row 0) _ i k (omega (arith, made_length row n)) l
    ∙ ap (λ (e : Earned). get_or (earned_row e) k 0) (made_at row (row 0) n i h)

behind_two : (x y : ℕ) (xs : List ℕ) (k : ℕ) → get_or (x ∷ y ∷ xs) (2 + k) 0 ≡ get_or xs k 0
behind_two x y xs k =
    let e : 2 + k ≡ suc (suc k) = omega arith in
    ap (λ (n : ℕ). get_or (x ∷ y ∷ xs) n 0) e

-- ---- the theorem: after both calls, accepted, on any bytes
pub outline_lent :
    (s : List ℕ) → Bytes s → (date : ℕ) (lent values : List ℕ) → IsAccepted (outline_reply s date lent) → IsAccepted (value_reply s date values) → OutlineLent s date lent values
unfolding outline_row
outline_lent s bytes date lent values a v =
    let ps = parents (content s) in
    let j = accepted_book (at_date date) (outline_rows date) s lent a.1 in
    let same = lines_read s date lent a in
    let here : (r : ℕ) → r < length (lent_lines s date lent) → r < length (outline ps) = λ r h. subst (λ (xs : List Line). r < length xs) same h in
    record {
      outlined = subst (IsOutlineOf ps) (sym same) (outline_is ps);
      inside = parents_inside (content s) (content_in_range s (verdict_accepts s bytes j.0 j.1));
      figures =
          λ r k h l.
          number_read s date lent a r (2 + k) (here r h) (omega arith)
          ∙ behind_two (line_at (outline ps) r).level (line_at (outline ps) r).index (earned_row (earned_at (content s) date (line_at (outline ps) r).index)) k
          ∙ sym (value_read s date values v (line_at (outline ps) r).index k (line_inside ps r (here r h)) l)
          ∙ ap (λ (xs : List Line). number_at earned_width (value_left s date values) (line_at xs r).index k) (sym same);
    }

-- both calls are accepted on every accepted book, with a date in range and enough lent
module _ (s : List ℕ) {j : ℕ} (v : verdict s ≡ Ok j) (date : ℕ) (d : is_date date ≡ true) where
  pub outline_accepted : (lent : List ℕ) → length (outline (parents (content s))) * outline_width ≤ length lent → IsAccepted (outline_reply s date lent)
  outline_accepted lent room =
      accepted_call (at_date date) (outline_rows date) s (length lent) v (met d none_asked) (omega (arith, (outline_sized date (content s) (length (outline (parents (content s)))) refl).long, room))

  pub value_accepted : (lent : List ℕ) → length (content s).activities * earned_width ≤ length lent → IsAccepted (value_reply s date lent)
  value_accepted lent room =
      accepted_call (at_date date) (earned_value_rows date) s (length lent) v (met d none_asked) (omega (arith, (values_sized date (content s) (length (content s).activities) refl).long, room))
