-- Lines put one behind the other, and the rows in lent memory that they are of. Assumes nothing.
use Prim.Native.Nat.{ℕ, suc, ◌+◌, ◌*◌, ◌-◌, ◌≤◌, ◌<◌}
use native.Mathlib.Omega.{arith}
use native.Mathlib.Numerals.{add-one}
use mathlib.Core.Path.{◌≡◌, refl, sym, ap, ap₂, ◌∙◌}
use mathlib.Core.List.{List, [], ◌++◌, map, flat_map, append_assoc, append-nil}
use lib.IntN.{pos}
use lib.ListN.{length, get_or, take, drop, length-drop}
use lib.Seq.{drop-append-le, drop-cons, drop-drop, get_or-drop, take_at, take_all, ext_get_or}
use Rattle.lists.specs.Lists.{span}
use Rattle.lists.proofs.Spans.{span_in_lem, made_at, made_length, elements}
use Rattle.flat.proofs.Cells.{row_inside}
use Rattle.flat.proofs.Tables.{flat_same, flat_map_map, flat_length, flat_drop}
use Rattle.format.specs.Book.{Book}
use Rattle.rows.specs.Rows.{numbers}
use Rattle.rows.proofs.Numbers.{numbers_flat}
use Rattle.model.specs.Amounts.{Dated, on}
use Rattle.model.specs.Tree.{parents, indices}
use Rattle.model.specs.Outline.{Line, outline, line_at}
use Rattle.model.specs.Outline as model
use Rattle.model.specs.Earned.{earned_at, earned_value}
use Rattle.answers.specs.Rows.{point_row, earned_width, earned_row, earned_value_rows, outline_width, outline_row, outline_rows}
use Rattle.answers.proofs.SizedEarned.{row_wide, line_wide}
use Rattle.text.specs.Text.{decimal, pair, line}
use Rattle.text.proofs.Spelling.{same, both}
use Rattle.report.specs.Lines.{earned_line, outline_row_line, point_line, activity_line_in, outline_line_in, point_line_in, activity_lines, outline_lines, point_lines}
use Rattle.report.specs.Status.{activity_line, curve_line}
use Rattle.report.specs.Outline.{outline_line, listed_text}

-- ---- one line more, and all of them
module _ (line_at : ℕ → List ℕ) (n : ℕ) where
  -- those from i on
  abbrev pub lines_from : ℕ → List ℕ
  lines_from i = flat_map line_at (span i (n - i))

  pub lines_all : lines_from 0 ≡ flat_map line_at (span 0 n)
  lines_all = let all : n - 0 ≡ n = omega arith in ap (λ (k : ℕ). flat_map line_at (span 0 k)) all

  pub lines_next : (i : ℕ) → i < n → (xs : List ℕ) {ys : List ℕ} → ys ≡ xs ++ line_at i → ys ++ lines_from (i + 1) ≡ xs ++ lines_from i
  unfolding flat_map span
  lines_next i h xs {ys} e =
      let left : n - i ≡ suc (n - (i + 1)) = omega arith in
      ap (λ (z : List ℕ). z ++ lines_from (i + 1)) e
      ∙ append_assoc xs (line_at i) (lines_from (i + 1))
      ∙ ap (λ (k : ℕ). xs ++ (line_at i ++ flat_map line_at (span k (n - (i + 1))))) (add-one i)
      ∙ ap (λ (k : ℕ). xs ++ flat_map line_at (span i k)) (sym left)

  pub lines_end : (i : ℕ) → n ≤ i → (xs : List ℕ) → xs ++ lines_from i ≡ xs
  unfolding flat_map span
  lines_end i h xs = let none : n - i ≡ 0 = omega arith in ap (λ (k : ℕ). xs ++ flat_map line_at (span i k)) none ∙ append-nil xs

-- a part of so many numbers
part_of : (xs : List ℕ) (a n end : ℕ) → end ≡ a + n → take (end - a) (drop a xs) ≡ take n (drop a xs)
part_of xs a n end h = let e : end - a ≡ n = omega arith in ap (λ (k : ℕ). take k (drop a xs)) e

-- ---- lines as they are put behind others

-- what leads a line, and the columns behind it
pub led : (head row xs : List ℕ) {ys zs : List ℕ} → ys ≡ xs ++ head → zs ≡ ys ++ earned_line [] row → zs ≡ xs ++ earned_line head row
unfolding earned_line
led head row xs e f = both xs head (earned_line [] row) e f

-- the columns of a row of the outline, behind its level and its index
pub outline_led :
    (row xs : List ℕ) {ys zs : List ℕ} → ys ≡ xs ++ pair (get_or row 0 0) (get_or row 1 0) → zs ≡ ys ++ earned_line [] (take (length row - 2) (drop 2 row)) → zs ≡ xs ++ outline_row_line row
unfolding outline_row_line
outline_led row xs {ys = ys} e f =
    let all : take (length row - 2) (drop 2 row) ≡ drop 2 row = take_all (length row - 2) (drop 2 row) (omega (arith, length-drop 2 row)) in
    led (pair (get_or row 0 0) (get_or row 1 0)) (drop 2 row) xs e (same ys f (ap (earned_line []) all))

pub activity_put :
    (lent : List ℕ) (i : ℕ) (xs : List ℕ) {ys : List ℕ} →
    ys ≡ xs ++ earned_line (decimal i) (take (i * earned_width + earned_width - i * earned_width) (drop (i * earned_width) lent)) → ys ≡ xs ++ activity_line_in lent i
activity_put lent i xs e = same xs e (ap (earned_line (decimal i)) (part_of lent (i * earned_width) earned_width (i * earned_width + earned_width) refl))

pub outline_put :
    (lent : List ℕ) (i : ℕ) (xs : List ℕ) {ys : List ℕ} →
    ys ≡ xs ++ outline_row_line (take (i * outline_width + outline_width - i * outline_width) (drop (i * outline_width) lent)) → ys ≡ xs ++ outline_line_in lent i
outline_put lent i xs e = same xs e (ap outline_row_line (part_of lent (i * outline_width) outline_width (i * outline_width + outline_width) refl))

pub point_put :
    (lent : List ℕ) (i : ℕ) (xs : List ℕ) {ys : List ℕ} →
    ys ≡ xs ++ line (decimal (get_or lent (i * 2) 0)) (take (i * 2 + 2 - (i * 2 + 1)) (drop (i * 2 + 1) lent)) → ys ≡ xs ++ point_line_in lent i
unfolding point_line
point_put lent i xs e = same xs e (ap (line (decimal (get_or lent (i * 2) 0))) (part_of lent (i * 2 + 1) 1 (i * 2 + 2) (omega arith)))

-- ---- rows of a width, in front of other numbers: from row i on
row_on :
    {A : Type 0} (width : ℕ) (row : A → List ℕ) → ((x : A) → length (row x) ≡ width) → (xs : List A) (d : A) (rest : List ℕ) (i : ℕ) → i < length xs →
    drop (i * width) (numbers (map row xs) ++ rest) ≡ row (get_or xs i d) ++ (flat_map row (drop (suc i) xs) ++ rest)
unfolding flat_map
row_on width row wide xs d rest i h =
    let inside : i * width ≤ length (flat_map row xs) = omega (arith, flat_length width row wide xs, row_inside width h) in
    ap (λ (l : List ℕ). drop (i * width) (l ++ rest)) (numbers_flat row xs)
    ∙ drop-append-le (i * width) (flat_map row xs) rest inside
    ∙ ap (λ (l : List ℕ). l ++ rest) (flat_drop width row wide xs i ∙ ap (flat_map row) (drop-cons xs i d h))
    ∙ append_assoc (row (get_or xs i d)) (flat_map row (drop (suc i) xs)) rest

-- the lines of the rows of `earned_value` are those of the activities
pub activities_in :
    (book : Book) (date : ℕ) (rest : List ℕ) →
    activity_lines (numbers (earned_value_rows date book) ++ rest) (length (parents book)) ≡ flat_map (activity_line book date) (indices (parents book))
unfolding activity_lines activity_line earned_value_rows earned_value
activities_in book date rest = flat_same _ _ (span 0 n) (λ i m. ap (earned_line (decimal i)) (at i (span_in_lem 0 n i m).1))
  where
    n : ℕ
    n = length (parents book)

    at : (i : ℕ) → i < 0 + n → take earned_width (drop (i * earned_width) (numbers (earned_value_rows date book) ++ rest)) ≡ earned_row (earned_at book date i)
    at i h =
        let es = map (earned_at book date) (span 0 n) in
        let x = get_or es i (earned_at book date 0) in
        ap (take earned_width) (row_on earned_width earned_row row_wide es (earned_at book date 0) rest i (omega (arith, made_length (earned_at book date) n)))
        ∙ take_at (earned_row x) (flat_map earned_row (drop (suc i) es) ++ rest) earned_width (row_wide x)
        ∙ ap earned_row (made_at (earned_at book date) (earned_at book date 0) n i (omega arith))

row_line : (book : Book) (date : ℕ) (x : Line) → outline_row_line (outline_row date book x) ≡ outline_line book date x
unfolding outline_row_line outline_row outline_line
row_line book date x = refl

-- those of the rows of `outline` are the outline's
pub outline_in :
    (book : Book) (date : ℕ) (rest : List ℕ) → outline_lines (numbers (outline_rows date book) ++ rest) (length (outline (parents book))) ≡ listed_text book date
unfolding outline_lines listed_text outline_rows
outline_in book date rest =
    flat_same (outline_line_in lent) (λ k. outline_line book date (line_at xs k)) (span 0 (length xs)) (λ k m. at k (span_in_lem 0 (length xs) k m).1)
    ∙ sym (flat_map_map (outline_line book date) (line_at xs) (span 0 (length xs)))
    ∙ ap (flat_map (outline_line book date)) (elements xs (model.line 0 0))
  where
    xs : List Line
    xs = outline (parents book)

    lent : List ℕ
    lent = numbers (map (outline_row date book) xs) ++ rest

    at : (k : ℕ) → k < 0 + length xs → outline_line_in lent k ≡ outline_line book date (line_at xs k)
    at k h =
        let x = line_at xs k in
        ap outline_row_line
        (ap (take outline_width) (row_on outline_width (outline_row date book) (line_wide date book) xs (model.line 0 0) rest k (omega arith)) ∙ take_at (outline_row date book x) _ outline_width (line_wide date book x))
        ∙ row_line book date x

-- and those of points in lent memory are the points'
pub points_in_lem :
    (points : List Dated) (rest : List ℕ) →
    point_lines (numbers (map point_row points) ++ rest) (length points) ≡ flat_map curve_line points
unfolding point_lines
points_in_lem points rest =
    flat_same (point_line_in lent) (λ i. curve_line (point i)) (span 0 n) (λ i m. at i (span_in_lem 0 n i m).1)
    ∙ sym (flat_map_map curve_line point (span 0 n))
    ∙ ap (flat_map curve_line) (ext_get_or none (map point (span 0 n)) points (made_length point n) (λ i h. made_at point none n i (omega (arith, made_length point n))))
  where
    none : Dated
    none = on 0 (pos 0)

    n : ℕ
    n = length points

    lent : List ℕ
    lent = numbers (map point_row points) ++ rest

    point : ℕ → Dated
    point i = get_or points i none

    at : (i : ℕ) → i < 0 + n → point_line_in lent i ≡ curve_line (point i)
    at i h =
        let on-from = row_on 2 point_row (λ x. refl) points none rest i (omega arith) in
        let place : i * 2 ≡ i * 2 + 0 = omega arith in
        ap₂ point_line (ap (λ (k : ℕ). get_or lent k 0) place ∙ sym (get_or-drop (i * 2) lent 0 0) ∙ ap (λ (l : List ℕ). get_or l 0 0) on-from)
        (ap (take 1) (sym (drop-drop 1 (i * 2) lent)) ∙ ap (λ (l : List ℕ). take 1 (drop 1 l)) on-from)
