-- The rows of the lines that stand in a table are the outline's.
use Prim.Native.Nat.{ℕ, ◌*◌, ◌<◌}
use native.Mathlib.Omega.{arith}
use mathlib.Core.Path.{◌≡◌, refl, sym, ap, ap₂, ◌∙◌, subst}
use mathlib.Core.List.{List, ◌∷◌, flat_map}
use lib.IntN.{ℤ}
use lib.ListN.{length}
use Rattle.lists.specs.Lists.{span}
use Rattle.lists.proofs.Spans.{span_in_lem, elements}
use Rattle.flat.proofs.Tables.{flat_same, flat_map_map}
use Rattle.format.specs.Book.{Book}
use Rattle.model.specs.declared.Earned.{Earned}
use Rattle.model.specs.Tree.{Parents, parents}
use Rattle.model.specs.Outline.{line, outline, line_at}
use Rattle.model.proofs.Tree.{parents_count}
use Rattle.model.proofs.Outline.{outline_is, line_inside}
use Rattle.tree.specs.Figures.{parents_of}
use Rattle.tree.specs.Tables.{rolled_values}
use Rattle.tree.proofs.Walks.{count_is}
use Rattle.descent.specs.Links.{Stands}
use Rattle.rows.specs.Rows.{numbers}
use Rattle.rows.proofs.Numbers.{numbers_flat}
use Rattle.answers.specs.Rows.{earned_row, outline_row, outline_rows}
use Rattle.value.specs.Figures.{earned_in, outlined_in, HasFigures}
use Rattle.value.proofs.Reading.{rolled_read}

module _ (b : Book) (date : ℕ) {table : List ℤ} {lines : List ℕ} {count : ℕ} (s : Stands (outline (parents b)) count lines) (e : table ≡ rolled_values b date) where
  row_is : (k : ℕ) → k < count → outlined_in table lines k ≡ outline_row date b (line_at (outline (parents b)) k)
  unfolding outline_row
  row_is k h =
      let i = (line_at (outline (parents b)) k).index in
      let inside : i < length b.activities = omega (arith, line_inside (parents b) k (omega (arith, s.counted)), parents_count b) in
      ap₂ (λ (l j : ℕ). l ∷ j ∷ earned_row (earned_in table j)) (s.levels k h) (s.indexes k h)
      ∙ ap (λ (x : Earned). (line_at (outline (parents b)) k).level ∷ i ∷ earned_row x) (rolled_read b date (length b.activities) refl e i inside)

  pub rows_listed : flat_map (outlined_in table lines) (span 0 count) ≡ numbers (outline_rows date b)
  unfolding outline_rows
  rows_listed =
      let xs = outline (parents b) in
      flat_same (outlined_in table lines) (λ k. outline_row date b (line_at xs k)) (span 0 count) (λ k m. let h = span_in_lem 0 count k m in row_is k (omega arith))
      ∙ ap (λ (n : ℕ). flat_map (λ k. outline_row date b (line_at xs k)) (span 0 n)) s.counted
      ∙ sym (flat_map_map (outline_row date b) (line_at xs) (span 0 (length xs)))
      ∙ ap (flat_map (outline_row date b)) (elements xs (line 0 0))
      ∙ sym (numbers_flat (outline_row date b) xs)

-- the lines of the parents' outline stand within their table, and each has its figures
pub has_figures :
    (parents : List ℕ) {lines : List ℕ} {table : List ℤ} {count : ℕ} → Stands (outline (parents_of parents)) count lines → length table ≡ length parents * 5 → length lines ≡ length parents * 2 →
    HasFigures table lines count
has_figures parents s t l = record {
  most = omega (arith, s.counted, (outline_is (parents_of parents)).room, count_is parents);
  figured = λ k h. omega (arith, s.indexes k h, line_inside (parents_of parents) k (omega (arith, s.counted)), count_is parents);
}

pub same_outline : {ps qs : Parents} {lines : List ℕ} {count : ℕ} → ps ≡ qs → Stands (outline ps) count lines → Stands (outline qs) count lines
same_outline {lines = lines} {count = count} e s = subst (λ (ps : Parents). Stands (outline ps) count lines) e s
