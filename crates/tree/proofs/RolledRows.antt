-- A table rolled up: of rows that are made by index, and of the figures of rows of any type.
use Prim.Native.Nat.{ℕ, ◌<◌}
use mathlib.Core.Path.{◌≡◌, refl, sym, ap, ◌∙◌}
use mathlib.Core.List.{List, map, flat_map}
use native.Mathlib.Omega.{arith}
use lib.IntN.{ℤ, pos}
use lib.ListN.{length, get_or, length-map}
use lib.Seq.{ext_get_or}
use Rattle.flat.proofs.Tables.{flat_same}
use Rattle.lists.specs.Lists.{span}
use Rattle.model.specs.Tree.{roll_up}
use Rattle.lists.proofs.Spans.{span_in_lem, made_at, span_length}
use Rattle.lists.proofs.Lists.{map_same}
use Rattle.tree.specs.Figures.{parents_of, saturating_add, cell_of, rolled_rows}
use Rattle.tree.proofs.Walks.{count_is}
use Rattle.tree.proofs.Rows.{figure_rolled}
use Rattle.flat.proofs.Spans.{rows_at}

module _ (width : ℕ) (numbers : List ℕ) where
  -- figure j of row i of these rows
  pub rolled_rows_lem : (row : ℕ → List ℤ) → ((i : ℕ) → length (row i) ≡ width)
      → rolled_rows width numbers (flat_map row (span 0 (length numbers)))
      ≡ flat_map (λ (i : ℕ). map (λ (j : ℕ). roll_up saturating_add (parents_of numbers) (λ (m : ℕ). get_or (row m) j (pos 0)) i) (span 0 width)) (span 0 (length numbers))
  unfolding rolled_rows
  rolled_rows_lem row wide =
      let ps = parents_of numbers in
      let n = length numbers in
      let own = flat_map row (span 0 n) in
      let cell : (i j : ℕ) → i < n → j < width → cell_of width own j i ≡ get_or (row i) j (pos 0) = (λ i j h low. rows_at width row wide n i j (pos 0) h low) in
      ap (λ (k : ℕ). flat_map (λ (i : ℕ). map (λ (j : ℕ). roll_up saturating_add ps (cell_of width own j) i) (span 0 width)) (span 0 k)) (count_is numbers)
      ∙ flat_same _ _ (span 0 n)
      (λ i m. map_same _ _ (span 0 width)
      (λ j l.
      let low : j < width = omega (arith, span_in_lem 0 width j l) in
      figure_rolled saturating_add (λ (z : ℤ). z) (λ a b. refl) ps (cell_of width own j) (λ (k : ℕ). get_or (row k) j (pos 0)) i
      (λ k h. cell k j (omega (arith, count_is numbers)) low) (cell i j (omega (arith, span_in_lem 0 n i m)) low)))

  -- rows of any type whose figures are added each by itself
  module _ {Row : Type 0} (add : Row → Row → Row) (figures : Row → List ℤ) (wide : (r : Row) → length (figures r) ≡ width)
      (each : (j : ℕ) → j < width → (a b : Row) → get_or (figures (add a b)) j (pos 0) ≡ saturating_add (get_or (figures a) j (pos 0)) (get_or (figures b) j (pos 0))) where
    pub rolled_figures : (own : ℕ → Row)
        → rolled_rows width numbers (flat_map (λ (i : ℕ). figures (own i)) (span 0 (length numbers))) ≡ flat_map (λ (i : ℕ). figures (roll_up add (parents_of numbers) own i)) (span 0 (length numbers))
    rolled_figures own =
        let ps = parents_of numbers in
        rolled_rows_lem (λ (i : ℕ). figures (own i)) (λ i. wide (own i))
        ∙ flat_same _ _ (span 0 (length numbers)) (λ i m. same i)
      where
        figure : ℕ → ℕ → ℤ
        figure i j = roll_up saturating_add (parents_of numbers) (λ (m : ℕ). get_or (figures (own m)) j (pos 0)) i

        same : (i : ℕ) → map (figure i) (span 0 width) ≡ figures (roll_up add (parents_of numbers) own i)
        same i =
            let long : length (map (figure i) (span 0 width)) ≡ width = length-map (span 0 width) (figure i) ∙ span_length 0 width in
            ext_get_or (pos 0) _ _ (long ∙ sym (wide (roll_up add (parents_of numbers) own i)))
            (λ j l.
            let low : j < width = omega arith in
            made_at (figure i) (pos 0) width j low
            ∙ sym (figure_rolled add (λ (r : Row). get_or (figures r) j (pos 0)) (each j low) (parents_of numbers) own (λ (m : ℕ). get_or (figures (own m)) j (pos 0)) i (λ k h. refl) refl))
