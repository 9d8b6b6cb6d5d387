-- Each figure of a row, as of a cost, is rolled up by itself.
use Prim.Native.Nat.{ℕ, ◌<◌}
use mathlib.Core.Path.{◌≡◌, refl, ap, ap₂, ◌∙◌}
use mathlib.Core.List.{List, [], ◌∷◌, ◌++◌, map, flat_map, foldl, map-append, map-map, Memᴰ}
use native.Mathlib.Omega.{arith}
use lib.Dec.{eqb}
use lib.IntN.{ℤ}
use lib.ListN.{length}
use Rattle.lists.specs.Lists.{keep}
use Rattle.model.specs.Tree.{Parents, indices, walk_up, brought, roll_up}
use Rattle.lists.proofs.Spans.{span_in_lem}
use Rattle.tree.specs.Figures.{saturating_add}

module _ {Row : Type 0} (add : Row → Row → Row) (f : Row → ℤ) (g : (a b : Row) → f (add a b) ≡ saturating_add (f a) (f b)) where
  figure_folded : (a : Row) (rows : List Row) → f (foldl add a rows) ≡ foldl saturating_add (f a) (map f rows)
  figure_folded a [] = refl
  figure_folded a (b ∷ rows) = figure_folded (add a b) rows ∙ ap (λ (s : ℤ). foldl saturating_add s (map f rows)) (g a b)

  module _ (ps : Parents) (rows : ℕ → Row) (own : ℕ → ℤ) (p : ℕ) where
    figure_brought : (is : List ℕ) → ((i : ℕ) → Memᴰ i is → f (rows i) ≡ own i) → map f (flat_map (brought add ps rows p) is) ≡ flat_map (brought saturating_add ps own p) is
    unfolding flat_map brought
    figure_brought [] h = refl
    figure_brought (i ∷ is) h =
        let steps = keep (eqb p) (walk_up ps i) in
        map-append f (brought add ps rows p i) (flat_map (brought add ps rows p) is)
        ∙ ap₂ ◌++◌ (map-map f (λ (q : ℕ). rows i) steps ∙ ap (λ (x : ℤ). map (λ (q : ℕ). x) steps) (h i (Memᴰ.head refl))) (figure_brought is (λ j m. h j (Memᴰ.tail m)))

    -- what the rows and figures of no activity are does not matter
    pub figure_rolled : ((i : ℕ) → i < length ps → f (rows i) ≡ own i) → f (rows p) ≡ own p → f (roll_up add ps rows p) ≡ roll_up saturating_add ps own p
    unfolding roll_up
    figure_rolled h e =
        figure_folded (rows p) (flat_map (brought add ps rows p) (indices ps))
        ∙ ap₂ (foldl saturating_add) e (figure_brought (indices ps) (λ i m. h i (omega (arith, span_in_lem 0 (length ps) i m))))
