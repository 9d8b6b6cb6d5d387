-- The outline of small trees, by computation. Then of every tree: what is in a branch, that no line is in it twice, and that each stands after its parent's.
use Rattle.std.specs.Prelude.{None, Option, Some}
use Prim.Native.Nat.{ℕ, zero, suc, ◌+◌, ◌<◌}
use mathlib.Core.Path.{◌≡◌, refl, sym, ap, ◌∙◌}
use mathlib.Core.Logic.{◌⊎◌, inl, inr, ⊎_elim}
use mathlib.Core.Bool.{true, false, true≢false}
use mathlib.Core.List.Memᴰ
use mathlib.Core.List.{List, [], ◌∷◌, ◌++◌, flat_map, Memᴰ}
use native.Mathlib.Omega.{arith}
use lib.ListN.{length}
use borrow.Author.Tests.{eqb-true, eq-eqb}
use Rattle.lists.specs.Lists.{any, span, keep}
use Rattle.lists.proofs.Spans.{in_span, span_in_lem}
use Rattle.lists.proofs.Lists.{keep_in, in_keep, flat_in}
use Rattle.lists.proofs.Distinct.{in_flat, Distinct, distinct_flat}
use Rattle.model.specs.Tree.{Parents, parent_of, indices, names, steps, walk, walk_up, is_below}
use Rattle.model.specs.Outline.{Line, line, is_none, tops, children, branch, branches, outline, line_at, Top}
use Rattle.model.proofs.Rising.{keep_rises, rising_distinct}
use Rattle.model.proofs.Tree.{has_parent}
use Rattle.model.proofs.Up.{onward, up, up_last}
use Rattle.lists.proofs.Options.{none_ne_some, some_injective}

-- ---- small trees
trees_outlined :
    -- `outline-order`: children that stand before their parents, a branch whole before the next one
    (outline (Some 3 ∷ None ∷ Some 3 ∷ None ∷ Some 0 ∷ []) ≡ line 1 1 ∷ line 1 3 ∷ line 2 0 ∷ line 3 4 ∷ line 2 2 ∷ [])
    -- `outline-chain`: as many levels as activities
    × (outline (Some 1 ∷ Some 2 ∷ None ∷ []) ≡ line 1 2 ∷ line 2 1 ∷ line 3 0 ∷ [])
    -- 1 and 2 are on a circle, 3 is its own parent, 4 hangs on the circle
    × (outline (None ∷ Some 2 ∷ Some 1 ∷ Some 3 ∷ Some 1 ∷ Some 0 ∷ []) ≡ line 1 0 ∷ line 2 5 ∷ [])
    -- tops alone, and no activity
    × (outline (None ∷ None ∷ None ∷ []) ≡ line 1 0 ∷ line 1 1 ∷ line 1 2 ∷ [])
    × (outline [] ≡ [])
unfolding outline branches branch tops children is_below walk_up walk steps any flat_map keep span
trees_outlined = (refl, refl, refl, refl, refl)

module _ (ps : Parents) where
  -- ---- tops and children
  pub child_of : (p c : ℕ) → Memᴰ c (children ps p) → parent_of ps c ≡ Some p
  unfolding children
  child_of p c m = go (parent_of ps c) (keep_in (λ i. names p (parent_of ps i)) c (indices ps) m).1
    where
      go : (o : Option ℕ) → names p o ≡ true → o ≡ Some p
      go None e = absurd (true≢false (sym e))
      go (Some q) e = ap Some (eqb-true q p e)

  pub in_children : (p c : ℕ) → parent_of ps c ≡ Some p → Memᴰ c (children ps p)
  unfolding children
  in_children p c e = in_keep (λ i. names p (parent_of ps i)) c (indices ps) (in_span 0 (length ps) c (omega arith) (omega (arith, has_parent ps c p e))) (ap (names p) e ∙ eq-eqb p p refl)

  pub top_of : (t : ℕ) → Memᴰ t (tops ps) → Top ps t
  unfolding tops
  top_of t m = let k = keep_in (λ i. is_none (parent_of ps i)) t (indices ps) m in (omega (arith, span_in_lem 0 (length ps) t k.0), go (parent_of ps t) k.1)
    where
      go : (o : Option ℕ) → is_none o ≡ true → o ≡ None
      go None e = refl
      go (Some q) e = absurd (true≢false (sym e))

  pub in_tops : (t : ℕ) → Top ps t → Memᴰ t (tops ps)
  unfolding tops
  in_tops t top = in_keep (λ i. is_none (parent_of ps i)) t (indices ps) (in_span 0 (length ps) t (omega arith) (omega (arith, top.0))) (ap is_none top.1)

  pub tops_distinct : Distinct (tops ps)
  unfolding tops
  tops_distinct = rising_distinct (tops ps) (keep_rises (λ i. is_none (parent_of ps i)) 0 (length ps))

  children_distinct : (p : ℕ) → Distinct (children ps p)
  unfolding children
  children_distinct p = rising_distinct (children ps p) (keep_rises (λ i. names p (parent_of ps i)) 0 (length ps))

  -- ---- what is in a branch: what stands that many steps below
  pub below_by : (left level r : ℕ) (x : Line) → Memᴰ x (branch (children ps) left level r) → (k : ℕ) × (k < left) × (x.level ≡ level + k) × (up ps k (Some x.index) ≡ Some r)
  unfolding branch up
  below_by zero level r x m = absurd (Memᴰ.not-nil m)
  below_by (suc left) level r x m = go (Memᴰ.cases_cons m) (below_by left (suc level))
    where
      go : (x ≡ line level r) ⊎ Memᴰ x (flat_map (branch (children ps) left (suc level)) (children ps r))
          → ((c : ℕ) (y : Line) → Memᴰ y (branch (children ps) left (suc level) c) → (k : ℕ) × (k < left) × (y.level ≡ suc level + k) × (up ps k (Some y.index) ≡ Some c))
          → (k : ℕ) × (k < suc left) × (x.level ≡ level + k) × (up ps k (Some x.index) ≡ Some r)
      go (inl e) ih = (0, omega arith, ap (λ (y : Line). y.level) e ∙ omega arith, ap (λ (y : Line). Some y.index) e)
      go (inr n) ih =
          let w = flat_in (branch (children ps) left (suc level)) x (children ps r) n in
          let v = ih w.0 x w.2 in
          (suc v.0, omega (arith, v.1), omega (arith, v.2), up_last ps v.0 (Some x.index) ∙ ap (onward ps) v.3 ∙ child_of r w.0 w.1)

  pub in_branch : (left k level l i r : ℕ) → k < left → l ≡ level + k → up ps k (Some i) ≡ Some r → Memᴰ (line l i) (branch (children ps) left level r)
  unfolding branch up
  in_branch zero k level l i r h e u = absurd (omega arith)
  in_branch (suc left) zero level l i r h e u =
      let s : l ≡ level = omega arith in
      Memᴰ.head (ap (λ (n : ℕ). line n i) s ∙ ap (line level) (some_injective i r u))
  in_branch (suc left) (suc k) level l i r h e u = Memᴰ.tail (go (up ps k (Some i)) refl (sym (up_last ps k (Some i)) ∙ u) (λ c. in_branch left k (suc level) l i c (omega arith) (omega arith)))
    where
      go : (o : Option ℕ) → up ps k (Some i) ≡ o → onward ps o ≡ Some r → ((c : ℕ) → up ps k (Some i) ≡ Some c → Memᴰ (line l i) (branch (children ps) left (suc level) c))
          → Memᴰ (line l i) (flat_map (branch (children ps) left (suc level)) (children ps r))
      go None s w ih = absurd (none_ne_some r w)
      go (Some c) s w ih = in_flat (branch (children ps) left (suc level)) (line l i) c (children ps r) (in_children r c w) (ih c s)

  -- ---- no line twice: so far above a line stands one activity
  pub one_branch : (left level a b : ℕ) (x : Line) → Memᴰ x (branch (children ps) left level a) → Memᴰ x (branch (children ps) left level b) → a ≡ b
  one_branch left level a b x m n =
      let v = below_by left level a x m in
      let w = below_by left level b x n in
      let same : v.0 ≡ w.0 = omega (arith, v.2, w.2) in
      some_injective a b (sym v.3 ∙ ap (λ (k : ℕ). up ps k (Some x.index)) same ∙ w.3)

  pub branch_distinct : (left level r : ℕ) → Distinct (branch (children ps) left level r)
  unfolding branch
  branch_distinct zero level r = tt
  branch_distinct (suc left) level r = (
    λ m.
        let w = flat_in (branch (children ps) left (suc level)) (line level r) (children ps r) m in
        let v = below_by left (suc level) w.0 (line level r) w.2 in
        omega (arith, v.2),
    distinct_flat (branch (children ps) left (suc level)) (branch_distinct left (suc level)) (one_branch left (suc level)) (children ps r) (children_distinct r),
  )

  -- ---- each after its parent's, or its parent was seen before
  abbrev pub Follow : (ℕ → Type 0) → List Line → Type 0
  Follow seen [] = Unit {0}
  Follow seen (x ∷ xs) = ((p : ℕ) → parent_of ps x.index ≡ Some p → seen p) × Follow (λ p. (p ≡ x.index) ⊎ seen p) xs

  follow_more : (seen more : ℕ → Type 0) (xs : List Line) → ((p : ℕ) → seen p → more p) → Follow seen xs → Follow more xs
  follow_more seen more [] h f = tt
  follow_more seen more (x ∷ xs) h f = (λ p e. h p (f.0 p e), follow_more (λ p. (p ≡ x.index) ⊎ seen p) (λ p. (p ≡ x.index) ⊎ more p) xs (λ p. ⊎_elim inl (λ s. inr (h p s))) f.1)

  follow_append : (seen : ℕ → Type 0) (xs ys : List Line) → Follow seen xs → Follow seen ys → Follow seen (xs ++ ys)
  follow_append seen [] ys f g = g
  follow_append seen (x ∷ xs) ys f g = (f.0, follow_append (λ p. (p ≡ x.index) ⊎ seen p) xs ys f.1 (follow_more seen (λ p. (p ≡ x.index) ⊎ seen p) ys (λ p. inr) g))

  pub follow_flat : (seen : ℕ → Type 0) (f : ℕ → List Line) (is : List ℕ) → ((i : ℕ) → Memᴰ i is → Follow seen (f i)) → Follow seen (flat_map f is)
  unfolding flat_map
  follow_flat seen f [] h = tt
  follow_flat seen f (i ∷ is) h = follow_append seen (f i) (flat_map f is) (h i (Memᴰ.head refl)) (follow_flat seen f is (λ j m. h j (Memᴰ.tail m)))

  pub branch_follows : (left level r : ℕ) (seen : ℕ → Type 0) → ((p : ℕ) → parent_of ps r ≡ Some p → seen p) → Follow seen (branch (children ps) left level r)
  unfolding branch
  branch_follows zero level r seen h = tt
  branch_follows (suc left) level r seen h = (
    h,
    follow_flat (λ p. (p ≡ r) ⊎ seen p) (branch (children ps) left (suc level)) (children ps r)
        (λ c m. branch_follows left (suc level) c (λ p. (p ≡ r) ⊎ seen p) (λ p e. inl (some_injective p r (sym e ∙ child_of r c m)))),
  )

  pub follow_at : (seen : ℕ → Type 0) (xs : List Line) → Follow seen xs → (k p : ℕ) → k < length xs → parent_of ps (line_at xs k).index ≡ Some p → ((j : ℕ) × (j < k) × ((line_at xs j).index ≡ p)) ⊎ seen p
  follow_at seen [] f k p h e = absurd (omega arith)
  follow_at seen (x ∷ xs) f zero p h e = inr (f.0 p e)
  follow_at seen (x ∷ xs) f (suc k) p h e = go (follow_at (λ q. (q ≡ x.index) ⊎ seen q) xs f.1 k p (omega arith) e)
    where
      go : ((j : ℕ) × (j < k) × ((line_at xs j).index ≡ p)) ⊎ ((p ≡ x.index) ⊎ seen p) → ((j : ℕ) × (j < suc k) × ((line_at (x ∷ xs) j).index ≡ p)) ⊎ seen p
      go (inl w) = inl (suc w.0, omega (arith, w.1), w.2)
      go (inr (inl s)) = inl (0, omega arith, sym s)
      go (inr (inr s)) = inr s
