-- Tops and the children of one parent, in index order: the whole branch of each stands before the next one.
use Rattle.std.specs.Prelude.{None, Some}
use Prim.Native.Nat.{ℕ, zero, suc, ◌+◌, ◌-◌, ◌≤◌, ◌<◌}
use mathlib.Core.Path.{◌≡◌, refl, sym, ap, ◌∙◌}
use mathlib.Core.Logic.{⊎_elim}
use mathlib.Core.List.Memᴰ
use mathlib.Core.List.{List, [], ◌∷◌, ◌++◌, flat_map, Memᴰ}
use native.Mathlib.Omega.{arith}
use native.Mathlib.Decide.{dec_lt}
use lib.ListN.{length}
use Rattle.lists.proofs.Lists.{flat_in, got_in}
use Rattle.format.specs.InRange.{Rising}
use Rattle.model.specs.Tree.{Parents, parent_of, names}
use Rattle.model.specs.Outline.{Line, line, is_none, tops, children, branch, branches, outline, line_at, Top}
use Rattle.model.proofs.Rising.{keep_rises, rest_rises, least}
use Rattle.model.proofs.Up.{onward, up, up_last, up_parts, past, up_none, few_levels, made}
use Rattle.model.proofs.Branches.{child_of, top_of, below_by}
use Rattle.lists.proofs.Options.{none_ne_some, some_injective}

module _ (ps : Parents) where
  -- a is y, or above it
  abbrev pub Under : ℕ → ℕ → Type 0
  Under a y = (k : ℕ) × (up ps k (Some y) ≡ Some a)

  under_on : (a b y : ℕ) → Under a b → Under b y → Under a y
  under_on a b y u v = (v.0 + u.0, up_parts ps v.0 u.0 (v.0 + u.0) (Some y) refl ∙ ap (up ps u.0) v.1 ∙ u.1)

  -- ---- above an activity that has a top, no two have the same parent
  module _ (t : ℕ) (top : Top ps t) where
    -- the steps to the top are told
    one_way : (m n i : ℕ) → up ps m (Some i) ≡ Some t → up ps n (Some i) ≡ Some t → m ≡ n
    one_way m n i u v =
        let few = few_levels ps t top in
        sym (made ps t top m (length ps) i u (omega (arith, few m i u))) ∙ made ps t top n (length ps) i v (omega (arith, few n i v))

    -- from what is above, the steps that are left
    left_over : (a y k n : ℕ) → up ps k (Some y) ≡ Some a → up ps n (Some y) ≡ Some t → (k ≤ n) × (up ps (n - k) (Some a) ≡ Some t)
    left_over a y k n u v = go (dec_lt n k)
      where
        go : Dec (n < k) → (k ≤ n) × (up ps (n - k) (Some a) ≡ Some t)
        go (yes h) = absurd (none_ne_some a (sym (past ps (suc n) k (Some y) beyond h) ∙ u))
          where
            beyond : up ps (suc n) (Some y) ≡ None
            beyond = up_last ps n (Some y) ∙ ap (onward ps) v ∙ top.1
        go (no h) =
            let m : k + (n - k) ≡ n = omega arith in
            (omega arith, ap (up ps (n - k)) (sym u) ∙ sym (up_parts ps k (n - k) n (Some y) m) ∙ v)

    -- siblings are equally far from the top
    as_far : (a b m n : ℕ) → parent_of ps a ≡ parent_of ps b → up ps m (Some a) ≡ Some t → up ps n (Some b) ≡ Some t → m ≡ n
    unfolding up
    as_far a b zero zero e u v = refl
    as_far a b zero (suc n) e u v = absurd (none_ne_some t (sym (up_none ps n) ∙ sym (ap (up ps n) (sym e ∙ ap (parent_of ps) (some_injective a t u) ∙ top.1)) ∙ v))
    as_far a b (suc m) n e u v = one_way (suc m) n b (ap (up ps m) (sym e) ∙ u) v

    pub one_sibling : (a b y n : ℕ) → up ps n (Some y) ≡ Some t → parent_of ps a ≡ parent_of ps b → Under a y → Under b y → a ≡ b
    one_sibling a b y n v e p q =
        let x = left_over a y p.0 n p.1 v in
        let z = left_over b y q.0 n q.1 v in
        let far = as_far a b (n - p.0) (n - q.0) e x.1 z.1 in
        let same : p.0 ≡ q.0 = omega (arith, far, x.0, z.0) in
        some_injective a b (sym p.1 ∙ ap (λ (k : ℕ). up ps k (Some y)) same ∙ q.1)

  -- ---- no line before one that is in the branch of a sibling with a lower index

  abbrev Apart : Line → Line → Type 0
  Apart x y = (a : ℕ) → parent_of ps a ≡ parent_of ps x.index → a < x.index → Under a y.index → ⊥

  abbrev pub Ordered : List Line → Type 0
  Ordered [] = Unit {0}
  Ordered (x ∷ xs) = ((y : Line) → Memᴰ y xs → Apart x y) × Ordered xs

  ordered_append : (xs ys : List Line) → Ordered xs → Ordered ys → ((x y : Line) → Memᴰ x xs → Memᴰ y ys → Apart x y) → Ordered (xs ++ ys)
  ordered_append [] ys o q h = q
  ordered_append (x ∷ xs) ys o q h = (
    λ y m. ⊎_elim (o.0 y) (h x y (Memᴰ.head refl)) (Memᴰ.append_cases xs m),
    ordered_append xs ys o.1 q (λ z y m. h z y (Memᴰ.tail m)),
  )

  ordered_flat :
      (f : ℕ → List Line) (is : List ℕ) → Rising is → ((i : ℕ) → Memᴰ i is → Ordered (f i)) →
      ((i j : ℕ) → i < j → Memᴰ i is → Memᴰ j is → (x y : Line) → Memᴰ x (f i) → Memᴰ y (f j) → Apart x y) → Ordered (flat_map f is)
  unfolding flat_map
  ordered_flat f [] r each h = tt
  ordered_flat f (i ∷ is) r each h =
      ordered_append (f i) (flat_map f is) (each i (Memᴰ.head refl))
      (ordered_flat f is (rest_rises i is r) (λ j m. each j (Memᴰ.tail m)) (λ j k l m n. h j k l (Memᴰ.tail m) (Memᴰ.tail n)))
      (λ x y m n. let w = flat_in f y is n in h i w.0 (least i is r w.0 w.1) (Memᴰ.head refl) (Memᴰ.tail w.1) x y m w.2)

  module _ (t : ℕ) (top : Top ps t) where
    -- lines in the branches of two siblings, the lower one first
    siblings : (c d n : ℕ) (x y : Line) → parent_of ps c ≡ parent_of ps d → c < d → up ps n (Some y.index) ≡ Some t → Under c x.index → Under d y.index → Apart x y
    unfolding up
    siblings c d n x y e h v (zero, u) q a s l p =
        let same : a ≡ d = one_sibling t top a d y.index n v (s ∙ ap (parent_of ps) (some_injective x.index c u) ∙ e) p q in
        omega (arith, same, some_injective x.index c u)
    siblings c d n x y e h v (suc k, u) q a s l p =
        let same : c ≡ d = one_sibling t top c d y.index n v e (under_on c a y.index (suc k, ap (up ps k) s ∙ u) p) q in
        omega (arith, same)

    -- what is in a branch has the top of its root
    topped : (left level r n : ℕ) (y : Line) → up ps n (Some r) ≡ Some t → (m : Memᴰ y (branch (children ps) left level r)) → (k : ℕ) × (up ps k (Some y.index) ≡ Some t)
    topped left level r n y v m = let w = below_by ps left level r y m in under_on t r y.index (n, v) (w.0, w.3)

    pub branch_ordered : (left level r n : ℕ) → up ps n (Some r) ≡ Some t → Ordered (branch (children ps) left level r)
    unfolding branch children up
    branch_ordered zero level r n v = tt
    branch_ordered (suc left) level r n v = (
      λ y m a s l p.
          let w = flat_in (branch (children ps) left (suc level)) y (children ps r) m in
          let c = w.0 in
          let u = below_by ps left (suc level) c y w.2 in
          let above = under_on r c y.index (1, child_of ps r c w.1) (u.0, u.3) in
          let far = under_on t r y.index (n, v) above in
          let same = one_sibling t top a r y.index far.0 far.1 s p above in
          omega (arith, same),
      ordered_flat (branch (children ps) left (suc level)) (children ps r) (keep_rises (λ i. names r (parent_of ps i)) 0 (length ps))
          (λ c m. branch_ordered left (suc level) c (suc n) (ap (up ps n) (child_of ps r c m) ∙ v))
          (λ c d l m o x y mx my.
          let u = below_by ps left (suc level) c x mx in
          let w = below_by ps left (suc level) d y my in
          let far = topped left (suc level) d (suc n) y (ap (up ps n) (child_of ps r d o) ∙ v) my in
          siblings c d far.0 x y (child_of ps r c m ∙ sym (child_of ps r d o)) l far.1 (u.0, u.3) (w.0, w.3)),
    )

  pub outline_ordered : Ordered (outline ps)
  unfolding outline branches tops up
  outline_ordered =
      ordered_flat (branch (children ps) (length ps) 1) (tops ps) (keep_rises (λ i. is_none (parent_of ps i)) 0 (length ps))
      (λ t m. branch_ordered t (top_of ps t m) (length ps) 1 t 0 refl)
      (λ c d l m o x y mx my.
      let u = below_by ps (length ps) 1 c x mx in
      let w = below_by ps (length ps) 1 d y my in
      siblings d (top_of ps d o) c d w.0 x y ((top_of ps c m).1 ∙ sym (top_of ps d o).1) l w.3 (u.0, u.3) (w.0, w.3))

  pub ordered_at : (xs : List Line) → Ordered xs → (k j : ℕ) → k < j → j < length xs → Apart (line_at xs k) (line_at xs j)
  ordered_at [] o k j h l = absurd (omega arith)
  ordered_at (x ∷ xs) o k zero h l = absurd (omega arith)
  ordered_at (x ∷ xs) o zero (suc j) h l = o.0 (line_at xs j) (got_in xs (line 0 0) j (omega arith))
  ordered_at (x ∷ xs) o (suc k) (suc j) h l = ordered_at xs o.1 k j (omega arith) (omega arith)
