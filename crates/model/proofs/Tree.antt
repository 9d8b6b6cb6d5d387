-- A walk steps on the ancestors and on nothing else, without a circle on each once; then every row is its own and each of those below it, once.
use Rattle.std.specs.Prelude.{None, Option, Some}
use mathlib.Core.Path.{◌≡◌, refl, sym, ap, ap₂, ◌∙◌, subst}
use mathlib.Core.Logic.{◌↔◌, ⊎_elim}
use mathlib.Core.Bool.{Bool, true, false, true≢false, not, cond, ◌||◌, or-true}
use mathlib.Core.List.{List, [], ◌∷◌, ◌++◌, map, flat_map, foldl, Memᴰ}
use Prim.Native.Nat.{ℕ, zero, suc, ◌+◌, ◌-◌, ◌≤◌, ◌<◌}
use native.Mathlib.Omega.{arith}
use native.Mathlib.Decide.{dec_lt}
use borrow.Author.Tests.{eqb-true, eqb-false, eq-eqb, ne_eqb}
use lib.Dec.{eqb}
use lib.ListN.{length, get_or, take, length-map, length-take, get_or-eq_default}
use lib.Seq.{get_or-take}
use Rattle.lists.specs.Lists.{any, cons_if, keep}
use Rattle.format.specs.Book.{Book, Activity}
use Rattle.model.specs.Tree.{Parents, parents, parent_of, indices, names, is_leaf, Ancestor, NoCircle, steps, walk, step_limit, walk_up, is_below, below, leaves_below, brought, roll_up}
use Rattle.lists.proofs.Spans.{in_span}
use Rattle.lists.proofs.Lists.{keep_in, in_keep, keep_none, take_in, any_in, in_any, FirstAt, first_at_lem, at_in}
use Rattle.model.proofs.Pigeonhole.{at_most}
use Rattle.lists.proofs.Options.{none_ne_some, some_injective}

-- each activity names its parent
pub parents_count : (book : Book) → length (parents book) ≡ length book.activities
unfolding parents
parents_count book = length-map book.activities (λ (a : Activity). a.parent)

module _ (ps : Parents) where
  -- ---- a walk steps on ancestors only
  on_ancestor : (limit i p : ℕ) → Memᴰ p (steps ps limit (parent_of ps i)) → Ancestor ps p i
  unfolding steps
  on_ancestor zero i p m = absurd (mathlib.Core.List.Memᴰ.not-nil m)
  on_ancestor (suc limit) i p m = go (parent_of ps i) refl m (λ q. on_ancestor limit q p)
    where
      go : (o : Option ℕ) → parent_of ps i ≡ o → Memᴰ p (steps ps (suc limit) o) → ((q : ℕ) → Memᴰ p (steps ps limit (parent_of ps q)) → Ancestor ps p q) → Ancestor ps p i
      go None e m ih = absurd (mathlib.Core.List.Memᴰ.not-nil m)
      go (Some q) e m ih = ⊎_elim (λ s. Ancestor.parent (e ∙ ap Some (sym s))) (λ r. Ancestor.above e (ih q r)) (mathlib.Core.List.Memᴰ.cases_cons m)

  -- ---- and on each once
  not_there : (p : ℕ) (xs : List ℕ) → (Memᴰ p xs → ⊥) → keep (eqb p) xs ≡ []
  not_there p xs h = keep_none (eqb p) xs (λ x m. ne_eqb p x (λ e. h (mathlib.Core.List.Memᴰ.cast e m)))

  once : NoCircle ps → (limit : ℕ) (o : Option ℕ) (p : ℕ) → Memᴰ p (steps ps limit o) → keep (eqb p) (steps ps limit o) ≡ p ∷ []
  unfolding steps keep
  once a zero o p m = absurd (mathlib.Core.List.Memᴰ.not-nil m)
  once a (suc limit) None p m = absurd (mathlib.Core.List.Memᴰ.not-nil m)
  once a (suc limit) (Some q) p m = go (eqb p q) refl (once a limit (parent_of ps q) p)
    where
      back : p ≡ q → Memᴰ p (steps ps limit (parent_of ps q)) → ⊥
      back e r = a q (on_ancestor limit q q (mathlib.Core.List.Memᴰ.cast (sym e) r))

      go : (b : Bool) → eqb p q ≡ b → (Memᴰ p (steps ps limit (parent_of ps q)) → keep (eqb p) (steps ps limit (parent_of ps q)) ≡ p ∷ [])
          → cons_if b q (keep (eqb p) (steps ps limit (parent_of ps q))) ≡ p ∷ []
      go true e ih =
          let s = eqb-true p q e in
          ap (λ (l : List ℕ). q ∷ l) (not_there p (steps ps limit (parent_of ps q)) (back s)) ∙ ap (λ (x : ℕ). x ∷ []) (sym s)
      go false e ih = ⊎_elim (λ s. absurd (eqb-false p q e s)) ih (mathlib.Core.List.Memᴰ.cases_cons m)

  -- ---- as many steps as there are activities reach them all
  reached : {p i : ℕ} → Ancestor ps p i → (k : ℕ) × Memᴰ p (steps ps k (parent_of ps i))
  unfolding steps
  reached (Ancestor.parent e) = (1, rw e (mathlib.Core.List.Memᴰ.head refl))
  reached (Ancestor.above e r) = (suc (reached r).0, rw e (mathlib.Core.List.Memᴰ.tail (reached r).1))

  cut : (m k : ℕ) (o : Option ℕ) → m ≤ k → steps ps m o ≡ take m (steps ps k o)
  unfolding steps
  cut zero k o h = refl
  cut (suc m) zero o h = absurd (omega arith)
  cut (suc m) (suc k) None h = refl
  cut (suc m) (suc k) (Some p) h = ap (λ (l : List ℕ). p ∷ l) (cut m k (parent_of ps p) (omega arith))

  pub has_parent : (x q : ℕ) → parent_of ps x ≡ Some q → x < length ps
  has_parent x q e = go (dec_lt x (length ps))
    where
      go : Dec (x < length ps) → x < length ps
      go (yes h) = h
      go (no h) = absurd (none_ne_some q (sym (get_or-eq_default ps None {n = x} (omega arith)) ∙ e))

  -- the places of the walk from i: i itself, then those stepped on
  module _ (k i : ℕ) where
    abbrev place : ℕ → ℕ
    place j = get_or (i ∷ steps ps k (parent_of ps i)) j 0

  next : (k i j : ℕ) → j < length (steps ps k (parent_of ps i)) → parent_of ps (place k i j) ≡ Some (place k i (suc j))
  unfolding steps
  next zero i j h = absurd (omega arith)
  next (suc k) i j h = go (parent_of ps i) refl j h (next k)
    where
      go : (o : Option ℕ) → parent_of ps i ≡ o → (j : ℕ) → j < length (steps ps (suc k) o) → ((q j : ℕ) → j < length (steps ps k (parent_of ps q)) → parent_of ps (place k q j) ≡ Some (place k q (suc j)))
          → parent_of ps (get_or (i ∷ steps ps (suc k) o) j 0) ≡ Some (get_or (steps ps (suc k) o) j 0)
      go None e j h ih = absurd (omega arith)
      go (Some q) e zero h ih = e
      go (Some q) e (suc j) h ih = ih q j (omega arith)

  module _ (k i : ℕ) where
    abbrev made : ℕ
    made = length (steps ps k (parent_of ps i))

    -- from equal places the walk goes on alike
    alike : (t a b j m : ℕ) → place k i j ≡ place k i m → j + t ≡ a → m + t ≡ b → a ≤ made → b ≤ made → place k i a ≡ place k i b
    alike zero a b j m e f g l r =
        let same-a : a ≡ j = omega arith in
        let same-b : m ≡ b = omega arith in
        ap (place k i) same-a ∙ e ∙ ap (place k i) same-b
    alike (suc t) a b j m e f g l r =
        alike t a b (suc j) (suc m)
        (some_injective (place k i (suc j)) (place k i (suc m)) (sym (next k i j (omega arith)) ∙ ap (parent_of ps) e ∙ next k i m (omega arith)))
        (omega arith) (omega arith) l r

    -- so what it meets at all it first meets within count steps
    soon : (p : ℕ) (f : FirstAt p (steps ps k (parent_of ps i))) → f.at < length ps
    soon p f =
        at_most (place k i) (suc f.at) (length ps)
        (λ j h. has_parent (place k i j) (place k i (suc j)) (next k i j (omega (arith, f.inside))))
        (λ j l h r e. f.before (j + (f.at - l)) (omega arith)
        (alike (suc f.at - l) (suc (j + (f.at - l))) (suc f.at) j l e (omega arith) (omega arith) (omega (arith, f.inside)) f.inside ∙ f.here))

  met : {p i : ℕ} (limit : ℕ) → length ps ≤ limit → Ancestor ps p i → Memᴰ p (walk ps limit i)
  unfolding walk
  met {p} {i} limit h r =
      let k = (reached r).0 in
      let o = parent_of ps i in
      let all = steps ps (k + limit) o in
      let early : Memᴰ p (take k all) = subst (λ (l : List ℕ). Memᴰ p l) (cut k (k + limit) o (omega arith)) (reached r).1 in
      let f = first_at_lem p all (take_in p k all early) in
      let quick = soon (k + limit) i p f in
      rw (cut limit (k + limit) o (omega arith))
      (at_in p (take limit all) f.at (simp length-take (omega (arith, f.inside))) (get_or-take limit all f.at 0 (omega arith) ∙ f.here))

  -- ---- the walk of as many steps as there are activities, or more
  module _ (limit : ℕ) (h : length ps ≤ limit) (p i : ℕ) where
    -- it steps on each ancestor, and on nothing else
    pub on_ancestors : Memᴰ p (walk ps limit i) ↔ Ancestor ps p i
    unfolding walk
    on_ancestors = (on_ancestor limit i p, met limit h)

    -- without a circle, once
    pub walked_once : NoCircle ps → Ancestor ps p i → keep (eqb p) (walk ps limit i) ≡ p ∷ []
    unfolding walk
    walked_once a r = once a limit (parent_of ps i) p (met limit h r)

    pub walked_never : (Ancestor ps p i → ⊥) → keep (eqb p) (walk ps limit i) ≡ []
    unfolding walk
    walked_never n = not_there p (walk ps limit i) (λ m. n (on_ancestor limit i p m))

  pub below_is : (p i : ℕ) → (is_below ps p i ≡ true) ↔ Ancestor ps p i
  unfolding is_below walk_up
  below_is p i = (λ e. (on_ancestors (step_limit ps) (omega arith) p i).0 (any_in p (walk_up ps i) e), λ r. in_any (eqb p) p (walk_up ps i) ((on_ancestors (step_limit ps) (omega arith) p i).1 r) (eq-eqb p p refl))

  -- ---- the activities below p are those that have it as an ancestor, the leaves below it the leaves among them
  listed : {p i : ℕ} → Ancestor ps p i → Memᴰ i (indices ps)
  listed {p} {i} (Ancestor.parent e) = in_span 0 (length ps) i (omega arith) (omega (arith, has_parent i p e))
  listed {p} {i} (Ancestor.above {q = q} e r) = in_span 0 (length ps) i (omega arith) (omega (arith, has_parent i q e))

  pub in_below : (p i : ℕ) → Memᴰ i (below ps p) ↔ Ancestor ps p i
  unfolding below
  in_below p i = (
    λ m. (below_is p i).0 (keep_in (is_below ps p) i (indices ps) m).1,
    λ r. in_keep (is_below ps p) i (indices ps) (listed r) ((below_is p i).1 r),
  )

  pub in_leaves_below : (p i : ℕ) → Memᴰ i (leaves_below ps p) ↔ ((is_leaf ps i ≡ true) × Ancestor ps p i)
  unfolding leaves_below
  in_leaves_below p i = (
    λ m. let k = keep_in (is_leaf ps) i (below ps p) m in (k.1, (in_below p i).0 k.0),
    λ r. in_keep (is_leaf ps) i (below ps p) ((in_below p i).1 r.1) r.0,
  )

  -- ---- so each row is its own and then those below it, once, in index order
  module _ {Row : Type 0} (add : Row → Row → Row) (own : ℕ → Row) (a : NoCircle ps) where
    brought_is : (p i : ℕ) → brought add ps own p i ≡ cond (is_below ps p i) (own i ∷ []) []
    unfolding brought walk_up
    brought_is p i = go (is_below ps p i) refl
      where
        go : (b : Bool) → is_below ps p i ≡ b → map (λ (q : ℕ). own i) (keep (eqb p) (walk_up ps i)) ≡ cond b (own i ∷ []) []
        go true e = ap (map (λ (q : ℕ). own i)) (walked_once (step_limit ps) (omega arith) p i a ((below_is p i).0 e))
        go false e = ap (map (λ (q : ℕ). own i)) (walked_never (step_limit ps) (omega arith) p i (λ r. true≢false (sym ((below_is p i).1 r) ∙ e)))

    all_brought : (p : ℕ) (is : List ℕ) → flat_map (brought add ps own p) is ≡ map own (keep (is_below ps p) is)
    unfolding flat_map keep
    all_brought p [] = refl
    all_brought p (i ∷ is) = ap₂ ◌++◌ (brought_is p i) (all_brought p is) ∙ go (is_below ps p i)
      where
        go : (b : Bool) → cond b (own i ∷ []) [] ++ map own (keep (is_below ps p) is) ≡ map own (cons_if b i (keep (is_below ps p) is))
        go true = refl
        go false = refl

    pub roll_up_lem : (p : ℕ) → roll_up add ps own p ≡ foldl add (own p) (map own (below ps p))
    unfolding roll_up below
    roll_up_lem p = ap (foldl add (own p)) (all_brought p (indices ps))

-- ---- a leaf's row is its own, also beside a circle
named : (ps : Parents) (j p : ℕ) → parent_of ps j ≡ Some p → any (names p) ps ≡ true
unfolding any
named [] j p e = absurd (none_ne_some p e)
named (o ∷ ps) zero p e = ap (λ (x : Option ℕ). names p x || any (names p) ps) e ∙ ap (λ (b : Bool). b || any (names p) ps) (eq-eqb p p refl)
named (o ∷ ps) (suc j) p e = ap (λ (b : Bool). names p o || b) (named ps j p e) ∙ or-true (names p o)

leaf_alone : (ps : Parents) {p i : ℕ} → is_leaf ps p ≡ true → Ancestor ps p i → ⊥
unfolding is_leaf
leaf_alone ps {p} l (Ancestor.parent {i = j} e) = true≢false (sym l ∙ ap not (named ps j p e))
leaf_alone ps l (Ancestor.above e r) = leaf_alone ps l r

module _ {Row : Type 0} (add : Row → Row → Row) (ps : Parents) (own : ℕ → Row) (p : ℕ) (l : is_leaf ps p ≡ true) where
  nothing_brought : (is : List ℕ) → flat_map (brought add ps own p) is ≡ []
  unfolding flat_map brought walk_up
  nothing_brought [] = refl
  nothing_brought (i ∷ is) = ap₂ ◌++◌ (ap (map (λ (q : ℕ). own i)) (walked_never ps (step_limit ps) (omega arith) p i (leaf_alone ps l))) (nothing_brought is)

  pub leaf_row : roll_up add ps own p ≡ own p
  unfolding roll_up
  leaf_row = ap (foldl add (own p)) (nothing_brought (indices ps))
