-- Totals of lists: of a part of one, of several one after the other, and by date; and their magnitudes.
use Prim.Native.Nat.{ℕ, zero, suc, ◌+◌, ◌≤◌, zero-le}
use mathlib.Core.Path.{◌≡◌, refl, sym, ap, ap₂, ◌∙◌}
use mathlib.Core.Bool.{Bool, true, false}
use mathlib.Core.List.{List, [], ◌∷◌, ◌++◌, map, flat_map, map-append, Memᴰ}
use native.Mathlib.Omega.{arith}
use lib.Dec.{eqb, ltb}
use lib.IntN.{ℤ, nat_abs}
use Rattle.integer.specs.Sums.{Adds, ints, nats, sum, total, only, sum_cong, sum_none, sum_both, sum_hot, abs_plus}
use Rattle.integer.specs.Folds.{magnitudes}
use Rattle.lists.specs.Lists.{span, cons_if, keep}

module _ {A : Type 0} (m : Adds A) where
  assoc : (a b c : A) → m.op (m.op a b) c ≡ m.op a (m.op b c)
  assoc a b c = ap (m.op (m.op a b)) (sym (m.idl c)) ∙ m.four a b m.unit c ∙ ap (λ (x : A). m.op x (m.op b c)) (m.idr a)

  -- ---- one list after another
  total_append : (xs ys : List A) → total m (xs ++ ys) ≡ m.op (total m xs) (total m ys)
  unfolding total
  total_append [] ys = sym (m.idl (total m ys))
  total_append (x ∷ xs) ys = ap (m.op x) (total_append xs ys) ∙ sym (assoc x (total m xs) (total m ys))

  pub total_flat : {B C : Type 0} (f : B → A) (g : C → List B) (cs : List C) → total m (map f (flat_map g cs)) ≡ total m (map (λ c. total m (map f (g c))) cs)
  unfolding total flat_map
  total_flat f g [] = refl
  total_flat f g (c ∷ cs) =
      ap (total m) (map-append f (g c) (flat_map g cs))
      ∙ total_append (map f (g c)) (map f (flat_map g cs))
      ∙ ap (m.op (total m (map f (g c)))) (total_flat f g cs)

  -- ---- of numbers one after the other
  spanned : (f : ℕ → A) (a n e : ℕ) → a + n ≡ e → m.op (sum m f a) (total m (map f (span a n))) ≡ sum m f e
  unfolding total span sum
  spanned f a zero e h = let same : a ≡ e = omega arith in m.idr (sum m f a) ∙ ap (sum m f) same
  spanned f a (suc n) e h = sym (assoc (sum m f a) (f a) (total m (map f (span (suc a) n)))) ∙ spanned f (suc a) n e (omega arith)

  pub total_span : (f : ℕ → A) (n : ℕ) → total m (map f (span 0 n)) ≡ sum m f n
  unfolding sum
  total_span f n = sym (m.idl (total m (map f (span 0 n)))) ∙ spanned f 0 n n (omega arith)

  -- ---- of those that pass a test
  module _ {B : Type 0} (f : B → A) where
    cons_if_lem : (b : Bool) (x : B) (xs : List B) → total m (map f (cons_if b x xs)) ≡ m.op (only m b (f x)) (total m (map f xs))
    unfolding total
    cons_if_lem true x xs = refl
    cons_if_lem false x xs = sym (m.idl (total m (map f xs)))

    -- what does not pass may be nothing
    pub total_kept : (p : B → Bool) (xs : List B) → ((x : B) → p x ≡ false → f x ≡ m.unit) → total m (map f (keep p xs)) ≡ total m (map f xs)
    unfolding total keep
    total_kept p [] h = refl
    total_kept p (x ∷ xs) h = cons_if_lem (p x) x (keep p xs) ∙ ap₂ m.op (go (p x) refl) (total_kept p xs h)
      where
        go : (b : Bool) → p x ≡ b → only m b (f x) ≡ f x
        go true e = refl
        go false e = sym (h x e)

    -- by date: the totals of the dates before n
    pub total_by : (date : B → ℕ) (n : ℕ) (xs : List B) → sum m (λ d. total m (map f (keep (λ x. eqb (date x) d) xs))) n ≡ total m (map f (keep (λ x. ltb (date x) n) xs))
    unfolding total keep
    total_by date n [] = sum_none m (λ d. m.unit) n (λ d l. refl)
    total_by date n (x ∷ xs) =
        let on : ℕ → A = λ d. total m (map f (keep (λ y. eqb (date y) d) xs)) in
        sum_cong m (λ d. total m (map f (keep (λ y. eqb (date y) d) (x ∷ xs)))) (λ d. m.op (only m (eqb (date x) d) (f x)) (on d)) n
        (λ d l. cons_if_lem (eqb (date x) d) x (keep (λ y. eqb (date y) d) xs))
        ∙ sum_both m (λ d. only m (eqb (date x) d) (f x)) on n
        ∙ ap₂ m.op (sum_hot m (date x) (f x) n) (total_by date n xs)
        ∙ sym (cons_if_lem (ltb (date x) n) x (keep (λ y. ltb (date y) n) xs))

-- ---- magnitudes
pub magnitudes_total : {B : Type 0} (f : B → ℤ) (xs : List B) → magnitudes (map f xs) ≡ total nats (map (λ x. nat_abs (f x)) xs)
unfolding magnitudes total
magnitudes_total f [] = refl
magnitudes_total f (x ∷ xs) = ap (λ (n : ℕ). nat_abs (f x) + n) (magnitudes_total f xs)

pub abs_total : (xs : List ℤ) → nat_abs (total ints xs) ≤ magnitudes xs
unfolding magnitudes total
abs_total [] = zero-le
abs_total (x ∷ xs) = omega (arith, abs_plus x (total ints xs), abs_total xs)

module _ {B : Type 0} where
  pub magnitudes_kept : (f : B → ℤ) (p : B → Bool) (xs : List B) → magnitudes (map f (keep p xs)) ≤ magnitudes (map f xs)
  unfolding magnitudes keep
  magnitudes_kept f p [] = zero-le
  magnitudes_kept f p (x ∷ xs) = go (p x) (magnitudes_kept f p xs)
    where
      go : (b : Bool) → magnitudes (map f (keep p xs)) ≤ magnitudes (map f xs) → magnitudes (map f (cons_if b x (keep p xs))) ≤ nat_abs (f x) + magnitudes (map f xs)
      go true h = omega arith
      go false h = omega arith

  pub magnitudes_less : (f g : B → ℤ) (xs : List B) → ((x : B) → Memᴰ x xs → nat_abs (f x) ≤ nat_abs (g x)) → magnitudes (map f xs) ≤ magnitudes (map g xs)
  unfolding magnitudes
  magnitudes_less f g [] h = zero-le
  magnitudes_less f g (x ∷ xs) h = omega (arith, h x (Memᴰ.head refl), magnitudes_less f g xs (λ y l. h y (Memᴰ.tail l)))
