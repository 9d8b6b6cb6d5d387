-- Laws of the lists: what they hold, what is kept of them, what is made of each element. Assumes nothing.
use Prim.Native.Nat.{ℕ, zero, suc, ◌≤◌, ◌<◌}
use mathlib.Core.Path.{◌≡◌, refl, sym, ap, ap₂, ◌∙◌, subst}
use mathlib.Core.Logic.{◌⊎◌, inl, inr, ⊎_elim}
use mathlib.Core.Bool.{Bool, true, false, true≢false, ◌&&◌, ◌||◌, or-true}
use mathlib.Core.List.Memᴰ
use mathlib.Core.List.{List, [], ◌∷◌, ◌++◌, map, flat_map, Memᴰ}
use native.Mathlib.Omega.{arith}
use native.Mathlib.Decide.{ℕ_discrete}
use lib.Dec.{eqb}
use lib.ListN.{length, get_or, take}
use borrow.Author.Tests.{eqb-true}
use Rattle.lists.specs.Lists.{any, cons_if, keep}

-- ---- what is in them
pub any_in : (x : ℕ) (xs : List ℕ) → any (eqb x) xs ≡ true → Memᴰ x xs
unfolding any
any_in x [] e = absurd (true≢false (sym e))
any_in x (y ∷ ys) e = go (eqb x y) refl e (any_in x ys)
  where
    go : (b : Bool) → eqb x y ≡ b → (b || any (eqb x) ys) ≡ true → (any (eqb x) ys ≡ true → Memᴰ x ys) → Memᴰ x (y ∷ ys)
    go true s e ih = Memᴰ.head (eqb-true x y s)
    go false s e ih = Memᴰ.tail (ih e)

pub in_any : {A : Type 0} (p : A → Bool) (x : A) (xs : List A) → Memᴰ x xs → p x ≡ true → any p xs ≡ true
unfolding any
in_any p x [] m t = absurd (Memᴰ.not-nil m)
in_any p x (y ∷ ys) m t =
    ⊎_elim (λ e. ap (λ (b : Bool). b || any p ys) (ap p (sym e) ∙ t)) (λ r. ap (λ (b : Bool). p y || b) (in_any p x ys r t) ∙ or-true (p y))
    (Memᴰ.cases_cons m)

module _ {A : Type 0} (p : A → Bool) where
  pub any_some : (xs : List A) → any p xs ≡ true → (x : A) × Memᴰ x xs × (p x ≡ true)
  unfolding any
  any_some [] e = absurd (true≢false (sym e))
  any_some (y ∷ ys) e = go (p y) refl e (any_some ys)
    where
      go : (b : Bool) → p y ≡ b → (b || any p ys) ≡ true → (any p ys ≡ true → (x : A) × Memᴰ x ys × (p x ≡ true)) → (x : A) × Memᴰ x (y ∷ ys) × (p x ≡ true)
      go true t e ih = (y, Memᴰ.head refl, t)
      go false t e ih = let h = ih e in (h.0, Memᴰ.tail h.1, h.2)

  pub any_none : (xs : List A) → ((x : A) → Memᴰ x xs → p x ≡ false) → any p xs ≡ false
  unfolding any
  any_none [] h = refl
  any_none (y ∷ ys) h = ap₂ ◌||◌ (h y (Memᴰ.head refl)) (any_none ys (λ x m. h x (Memᴰ.tail m)))

  pub keep_in : (x : A) (xs : List A) → Memᴰ x (keep p xs) → Memᴰ x xs × (p x ≡ true)
  unfolding keep
  keep_in x [] m = absurd (Memᴰ.not-nil m)
  keep_in x (y ∷ ys) m = go (p y) refl m (keep_in x ys)
    where
      go : (b : Bool) → p y ≡ b → Memᴰ x (cons_if b y (keep p ys)) → (Memᴰ x (keep p ys) → Memᴰ x ys × (p x ≡ true)) → Memᴰ x (y ∷ ys) × (p x ≡ true)
      go false e m ih = let h = ih m in (Memᴰ.tail h.0, h.1)
      go true e m ih = first (Memᴰ.cases_cons m)
        where
          first : (x ≡ y) ⊎ Memᴰ x (keep p ys) → Memᴰ x (y ∷ ys) × (p x ≡ true)
          first (inl s) = (Memᴰ.head s, cc)
          first (inr m) = let h = ih m in (Memᴰ.tail h.0, h.1)

  pub in_keep : (x : A) (xs : List A) → Memᴰ x xs → p x ≡ true → Memᴰ x (keep p xs)
  unfolding keep
  in_keep x [] m t = absurd (Memᴰ.not-nil m)
  in_keep x (y ∷ ys) m t = go (p y) refl (Memᴰ.cases_cons m) (λ r. in_keep x ys r t)
    where
      go : (b : Bool) → p y ≡ b → (x ≡ y) ⊎ Memᴰ x ys → (Memᴰ x ys → Memᴰ x (keep p ys)) → Memᴰ x (cons_if b y (keep p ys))
      go true e (inl s) ih = Memᴰ.head s
      go true e (inr r) ih = Memᴰ.tail (ih r)
      go false e (inl s) ih = absurd (true≢false (cc))
      go false e (inr r) ih = ih r

  pub keep_none : (xs : List A) → ((x : A) → Memᴰ x xs → p x ≡ false) → keep p xs ≡ []
  unfolding keep
  keep_none [] h = refl
  keep_none (y ∷ ys) h = ap (λ (b : Bool). cons_if b y (keep p ys)) (h y (Memᴰ.head refl)) ∙ keep_none ys (λ x m. h x (Memᴰ.tail m))

  pub keep_all : (xs : List A) → ((x : A) → Memᴰ x xs → p x ≡ true) → keep p xs ≡ xs
  unfolding keep
  keep_all [] h = refl
  keep_all (y ∷ ys) h = ap (λ (b : Bool). cons_if b y (keep p ys)) (h y (Memᴰ.head refl)) ∙ ap (λ (l : List A). y ∷ l) (keep_all ys (λ x m. h x (Memᴰ.tail m)))

  pub keep_unless : (xs : List A) → any p xs ≡ false → keep p xs ≡ []
  keep_unless xs e = keep_none xs (λ x m. go x m (p x) refl)
    where
      go : (x : A) → Memᴰ x xs → (b : Bool) → p x ≡ b → p x ≡ false
      go x m false t = t
      go x m true t = absurd (true≢false (sym (in_any p x xs m t) ∙ e))

  pub keep_append : (xs ys : List A) → keep p (xs ++ ys) ≡ keep p xs ++ keep p ys
  unfolding keep
  keep_append [] ys = refl
  keep_append (x ∷ xs) ys = ap (cons_if (p x) x) (keep_append xs ys) ∙ go (p x)
    where
      go : (b : Bool) → cons_if b x (keep p xs ++ keep p ys) ≡ cons_if b x (keep p xs) ++ keep p ys
      go true = refl
      go false = refl

  pub keep_flat : {B : Type 0} (f : B → List A) (xs : List B) → keep p (flat_map f xs) ≡ flat_map (λ x. keep p (f x)) xs
  unfolding keep flat_map
  keep_flat f [] = refl
  keep_flat f (x ∷ xs) = keep_append (f x) (flat_map f xs) ∙ ap (λ (l : List A). keep p (f x) ++ l) (keep_flat f xs)

  pub keep_keep : (q : A → Bool) (xs : List A) → keep q (keep p xs) ≡ keep (λ x. p x && q x) xs
  unfolding keep
  keep_keep q [] = refl
  keep_keep q (x ∷ xs) = go (p x) ∙ ap (cons_if (p x && q x) x) (keep_keep q xs)
    where
      go : (b : Bool) → keep q (cons_if b x (keep p xs)) ≡ cons_if (b && q x) x (keep q (keep p xs))
      go true = refl
      go false = refl

  pub keep_fewer : (q : A → Bool) (xs : List A) → ((x : A) → p x ≡ true → q x ≡ true) → length (keep p xs) ≤ length (keep q xs)
  unfolding keep
  keep_fewer q [] h = omega arith
  keep_fewer q (x ∷ xs) h = go (p x) (q x) (h x) (keep_fewer q xs h)
    where
      go : (b c : Bool) → (b ≡ true → c ≡ true) → length (keep p xs) ≤ length (keep q xs) → length (cons_if b x (keep p xs)) ≤ length (cons_if c x (keep q xs))
      go true true f ih = omega arith
      go true false f ih = absurd (true≢false (sym (f refl)))
      go false true f ih = omega arith
      go false false f ih = ih

  pub keep_length : (xs : List A) → length (keep p xs) ≤ length xs
  unfolding keep
  keep_length [] = omega arith
  keep_length (x ∷ xs) = go (p x) (keep_length xs)
    where
      go : (b : Bool) → length (keep p xs) ≤ length xs → length (cons_if b x (keep p xs)) ≤ suc (length xs)
      go true ih = omega arith
      go false ih = omega arith

  pub keep_map : {B : Type 0} (f : B → A) (xs : List B) → keep p (map f xs) ≡ map f (keep (λ x. p (f x)) xs)
  unfolding keep
  keep_map f [] = refl
  keep_map f (x ∷ xs) = ap (cons_if (p (f x)) (f x)) (keep_map f xs) ∙ go (p (f x))
    where
      go : (b : Bool) → cons_if b (f x) (map f (keep (λ y. p (f y)) xs)) ≡ map f (cons_if b x (keep (λ y. p (f y)) xs))
      go true = refl
      go false = refl

  -- two tests in either order
  pub keep_swap : (q : A → Bool) (xs : List A) → keep q (keep p xs) ≡ keep p (keep q xs)
  unfolding keep
  keep_swap q [] = refl
  keep_swap q (x ∷ xs) = go (p x) (q x) refl refl (keep_swap q xs)
    where
      go : (b c : Bool) → p x ≡ b → q x ≡ c → keep q (keep p xs) ≡ keep p (keep q xs) → keep q (cons_if b x (keep p xs)) ≡ keep p (cons_if c x (keep q xs))
      go true true e f ih = rw (e, f) (ap (λ (l : List A). x ∷ l) ih)
      go true false e f ih = rw f ih
      go false true e f ih = rw e ih
      go false false e f ih = ih

  -- what holds of those that pass is all that counts
  pub map_kept : {B : Type 0} (f g : A → B) (xs : List A) → ((x : A) → p x ≡ true → f x ≡ g x) → map f (keep p xs) ≡ map g (keep p xs)
  unfolding keep
  map_kept f g [] h = refl
  map_kept f g (x ∷ xs) h = go (p x) refl (map_kept f g xs h)
    where
      go : (b : Bool) → p x ≡ b → map f (keep p xs) ≡ map g (keep p xs) → map f (cons_if b x (keep p xs)) ≡ map g (cons_if b x (keep p xs))
      go true e ih = ap₂ ◌∷◌ (h x e) ih
      go false e ih = ih

-- tests that agree on what is in the list
pub keep_alike : {A : Type 0} (p q : A → Bool) (xs : List A) → ((x : A) → Memᴰ x xs → p x ≡ q x) → keep p xs ≡ keep q xs
unfolding keep
keep_alike p q [] h = refl
keep_alike p q (x ∷ xs) h =
    ap (λ (b : Bool). cons_if b x (keep p xs)) (h x (Memᴰ.head refl)) ∙ ap (cons_if (q x) x) (keep_alike p q xs (λ y m. h y (Memᴰ.tail m)))

pub keep_same : {A : Type 0} (p q : A → Bool) (xs : List A) → ((x : A) → p x ≡ q x) → keep p xs ≡ keep q xs
keep_same p q xs h = keep_alike p q xs (λ x m. h x)

-- ---- made of each element
pub at_map : {A B : Type 0} (f : A → B) (xs : List A) (i : ℕ) (a : A) (b : B) → i < length xs → get_or (map f xs) i b ≡ f (get_or xs i a)
at_map f [] i a b h = absurd (omega arith)
at_map f (x ∷ xs) zero a b h = refl
at_map f (x ∷ xs) (suc i) a b h = at_map f xs i a b (omega arith)

pub map_same : {A B : Type 0} (f g : A → B) (xs : List A) → ((x : A) → Memᴰ x xs → f x ≡ g x) → map f xs ≡ map g xs
map_same f g [] h = refl
map_same f g (x ∷ xs) h = ap₂ ◌∷◌ (h x (Memᴰ.head refl)) (map_same f g xs (λ y m. h y (Memᴰ.tail m)))

pub flat_in : {A B : Type 0} (f : B → List A) (x : A) (ys : List B) → Memᴰ x (flat_map f ys) → (y : B) × Memᴰ y ys × Memᴰ x (f y)
unfolding flat_map
flat_in f x [] m = absurd (Memᴰ.not-nil m)
flat_in f x (y ∷ ys) m = ⊎_elim (λ l. (y, Memᴰ.head refl, l)) (λ r. let h = flat_in f x ys r in (h.0, Memᴰ.tail h.1, h.2)) (Memᴰ.append_cases (f y) m)

pub take_in : {A : Type 0} (x : A) (n : ℕ) (xs : List A) → Memᴰ x (take n xs) → Memᴰ x xs
take_in x zero xs m = absurd (Memᴰ.not-nil m)
take_in x (suc n) [] m = m
take_in x (suc n) (y ∷ ys) m = ⊎_elim Memᴰ.head (λ r. Memᴰ.tail (take_in x n ys r)) (Memᴰ.cases_cons m)

-- ---- where a number stands
pub record FirstAt (x : ℕ) (xs : List ℕ) : Type 0 where
  pub at : ℕ
  pub inside : at < length xs
  pub here : get_or xs at 0 ≡ x
  pub before : (j : ℕ) → j < at → get_or xs j 0 ≡ x → ⊥

pub first_at_lem : (x : ℕ) (xs : List ℕ) → Memᴰ x xs → FirstAt x xs
first_at_lem x [] m = absurd (Memᴰ.not-nil m)
first_at_lem x (y ∷ ys) m = go (ℕ_discrete y x) (first_at_lem x ys)
  where
    go : Dec (y ≡ x) → (Memᴰ x ys → FirstAt x ys) → FirstAt x (y ∷ ys)
    go (yes e) ih = record { at = 0; inside = omega arith; here = e; before = λ j h. absurd (omega arith) }
    go (no e) ih =
        let f = ih (⊎_elim (λ s. absurd (e (sym s))) (λ r. r) (Memᴰ.cases_cons m)) in
        record { at = suc f.at; inside = omega (arith, f.inside); here = f.here; before = past f }
      where
        past : (f : FirstAt x ys) (j : ℕ) → j < suc f.at → get_or (y ∷ ys) j 0 ≡ x → ⊥
        past f zero h = e
        past f (suc j) h = f.before j (omega arith)

pub got_in : {A : Type 0} (xs : List A) (d : A) (k : ℕ) → k < length xs → Memᴰ (get_or xs k d) xs
got_in [] d k h = absurd (omega arith)
got_in (x ∷ xs) d zero h = Memᴰ.head refl
got_in (x ∷ xs) d (suc k) h = Memᴰ.tail (got_in xs d k (omega arith))

pub at_in : (x : ℕ) (xs : List ℕ) (k : ℕ) → k < length xs → get_or xs k 0 ≡ x → Memᴰ x xs
at_in x xs k h e = subst (λ (y : ℕ). Memᴰ y xs) e (got_in xs 0 k h)
