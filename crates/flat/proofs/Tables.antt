-- Tables as definitions have them: `flat_map row xs`, a row of `width` numbers for each element. Assumes nothing.
use Prim.Native.Nat.{ℕ, zero, suc, ◌+◌, ◌*◌, ◌<◌}
use native.Mathlib.Omega.{arith}
use mathlib.Core.Path.{◌≡◌, refl, sym, ap, ap₂, ◌∙◌}
use mathlib.Core.List.{List, [], ◌∷◌, ◌++◌, map, flat_map, append_assoc, map-append, Memᴰ}
use lib.ListN.{length, get_or, drop, length-append, get_or-append}
use lib.Seq.{get_or-append-add, drop-append-add}
use Rattle.flat.proofs.Cells.{same_cells}

-- ---- rows of any width
module _ {A B : Type 0} where
  pub flat_append : (row : A → List B) (xs ys : List A) → flat_map row (xs ++ ys) ≡ flat_map row xs ++ flat_map row ys
  unfolding flat_map
  flat_append row [] ys = refl
  flat_append row (x ∷ xs) ys = ap (λ (l : List B). row x ++ l) (flat_append row xs ys) ∙ sym (append_assoc (row x) (flat_map row xs) (flat_map row ys))

  -- the rows agree on the elements
  pub flat_same : (row row' : A → List B) (xs : List A) → ((x : A) → Memᴰ x xs → row x ≡ row' x) → flat_map row xs ≡ flat_map row' xs
  unfolding flat_map
  flat_same row row' [] h = refl
  flat_same row row' (x ∷ xs) h = ap₂ ◌++◌ (h x (Memᴰ.head refl)) (flat_same row row' xs (λ y m. h y (Memᴰ.tail m)))

  -- rows of one number are a map
  pub flat_one : (f : A → B) (xs : List A) → flat_map (λ x. f x ∷ []) xs ≡ map f xs
  unfolding flat_map
  flat_one f [] = refl
  flat_one f (x ∷ xs) = ap (λ (l : List B). f x ∷ l) (flat_one f xs)

module _ {A B C : Type 0} where
  pub flat_map_map : (row : B → List C) (f : A → B) (xs : List A) → flat_map row (map f xs) ≡ flat_map (λ x. row (f x)) xs
  unfolding flat_map
  flat_map_map row f [] = refl
  flat_map_map row f (x ∷ xs) = ap (λ (l : List C). row (f x) ++ l) (flat_map_map row f xs)

  pub map_flat : (f : B → C) (row : A → List B) (xs : List A) → map f (flat_map row xs) ≡ flat_map (λ x. map f (row x)) xs
  unfolding flat_map
  map_flat f row [] = refl
  map_flat f row (x ∷ xs) = map-append f (row x) (flat_map row xs) ∙ ap (λ (l : List C). map f (row x) ++ l) (map_flat f row xs)

-- ---- rows of one width
module _ {A B : Type 0} (width : ℕ) (row : A → List B) (wide : (x : A) → length (row x) ≡ width) where
  pub flat_length : (xs : List A) → length (flat_map row xs) ≡ length xs * width
  unfolding flat_map
  flat_length [] = omega arith
  flat_length (x ∷ xs) = length-append (row x) (flat_map row xs) ∙ omega (arith, wide x, flat_length xs)

  -- number j of row i
  pub flat_at : (xs : List A) (i j : ℕ) (e : A) (d : B) → i < length xs → j < width → get_or (flat_map row xs) (i * width + j) d ≡ get_or (row (get_or xs i e)) j d
  unfolding flat_map
  flat_at [] i j e d h l = absurd (omega arith)
  flat_at (x ∷ xs) zero j e d h l =
      let z : 0 * width + j ≡ j = omega arith in
      rw z (get_or-append (row x) (flat_map row xs) d j (omega (arith, wide x)))
  flat_at (x ∷ xs) (suc i) j e d h l =
      let z : suc i * width + j ≡ length (row x) + (i * width + j) = omega (arith, wide x) in
      rw z (get_or-append-add (row x) (flat_map row xs) (i * width + j) d ∙ flat_at xs i j e d (omega arith) l)

  -- a table with these cells is it
  pub flat_cells :
      (xs : List A) (e : A) (d : B) (table : List B) → length table ≡ length xs * width →
      ((i j : ℕ) → i < length xs → j < width → get_or table (i * width + j) d ≡ get_or (row (get_or xs i e)) j d) → table ≡ flat_map row xs
  flat_cells xs e d table l h = same_cells (length xs) width d table (flat_map row xs) l (flat_length xs) (λ i j m k. h i j m k ∙ sym (flat_at xs i j e d m k))

  -- the rows from i on, and those before
  pub flat_drop : (xs : List A) (i : ℕ) → drop (i * width) (flat_map row xs) ≡ flat_map row (drop i xs)
  unfolding flat_map
  flat_drop [] zero = let z : 0 * width ≡ 0 = omega arith in rw z
  flat_drop [] (suc i) = none (suc i * width)
    where
      none : (k : ℕ) → ◌≡◌ {A = List B} (drop k []) []
      none zero = refl
      none (suc k) = refl
  flat_drop (x ∷ xs) zero = let z : 0 * width ≡ 0 = omega arith in rw z
  flat_drop (x ∷ xs) (suc i) =
      let z : suc i * width ≡ length (row x) + i * width = omega (arith, wide x) in
      rw z (drop-append-add (row x) (flat_map row xs) (i * width) ∙ flat_drop xs i)
