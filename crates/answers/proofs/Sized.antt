-- Rows of one width: how many numbers they have, and what is answered with them.
use Rattle.std.specs.Prelude.{Ok}
use Prim.Native.Nat.{ℕ, ◌*◌, ◌≤◌, ◌<◌}
use mathlib.Core.Path.{◌≡◌, refl, sym, ap, ◌∙◌}
use mathlib.Core.List.{List, [], ◌∷◌, ◌++◌, map, flat_map, append-nil}
use native.Mathlib.Omega.{arith}
use lib.ListN.{length, drop, length-map, length-append}
use Rattle.rows.specs.Rows.{numbers}
use Rattle.answers.specs.Rows.{Rows}
use Rattle.answers.specs.Calls.{Puts}
use Rattle.format.specs.declared.Reason.TheVariants.{TooShort}
use Rattle.format.specs.Position.{refused}
use Rattle.answers.proofs.Replies.{too_short, filled}

-- so many rows, each of so many numbers
pub record Sized (rows : Rows) (count width : ℕ) : Type 0 where
  pub many : length rows ≡ count
  pub long : length (numbers rows) ≡ count * width

module _ {A : Type 0} (row : A → List ℕ) (width : ℕ) (wide : (x : A) → length (row x) ≡ width) where
  numbers_length : (xs : List A) → length (numbers (map row xs)) ≡ length xs * width
  unfolding numbers flat_map
  numbers_length [] = omega arith
  numbers_length (x ∷ xs) = length-append (row x) (numbers (map row xs)) ∙ omega (arith, wide x, numbers_length xs)

  pub sized : (xs : List A) (count : ℕ) → length xs ≡ count → Sized (map row xs) count width
  sized xs count e = record { many = length-map xs row ∙ e; long = numbers_length xs ∙ ap (λ (n : ℕ). n * width) e }

-- one row alone
pub one_numbers : (row : List ℕ) → numbers (row ∷ []) ≡ row
unfolding numbers flat_map
one_numbers row = append-nil row

pub one_sized : (row : List ℕ) (width : ℕ) → length row ≡ width → Sized (row ∷ []) 1 width
one_sized row width e = record { many = refl; long = omega (arith, ap length (one_numbers row)) }

no_numbers : (xs : List ℕ) → length xs ≡ 0 → xs ≡ []
no_numbers [] e = refl
no_numbers (x ∷ xs) e = absurd (omega arith)

module _ (rows : Rows) (out : List ℕ) {count width : ℕ} (size : Sized rows count width) where
  pub no_room : length out < count * width → Puts rows out (refused TooShort 0) out
  no_room h = too_short rows out (omega (arith, size.long))

  pub in_front : count * width ≤ length out → (front : List ℕ) → front ≡ numbers rows → Puts rows out (Ok count) (front ++ drop (count * width) out)
  in_front h front e = filled rows out count (sym size.many) (count * width) (sym size.long) h front e

  -- no rows: nothing is put
  pub nothing_there : count ≡ 0 → Puts rows out (Ok 0) out
  nothing_there z =
      let none : length (numbers rows) ≡ 0 = omega (arith, size.long, ap (λ (n : ℕ). n * width) z) in
      filled rows out 0 (sym (size.many ∙ z)) 0 (sym none) (omega arith) [] (sym (no_numbers (numbers rows) none))
