-- Rows of one width that a loop writes one behind the other: what is written, with the rows that are left, is the whole. Assumes nothing.
use Prim.Native.Nat.{ℕ, suc, ◌+◌, ◌*◌, ◌≤◌, ◌<◌}
use native.Mathlib.Numerals.{add-one}
use native.Mathlib.Omega.{arith}
use mathlib.Core.Path.{◌≡◌, sym, ap, ◌∙◌}
use mathlib.Core.List.{List, [], ◌∷◌, flat_map}
use lib.ListN.{length, get_or, drop, drop_of_length-le}
use lib.Seq.{sets, length-sets, drop-cons}
use Rattle.flat.proofs.Cells.{row_inside}
use Rattle.flat.proofs.Tables.{flat_length}
use Rattle.flat.proofs.Sets.{sets_on, sets_whole}

-- ---- by the elements that are left

-- the next row goes to `at`, and once the rows of `rest` are written the memory is `all`
pub record Writing {A B : Type 0} (width : ℕ) (row : A → List B) (all : List B) (rest : List A) (at : ℕ) (out : List B) : Type 0 where
  pub room : length out ≡ at + length rest * width
  pub left : sets out at (flat_map row rest) ≡ all

module _ {A B : Type 0} (width : ℕ) (row : A → List B) (xs : List A) where
  -- nothing is written, and all that is lent will be
  pub writing_none : ((x : A) → length (row x) ≡ width) → (out : List B) → length out ≡ length xs * width → Writing width row (flat_map row xs) xs 0 out
  writing_none wide out e = record { room = omega arith; left = sets_whole (flat_map row xs) out (flat_length width row wide xs ∙ sym e) }

module _ {A B : Type 0} {width : ℕ} {row : A → List B} {all : List B} {rest : List A} {at : ℕ} {out : List B} (w : Writing width row all rest at out) where
  pub writing_length : length out ≡ length all
  writing_length = sym (length-sets out at (flat_map row rest)) ∙ ap length w.left

  pub writing_room : {x : A} {rest' : List A} → rest ≡ x ∷ rest' → at + width ≤ length out
  writing_room e = omega (arith, w.room, ap (λ (l : List A). length l * width) e)

  -- the row of the next element is written
  pub writing_more :
      {x : A} {rest' : List A} {at' : ℕ} {out' : List B} → rest ≡ x ∷ rest' → length (row x) ≡ width → at' ≡ at + width → out' ≡ sets out at (row x) →
      Writing width row all rest' at' out'
  unfolding flat_map
  writing_more {x} {rest'} {at'} e long p s =
      record {
        room = ap length s ∙ length-sets out at (row x) ∙ omega (arith, w.room, ap (λ (l : List A). length l * width) e);
        left =
            ap (λ (l : List B). sets l at' (flat_map row rest')) s
            ∙ sets_on out at (row x) (flat_map row rest') at' (omega arith)
            ∙ sym (ap (λ (l : List A). sets out at (flat_map row l)) e)
            ∙ w.left;
      }

  -- a turn that writes no row
  pub writing_past : {rest' : List A} {at' : ℕ} {out' : List B} → rest ≡ rest' → at' ≡ at → out' ≡ out → Writing width row all rest' at' out'
  writing_past e p s = rw (← e, p, s) w

  pub writing_end : rest ≡ [] → out ≡ all
  unfolding flat_map
  writing_end e = sym (ap (λ (l : List A). sets out at (flat_map row l)) e) ∙ w.left

-- ---- by the index of the next element

-- the rows of the first i elements are written, and the next goes to `at`
pub record Written {A B : Type 0} (width : ℕ) (row : A → List B) (xs : List A) (i at : ℕ) (out : List B) : Type 0 where
  pub most : i ≤ length xs
  pub place : at ≡ i * width
  pub full : length out ≡ length xs * width
  pub writing : Writing width row (flat_map row xs) (drop i xs) at out

pub written_none : {A B : Type 0} (width : ℕ) (row : A → List B) (xs : List A) → ((x : A) → length (row x) ≡ width) → (out : List B) → length out ≡ length xs * width → Written width row xs 0 0 out
written_none width row xs wide out e = record { most = omega arith; place = omega arith; full = e; writing = writing_none width row xs wide out e }

module _ {A B : Type 0} {width : ℕ} {row : A → List B} {xs : List A} {i at : ℕ} {out : List B} (w : Written width row xs i at out) where
  pub written_room : i < length xs → at + width ≤ length out
  written_room h = omega (arith, w.place, w.full, row_inside width h)

  -- the row of element i, which is x
  pub written_more :
      {x : A} {at' : ℕ} {out' : List B} (e : A) → i < length xs → get_or xs i e ≡ x → length (row x) ≡ width → at' ≡ at + width → out' ≡ sets out at (row x) →
      Written width row xs (i + 1) at' out'
  written_more {x} {at'} {out'} e h same long p s =
      let next : drop i xs ≡ x ∷ drop (i + 1) xs = rw (add-one i) (drop-cons xs i e h ∙ ap (λ (y : A). y ∷ drop (suc i) xs) same) in
      record {
        most = omega arith;
        place = omega (arith, w.place);
        full = ap length s ∙ length-sets out at (row x) ∙ w.full;
        writing = writing_more w.writing next long p s;
      }

  pub written_end : length xs ≤ i → out ≡ flat_map row xs
  written_end h = writing_end w.writing (drop_of_length-le xs {i = i} h)
