-- Rows of points: how many numbers they are, what a loop keeps that writes them, and what is answered with them.
use Rattle.std.specs.Prelude.{Ok}
use Prim.Native.Nat.{ℕ, suc, ◌+◌, ◌*◌, ◌/◌, ◌^◌, ◌≤◌, ◌<◌}
use mathlib.Core.Path.{◌≡◌, refl, sym, ap, ◌∙◌, subst}
use mathlib.Core.Bool.{Bool, true, false}
use mathlib.Core.List.{List, [], ◌∷◌, ◌++◌, map, flat_map}
use native.Mathlib.Numerals.{add-one}
use native.Mathlib.Omega.{arith}
use lib.IntN.{ℤ}
use lib.ListN.{length, set, drop, length-append}
use lib.Seq.{sets, sets-eq, length-sets}
use Rattle.money.specs.Words.{bits, of_bits}
use Rattle.money.proofs.Bits.{back_and_there}
use Rattle.rows.specs.Rows.{numbers}
use Rattle.lists.specs.Lists.{cons_if, keep}
use Rattle.model.specs.Days.{dates_between}
use Rattle.model.specs.Amounts.{Dated, on}
use Rattle.answers.specs.Rows.{point_row, point_rows}
use Rattle.answers.specs.Calls.{Puts}
use Rattle.answers.proofs.Sized.{Sized, sized, no_room, in_front}
use Rattle.bydate.specs.Pointed.{is_marked, sum_on, points_in, row_if}
use Rattle.format.specs.declared.Reason.TheVariants.{TooShort}
use Rattle.format.specs.Position.{refused}
use Rattle.laid.proofs.Dates.{one_first, none_left}
use Rattle.answers.specs.Reply.{Reply}

-- ---- one row

pub row_most : (b : Bool) (date sum : ℕ) → length (row_if b date sum) ≤ 2
row_most true date sum = omega arith
row_most false date sum = omega arith

-- as it is written
pub row_written : (out : List ℕ) (j date sum : ℕ) → set (set out j date) (j + 1) sum ≡ sets out j (row_if true date sum)
row_written out j date sum = ap (λ (k : ℕ). set (set out j date) k sum) (add-one j)

-- of a point, if there is one
pub row_if_lem : (b : Bool) (date : ℕ) (z : ℤ) → point_rows (cons_if b (on date z) []) ≡ row_if b date (bits z)
unfolding point_rows flat_map
row_if_lem true date z = refl
row_if_lem false date z = refl

-- as a table holds it
pub row_held : (b : Bool) (date sum : ℕ) → sum < 2 ^ 64 → point_rows (cons_if b (on date (of_bits sum)) []) ≡ row_if b date sum
row_held b date sum h = row_if_lem b date (of_bits sum) ∙ ap (row_if b date) (back_and_there sum h)

-- ---- rows, and those after them

rows_append : (xs ys : List Dated) → point_rows (xs ++ ys) ≡ point_rows xs ++ point_rows ys
unfolding point_rows flat_map
rows_append [] ys = refl
rows_append (x ∷ xs) ys = ap (λ (l : List ℕ). point_row x ++ l) (rows_append xs ys)

sets_append : (t xs ys : List ℕ) (i : ℕ) → sets t i (xs ++ ys) ≡ sets (sets t i xs) (i + length xs) ys
sets_append t [] ys i = let e : i ≡ i + 0 = omega arith in ap (λ (j : ℕ). sets t j ys) e
sets_append t (x ∷ xs) ys i =
    let e : suc i + length xs ≡ i + suc (length xs) = omega arith in
    sets_append (set t i x) xs ys (suc i) ∙ ap (λ (j : ℕ). sets (sets (set t i x) (suc i) xs) j ys) e

-- what a loop keeps: with the rows of the points that are left, from number j on, all are written; `out₀` is what was lent
pub record Putting (all rest : List Dated) (out₀ out : List ℕ) (j : ℕ) : Type 0 where
  pub long : length out ≡ length out₀
  pub counted : j + length (point_rows rest) ≡ length (point_rows all)
  pub written : sets out j (point_rows rest) ≡ sets out₀ 0 (point_rows all)

pub putting_none : (all : List Dated) (out : List ℕ) → Putting all all out out 0
putting_none all out = record { long = refl; counted = omega arith; written = refl }

module _ {all rest : List Dated} {out₀ out : List ℕ} {j : ℕ} (w : Putting all rest out₀ out j) where
  pub putting_more : {row : List ℕ} (xs : List Dated) {left : List Dated} → rest ≡ xs ++ left → point_rows xs ≡ row → {next : ℕ} → next ≡ j + length row → {after : List ℕ} → after ≡ sets out j row → Putting all left out₀ after next
  putting_more {row} xs {left} e r {next} n {after} a =
      let parts = ap point_rows e ∙ rows_append xs left ∙ ap (λ (l : List ℕ). l ++ point_rows left) r in
      record {
        long = ap length a ∙ length-sets out j row ∙ w.long;
        counted = omega (arith, n, w.counted, ap length parts, length-append row (point_rows left));
        written =
            ap (λ (t : List ℕ). sets t next (point_rows left)) a
            ∙ ap (λ (k : ℕ). sets (sets out j row) k (point_rows left)) n
            ∙ sym (sets_append out row (point_rows left) j) ∙ sym (ap (sets out j) parts) ∙ w.written;
      }

  pub putting_count : rest ≡ [] → j ≡ length (point_rows all)
  unfolding point_rows flat_map
  putting_count e = omega (arith, w.counted, ap (λ (xs : List Dated). length (point_rows xs)) e)

  pub putting_end : rest ≡ [] → out ≡ sets out₀ 0 (point_rows all)
  unfolding point_rows flat_map
  putting_end e = sym (ap (λ (xs : List Dated). sets out j (point_rows xs)) e) ∙ w.written

-- ---- the points of a table from a date on

module _ (base to : ℕ) (table : List ℕ) where
  pub points_next : (date : ℕ) (b : Bool) → date ≤ to → b ≡ is_marked base table date → points_in base table date to ≡ cons_if b (sum_on base table date) [] ++ points_in base table (date + 1) to
  unfolding points_in
  points_next date b h e =
      ap (map (sum_on base table)) (one_first (is_marked base table) date to b h (sym e)) ∙ go b
    where
      go : (b : Bool) → map (sum_on base table) (cons_if b date [] ++ keep (is_marked base table) (dates_between (date + 1) to))
          ≡ cons_if b (sum_on base table date) [] ++ map (sum_on base table) (keep (is_marked base table) (dates_between (date + 1) to))
      go true = refl
      go false = refl

  pub points_end : (date : ℕ) → to < date → points_in base table date to ≡ []
  unfolding points_in
  points_end date h = ap (map (sum_on base table)) (none_left (is_marked base table) date to h)

-- ---- what is answered

numbers_flat : (xs : List Dated) → numbers (map point_row xs) ≡ point_rows xs
unfolding numbers point_rows flat_map
numbers_flat [] = refl
numbers_flat (x ∷ xs) = ap (λ (l : List ℕ). point_row x ++ l) (numbers_flat xs)

module _ (xs : List Dated) (out : List ℕ) where
  points_sized : Sized (map point_row xs) (length xs) 2
  points_sized = sized point_row 2 (λ x. refl) xs (length xs) refl

  rows_length : length (point_rows xs) ≡ length xs * 2
  rows_length = sym (ap length (numbers_flat xs)) ∙ points_sized.long

  pub points_short : length out < length (point_rows xs) → Puts (map point_row xs) out (refused TooShort 0) out
  points_short h = no_room (map point_row xs) out points_sized (omega (arith, rows_length))

  pub points_put : {n : ℕ} → n ≡ length (point_rows xs) → n ≤ length out → {after : List ℕ} → after ≡ sets out 0 (point_rows xs) → Puts (map point_row xs) out (Ok (n / 2)) after
  points_put {n} e h {after} a =
      let half : length xs ≡ n / 2 = omega (arith, rows_length) in
      let room : length xs * 2 ≤ length out = omega (arith, rows_length) in
      let fits : 0 + length (point_rows xs) ≤ length out = omega arith in
      let at : 0 + length (point_rows xs) ≡ length xs * 2 = omega (arith, rows_length) in
      let is : point_rows xs ++ drop (length xs * 2) out ≡ after = sym (a ∙ sets-eq (point_rows xs) out 0 fits ∙ ap (λ (k : ℕ). point_rows xs ++ drop k out) at) in
      subst (λ (l : List ℕ). Puts (map point_row xs) out (Ok (n / 2)) l) is
      (subst (λ (k : ℕ). Puts (map point_row xs) out (Ok k) (point_rows xs ++ drop (length xs * 2) out)) half
      (in_front (map point_row xs) out points_sized room (point_rows xs) (sym (numbers_flat xs))))

  pub nothing_points : xs ≡ [] → Puts (map point_row xs) out (Ok 0) out
  unfolding point_rows flat_map
  nothing_points e = points_put {n = 0} (sym (ap (λ (l : List Dated). length (point_rows l)) e)) (omega arith) (sym (ap (λ (l : List Dated). sets out 0 (point_rows l)) e))

-- the same points under another name
pub puts_same : {xs ys : List Dated} {out after : List ℕ} {r : Reply} → xs ≡ ys → Puts (map point_row xs) out r after → Puts (map point_row ys) out r after
puts_same {out} {after} {r} e p = subst (λ (l : List Dated). Puts (map point_row l) out r after) e p
