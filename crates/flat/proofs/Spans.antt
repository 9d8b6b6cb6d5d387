-- Tables with a row for each number below n.
use Prim.Native.Nat.{ℕ, ◌+◌, ◌*◌, ◌≤◌, ◌<◌}
use native.Mathlib.Omega.{arith}
use mathlib.Core.Path.{◌≡◌, sym, ap, ◌∙◌}
use mathlib.Core.List.{List, flat_map}
use lib.ListN.{length, get_or}
use lib.Seq.{sets}
use Rattle.flat.proofs.Tables.{flat_length, flat_at, flat_cells}
use Rattle.flat.proofs.Written.{Written, written_none, written_more, written_room, written_end}
use Rattle.lists.specs.Lists.{span}
use Rattle.lists.proofs.Spans.{span_length, span_at}

module _ {B : Type 0} (width : ℕ) (row : ℕ → List B) (wide : (i : ℕ) → length (row i) ≡ width) (n : ℕ) where
  pub rows_length : length (flat_map row (span 0 n)) ≡ n * width
  rows_length = flat_length width row wide (span 0 n) ∙ ap (λ (k : ℕ). k * width) (span_length 0 n)

  -- number j of row i
  pub rows_at : (i j : ℕ) (d : B) → i < n → j < width → get_or (flat_map row (span 0 n)) (i * width + j) d ≡ get_or (row i) j d
  rows_at i j d h l = flat_at width row wide (span 0 n) i j 0 d (omega (arith, span_length 0 n)) l ∙ ap (λ (k : ℕ). get_or (row k) j d) (span_at n i h)

  -- a table with these cells is it
  pub rows_cells : (d : B) (table : List B) → length table ≡ n * width → ((i j : ℕ) → i < n → j < width → get_or table (i * width + j) d ≡ get_or (row i) j d) → table ≡ flat_map row (span 0 n)
  rows_cells d table l h =
      flat_cells width row wide (span 0 n) 0 d table (l ∙ ap (λ (k : ℕ). k * width) (sym (span_length 0 n)))
      (λ i j m k. h i j (omega (arith, span_length 0 n)) k ∙ ap (λ (p : ℕ). get_or (row p) j d) (sym (span_at n i (omega (arith, span_length 0 n)))))

  -- ---- a loop that writes them, row i at i * width
  pub rows_none : (out : List B) → length out ≡ n * width → Written width row (span 0 n) 0 0 out
  rows_none out e = written_none width row (span 0 n) wide out (e ∙ ap (λ (k : ℕ). k * width) (sym (span_length 0 n)))

  module _ {i at : ℕ} {out : List B} (w : Written width row (span 0 n) i at out) where
    pub rows_full : length out ≡ n * width
    rows_full = w.full ∙ ap (λ (k : ℕ). k * width) (span_length 0 n)

    pub rows_room : i < n → at + width ≤ length out
    rows_room h = written_room w (omega (arith, span_length 0 n))

    pub rows_more : {at' : ℕ} {out' : List B} → i < n → at' ≡ at + width → out' ≡ sets out at (row i) → Written width row (span 0 n) (i + 1) at' out'
    rows_more h p s = written_more w 0 (omega (arith, span_length 0 n)) (span_at n i h) (wide i) p s

    pub rows_end : n ≤ i → out ≡ flat_map row (span 0 n)
    rows_end h = written_end w (omega (arith, span_length 0 n))
