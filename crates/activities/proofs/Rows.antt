-- Rows of the elements of a list of the book: what a loop keeps that reads an element a turn and sets its row.
use Prim.Native.Nat.{ℕ, zero, suc, ◌+◌, ◌*◌, ◌-◌, ◌≤◌, ◌<◌}
use native.Mathlib.Omega.{arith}
use native.Mathlib.Decide.{dec_lt}
use mathlib.Core.Path.{◌≡◌, refl, ap, sym, ◌∙◌}
use mathlib.Core.List.{List, [], ◌∷◌, flat_map}
use lib.ListN.{length, get_or, set, length-set}
use lib.Seq.{sets, length-sets, get_or-set_same, get_or-set_other}
use Rattle.format.specs.Reader.{many}
use Rattle.format.specs.Codec.{Codec, times, alike, stay}
use Rattle.format.proofs.Walks.{times_length}
use Rattle.flat.proofs.Written.{Writing, writing_none, writing_more, writing_end}
use Rattle.format.specs.Position.{Pos}

-- every row has k entries
abbrev pub Wide : {A B : Type 0} → (A → List B) → ℕ → Type 0
Wide {A} row k = (x : A) → length (row x) ≡ k

module _ {A B : Type 0} (c : Codec A) (row : A → List B) (k : ℕ) (s : List ℕ) (n : ℕ) (p : Pos) where
  -- i of the n elements from p on are read, and the next begins at q: the rows of the rest are yet to be set
  pub record FilledRows (i : ℕ) (q : Pos) (t : List B) : Type 0 where
    pub most : i ≤ n
    pub long : length t ≡ n * k
    pub rest : Writing k row (flat_map row ((alike n c).read s p).0) ((alike (n - i) c).read s q).0 (i * k) t

  pub rows_none : Wide row k → (t : List B) → length t ≡ n * k → FilledRows 0 p t
  rows_none wide t e =
      let count : length ((alike n c).read s p).0 ≡ n = times_length (λ x. c) stay s n tt p in
      let z : n - 0 ≡ n = omega arith in
      let first : 0 * k ≡ 0 = omega arith in
      record { most = omega arith; long = e; rest = rw (z, first) (writing_none k row ((alike n c).read s p).0 wide t (e ∙ sym (ap (λ (m : ℕ). m * k) count))) }

-- one element, then the rest
one_more :
    {A : Type 0} (c : Codec A) (s : List ℕ) (m : ℕ) (q : Pos) {a : A} {r : Pos} → (a, r) ≡ c.read s q →
    a ∷ ((alike m c).read s r).0 ≡ ((alike (suc m) c).read s q).0
unfolding times many
one_more {A} c s m q e = ap (λ (u : A × Pos). u.0 ∷ ((alike m c).read s u.1).0) e

-- element k is what is read behind the k before it
pub element_at : {A : Type 0} (c : Codec A) (s : List ℕ) (n k : ℕ) (p : Pos) (d : A) → k < n → get_or ((alike n c).read s p).0 k d ≡ (c.read s ((alike k c).read s p).1).0
unfolding times many
element_at c s zero k p d h = absurd (omega arith)
element_at c s (suc n) zero p d h = refl
element_at c s (suc n) (suc k) p d h = element_at c s n k (c.read s p).1 d (omega arith)

none_left : {A : Type 0} (c : Codec A) (s : List ℕ) (m : ℕ) (q : Pos) → m ≡ 0 → ((alike m c).read s q).0 ≡ []
unfolding times many
none_left c s m q e = rw e

module _ {A B : Type 0} {c : Codec A} {row : A → List B} {k : ℕ} {s : List ℕ} {n : ℕ} {p : Pos} {i : ℕ} {q : Pos} {t : List B} (w : FilledRows c row k s n p i q t) where
  pub rows_more :
      Wide row k → i < n → {a : A} {r : Pos} → (a, r) ≡ c.read s q → {u : List B} → u ≡ sets t (i * k) (row a) → FilledRows c row k s n p (i + 1) r u
  rows_more wide h {a} {r} e {u} g =
      let z : n - i ≡ suc (n - (i + 1)) = omega arith in
      let left = ap (λ (m : ℕ). ((alike m c).read s q).0) z ∙ sym (one_more c s (n - (i + 1)) q e) in
      record {
        most = omega arith;
        long = ap length g ∙ length-sets t (i * k) (row a) ∙ w.long;
        rest = writing_more w.rest left (wide a) (omega arith) g;
      }

  pub rows_end : n ≤ i → t ≡ flat_map row ((alike n c).read s p).0
  rows_end h = writing_end w.rest (none_left c s (n - i) q (omega arith))

-- ---- what a loop keeps that copies the numbers at one place of the rows

module _ (width at : ℕ) (t : List ℕ) (n : ℕ) where
  -- the numbers of i rows are copied
  pub record Copied (i : ℕ) (out : List ℕ) : Type 0 where
    pub long : length out ≡ n
    pub done : (j : ℕ) → j < i → get_or out j 0 ≡ get_or t (j * width + at) 0

  pub copied_none : (out : List ℕ) → length out ≡ n → Copied 0 out
  copied_none out e = record { long = e; done = λ j h. absurd (omega arith) }

module _ {width at : ℕ} {t : List ℕ} {n i : ℕ} {out : List ℕ} (w : Copied width at t n i out) where
  pub copied_more : i < n → {u : List ℕ} → u ≡ set out i (get_or t (i * width + at) 0) → Copied width at t n (i + 1) u
  copied_more h {u} e = rw e record { long = length-set out i (get_or t (i * width + at) 0) ∙ w.long; done = λ j l. go j l (dec_lt j i) }
    where
      go : (j : ℕ) → j < i + 1 → Dec (j < i) → get_or (set out i (get_or t (i * width + at) 0)) j 0 ≡ get_or t (j * width + at) 0
      go j l (yes k) = get_or-set_other out i j (get_or t (i * width + at) 0) 0 (λ z. omega arith) ∙ w.done j k
      go j l (no k) = let z : j ≡ i = omega arith in rw z (get_or-set_same out i (get_or t (i * width + at) 0) 0 (omega (arith, w.long)))
