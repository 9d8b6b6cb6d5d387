-- A column: what a loop that reads an element a turn, and sets a number of it, keeps.
use Prim.Native.Nat.{ℕ, suc, ◌+◌, ◌-◌, ◌≤◌, ◌<◌}
use native.Mathlib.Numerals.{add-one}
use native.Mathlib.Omega.{arith}
use mathlib.Core.Path.{◌≡◌, ap, sym, ◌∙◌}
use mathlib.Core.List.{List, ◌∷◌, map, append-nil}
use lib.ListN.{length, set, length-set, length-map}
use lib.Seq.{sets, sets-eq, drop-length}
use Rattle.format.specs.Reader.{many}
use Rattle.format.specs.Codec.{Codec, times, alike, stay}
use Rattle.format.proofs.Walks.{times_length}
use Rattle.format.specs.Position.{Pos}

-- a list that is set whole
set_whole : {B : Type 0} (vs t : List B) → length vs ≡ length t → sets t 0 vs ≡ vs
set_whole vs t e =
    let room : 0 + length vs ≤ length t = omega arith in
    let all : 0 + length vs ≡ length t = omega arith in
    rw (sets-eq vs t 0 room, all, drop-length t) (append-nil vs)

module _ {A B : Type 0} (c : Codec A) (f : A → B) (s : List ℕ) (n : ℕ) (p : Pos) where
  -- i of the n elements from p on are read, and the next begins at q: the numbers of the rest are yet to be set
  pub record Filled (i : ℕ) (q : Pos) (t : List B) : Type 0 where
    pub most : i ≤ n
    pub long : length t ≡ n
    pub rest : sets t i (map f ((alike (n - i) c).read s q).0) ≡ map f ((alike n c).read s p).0

  pub filled_none : (t : List B) → length t ≡ n → Filled 0 p t
  filled_none t e =
      let whole : length (map f ((alike n c).read s p).0) ≡ length t =
      length-map ((alike n c).read s p).0 f ∙ times_length (λ x. c) stay s n tt p ∙ sym e
      in
      record { most = omega arith; long = e; rest = let z : n - 0 ≡ n = omega arith in rw z (set_whole (map f ((alike n c).read s p).0) t whole) }

-- one element, then the rest
one_more :
    {A : Type 0} (c : Codec A) (s : List ℕ) (m : ℕ) (q : Pos) {a : A} {r : Pos} → (a, r) ≡ c.read s q →
    a ∷ ((alike m c).read s r).0 ≡ ((alike (suc m) c).read s q).0
unfolding times many
one_more {A} c s m q e = ap (λ (u : A × Pos). u.0 ∷ ((alike m c).read s u.1).0) e

module _ {A B : Type 0} {c : Codec A} {f : A → B} {s : List ℕ} {n : ℕ} {p : Pos} {i : ℕ} {q : Pos} {t : List B} (w : Filled c f s n p i q t) where
  pub filled_more : i < n → {a : A} {r : Pos} → (a, r) ≡ c.read s q → {u : List B} → u ≡ set t i (f a) → Filled c f s n p (i + 1) r u
  filled_more h {a} {r} e {u} g =
      let m = n - (i + 1) in
      let z : n - i ≡ suc (n - (i + 1)) = omega arith in
      let x : sets t i (map f (a ∷ ((alike m c).read s r).0)) ≡ map f ((alike n c).read s p).0 =
      ap (λ (l : List A). sets t i (map f l)) (one_more c s m q e) ∙ rw z at w.rest
      in
      let y : sets t i (map f (a ∷ ((alike m c).read s r).0)) ≡ sets (set t i (f a)) (i + 1) (map f ((alike m c).read s r).0) = rw (add-one i) in
      record { most = omega arith; long = rw g (length-set t i (f a) ∙ w.long); rest = rw g (sym y ∙ x) }

  pub filled_end : n ≤ i → t ≡ map f ((alike n c).read s p).0
  unfolding times many
  filled_end h = let z : n - i ≡ 0 = omega arith in rw z at w.rest
