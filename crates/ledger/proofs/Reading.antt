-- A loop that reads an element of a list a turn, which may depend on those before it: what it keeps.
use Prim.Native.Nat.{ℕ, suc, ◌+◌, ◌-◌, ◌≤◌, ◌<◌}
use native.Mathlib.Nat.{sub-zero}
use native.Mathlib.Omega.{arith}
use mathlib.Core.Path.{◌≡◌, refl, sym, ap, ◌∙◌}
use mathlib.Core.List.{List, [], ◌∷◌, foldl}
use lib.ListN.{drop}
use lib.Seq.{drop-drop}
use Rattle.format.specs.Reader.{many}
use Rattle.format.specs.Codec.{Codec, times}
use Rattle.sections.specs.declared.Section.{Section}
use Rattle.sections.specs.Sections.{elements}
use Rattle.format.specs.Position.{Pos}

module _ {X A : Type 0} (c : X → Codec A) (f : X → A → X) (s : List ℕ) (all : List A) where
  -- i of the n elements are read: they leave the state y, and the next begins at q
  pub record Reading (n i : ℕ) (y : X) (q : Pos) : Type 0 where
    pub most : i ≤ n
    pub here : ((times c f (n - i) y).read s q).0 ≡ drop i all

  pub reading_none : (x : X) (l : Section) → all ≡ elements c f x s l → Reading l.count 0 x l.first
  unfolding elements
  reading_none x l e = record { most = omega arith; here = rw (sub-zero l.count) (sym e) }

module _
    {X A : Type 0} {c : X → Codec A} {f : X → A → X} {s : List ℕ} {all : List A} {n i : ℕ} {y : X} {q : Pos} (a : Reading c f s all n i y q)
  where
    pub reading_end : n ≤ i → drop i all ≡ []
    unfolding times many
    reading_end h = let z : n - i ≡ 0 = omega arith in sym (rw z at a.here)

    module _ (h : i < n) {v : A} {r : Pos} (e : (v, r) ≡ (c y).read s q) where
      ahead : drop i all ≡ v ∷ ((times c f (n - (i + 1)) (f y v)).read s r).0
      unfolding times many
      ahead =
          let z : n - i ≡ suc (n - (i + 1)) = omega arith in
          sym a.here ∙ ap (λ (m : ℕ). ((times c f m y).read s q).0) z
          ∙ sym (ap (λ (u : A × Pos). u.0 ∷ ((times c f (n - (i + 1)) (f y u.0)).read s u.1).0) e)

      further : drop (i + 1) all ≡ ((times c f (n - (i + 1)) (f y v)).read s r).0
      further = sym (drop-drop 1 i all) ∙ ap (drop 1) ahead

      pub reading_more : Reading c f s all n (i + 1) (f y v) r
      reading_more = record { most = omega arith; here = sym further }

      -- what is read, and then the rest
      pub reading_next : drop i all ≡ v ∷ drop (i + 1) all
      reading_next = ahead ∙ ap (λ (l : List A). v ∷ l) (sym further)

-- ---- what is made of the elements, one after the other

-- those before element i made b of b₀
pub record Folded {A B : Type 0} (f : B → A → B) (b₀ : B) (all : List A) (i : ℕ) (b : B) : Type 0 where
  pub rest : foldl f b (drop i all) ≡ foldl f b₀ all

pub folded_none : {A B : Type 0} (f : B → A → B) (b₀ : B) (all : List A) → Folded f b₀ all 0 b₀
folded_none f b₀ all = record { rest = refl }

module _ {A B : Type 0} {f : B → A → B} {b₀ : B} {all : List A} {i : ℕ} {b : B} (w : Folded f b₀ all i b) where
  pub folded_more : {v : A} → drop i all ≡ v ∷ drop (i + 1) all → (b' : B) → b' ≡ f b v → Folded f b₀ all (i + 1) b'
  folded_more e b' g = record { rest = ap (λ (x : B). foldl f x (drop (i + 1) all)) g ∙ sym (ap (foldl f b) e) ∙ w.rest }

  pub folded_end : drop i all ≡ [] → b ≡ foldl f b₀ all
  folded_end e = sym (ap (foldl f b) e) ∙ w.rest
