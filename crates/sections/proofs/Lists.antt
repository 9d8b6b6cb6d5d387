-- Lists: what a loop that reads an element a turn keeps, and what a list's codec reads.
use Prim.Native.Nat.{ℕ, suc, ◌+◌, ◌-◌, ◌≤◌, ◌<◌}
use native.Mathlib.Omega.{arith}
use mathlib.Core.Path.{◌≡◌, ap, ◌∙◌}
use mathlib.Core.List.{List}
use Rattle.format.specs.Reader.{many}
use Rattle.format.specs.Field.{count}
use Rattle.format.specs.Codec.{Codec, field, ◌&◌, times, list, alike, up_to, counted}
use Rattle.records.proofs.Parts.{both_read, iso_read}
use Rattle.sections.specs.declared.Section.{Section}
use Rattle.sections.specs.Sections.{IsList, IsAlike, elements, alike_in}
use Rattle.format.specs.Position.{Pos}

module _ {X A : Type 0} (c : X → Codec A) (f : X → A → X) (s : List ℕ) (n : ℕ) (x : X) (p : Pos) where
  -- i of the n elements from p on are read: they leave the state y, and the next begins at q
  pub record Going (i : ℕ) (y : X) (q : Pos) : Type 0 where
    pub most : i ≤ n
    pub rest : ((times c f (n - i) y).read s q).1 ≡ ((times c f n x).read s p).1

  pub going_none : Going 0 x p
  going_none = record { most = omega arith; rest = let e : n - 0 ≡ n = omega arith in rw e }

-- one element, then the rest
one_more :
    {X A : Type 0} (c : X → Codec A) (f : X → A → X) (s : List ℕ) (m : ℕ) (y : X) (q : Pos) {v : A} {r : Pos} → (v, r) ≡ (c y).read s q →
    ((times c f m (f y v)).read s r).1 ≡ ((times c f (suc m) y).read s q).1
unfolding times many
one_more {X} {A} c f s m y q e = ap (λ (u : A × Pos). (many (λ z. (c z).read) f m (f y u.0) s u.1).1) e

module _
    {X A : Type 0} {c : X → Codec A} {f : X → A → X} {s : List ℕ} {n : ℕ} {x : X} {p : Pos} {i : ℕ} {y : X} {q : Pos}
    (g : Going c f s n x p i y q)
  where
    pub going_more : i < n → {v : A} {r : Pos} → (v, r) ≡ (c y).read s q → Going c f s n x p (i + 1) (f y v) r
    going_more h {v} {r} e =
        let k : n - i ≡ suc (n - (i + 1)) = omega arith in
        record { most = omega arith; rest = one_more c f s (n - (i + 1)) y q e ∙ rw k at g.rest }

    pub going_end : n ≤ i → q ≡ ((times c f n x).read s p).1
    unfolding times many
    going_end h = let k : n - i ≡ 0 = omega arith in rw k at g.rest

-- ---- a list, from its section

pub with_value : {A : Type 0} {v : A × Pos} {q : Pos} → q ≡ v.1 → (v.0, q) ≡ v
with_value {A} {v} e = ap (λ (r : Pos). (v.0, r)) e

elements_read :
    {X A : Type 0} {low most : ℕ} {c : X → Codec A} {f : X → A → X} {x : X} {s : List ℕ} {p : Pos} {r : Section} → IsList low most c f x s p r →
    (elements c f x s r, r.next) ≡ (times c f r.count x).read s r.first
unfolding elements
elements_read l = with_value l.rest

pub list_read :
    {X A : Type 0} {most : ℕ} {c : X → Codec A} {f : X → A → X} {x : X} {s : List ℕ} {p : Pos} {r : Section} → IsList 0 most c f x s p r →
    (elements c f x s r, r.next) ≡ (list most c f x).read s p
unfolding list
list_read {most} {c} {f} {x} {s} {p} l = iso_read _ _ _ _ _ s p (both_read (field (count 0 most)) (λ n. times c f n x) s p l.lead (elements_read l))

-- a list of elements that do not depend on those before them
pub up_to_read :
    {A : Type 0} {most : ℕ} {c : Codec A} {s : List ℕ} {p : Pos} {r : Section} → IsAlike 0 most c s p r →
    (alike_in c s r, r.next) ≡ (up_to most c).read s p
unfolding up_to
up_to_read l = list_read l

-- a list, then what depends on its count
pub counted_read :
    {A B : Type 0} (low most : ℕ) (c : ℕ → Codec A) (b : ℕ → Codec B) (s : List ℕ) (p : Pos) {r : Section} {y : B} {end : Pos} →
    IsAlike low most (c r.count) s p r → (y, end) ≡ (b r.count).read s r.next → ((alike_in (c r.count) s r, y), end) ≡ (counted low most c b).read s p
unfolding counted ◌&◌
counted_read low most c b s p {r} l q =
    iso_read _ _ _ _ _ s p
    (both_read (field (count low most)) (λ n. alike n (c n) & b n) s p l.lead
    (both_read (alike r.count (c r.count)) (λ v. b r.count) s r.first (elements_read l) q))
