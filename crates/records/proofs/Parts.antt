-- What a codec reads, from what its parts read.
use Rattle.format.specs.declared.Reason.{Reason}
use Prim.Native.Nat.{ℕ, ◌^◌, ◌<◌}
use mathlib.Core.Path.{◌≡◌, ap}
use mathlib.Core.Bool.{Bool}
use mathlib.Core.List.{List}
use lib.IntN.{ℤ}
use lib.Signed.{mag}
use mir.Syntax.{w64}
use mir.Val.{to_z, of_z}
use Rattle.format.specs.Reader.{place_of, both, mapped, tested, passing}
use Rattle.format.specs.Field.{U}
use Rattle.format.specs.Codec.{Codec, field, ◌then◌, ◌&◌, iso, test}
use Rattle.format.specs.Enumeration.{Keeps, enumeration}
use Rattle.fields.proofs.Signed.{kept}
use Rattle.format.specs.Position.{Pos}

-- one, then another
pub both_read :
    {A B : Type 0} (a : Codec A) (b : A → Codec B) (s : List ℕ) (c : Pos) {mid end : Pos} {x : A} {y : B} →
    (x, mid) ≡ a.read s c → (y, end) ≡ (b x).read s mid → ((x, y), end) ≡ (a then b).read s c
unfolding ◌then◌ both
both_read a b s c p q = rw (← p, ← q)

-- as another type
pub iso_read :
    {A B : Type 0} (a : Codec A) (f : A → B) (g : B → A) (fg : (v : B) → a.ok (g v) → f (g v) ≡ v)
    (gf : (v : A) → a.ok v → g (f v) ≡ v) (s : List ℕ) (c : Pos) {end : Pos} {x : A} →
    (x, end) ≡ a.read s c → (f x, end) ≡ (iso a f g fg gf).read s c
unfolding iso mapped
iso_read a f g fg gf s c p = rw (← p)

-- an enum, from its number
pub enum_read :
    {A : Type 0} (most : ℕ) (of : ℕ → A) (number : A → ℕ) (back : (a : A) → of (number a) ≡ a)
    (keeps : Keeps (λ v. number (of v)) most) (s : List ℕ) (c : Pos) {end : Pos} {v : ℕ} {r : A} →
    (v, end) ≡ (field (U 0 most)).read s c → r ≡ of v → (r, end) ≡ (enumeration most of number back keeps).read s c
unfolding enumeration
enum_read most of number back keeps s c p e = rw e (iso_read _ of number _ _ s c p)

-- a signed number, as a struct holds it
pub amount_read : {z : ℤ} {end : Pos} {a : ℤ × Pos} → (z, end) ≡ a → mag z < 2 ^ 63 → (to_z w64 (of_z w64 z), end) ≡ a
amount_read {z} p h = rw (kept z h) p

-- what a test may refuse
pub test_read :
    {A : Type 0} (d : A) (t : A → Bool) (reason : Reason) (a : Codec A) (s : List ℕ) (c : Pos) {mid : Pos} {x : A} {r : A × Pos} →
    (x, mid) ≡ a.read s c → r ≡ tested d reason (place_of c) (t x) (x, mid) → r ≡ (test d t reason a).read s c
unfolding test passing
test_read d t reason a s c p e = rw (← p) e

-- a test whose outcome is known before
pub test_known :
    {A : Type 0} (d : A) (t : A → Bool) (reason : Reason) (a : Codec A) (s : List ℕ) (c : Pos) {b : Bool} → b ≡ t (a.read s c).0 →
    (test d (λ x. b) reason a).read s c ≡ (test d t reason a).read s c
unfolding test passing
test_known d t reason a s c h = rw h

-- what leads a record, and then the rest of it
pub head_read :
    {A B C : Type 0} (a : Codec A) (b : Codec B) (rest : Codec C) (s : List ℕ) (c : Pos) {mid end : Pos} {x : A} {y : B} {z : C} →
    ((x, y), mid) ≡ (a & b).read s c → (z, end) ≡ rest.read s mid → ((x, (y, z)), end) ≡ (a & b & rest).read s c
unfolding ◌&◌ ◌then◌ both
head_read a b rest s c p q =
    let mid = (a.read s c).1 in
    both_read a (λ v. b & rest) s c (ap (λ v. (v.0.0, mid)) p) (both_read b (λ v. rest) s mid (ap (λ v. (v.0.1, v.1)) p) q)
