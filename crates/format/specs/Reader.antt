-- Readers and writers of values, and how they are put together. A refused position stays refused.
use Rattle.std.specs.Prelude.{ℕ, zero, suc, Bool, cond, List, [], ◌∷◌, ◌++◌, eqb, None, Option, Some, Err, Ok}
use Rattle.format.specs.Number.{number_at, in_range, write_number}
use Rattle.format.specs.Position.{Num, Pos, refused}
use Rattle.format.specs.declared.Reason.TheVariants.{OutOfRange}
use Rattle.format.specs.declared.Reason.{Reason}

-- from the bytes and a position: a value and the position after it
abbrev pub Reader : Type 0 → Type 0
Reader A = List ℕ → Pos → A × Pos

abbrev pub Writer : Type 0 → Type 0
Writer A = A → List ℕ

-- the place of a position: it counts bytes from 0; of a refused one, the refusal's place
unfoldable pub place_of : Pos → ℕ
place_of (Ok i) = i
place_of (Err e) = e.place

-- what is refused reads as 0
unfoldable pub found : Num → ℕ × Pos
found (Ok (v, next)) = (v, Ok next)
found (Err e) = (0, Err e)

-- any number
unfoldable pub number : Reader ℕ
number s (Ok i) = found (number_at s i)
number s (Err e) = (0, Err e)

-- a number from `low` to below `bound`; outside, the refusal `reason` at `place`
unfoldable pub ranged : ℕ → ℕ → Reason → ℕ → Reader ℕ
ranged low bound reason place s (Ok i) = found (in_range low bound reason place (number_at s i))
ranged low bound reason place s (Err e) = (0, Err e)

-- what is refused at the place where it begins
unfoldable pub here : {A : Type 0} → (ℕ → Reader A) → Reader A
here q s c = q (place_of c) s c

-- 0 for none, or 1 and then the value, which is refused at the mark's place
unfoldable pub optional : {A : Type 0} → (ℕ → Reader A) → Reader (Option A)
optional q s c =
    let mark = ranged 0 2 OutOfRange (place_of c) s c in
    let value = q (place_of c) s mark.1 in
    cond (eqb mark.0 0) (None, mark.1) (Some value.0, value.1)

unfoldable pub write_optional : {A : Type 0} → Writer A → Writer (Option A)
write_optional w None = write_number 0
write_optional w (Some a) = write_number 1 ++ w a

-- one, then another that may depend on it
unfoldable pub both : {A B : Type 0} → Reader A → (A → Reader B) → Reader (A × B)
both r q s c =
    let a = r s c in
    let b = q a.0 s a.1 in
    ((a.0, b.0), b.1)

unfoldable pub write_both : {A B : Type 0} → Writer A → (A → Writer B) → Writer (A × B)
write_both w u v = w v.0 ++ u v.0 v.1

-- the same bytes, as another value
unfoldable pub mapped : {A B : Type 0} → (A → B) → Reader A → Reader B
mapped f r s c = let a = r s c in (f a.0, a.1)

-- n of them, each of which may depend on a state that those before it leave
unfoldable pub many : {X A : Type 0} → (X → Reader A) → (X → A → X) → ℕ → X → Reader (List A)
many q f zero x s c = ([], c)
many q f (suc n) x s c =
    let a = q x s c in
    let l = many q f n (f x a.0) s a.1 in
    (a.0 ∷ l.0, l.1)

unfoldable pub write_many : {X A : Type 0} → (X → Writer A) → (X → A → X) → X → Writer (List A)
write_many w f x [] = []
write_many w f x (a ∷ l) = w x a ++ write_many w f (f x a) l

-- a value that is there only where b is true
unfoldable pub given : {A : Type 0} → Bool → Reader A → Reader (Option A)
given b r s c = let v = r s c in cond b (Some v.0, v.1) (None, c)

unfoldable pub write_given : {A : Type 0} → Writer A → Writer (Option A)
write_given w None = []
write_given w (Some a) = w a

-- a value that was read, and whether it passes a test: where it fails, the refusal `reason` at `place`, which reads as d
unfoldable pub tested : {A : Type 0} → A → Reason → ℕ → Bool → A × Pos → A × Pos
tested d reason place t (a, Ok i) = cond t (a, Ok i) (d, refused reason place)
tested d reason place t (a, Err e) = (a, Err e)

-- the same, refused at the place where the value begins
unfoldable pub passing : {A : Type 0} → A → (A → Bool) → Reason → Reader A → Reader A
passing d t reason r s c = let a = r s c in tested d reason (place_of c) (t a.0) a
