-- What is written are bytes.
use Rattle.std.specs.Prelude.{ℕ, zero, suc, ◌+◌, ◌/◌, ◌%◌, ◌<◌, ◌≡◌, refl, Bool, true, false, cond, List, [], ◌∷◌, ◌++◌, get_or, ltb, None, Option, Some}
use Rattle.std.proofs.Common.{arith, ltb-true}
use Rattle.format.specs.Number.{write_groups, write_number}
use Rattle.format.specs.Reader.{Writer, write_optional, write_both, write_many, write_given}

-- each element is a byte
abbrev pub Bytes : List ℕ → Type 0
Bytes s = (i : ℕ) → get_or s i 0 < 256

no_bytes : Bytes []
no_bytes i = omega arith

cons_bytes : (b : ℕ) (s : List ℕ) → b < 256 → Bytes s → Bytes (b ∷ s)
cons_bytes b s h t zero = h
cons_bytes b s h t (suc i) = t i

append_bytes : (s t : List ℕ) → Bytes s → Bytes t → Bytes (s ++ t)
append_bytes [] t h k = k
append_bytes (b ∷ s) t h k = cons_bytes b (s ++ t) (h 0) (append_bytes s t (λ i. h (suc i)) k)

groups_bytes : (left n : ℕ) → Bytes (write_groups left n)
unfolding write_groups
groups_bytes zero n = no_bytes
groups_bytes (suc left) n = go (ltb n 128) refl (groups_bytes left (n / 128))
  where
    go :
        (b : Bool) → ltb n 128 ≡ b → Bytes (write_groups left (n / 128)) →
        Bytes (cond b (n ∷ []) ((n % 128 + 128) ∷ write_groups left (n / 128)))
    go true e h = cons_bytes n [] (omega (arith, ltb-true n 128 e)) no_bytes
    go false e h = cons_bytes (n % 128 + 128) (write_groups left (n / 128)) (omega arith) h

pub number_bytes : (n : ℕ) → Bytes (write_number n)
unfolding write_number
number_bytes n = groups_bytes 10 n

pub optional_bytes : {A : Type 0} (w : Writer A) → ((a : A) → Bytes (w a)) → (o : Option A) → Bytes (write_optional w o)
unfolding write_optional
optional_bytes w h None = number_bytes 0
optional_bytes w h (Some a) = append_bytes (write_number 1) (w a) (number_bytes 1) (h a)

pub both_bytes :
    {A B : Type 0} (w : Writer A) (u : A → Writer B) → ((a : A) → Bytes (w a)) → ((a : A) (b : B) → Bytes (u a b)) → (v : A × B) →
    Bytes (write_both w u v)
unfolding write_both
both_bytes w u h k v = append_bytes (w v.0) (u v.0 v.1) (h v.0) (k v.0 v.1)

pub many_bytes :
    {X A : Type 0} (w : X → Writer A) (f : X → A → X) → ((x : X) (a : A) → Bytes (w x a)) → (x : X) (l : List A) →
    Bytes (write_many w f x l)
unfolding write_many
many_bytes w f h x [] = no_bytes
many_bytes w f h x (a ∷ l) = append_bytes (w x a) (write_many w f (f x a) l) (h x a) (many_bytes w f h (f x a) l)

pub given_bytes : {A : Type 0} (w : Writer A) → ((a : A) → Bytes (w a)) → (o : Option A) → Bytes (write_given w o)
unfolding write_given
given_bytes w h None = no_bytes
given_bytes w h (Some a) = h a
