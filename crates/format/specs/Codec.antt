-- A format, said once: how a value is read, with its refusals, how it is written, which values are well-formed, and the laws between them.
use Rattle.std.specs.Prelude.{ℕ, ◌<◌, ◌≡◌, refl, Bool, true, false, List, length, eqb, None, Option, Some}
use Rattle.std.proofs.Common.{arith, ap, eqb-true}
use Rattle.std.proofs.lemmas.Bool.{eqb-false}
use Rattle.format.specs.Bytes.{Bytes, optional_bytes, both_bytes, many_bytes, given_bytes}
use Rattle.format.specs.Reader.{Reader, Writer, here, optional, write_optional, both, write_both, mapped, many, write_many, given, write_given, passing}
use Rattle.format.specs.Sound.{Sound}
use Rattle.format.specs.Inverse.{Inverse, Given, GivenIf, Each, here_inverse, optional_inverse, both_inverse, mapped_inverse, many_inverse, given_inverse, passing_inverse}
use Rattle.format.specs.Within.{Within, here_within, optional_within, both_within, mapped_within, many_within, given_within, passing_within}
use Rattle.format.specs.Field.{Kind, range, U, count}
use Rattle.format.specs.declared.Reason.{Reason}

-- `ok`: which values are well-formed; `bytes`: what is written are bytes; `within`: no place is beyond the length
pub record Codec (A : Type 0) : Type 1 where
  pub read : Reader A
  pub write : Writer A
  pub ok : A → Type 0
  pub inverse : Sound → Inverse read write ok
  pub bytes : (a : A) → Bytes (write a)
  pub within : Sound → Within read

-- ---- fields

-- a field, refused at its own place
unfoldable pub field : {A : Type 0} → Kind A → Codec A
field k =
    record {
      read = here k.read;
      write = k.write;
      ok = k.ok;
      inverse = λ sound. here_inverse (k.inverse sound);
      bytes = k.bytes;
      within = λ sound. here_within k.within;
    }

-- O: U 0 for none, or 1 and then the value, which is refused at its mark's place
unfoldable pub O : {A : Type 0} → Kind A → Codec (Option A)
O k =
    record {
      read = optional k.read;
      write = write_optional k.write;
      ok = Given k.ok;
      inverse = λ sound. optional_inverse sound (k.inverse sound);
      bytes = optional_bytes k.write k.bytes;
      within = λ sound. optional_within k.within;
    }

-- ---- one after another

-- one, then another that may depend on it
infixr 60 ◌then◌
unfoldable pub ◌then◌ : {A B : Type 0} → Codec A → (A → Codec B) → Codec (A × B)
◌then◌ a b =
    record {
      read = both a.read (λ x. (b x).read);
      write = write_both a.write (λ x. (b x).write);
      ok = λ v. a.ok v.0 × (b v.0).ok v.1;
      inverse = λ sound. both_inverse (a.inverse sound) (λ x. (b x).inverse sound);
      bytes = both_bytes a.write (λ x. (b x).write) a.bytes (λ x. (b x).bytes);
      within = λ sound. both_within (a.within sound) (λ x. (b x).within sound);
    }

-- one, then another that does not
infixr 60 ◌&◌
unfoldable pub ◌&◌ : {A B : Type 0} → Codec A → Codec B → Codec (A × B)
◌&◌ a b = a then (λ x. b)

-- the value of `a & b`
infixr 60 ◌and◌
abbrev pub ◌and◌ : {A B : Type 0} → A → B → A × B
◌and◌ x y = (x, y)

-- the same bytes, as another type
unfoldable pub iso :
    {A B : Type 0} (c : Codec A) (f : A → B) (g : B → A) → ((b : B) → c.ok (g b) → f (g b) ≡ b) →
    ((a : A) → c.ok a → g (f a) ≡ a) → Codec B
iso c f g fg gf =
    record {
      read = mapped f c.read;
      write = λ b. c.write (g b);
      ok = λ b. c.ok (g b);
      inverse = λ sound. mapped_inverse f g fg gf (c.inverse sound);
      bytes = λ b. c.bytes (g b);
      within = λ sound. mapped_within f (c.within sound);
    }

-- what a test refuses with `reason` at the place where it begins; it then reads as d
unfoldable pub test : {A : Type 0} → A → (A → Bool) → Reason → Codec A → Codec A
test d t reason c =
    record {
      read = passing d t reason c.read;
      write = c.write;
      ok = λ v. c.ok v × (t v ≡ true);
      inverse = λ sound. passing_inverse d t reason (c.inverse sound) sound;
      bytes = c.bytes;
      within = λ sound. passing_within sound d t reason (c.within sound);
    }

-- a value that is there only where b is true
unfoldable pub when : {A : Type 0} → Bool → Codec A → Codec (Option A)
when b c =
    record {
      read = given b c.read;
      write = write_given c.write;
      ok = GivenIf c.ok b;
      inverse = λ sound. given_inverse (c.inverse sound) b;
      bytes = given_bytes c.write c.bytes;
      within = λ sound. given_within (c.within sound) b;
    }

-- the mark: 0 for none, 1 before a value
abbrev pub mark_of : {A : Type 0} → Option A → ℕ
mark_of None = 0
mark_of (Some a) = 1

pub mark_back : {A : Type 0} (ok : A → Type 0) (m : ℕ) → m < 2 → (b : Bool) → eqb m 1 ≡ b → (o : Option A) → GivenIf ok b o → mark_of o ≡ m
mark_back ok m l true e None h = absurd h
mark_back ok m l true e (Some a) h = omega (arith, eqb-true m 1 e)
mark_back ok m l false e None h = omega (arith, eqb-false m 1 e)
mark_back ok m l false e (Some a) h = absurd h

-- U 0, or 1 then what c says, which is refused at its own places
unfoldable pub marked : {A : Type 0} → Codec A → Codec (Option A)
unfolding ◌then◌ field range when
marked c =
    iso (field (U 0 1) then (λ m. when (eqb m 1) c))
    (λ v. v.1)
    (λ o. (mark_of o, o))
    (λ o h. refl)
    (λ v h. ap (λ m. (m, v.1)) (mark_back c.ok v.0 h.0.below (eqb v.0 1) refl v.1 h.1))

-- ---- lists

-- n of them, each of which may depend on a state that those before it leave
unfoldable pub times : {X A : Type 0} → (X → Codec A) → (X → A → X) → ℕ → X → Codec (List A)
times c f n x =
    record {
      read = many (λ y. (c y).read) f n x;
      write = write_many (λ y. (c y).write) f x;
      ok = λ l. (length l ≡ n) × Each (λ y. (c y).ok) f x l;
      inverse = λ sound. many_inverse (λ y. (c y).inverse sound) f n x;
      bytes = many_bytes (λ y. (c y).write) f (λ y. (c y).bytes) x;
      within = λ sound. many_within (λ y. (c y).within sound) f n x;
    }

-- up to `most`, led by their count
unfoldable pub list : {X A : Type 0} → ℕ → (X → Codec A) → (X → A → X) → X → Codec (List A)
unfolding ◌then◌ times
list most c f x =
    iso (field (count 0 most) then (λ n. times c f n x))
    (λ v. v.1)
    (λ l. (length l, l))
    (λ l h. refl)
    (λ v h. ap (λ n. (n, v.1)) h.1.0)

-- a state that no element changes
abbrev pub stay : {A : Type 0} → Unit {0} → A → Unit {0}
stay x a = x

-- n alike: no element depends on those before it
abbrev pub alike : {A : Type 0} → ℕ → Codec A → Codec (List A)
alike n c = times (λ x. c) stay n tt

-- up to `most` alike, led by their count
unfoldable pub up_to : {A : Type 0} → ℕ → Codec A → Codec (List A)
up_to most c = list most (λ x. c) stay tt

-- from `low` to `most` alike, led by their count, which they and all that follows may depend on
unfoldable pub counted : {A B : Type 0} → ℕ → ℕ → (ℕ → Codec A) → (ℕ → Codec B) → Codec (List A × B)
unfolding ◌&◌ ◌then◌ times
counted low most c b =
    iso (field (count low most) then (λ n. alike n (c n) & b n))
    (λ v. v.1)
    (λ v. (length v.0, v))
    (λ v h. refl)
    (λ v h. ap (λ n. (n, v.1)) h.1.0.0)
