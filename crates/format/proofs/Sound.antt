-- The rules that refuse are as the laws ask, so the laws hold as they stand here: of numbers, of tests, of each kind of field and of each codec.
use Rattle.std.specs.Prelude.{Err, Ok}
use Rattle.std.proofs.Common.{ℕ, zero, suc, ◌+◌, ◌*◌, ◌^◌, ◌<◌, ◌≤◌, ◌≡◌, Bool, true, false, ltb, List, ◌++◌, length, drop, refl, arith}
use borrow.Author.Tests.{le-ltb, ne_eqb, ltb-true, ltb-false}
use Rattle.format.specs.Number.{wrong_group, number_at, write_number}
use Rattle.format.specs.Bytes.{Bytes}
use Rattle.format.specs.Reader.{Reader, Writer, number, ranged, optional, write_optional, tested, passing}
use Rattle.format.specs.Sound.{Sound}
use Rattle.format.specs.NumberLaws as numbers
use Rattle.format.specs.NumberLaws.{false_true, Found}
use Rattle.format.specs.Inverse as inverse
use Rattle.format.specs.Inverse.{Inverse, Range, Given}
use Rattle.format.specs.Within as within
use Rattle.format.specs.Within.{Within}
use Rattle.format.specs.Signed as sign
use Rattle.format.specs.Signed.{signed, write_signed, Sendable}
use Rattle.format.specs.Field.{Kind}
use Rattle.format.specs.Codec.{Codec}
use Rattle.format.specs.declared.Refusal.{Refusal}
use Rattle.format.specs.declared.Reason.{Reason}

-- ---- the rules

right_tenth : (b : ℕ) → wrong_group 1 b ≡ false → b ≤ 1
unfolding wrong_group
right_tenth zero w = omega arith
right_tenth (suc b) w = let h = rw (ne_eqb (suc b) 0 (λ z. omega arith)) at w in omega (arith, ltb-false)

right_last : (k n : ℕ) → n < 2 * 128 ^ k → n < 128 → (k < 9 → 0 < n) → wrong_group (suc k) n ≡ false
unfolding wrong_group
right_last zero n u h l = rw (ne_eqb n 0 (λ z. omega (arith, l (omega arith))), le-ltb 1 n (omega arith))
right_last (suc k) zero u h l = go (ltb (suc (suc k)) 10) refl
  where
    go : (b : Bool) → ltb (suc (suc k)) 10 ≡ b → ltb (suc (suc k)) 10 ≡ false
    go true e = let m : suc (suc k) < 10 = ltb-true _ _ e in absurd (omega (arith, l (omega arith)))
    go false e = e
right_last (suc k) (suc n) u h l = rw (ne_eqb (suc n) 0 (λ z. omega arith), ne_eqb (suc (suc k)) 1 (λ z. omega arith))

tested_refused : {A : Type 0} (d : A) (reason : Reason) (place : ℕ) (t : Bool) (a : A) (e : Refusal) → tested d reason place t (a, Err e) ≡ (a, Err e)
unfolding tested
tested_refused d reason place t a e = refl

pub sound : Sound
sound = record { tenth = right_tenth; last = right_last; refused = tested_refused }

-- ---- the laws

pub number_forth :
    (n : ℕ) → n < 2 ^ 64 → (s rest : List ℕ) (at : ℕ) → drop at s ≡ write_number n ++ rest →
    number_at s at ≡ Ok (n, at + length (write_number n))
number_forth = numbers.number_forth sound

pub number_back : (s : List ℕ) → Bytes s → (at v next : ℕ) → number_at s at ≡ Ok (v, next) → Found s at v next
number_back = numbers.number_back sound

pub number_inverse : Inverse number write_number (λ (v : ℕ). v < 2 ^ 64)
number_inverse = inverse.number_inverse sound

pub ranged_inverse : (low bound : ℕ) (reason : Reason) (place : ℕ) → Inverse (ranged low bound reason place) write_number (Range low bound)
ranged_inverse low bound reason place = inverse.ranged_inverse low bound reason place sound

pub optional_inverse :
    {A : Type 0} {q : ℕ → Reader A} {w : Writer A} {ok : A → Type 0} → ((place : ℕ) → Inverse (q place) w ok) →
    Inverse (optional q) (write_optional w) (Given ok)
optional_inverse Q = inverse.optional_inverse sound Q

pub passing_inverse :
    {A : Type 0} {r : Reader A} {w : Writer A} {ok : A → Type 0} (d : A) (t : A → Bool) (reason : Reason) → Inverse r w ok →
    Inverse (passing d t reason r) w (λ (v : A). ok v × (t v ≡ true))
passing_inverse d t reason R = inverse.passing_inverse d t reason R sound

pub passing_within : {A : Type 0} (d : A) (t : A → Bool) (reason : Reason) {r : Reader A} → Within r → Within (passing d t reason r)
passing_within = within.passing_within sound

pub signed_inverse : Inverse signed write_signed Sendable
signed_inverse = sign.signed_inverse sound

pub kind_inverse : {A : Type 0} (k : Kind A) (place : ℕ) → Inverse (k.read place) k.write k.ok
kind_inverse k = k.inverse sound

pub codec_inverse : {A : Type 0} (c : Codec A) → Inverse c.read c.write c.ok
codec_inverse c = c.inverse sound

pub codec_within : {A : Type 0} (c : Codec A) → Within c.read
codec_within c = c.within sound
