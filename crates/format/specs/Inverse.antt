-- A reader and a writer that are inverse to each other, and how such pairs are put together.
use Prim.Native.Nat.{ℕ, zero, suc, ◌+◌, ◌^◌, ◌≤◌, ◌<◌}
use Rattle.std.proofs.Common.{add_assoc, ap, sym, subst, ◌∙◌}
use native.Mathlib.Omega.{arith}
use Rattle.std.specs.Prelude.{◌≡◌, Bool, cond, eqb, None, Option, Some, Err, Ok}
use Rattle.std.proofs.Math.Path.{refl}
use Rattle.std.proofs.Math.Bool.{true, false}
use mathlib.Core.List.{List, [], ◌∷◌, ◌++◌, append_assoc}
use Rattle.std.proofs.Math.ListN.{length, drop, length-append}
use Rattle.std.proofs.Math.Dec.{ltb}
use borrow.Author.Tests.{lt-ltb, le-ltb, ltb-true, ltb-false, eqb-true, eqb-false}
use Rattle.format.specs.Number.{number_at, in_range, write_number}
use Rattle.format.specs.Bytes.{Bytes}
use Rattle.format.specs.NumberLaws.{drop_past, number_forth, number_back}
use Rattle.format.specs.Sound.{Sound}
use Rattle.format.specs.Reader.{Reader, Writer, place_of, found, number, ranged, here, optional, write_optional, both, write_both, mapped, many, write_many, given, write_given, tested, passing}
use Rattle.format.specs.Position.{Num, Pos}
use Rattle.format.specs.declared.Refusal.{Refusal}
use Rattle.format.specs.declared.Reason.{Reason}
use Rattle.format.specs.declared.Reason.TheVariants.{OutOfRange}

-- from i on, s has the bytes of v, which is well-formed, up to j
pub record Held {A : Type 0} (write : Writer A) (ok : A → Type 0) (s : List ℕ) (i j : ℕ) (v : A) : Type 0 where
  pub fine : ok v
  pub text : drop i s ≡ write v ++ drop j s
  pub long : j ≡ i + length (write v)

-- stays: a refused position stays refused; forth: what is written is read; back: what is read was written
pub record Inverse {A : Type 0} (read : Reader A) (write : Writer A) (ok : A → Type 0) : Type 0 where
  pub stays : (s : List ℕ) (e : Refusal) → (read s (Err e)).1 ≡ Err e
  pub forth : (v : A) → ok v → (s rest : List ℕ) (i : ℕ) → drop i s ≡ write v ++ rest → read s (Ok i) ≡ (v, Ok (i + length (write v)))
  pub back : (s : List ℕ) → Bytes s → (i j : ℕ) → (read s (Ok i)).1 ≡ Ok j → Held write ok s i j (read s (Ok i)).0

pub never : {A : Type 0} {e : Refusal} {j : ℕ} → ◌≡◌ {A = Pos} (Err e) (Ok j) → A
never h = let z : ◌≡◌ {A = ℕ} 0 1 = cc in absurd (omega arith)

pub at_of : {i j : ℕ} → ◌≡◌ {A = Pos} (Ok i) (Ok j) → i ≡ j
at_of h = cc

-- ---- numbers

number_found :
    Sound → (s : List ℕ) → Bytes s → (i j : ℕ) (m : Num) → number_at s i ≡ m → (found m).1 ≡ Ok j →
    Held write_number (λ (v : ℕ). v < 2 ^ 64) s i j (found m).0
unfolding found
number_found sound s b i j (Err x) e h = never h
number_found sound s b i j (Ok (v, k)) e h =
    let g = number_back sound s b i v k e in
    let z : k ≡ j = at_of h in
    record { fine = g.small; text = rw (← z) g.text; long = rw (← z) g.long }

number_read : (s : List ℕ) (i v j : ℕ) → number_at s i ≡ Ok (v, j) → number s (Ok i) ≡ (v, Ok j)
unfolding number found
number_read s i v j e = rw e

pub number_inverse : Sound → Inverse number write_number (λ (v : ℕ). v < 2 ^ 64)
unfolding number
number_inverse sound =
    record {
      stays = λ s e. refl;
      forth = λ v h s rest i e. number_read s i v _ (number_forth sound v h s rest i e);
      back = λ s b i j e. number_found sound s b i j (number_at s i) refl e;
    }

-- a number of a range
pub record Range (low bound v : ℕ) : Type 0 where
  pub least : low ≤ v
  pub below : v < bound
  pub fits : v < 2 ^ 64

module _ (low bound : ℕ) (reason : Reason) (place : ℕ) where
  ranged_read :
      (s : List ℕ) (i v j : ℕ) → number_at s i ≡ Ok (v, j) → low ≤ v → v < bound →
      ranged low bound reason place s (Ok i) ≡ (v, Ok j)
  unfolding ranged found in_range
  ranged_read s i v j e l h = rw (e, le-ltb _ _ l, lt-ltb _ _ h)

  ranged_found :
      Sound → (s : List ℕ) → Bytes s → (i j : ℕ) (m : Num) → number_at s i ≡ m → (found (in_range low bound reason place m)).1 ≡ Ok j →
      Held write_number (Range low bound) s i j (found (in_range low bound reason place m)).0
  unfolding found in_range
  ranged_found sound s b i j (Err x) e h = never h
  ranged_found sound s b i j (Ok (v, k)) e h = go (ltb v low) (ltb v bound) refl refl
    where
      go :
          (x y : Bool) → ltb v low ≡ x → ltb v bound ≡ y →
          Held write_number (Range low bound) s i j (found (in_range low bound reason place (Ok (v, k)))).0
      go true y p q = never (rw p at h)
      go false false p q = never (rw (p, q) at h)
      go false true p q =
          let g = number_back sound s b i v k e in
          let z : k ≡ j = at_of (rw (p, q) at h) in
          let r : Range low bound v = record { least = ltb-false _ _ p; below = ltb-true _ _ q; fits = g.small } in
          rw (p, q) (record { fine = r; text = rw (← z) g.text; long = rw (← z) g.long })

  pub ranged_inverse : Sound → Inverse (ranged low bound reason place) write_number (Range low bound)
  unfolding ranged
  ranged_inverse sound =
      record {
        stays = λ s e. refl;
        forth = λ v h s rest i e. ranged_read s i v _ (number_forth sound v h.fits s rest i e) h.least h.below;
        back = λ s b i j e. ranged_found sound s b i j (number_at s i) refl e;
      }

-- ---- a field at its own place, and behind a mark

pub here_inverse :
    {A : Type 0} {q : ℕ → Reader A} {w : Writer A} {ok : A → Type 0} → ((place : ℕ) → Inverse (q place) w ok) →
    Inverse (here q) w ok
unfolding here place_of
here_inverse Q =
    record {
      stays = λ s e. (Q e.place).stays s e;
      forth = λ v h s rest i e. (Q i).forth v h s rest i e;
      back = λ s b i j e. (Q i).back s b i j e;
    }

-- the value, where there is one
abbrev pub Given : {A : Type 0} → (A → Type 0) → Option A → Type 0
Given ok None = Unit {0}
Given ok (Some a) = ok a

module _ (sound : Sound) {A : Type 0} {q : ℕ → Reader A} {w : Writer A} {ok : A → Type 0} (Q : (place : ℕ) → Inverse (q place) w ok) where
  optional_back :
      (s : List ℕ) → Bytes s → (i k : ℕ) (x : Bool) (c : Pos) → eqb (ranged 0 2 OutOfRange i s (Ok i)).0 0 ≡ x → (ranged 0 2 OutOfRange i s (Ok i)).1 ≡ c →
      ◌≡◌ {A = Pos} (cond {A = Option A × Pos} x (None, c) (Some (q i s c).0, (q i s c).1)).1 (Ok k) →
      Held (write_optional w) (Given ok) s i k (cond {A = Option A × Pos} x (None, c) (Some (q i s c).0, (q i s c).1)).0
  unfolding write_optional
  optional_back s b i k true (Err x) e m h = never h
  optional_back s b i k false (Err x) e m h = never (sym ((Q i).stays s x) ∙ h)
  optional_back s b i k true (Ok j) e m h =
      let g = (ranged_inverse 0 2 OutOfRange i sound).back s b i j m in
      let z = eqb-true (ranged 0 2 OutOfRange i s (Ok i)).0 0 e in
      record { fine = tt; text = rw (z, at_of h) at g.text; long = rw (z, at_of h) at g.long }
  optional_back s b i k false (Ok j) e m h =
      let g = (ranged_inverse 0 2 OutOfRange i sound).back s b i j m in
      let y = eqb-false (ranged 0 2 OutOfRange i s (Ok i)).0 0 e in
      let z : (ranged 0 2 OutOfRange i s (Ok i)).0 ≡ 1 = omega (arith, g.fine.below) in
      let f = (Q i).back s b j k h in
      let t = rw z at g.text in
      let l = rw z at g.long in
      record {
        fine = f.fine;
        text = t ∙ rw f.text (sym (append_assoc (write_number 1) (w (q i s (Ok j)).0) (drop k s)));
        long = rw (length-append (write_number 1)) (omega (arith, l, f.long));
      }

  optional_forth :
      (v : Option A) → Given ok v → (s rest : List ℕ) (i : ℕ) → drop i s ≡ write_optional w v ++ rest →
      optional q s (Ok i) ≡ (v, Ok (i + length (write_optional w v)))
  unfolding optional write_optional place_of
  optional_forth None h s rest i e = rw (optional, (ranged_inverse 0 2 OutOfRange i sound).forth 0 (omega arith) s rest i e)
  optional_forth (Some a) h s rest i e =
      let d : drop i s ≡ write_number 1 ++ (w a ++ rest) = e ∙ append_assoc (write_number 1) (w a) rest in
      let f = (ranged_inverse 0 2 OutOfRange i sound).forth 1 (omega arith) s _ i d in
      let g = (Q i).forth a h s rest (i + length (write_number 1)) (drop_past s (write_number 1) _ i d) in
      rw (optional, f, g, length-append (write_number 1), add_assoc)

  pub optional_inverse : Inverse (optional q) (write_optional w) (Given ok)
  unfolding optional place_of ranged
  optional_inverse =
      record {
        stays = λ s e. refl;
        forth = optional_forth;
        back = λ s b i j e. optional_back s b i j _ _ refl refl e;
      }

-- ---- one, then another

module _
    {A B : Type 0} {r : Reader A} {w : Writer A} {ok : A → Type 0} {q : A → Reader B} {u : A → Writer B} {fine : A → B → Type 0}
    (R : Inverse r w ok) (Q : (a : A) → Inverse (q a) (u a) (fine a))
  where
    both_back :
        (s : List ℕ) → Bytes s → (i k : ℕ) (c : Pos) → (r s (Ok i)).1 ≡ c → (q (r s (Ok i)).0 s c).1 ≡ Ok k →
        Held (write_both w u) (λ (v : A × B). ok v.0 × fine v.0 v.1) s i k ((r s (Ok i)).0, (q (r s (Ok i)).0 s c).0)
    unfolding write_both
    both_back s b i k (Ok j) p e =
        let a = (r s (Ok i)).0 in
        let g = R.back s b i j p in
        let h = (Q a).back s b j k e in
        record {
          fine = (g.fine, h.fine);
          text = g.text ∙ rw h.text (sym (append_assoc (w a) (u a (q a s (Ok j)).0) (drop k s)));
          long = rw (length-append (w a)) (omega (arith, g.long, h.long));
        }
    both_back s b i k (Err x) m e = never (sym ((Q (r s (Ok i)).0).stays s x) ∙ e)

    pub both_inverse : Inverse (both r q) (write_both w u) (λ (v : A × B). ok v.0 × fine v.0 v.1)
    unfolding both write_both
    both_inverse =
        record {
          stays = λ s e. rw (both, R.stays s e) ((Q _).stays s e);
          forth = λ v h s rest i e.
              let d : drop i s ≡ w v.0 ++ (u v.0 v.1 ++ rest) = e ∙ append_assoc (w v.0) (u v.0 v.1) rest in
              let f = R.forth v.0 h.0 s _ i d in
              let g = (Q v.0).forth v.1 h.1 s rest (i + length (w v.0)) (drop_past s (w v.0) _ i d) in
              rw (both, f, g, length-append (w v.0), add_assoc);
          back = λ s b i k e. both_back s b i k (r s (Ok i)).1 refl e;
        }

-- ---- the same bytes, as another value

module _
    {A B : Type 0} {r : Reader A} {w : Writer A} {ok : A → Type 0} (f : A → B) (g : B → A)
    (fg : (b : B) → ok (g b) → f (g b) ≡ b) (gf : (a : A) → ok a → g (f a) ≡ a) (R : Inverse r w ok)
  where
    pub mapped_inverse : Inverse (mapped f r) (λ (b : B). w (g b)) (λ (b : B). ok (g b))
    unfolding mapped
    mapped_inverse =
        record {
          stays = λ s e. R.stays s e;
          forth = λ v h s rest i e. rw (R.forth (g v) h s rest i e, fg v h);
          back = λ s b i j e.
              let h = R.back s b i j e in
              record { fine = rw (gf _ h.fine) h.fine; text = rw (gf _ h.fine) h.text; long = rw (gf _ h.fine) h.long };
        }

-- ---- n of them

-- each, with the state that those before it leave
abbrev pub Each : {X A : Type 0} → (X → A → Type 0) → (X → A → X) → X → List A → Type 0
Each ok f x [] = Unit {0}
Each ok f x (a ∷ l) = ok x a × Each ok f (f x a) l

module _
    {X A : Type 0} {q : X → Reader A} {w : X → Writer A} {ok : X → A → Type 0} (Q : (x : X) → Inverse (q x) (w x) (ok x)) (f : X → A → X)
  where
    many_forth :
        (n : ℕ) (x : X) (l : List A) → length l ≡ n → Each ok f x l → (s rest : List ℕ) (i : ℕ) → drop i s ≡ write_many w f x l ++ rest →
        many q f n x s (Ok i) ≡ (l, Ok (i + length (write_many w f x l)))
    unfolding many write_many
    many_forth zero x [] m h s rest i e = let z : i + 0 ≡ i = omega arith in rw z
    many_forth zero x (a ∷ l) m h s rest i e = absurd (omega arith)
    many_forth (suc n) x [] m h s rest i e = absurd (omega arith)
    many_forth (suc n) x (a ∷ l) m h s rest i e =
        let d : drop i s ≡ w x a ++ (write_many w f (f x a) l ++ rest) = e ∙ append_assoc (w x a) (write_many w f (f x a) l) rest in
        let g = (Q x).forth a h.0 s _ i d in
        let k = many_forth n (f x a) l (omega arith) h.1 s rest (i + length (w x a)) (drop_past s (w x a) _ i d) in
        rw (many, g, k, length-append (w x a), add_assoc)

    many_stays : (n : ℕ) (x : X) (s : List ℕ) (e : Refusal) → (many q f n x s (Err e)).1 ≡ Err e
    unfolding many
    many_stays zero x s e = refl
    many_stays (suc n) x s e = rw (many, (Q x).stays s e) (many_stays n (f x (q x s (Err e)).0) s e)

    many_back :
        (n : ℕ) (x : X) → ((y : X) → Inverse (many q f n y) (write_many w f y) (λ (l : List A). (length l ≡ n) × Each ok f y l)) →
        (s : List ℕ) → Bytes s → (i k : ℕ) → (many q f (suc n) x s (Ok i)).1 ≡ Ok k →
        Held (write_many w f x) (λ (l : List A). (length l ≡ suc n) × Each ok f x l) s i k (many q f (suc n) x s (Ok i)).0
    unfolding many write_many both write_both
    many_back n x M s b i k e =
        let h = (both_inverse (Q x) (λ (a : A). M (f x a))).back s b i k e in
        record { fine = (ap suc h.fine.1.0, (h.fine.0, h.fine.1.1)); text = h.text; long = h.long }

    pub many_inverse : (n : ℕ) (x : X) → Inverse (many q f n x) (write_many w f x) (λ (l : List A). (length l ≡ n) × Each ok f x l)
    unfolding many write_many
    many_inverse zero x =
        record {
          stays = many_stays zero x;
          forth = λ l h. many_forth zero x l h.0 h.1;
          back = λ s b i j e. record { fine = (refl, tt); text = rw (at_of e); long = rw (← at_of e) (omega arith) };
        }
    many_inverse (suc n) x =
        record {
          stays = many_stays (suc n) x;
          forth = λ l h. many_forth (suc n) x l h.0 h.1;
          back = many_back n x (many_inverse n);
        }

-- ---- a value that passes a test

module _ {A : Type 0} {r : Reader A} {w : Writer A} {ok : A → Type 0} (d : A) (t : A → Bool) (reason : Reason) (R : Inverse r w ok) where
  passing_forth :
      (v : A) → ok v → t v ≡ true → (s rest : List ℕ) (i : ℕ) → drop i s ≡ w v ++ rest →
      passing d t reason r s (Ok i) ≡ (v, Ok (i + length (w v)))
  unfolding passing tested
  passing_forth v h k s rest i e = rw (passing, R.forth v h s rest i e, k)

  passing_back :
      (s : List ℕ) → Bytes s → (i j : ℕ) (c : Pos) (b : Bool) → (r s (Ok i)).1 ≡ c → t (r s (Ok i)).0 ≡ b →
      (tested d reason i b ((r s (Ok i)).0, c)).1 ≡ Ok j →
      Held w (λ (v : A). ok v × (t v ≡ true)) s i j (tested d reason i b ((r s (Ok i)).0, c)).0
  unfolding tested
  passing_back s y i j (Err x) b m k e = never e
  passing_back s y i j (Ok q) false m k e = never e
  passing_back s y i j (Ok q) true m k e = let h = R.back s y i j (m ∙ e) in record { fine = (h.fine, k); text = h.text; long = h.long }

  passing_stays : Sound → (s : List ℕ) (e : Refusal) → (passing d t reason r s (Err e)).1 ≡ Err e
  unfolding passing place_of
  passing_stays sound s e =
      let left = sound.refused d reason e.place (t (r s (Err e)).0) (r s (Err e)).0 e in
      let kept : (tested d reason e.place (t (r s (Err e)).0) ((r s (Err e)).0, Err e)).1 ≡ Err e = ap (λ (v : A × Pos). v.1) left in
      subst (λ (c : Pos). (tested d reason e.place (t (r s (Err e)).0) ((r s (Err e)).0, c)).1 ≡ Err e) (sym (R.stays s e)) kept

  pub passing_inverse : Sound → Inverse (passing d t reason r) w (λ (v : A). ok v × (t v ≡ true))
  unfolding passing place_of
  passing_inverse sound =
      record {
        stays = passing_stays sound;
        forth = λ v h. passing_forth v h.0 h.1;
        back = λ s y i j e. passing_back s y i j _ _ refl refl e;
      }

-- ---- a value that is there only where b is true

abbrev pub GivenIf : {A : Type 0} → (A → Type 0) → Bool → Option A → Type 0
GivenIf ok true None = ⊥
GivenIf ok true (Some a) = ok a
GivenIf ok false None = Unit {0}
GivenIf ok false (Some a) = ⊥

module _ {A : Type 0} {r : Reader A} {w : Writer A} {ok : A → Type 0} (R : Inverse r w ok) where
  given_forth :
      (b : Bool) (v : Option A) → GivenIf ok b v → (s rest : List ℕ) (i : ℕ) → drop i s ≡ write_given w v ++ rest →
      given b r s (Ok i) ≡ (v, Ok (i + length (write_given w v)))
  unfolding given write_given
  given_forth true None h s rest i e = absurd h
  given_forth true (Some a) h s rest i e = rw (R.forth a h s rest i e)
  given_forth false None h s rest i e = let z : i + 0 ≡ i = omega arith in rw z
  given_forth false (Some a) h s rest i e = absurd h

  pub given_inverse : (b : Bool) → Inverse (given b r) (write_given w) (GivenIf ok b)
  unfolding given write_given
  given_inverse true =
      record {
        stays = R.stays;
        forth = given_forth true;
        back = λ s y i j e. let h = R.back s y i j e in record { fine = h.fine; text = h.text; long = h.long };
      }
  given_inverse false =
      record {
        stays = λ s e. refl;
        forth = given_forth false;
        back = λ s y i j e. record { fine = tt; text = rw (at_of e); long = rw (← at_of e) (omega arith) };
      }
