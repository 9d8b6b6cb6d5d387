-- No reader goes on, or refuses, beyond the length.
use Prim.Native.Nat.{ℕ, zero, suc, ◌≤◌}
use Rattle.std.proofs.Common.{sym, subst}
use Rattle.std.specs.Prelude.{◌≡◌, refl, Bool, true, false, cond, List, length, ltb, eqb, Err, Ok}
use Rattle.format.specs.Number.{number_at, in_range}
use Rattle.format.specs.NumberLaws.{number_place, number_at_within}
use Rattle.format.specs.Reader.{Reader, place_of, found, number, ranged, here, optional, both, mapped, many, given, tested, passing}
use Rattle.format.specs.Sound.{Sound}
use Rattle.format.specs.Position.{Num, Pos, refused}
use Rattle.format.specs.declared.Reason.{Reason}
use Rattle.format.specs.declared.Reason.TheVariants.{OutOfRange}

-- from a place within the length, to one within the length
pub record Within {A : Type 0} (r : Reader A) : Type 0 where
  pub place : (s : List ℕ) (c : Pos) → place_of c ≤ length s → place_of (r s c).1 ≤ length s

-- the same of a field that is refused at a given place
pub record WithinAt {A : Type 0} (q : ℕ → Reader A) : Type 0 where
  pub place : (at : ℕ) (s : List ℕ) (c : Pos) → at ≤ length s → place_of c ≤ length s → place_of (q at s c).1 ≤ length s

found_place : (m : Num) → place_of (found m).1 ≡ number_place m
unfolding place_of found number_place
found_place (Ok (v, next)) = refl
found_place (Err e) = refl

number_place_lem : (s : List ℕ) (c : Pos) → place_of c ≤ length s → place_of (number s c).1 ≤ length s
unfolding number place_of
number_place_lem s (Ok i) h = rw (found_place (number_at s i)) (number_at_within s i h)
number_place_lem s (Err e) h = h

pub number_within : Within number
number_within = record { place = number_place_lem }

range_place : (low bound : ℕ) (reason : Reason) (at n : ℕ) (m : Num) → at ≤ n → number_place m ≤ n → number_place (in_range low bound reason at m) ≤ n
unfolding in_range number_place
range_place low bound reason at n (Err e) l h = h
range_place low bound reason at n (Ok (v, next)) l h = go (ltb v low) (ltb v bound)
  where
    go : (x y : Bool) → number_place (cond x (refused reason at) (cond y (Ok (v, next)) (refused reason at))) ≤ n
    go true y = l
    go false true = h
    go false false = l

ranged_place :
    (low bound : ℕ) (reason : Reason) (at : ℕ) (s : List ℕ) (c : Pos) → at ≤ length s → place_of c ≤ length s →
    place_of (ranged low bound reason at s c).1 ≤ length s
unfolding ranged place_of
ranged_place low bound reason at s (Ok i) l h =
    let m = number_at s i in
    rw (found_place (in_range low bound reason at m)) (range_place low bound reason at (length s) m l (number_at_within s i h))
ranged_place low bound reason at s (Err e) l h = h

pub ranged_within : (low bound : ℕ) (reason : Reason) → WithinAt (ranged low bound reason)
ranged_within low bound reason = record { place = ranged_place low bound reason }

either_place :
    {A : Type 0} (b : Bool) (x y : A) (c d : Pos) (n : ℕ) → place_of c ≤ n → place_of d ≤ n →
    place_of (cond {A = A × Pos} b (x, c) (y, d)).1 ≤ n
either_place true x y c d n h k = h
either_place false x y c d n h k = k

module _ {A : Type 0} {q : ℕ → Reader A} (Q : WithinAt q) where
  pub here_within : Within (here q)
  unfolding here
  here_within = record { place = λ s c h. Q.place (place_of c) s c h h }

  optional_place : (s : List ℕ) (c : Pos) → place_of c ≤ length s → place_of (optional q s c).1 ≤ length s
  unfolding optional
  optional_place s c h =
      let m = ranged_place 0 2 OutOfRange (place_of c) s c h h in
      either_place (eqb (ranged 0 2 OutOfRange (place_of c) s c).0 0) _ _ _ _ _ m (Q.place (place_of c) s (ranged 0 2 OutOfRange (place_of c) s c).1 h m)

  pub optional_within : Within (optional q)
  optional_within = record { place = optional_place }

pub both_within : {A B : Type 0} {r : Reader A} {q : A → Reader B} → Within r → ((a : A) → Within (q a)) → Within (both r q)
unfolding both
both_within {r = r} R Q = record { place = λ s c h. (Q (r s c).0).place s (r s c).1 (R.place s c h) }

pub mapped_within : {A B : Type 0} (f : A → B) {r : Reader A} → Within r → Within (mapped f r)
unfolding mapped
mapped_within f R = record { place = λ s c h. R.place s c h }

module _ {X A : Type 0} {q : X → Reader A} (Q : (x : X) → Within (q x)) (f : X → A → X) where
  many_place : (n : ℕ) (x : X) (s : List ℕ) (c : Pos) → place_of c ≤ length s → place_of (many q f n x s c).1 ≤ length s
  unfolding many
  many_place zero x s c h = h
  many_place (suc n) x s c h = many_place n (f x (q x s c).0) s (q x s c).1 ((Q x).place s c h)

  pub many_within : (n : ℕ) (x : X) → Within (many q f n x)
  many_within n x = record { place = many_place n x }

pub given_within : {A : Type 0} {r : Reader A} → Within r → (b : Bool) → Within (given b r)
unfolding given
given_within R true = record { place = λ s c h. R.place s c h }
given_within R false = record { place = λ s c h. h }

tested_place :
    Sound → {A : Type 0} (d : A) (reason : Reason) (at n : ℕ) (t : Bool) (a : A) (c : Pos) → at ≤ n → place_of c ≤ n →
    place_of (tested d reason at t (a, c)).1 ≤ n
unfolding tested place_of
tested_place sound d reason at n true a (Ok i) l h = h
tested_place sound d reason at n false a (Ok i) l h = l
tested_place sound {A} d reason at n t a (Err e) l h = subst (λ (v : A × Pos). place_of v.1 ≤ n) (sym (sound.refused d reason at t a e)) h

pub passing_within : Sound → {A : Type 0} (d : A) (t : A → Bool) (reason : Reason) {r : Reader A} → Within r → Within (passing d t reason r)
unfolding passing
passing_within sound d t reason {r} R =
    record { place = λ s c h. tested_place sound d reason (place_of c) (length s) (t (r s c).0) (r s c).0 (r s c).1 h (R.place s c h) }
