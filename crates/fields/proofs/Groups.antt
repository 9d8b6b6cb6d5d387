-- The state of reading a number's groups, and how each step keeps it.
use Rattle.std.specs.Prelude.{Err, Ok}
use Prim.Native.Nat.{ℕ, zero, suc, ◌+◌, ◌-◌, ◌*◌, ◌^◌, ◌≤◌, ◌<◌}
use native.Mathlib.Nat.{add_assoc, mul-add, mul_assoc, pow-suc, pow-le-pow_right, mul-le-mul_left}
use native.Mathlib.Omega.{arith}
use native.Mathlib.Numerals.{sub-one}
use mathlib.Core.Path.{◌≡◌, refl, ap, sym, ◌∙◌}
use mathlib.Core.List.{List}
use mathlib.Core.Bool.{true, false, cond}
use mathlib.Core.Logic.{◌⊎◌, inl, inr, ⊎_elim}
use lib.ListN.{length, get_or}
use lib.Dec.{ltb, leb}
use borrow.Author.Tests.{le-leb, lt-leb, lt-ltb, le-ltb, eq-eqb, ne_eqb, ltb-false}
use Rattle.format.specs.declared.Reason.TheVariants.{EndsEarly, NotShortest}
use Rattle.format.specs.Number.{wrong_group, onto, groups, number_at}
use Rattle.format.specs.Position.{Num, refused}

onto_none : (r : Num) → onto 0 1 r ≡ r
unfolding onto
onto_none (Ok (v, n)) = ap (λ (x : ℕ). Ok (x, n)) (omega arith)
onto_none (Err e) = refl

onto_onto : (a k d : ℕ) (r : Num) → onto a k (onto d 128 r) ≡ onto (a + k * d) (k * 128) r
unfolding onto
onto_onto a k d (Ok (v, n)) = ap (λ (x : ℕ). Ok (x, n)) (simp (mul-add, mul_assoc, add_assoc))
onto_onto a k d (Err e) = refl

-- the groups, where one is due
groups_step :
    (s : List ℕ) (place at left : ℕ) → 0 < left →
    groups left s place at
    ≡ cond (leb (length s) at)
    (refused EndsEarly (length s))
    (cond (wrong_group left (get_or s at 0))
    (refused NotShortest place)
    (cond (ltb (get_or s at 0) 128)
    (Ok (get_or s at 0, at + 1))
    (onto (get_or s at 0 - 128) 128 (groups (left - 1) s place (at + 1)))))
unfolding groups
groups_step s place at zero h = absurd (omega arith)
groups_step s place at (suc n) h = rw sub-one

-- `left` groups are left from `at` on; those before them come to `sum`, and the next one counts `scale`
pub record Reading (s : List ℕ) (place at left scale sum : ℕ) : Type 0 where
  pub most : left ≤ 10
  pub unit : scale ≡ 128 ^ (10 - left)
  pub less : sum < scale
  pub same : onto sum scale (groups left s place at) ≡ number_at s place

pub begin : (s : List ℕ) (place : ℕ) → Reading s place place 10 1 0
unfolding number_at
begin s place = record { most = omega arith; unit = refl; less = omega arith; same = onto_none _ }

-- the unit of the group that is next: 2^63 at the tenth, and 2^56 at most before it
unit_last : (left scale : ℕ) → 0 < left → scale ≡ 128 ^ (10 - left) → scale ≤ 9223372036854775808
unit_last left scale h e = rw e (pow-le-pow_right (omega arith) {i = 10 - left} {j = 9} (omega arith))

unit_more : (left scale : ℕ) → 1 < left → scale ≡ 128 ^ (10 - left) → scale ≤ 72057594037927936
unit_more left scale h e = rw e (pow-le-pow_right (omega arith) {i = 10 - left} {j = 8} (omega arith))

-- a group that goes on is not the tenth
not_tenth : (left b : ℕ) → 0 < left → wrong_group left b ≡ false → 128 ≤ b → 1 < left
unfolding wrong_group
not_tenth zero b h w m = absurd (omega arith)
not_tenth (suc zero) b h w m =
    let z : true ≡ false = rw (ne_eqb b 0 (λ z. omega arith), lt-ltb 1 b (omega arith)) at w in
    let y : ◌≡◌ {A = ℕ} 0 1 = cc in
    absurd (omega arith)
not_tenth (suc (suc n)) b h w m = omega arith

-- a group that ends the number is 0 or 1 where it is the tenth
low_or_more : (left b : ℕ) → 0 < left → wrong_group left b ≡ false → (b ≤ 1) ⊎ (1 < left)
unfolding wrong_group
low_or_more zero b h w = absurd (omega arith)
low_or_more (suc zero) zero h w = inl (omega arith)
low_or_more (suc zero) (suc b) h w = inl (ltb-false 1 (suc b) (rw (ne_eqb (suc b) 0 (λ z. omega arith)) at w))
low_or_more (suc (suc n)) b h w = inr (omega arith)

-- a byte behind others: 0 is refused, and before the tenth no other is
pub wrong_zero : (left b : ℕ) → left < 10 → b ≡ 0 → wrong_group left b ≡ true
unfolding wrong_group
wrong_zero left b h e = rw (eq-eqb b 0 e, lt-ltb left 10 h)

pub right_more : (left b : ℕ) → 1 < left → (b ≡ 0 → ⊥) → wrong_group left b ≡ false
unfolding wrong_group
right_more left b h e = rw (ne_eqb b 0 e, ne_eqb left 1 (λ z. omega arith))

-- the tenth can only be 1
pub right_tenth : (left b : ℕ) → left ≡ 1 → b ≡ 1 → wrong_group left b ≡ false
unfolding wrong_group
right_tenth left b h e = rw (h, e)

pub wrong_tenth : (left b : ℕ) → left ≡ 1 → (b ≡ 1 → ⊥) → wrong_group left b ≡ true
unfolding wrong_group
wrong_tenth left zero h e = rw h
wrong_tenth left (suc zero) h e = absurd (e refl)
wrong_tenth left (suc (suc b)) h e = rw (h, ne_eqb (suc (suc b)) 0 (λ z. omega arith), lt-ltb 1 (suc (suc b)) (omega arith))

module _ {s : List ℕ} {place at left scale sum : ℕ} (r : Reading s place at left scale sum) (h : 0 < left) where
  -- the book ends where a byte is due
  pub ends : length s ≤ at → refused EndsEarly (length s) ≡ number_at s place
  unfolding onto
  ends m = rw (groups_step s place at left h, le-leb _ _ m) at r.same

  -- the byte that is due is refused
  pub wrong : (b : ℕ) → at < length s → b ≡ get_or s at 0 → wrong_group left b ≡ true → refused NotShortest place ≡ number_at s place
  unfolding onto
  wrong b i e w = rw (groups_step s place at left h, lt-leb _ _ i, ← e, w) at r.same

-- the byte b that is due is not refused
pub record Due (s : List ℕ) (place at left scale sum b : ℕ) : Type 0 where
  pub reading : Reading s place at left scale sum
  pub more : 0 < left
  pub inside : at < length s
  pub byte : b ≡ get_or s at 0
  pub right : wrong_group left b ≡ false

module _ {s : List ℕ} {place at left scale sum b : ℕ} (d : Due s place at left scale sum b) where
  -- it is the last of the number
  pub last : b < 128 → Ok (sum + scale * b, at + 1) ≡ number_at s place
  unfolding onto
  last m = rw (groups_step s place at left d.more, lt-leb _ _ d.inside, ← d.byte, d.right, lt-ltb _ _ m) at d.reading.same

  pub last_fits : b < 128 → sum + scale * b < 2 ^ 64
  last_fits m =
      let r = d.reading in
      ⊎_elim
      (λ (l : b ≤ 1). omega (arith, r.less, unit_last left scale d.more r.unit, mul-le-mul_left {m = b} {n = 1} scale l))
      (λ (l : 1 < left). omega (arith, r.less, unit_more left scale l r.unit, mul-le-mul_left {m = b} {n = 127} scale (omega arith)))
      (low_or_more left b d.more d.right)

  -- others follow
  module _ (m : 128 ≤ b) (q : b < 256) where
    pub goes_on : Reading s place (at + 1) (left - 1) (scale * 128) (sum + scale * (b - 128))
    goes_on =
        let r = d.reading in
        record {
          most = omega (arith, r.most);
          unit = let f : 10 - (left - 1) ≡ suc (10 - left) = omega (arith, r.most, d.more) in rw (f, pow-suc, ← r.unit);
          less = omega (arith, r.less, mul-le-mul_left {m = b - 128} {n = 127} scale (omega arith));
          same =
              sym (onto_onto _ _ _ _)
              ∙ rw (groups_step s place at left d.more, lt-leb _ _ d.inside, ← d.byte, d.right, le-ltb _ _ m) at r.same;
        }

    pub goes_on_fits : (scale * 128 < 2 ^ 64) × (sum + scale * (b - 128) < scale * 128)
    goes_on_fits = (omega (arith, unit_more left scale (not_tenth left b d.more d.right m) d.reading.unit), goes_on.less)

-- the first byte may be 0
first_right : (b : ℕ) → wrong_group 10 b ≡ false
unfolding wrong_group
first_right zero = refl
first_right (suc b) = rw (ne_eqb (suc b) 0 (λ z. omega arith))

-- the first byte: all of the number, or its lowest group
module _ (s : List ℕ) (place b : ℕ) (i : place < length s) (e : b ≡ get_or s place 0) where
  first : Due s place place 10 1 0 b
  first = record { reading = begin s place; more = omega arith; inside = i; byte = e; right = first_right b }

  pub one_byte : b < 128 → Ok (b, place + 1) ≡ number_at s place
  one_byte m = let z : 0 + 1 * b ≡ b = omega arith in rw z at (last first m)

  pub more_bytes : 128 ≤ b → b < 256 → Reading s place (place + 1) 9 128 (b - 128)
  more_bytes m q = let z : 0 + 1 * (b - 128) ≡ b - 128 = omega arith in rw z at (goes_on first m q)

-- two bytes
module _
    (s : List ℕ) (place a b : ℕ) (i : place + 1 < length s) (e : a ≡ get_or s place 0) (f : b ≡ get_or s (place + 1) 0) (m : 128 ≤ a)
    (q : a < 256)
  where
    second : (b ≡ 0 → ⊥) → Due s place (place + 1) 9 128 (a - 128) b
    second z =
        record {
          reading = more_bytes s place a (omega arith) e m q;
          more = omega arith;
          inside = i;
          byte = f;
          right = right_more 9 b (omega arith) z;
        }

    pub two_bytes : (b ≡ 0 → ⊥) → b < 128 → Ok (a - 128 + 128 * b, place + 2) ≡ number_at s place
    two_bytes z l = let n : place + 1 + 1 ≡ place + 2 = omega arith in rw n at (last (second z) l)

    -- three
    module _ (c : ℕ) (j : place + 2 < length s) (g : c ≡ get_or s (place + 2) 0) (k : 128 ≤ b) (u : b < 256) where
      third : (c ≡ 0 → ⊥) → Due s place (place + 2) 8 16384 (a - 128 + 128 * (b - 128)) c
      third z =
          let n : place + 1 + 1 ≡ place + 2 = omega arith in
          record {
            reading = rw n at (goes_on (second (λ y. omega arith)) k u);
            more = omega arith;
            inside = j;
            byte = g;
            right = right_more 8 c (omega arith) z;
          }

      pub three_bytes : (c ≡ 0 → ⊥) → c < 128 → Ok (a - 128 + 128 * b - 16384 + 16384 * c, place + 3) ≡ number_at s place
      three_bytes z l =
          let n : place + 2 + 1 ≡ place + 3 = omega arith in
          let v : a - 128 + 128 * (b - 128) + 16384 * c ≡ a - 128 + 128 * b - 16384 + 16384 * c = omega arith in
          rw (n, v) at (last (third z) l)

      -- four
      pub four_bytes :
          (d : ℕ) → place + 3 < length s → d ≡ get_or s (place + 3) 0 → 128 ≤ c → c < 256 → (d ≡ 0 → ⊥) → d < 128 →
          Ok (a - 128 + 128 * b - 16384 + 16384 * c - 2097152 + 2097152 * d, place + 4) ≡ number_at s place
      four_bytes d h p w x z l =
          let n : place + 2 + 1 ≡ place + 3 = omega arith in
          let n' : place + 3 + 1 ≡ place + 4 = omega arith in
          let v : a - 128 + 128 * (b - 128) + 16384 * (c - 128) + 2097152 * d ≡ a - 128 + 128 * b - 16384 + 16384 * c - 2097152 + 2097152 * d = omega arith in
          let due : Due s place (place + 3) 7 2097152 (a - 128 + 128 * (b - 128) + 16384 * (c - 128)) d =
          record {
            reading = rw n at (goes_on (third (λ y. omega arith)) w x);
            more = omega arith;
            inside = h;
            byte = p;
            right = right_more 7 d (omega arith) z;
          } in
          rw (n', v) at (last due l)
