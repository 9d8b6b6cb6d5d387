-- A number that is written is read, a number that is read was written so, and no place is beyond the length.
use Prim.Native.Nat.{ℕ, zero, suc, ◌+◌, ◌-◌, ◌*◌, ◌/◌, ◌%◌, ◌^◌, ◌≤◌, ◌<◌}
use Rattle.std.proofs.Common.{pow-suc, add-one, ap, sym, ◌∙◌, length-drop, get_or-drop, drop-drop, drop-cons}
use native.Mathlib.Omega.{arith}
use Rattle.std.proofs.Math.Decide.{dec_lt}
use Rattle.std.specs.Prelude.{◌≡◌, Bool, cond, List, [], ◌∷◌, ◌++◌, length, get_or, drop, ltb, leb, Err, Ok}
use Rattle.std.proofs.Math.Path.{refl}
use Rattle.std.proofs.Math.Bool.{true, false}
use Rattle.std.proofs.Math.Seq.{drop-append_seam}
use borrow.Author.Tests.{lt-leb, lt-ltb, le-ltb, ne_eqb, ltb-true, ltb-false, leb-false}
use Rattle.format.specs.Bytes.{Bytes}
use Rattle.format.specs.Number.{wrong_group, onto, groups, number_at, write_groups, write_number}
use Rattle.format.specs.Sound.{Sound}
use Rattle.format.specs.declared.Reason.TheVariants.{EndsEarly, NotShortest}
use Rattle.format.specs.Position.{Num, refused}
use Rattle.format.specs.declared.Refusal.{Refusal}

-- ---- bytes from a position on

-- s goes on at i with w, and `rest` follows
pub drop_past : (s w rest : List ℕ) (i : ℕ) → drop i s ≡ w ++ rest → drop (i + length w) s ≡ rest
drop_past s w rest i e = sym (drop-drop (length w) i s) ∙ rw e (drop-append_seam w rest)

module _ (s : List ℕ) (i b : ℕ) (t : List ℕ) (e : drop i s ≡ b ∷ t) where
  head_here : get_or s i 0 ≡ b
  head_here = let q : i + 0 ≡ i = omega arith in sym (rw (e, q) at (get_or-drop i s 0 0))

  head_in : i < length s
  head_in = omega (arith, length-drop i s, ap length e)

  head_next : drop (i + 1) s ≡ t
  head_next = drop_past s (b ∷ []) t i e

-- ---- one group

module _ (s : List ℕ) (place at left b : ℕ) (i : at < length s) (e : get_or s at 0 ≡ b) where
  group_last : wrong_group (suc left) b ≡ false → b < 128 → groups (suc left) s place at ≡ Ok (b, at + 1)
  unfolding groups
  group_last w h = rw (lt-leb _ _ i, e, w, lt-ltb _ _ h)

  group_more : wrong_group (suc left) b ≡ false → 128 ≤ b → groups (suc left) s place at ≡ onto (b - 128) 128 (groups left s place (at + 1))
  unfolding groups
  group_more w h = rw (lt-leb _ _ i, e, w, le-ltb _ _ h)

write_last : (left n : ℕ) → n < 128 → write_groups (suc left) n ≡ n ∷ []
unfolding write_groups
write_last left n h = rw (lt-ltb _ _ h)

write_more : (left n : ℕ) → 128 ≤ n → write_groups (suc left) n ≡ (n % 128 + 128) ∷ write_groups left (n / 128)
unfolding write_groups
write_more left n h = rw (le-ltb _ _ h)

-- ---- a group that may stand

pub false_true : {A : Type 0} → false ≡ true → A
false_true e = let z : ◌≡◌ {A = ℕ} 0 1 = cc in absurd (omega arith)

right_some : (k b : ℕ) → wrong_group (suc k) b ≡ false → k < 9 → 0 < b
unfolding wrong_group
right_some k zero w h = let z : true ≡ false = rw (lt-ltb (suc k) 10 (omega arith)) at w in false_true (sym z)
right_some k (suc b) w h = omega arith

right_more : (k b : ℕ) → 128 ≤ b → wrong_group (suc (suc k)) b ≡ false
unfolding wrong_group
right_more k b h = rw (ne_eqb b 0 (λ z. omega arith), ne_eqb (suc (suc k)) 1 (λ z. omega arith))

-- ---- what is written is read

-- k + 1 groups hold n, which is 0 only where it stands alone
record Writable (k n : ℕ) : Type 0 where
  small : n < 2 * 128 ^ k
  some : k < 9 → 0 < n

Forth : ℕ → ℕ → Type 0
Forth k n =
    (s rest : List ℕ) (place at : ℕ) → drop at s ≡ write_groups (suc k) n ++ rest →
    groups (suc k) s place at ≡ Ok (n, at + length (write_groups (suc k) n))

forth_last : Sound → (k n : ℕ) → n < 128 → Writable k n → Forth k n
unfolding Forth
forth_last sound k n h u s rest place at e =
    let d : drop at s ≡ n ∷ rest = rw (write_last k n h) at e in
    let right = sound.last k n u.small h u.some in
    rw (write_last k n h) (group_last s place at k n (head_in s at n rest d) (head_here s at n rest d) right h)

forth_more : (k n : ℕ) → 128 ≤ n → Forth k (n / 128) → Forth (suc k) n
unfolding Forth onto
forth_more k n h ih s rest place at e =
    let b = n % 128 + 128 in
    let w = write_groups (suc k) (n / 128) in
    let d : drop at s ≡ b ∷ (w ++ rest) = rw (write_more (suc k) n h) at e in
    let r = ih s rest place (at + 1) (head_next s at b (w ++ rest) d) in
    let v : b - 128 + 128 * (n / 128) ≡ n = omega arith in
    let m : at + 1 + length w ≡ at + suc (length w) = omega arith in
    let i = head_in s at b (w ++ rest) d in
    let g = group_more s place at (suc k) b i (head_here s at b (w ++ rest) d) (right_more k b (omega arith)) (omega arith) in
    rw (write_more (suc k) n h, g, r, v, m)

groups_forth : Sound → (k n : ℕ) → Writable k n → Forth k n
groups_forth sound zero n u = forth_last sound zero n (omega (arith, u.small)) u
groups_forth sound (suc k) n u = go (dec_lt n 128) (groups_forth sound k (n / 128))
  where
    go : Dec (n < 128) → (Writable k (n / 128) → Forth k (n / 128)) → Forth (suc k) n
    go (yes h) ih = forth_last sound (suc k) n h u
    go (no h) ih =
        let m : 128 ≤ n = omega arith in
        forth_more k n m (ih (record { small = omega (arith, pow-suc 128 k, u.small); some = λ q. omega arith }))

pub number_forth :
    Sound → (n : ℕ) → n < 2 ^ 64 → (s rest : List ℕ) (at : ℕ) → drop at s ≡ write_number n ++ rest →
    number_at s at ≡ Ok (n, at + length (write_number n))
unfolding number_at write_number Forth
number_forth sound n h s rest at e = groups_forth sound 9 n (record { small = h; some = λ q. absurd (omega arith) }) s rest at at e

-- ---- what is read was written

-- from `at` to `next`, s has v in k + 1 groups
record Written (k : ℕ) (s : List ℕ) (at v next : ℕ) : Type 0 where
  writable : Writable k v
  text : drop at s ≡ write_groups (suc k) v ++ drop next s
  long : next ≡ at + length (write_groups (suc k) v)

clash : {A : Type 0} {e : Refusal} {v n : ℕ} → ◌≡◌ {A = Num} (Err e) (Ok (v, n)) → A
clash h = let z : ◌≡◌ {A = ℕ} 0 1 = cc in absurd (omega arith)

read_of : {x y : ℕ × ℕ} → ◌≡◌ {A = Num} (Ok x) (Ok y) → x ≡ y
read_of h = cc

value_of : {v n v' n' : ℕ} → ◌≡◌ {A = Num} (Ok (v, n)) (Ok (v', n')) → v ≡ v'
value_of {v} {n} {v'} {n'} h = ap (λ (x : ℕ × ℕ). x.0) (read_of {x = (v, n)} {y = (v', n')} h)

next_of : {v n v' n' : ℕ} → ◌≡◌ {A = Num} (Ok (v, n)) (Ok (v', n')) → n ≡ n'
next_of {v} {n} {v'} {n'} h = ap (λ (x : ℕ × ℕ). x.1) (read_of {x = (v, n)} {y = (v', n')} h)

one_le_pow : (k : ℕ) → 1 ≤ 128 ^ k
one_le_pow zero = omega arith
one_le_pow (suc k) = omega (arith, pow-suc 128 k, one_le_pow k)

right_small : Sound → (k b : ℕ) → wrong_group (suc k) b ≡ false → b < 128 → b < 2 * 128 ^ k
right_small sound zero b w h = omega (arith, sound.tenth b w)
right_small sound (suc k) b w h = omega (arith, pow-suc 128 k, one_le_pow k)

module _ (sound : Sound) (s : List ℕ) (at b : ℕ) (i : at < length s) (q : get_or s at 0 ≡ b) where
  drop_byte : drop at s ≡ b ∷ drop (at + 1) s
  drop_byte = rw (add-one, ← q) (drop-cons s at 0 i)

  back_last : (k : ℕ) → wrong_group (suc k) b ≡ false → b < 128 → Written k s at b (at + 1)
  back_last k w h =
      record {
        writable = record { small = right_small sound k b w h; some = right_some k b w };
        text = rw (write_last k b h) drop_byte;
        long = rw (write_last k b h);
      }

  back_more : (k v next : ℕ) → suc k < 10 → 128 ≤ b → b < 256 → Written k s (at + 1) v next → Written (suc k) s at (b - 128 + 128 * v) next
  back_more k v next m h u r =
      let n = b - 128 + 128 * v in
      let p : 0 < v = r.writable.some (omega arith) in
      let g : 128 ≤ n = omega arith in
      let d : n / 128 ≡ v = omega arith in
      let f : n % 128 + 128 ≡ b = omega arith in
      record {
        writable = record { small = omega (arith, pow-suc 128 k, r.writable.small); some = λ l. omega arith };
        text = rw (write_more (suc k) n g, d, f, ← r.text) drop_byte;
        long = rw (write_more (suc k) n g, d, r.long) (omega arith);
      }

-- what `groups` gives by its three tests
by_tests : (k : ℕ) (s : List ℕ) (place at : ℕ) (l w h : Bool) → Num
by_tests k s place at l w h =
    cond l (refused EndsEarly (length s))
    (cond w (refused NotShortest place)
    (cond h (Ok (get_or s at 0, at + 1))
    (onto (get_or s at 0 - 128) 128 (groups k s place (at + 1)))))

groups_by :
    (k : ℕ) (s : List ℕ) (place at : ℕ) →
    groups (suc k) s place at
    ≡ by_tests k s place at (leb (length s) at) (wrong_group (suc k) (get_or s at 0)) (ltb (get_or s at 0) 128)
unfolding groups by_tests
groups_by k s place at = refl

module _ (sound : Sound) (s : List ℕ) (bytes : Bytes s) (place : ℕ) where
  Back : ℕ → Type 0
  Back k = (at v next : ℕ) → groups (suc k) s place at ≡ Ok (v, next) → Written k s at v next

  back_onto :
      (k at v next : ℕ) (g : Num) → suc k < 10 → at < length s → 128 ≤ get_or s at 0 →
      groups (suc k) s place (at + 1) ≡ g → onto (get_or s at 0 - 128) 128 g ≡ Ok (v, next) → Back k → Written (suc k) s at v next
  unfolding onto Back
  back_onto k at v next (Ok (v', n)) m i h q e ih =
      rw (← value_of e, ← next_of e) (back_more sound s at (get_or s at 0) i refl k v' n m h (bytes at) (ih (at + 1) v' n q))
  back_onto k at v next (Err x) m i h q e ih = clash e

  back_step :
      (k at v next : ℕ) (l w h : Bool) → k < 10 → leb (length s) at ≡ l → wrong_group (suc k) (get_or s at 0) ≡ w → ltb (get_or s at 0) 128 ≡ h →
      by_tests k s place at l w h ≡ Ok (v, next) → ((j : ℕ) → suc j ≡ k → Back j) → Written k s at v next
  unfolding by_tests
  back_step k at v next true w h m p q r e ih = clash e
  back_step k at v next false true h m p q r e ih = clash e
  back_step k at v next false false true m p q r e ih =
      rw (← value_of e, ← next_of e) (back_last sound s at (get_or s at 0) (leb-false _ _ p) refl k q (ltb-true _ _ r))
  back_step zero at v next false false false m p q r e ih =
      absurd (omega (arith, sound.tenth (get_or s at 0) q, ltb-false (get_or s at 0) 128 r))
  back_step (suc k) at v next false false false m p q r e ih =
      back_onto k at v next (groups (suc k) s place (at + 1)) m (leb-false _ _ p) (ltb-false _ _ r) refl e (ih k refl)

  groups_back : (k : ℕ) → k < 10 → Back k
  unfolding Back
  groups_back zero m at v next e =
      back_step zero at v next _ _ _ m refl refl refl (sym (groups_by zero s place at) ∙ e) (λ j z. absurd (omega arith))
  groups_back (suc k) m at v next e =
      back_step (suc k) at v next _ _ _ m refl refl refl (sym (groups_by (suc k) s place at) ∙ e)
      (λ j z. let y : j ≡ k = omega arith in rw y (groups_back k (omega arith)))

-- from `at` to `next`, s has the number v
pub record Found (s : List ℕ) (at v next : ℕ) : Type 0 where
  pub small : v < 2 ^ 64
  pub text : drop at s ≡ write_number v ++ drop next s
  pub long : next ≡ at + length (write_number v)

pub number_back : Sound → (s : List ℕ) → Bytes s → (at v next : ℕ) → number_at s at ≡ Ok (v, next) → Found s at v next
unfolding number_at write_number Back
number_back sound s b at v next e =
    let r = groups_back sound s b at 9 (omega arith) at v next e in
    record { small = r.writable.small; text = r.text; long = r.long }

-- ---- no place is beyond the length

-- the place of a refusal, or the position after the number
unfoldable pub number_place : Num → ℕ
number_place (Ok (v, next)) = next
number_place (Err e) = e.place

onto_place : (low scale : ℕ) (g : Num) → number_place (onto low scale g) ≡ number_place g
unfolding onto number_place
onto_place low scale (Ok (v, next)) = refl
onto_place low scale (Err e) = refl

groups_within : (left : ℕ) (s : List ℕ) (place at : ℕ) → place ≤ length s → number_place (groups left s place at) ≤ length s
unfolding groups number_place by_tests
groups_within zero s place at h = h
groups_within (suc left) s place at h =
    go (leb (length s) at) (wrong_group (suc left) (get_or s at 0)) (ltb (get_or s at 0) 128) refl (groups_within left s place (at + 1) h)
  where
    go :
        (l w t : Bool) → leb (length s) at ≡ l → number_place (groups left s place (at + 1)) ≤ length s →
        number_place (by_tests left s place at l w t) ≤ length s
    go true w t e ih = omega arith
    go false true t e ih = h
    go false false true e ih = omega (arith, leb-false (length s) at e)
    go false false false e ih = rw (onto_place _ _ _) ih

pub number_at_within : (s : List ℕ) (at : ℕ) → at ≤ length s → number_place (number_at s at) ≤ length s
unfolding number_at
number_at_within s at h = groups_within 10 s at at h
