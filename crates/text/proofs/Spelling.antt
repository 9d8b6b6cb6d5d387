-- Text behind text, the digits of a number, and its sign. Assumes nothing.
use Prim.Native.Nat.{ℕ, zero, suc, ◌+◌, ◌*◌, ◌-◌, ◌/◌, ◌^◌, ◌≤◌, ◌<◌}
use native.Mathlib.Nat.{pow-suc, one-le-pow, pow-le-pow_right}
use native.Mathlib.Numerals.{add-one}
use native.Mathlib.Omega.{arith}
use mathlib.Core.Bool.{Bool, true, false, cond}
use mathlib.Core.Path.{◌≡◌, refl, sym, ap, ◌∙◌, subst}
use mathlib.Core.List.{List, [], ◌∷◌, ◌++◌, append_assoc, append-nil}
use borrow.Author.Tests.{ltb-true, ltb-false, leb-true, leb-false, lt-ltb, le-ltb}
use lib.Dec.{ltb, leb}
use lib.ListN.{length, get_or, take, drop, drop_of_length-le}
use lib.Seq.{length-take-le, take-length, take-append-add, take-append_seam, drop-cons}
use Rattle.io.specs.Digits.{last_digits, IsDigitCount}
use Rattle.money.specs.Words.{of_bits}
use Rattle.text.specs.Text.{places, decimal, pair, signed, marked, figures}

-- text behind text: the same text in other words, and two texts
pub same : (xs : List ℕ) {zs s t : List ℕ} → zs ≡ xs ++ s → s ≡ t → zs ≡ xs ++ t
same xs e f = e ∙ ap (λ (z : List ℕ). xs ++ z) f

pub both : (xs s t : List ℕ) {ys zs : List ℕ} → ys ≡ xs ++ s → zs ≡ ys ++ t → zs ≡ xs ++ (s ++ t)
both xs s t e f = f ∙ ap (λ (z : List ℕ). z ++ t) e ∙ append_assoc xs s t

-- a number, a blank and a number
pub paired : (a b : ℕ) (xs : List ℕ) {ys zs ws : List ℕ} → ys ≡ xs ++ decimal a → zs ≡ ys ++ (32 ∷ []) → ws ≡ zs ++ decimal b → ws ≡ xs ++ pair a b
unfolding pair
paired a b xs {ys = ys} e f g = both xs (decimal a) (32 ∷ decimal b) e (both ys (32 ∷ []) (decimal b) f g)

-- what is copied behind the first `at` bytes
pub behind :
    (out : List ℕ) (at : ℕ) (bytes copied rest post : List ℕ) → at ≤ length out → copied ≡ take (length bytes) bytes ++ rest →
    take (at + length bytes) (take at out ++ (copied ++ post)) ≡ take at out ++ bytes
behind out at bytes copied rest post h e =
    ap (λ (k : ℕ). take (k + length bytes) (take at out ++ (copied ++ post))) (sym (length-take-le at out h))
    ∙ take-append-add (take at out) (copied ++ post) (length bytes)
    ∙ ap (λ (xs : List ℕ). take at out ++ take (length bytes) (xs ++ post)) e
    ∙ ap (λ (xs : List ℕ). take at out ++ take (length bytes) ((xs ++ rest) ++ post)) (take-length bytes)
    ∙ ap (λ (xs : List ℕ). take at out ++ take (length bytes) xs) (append_assoc bytes rest post)
    ∙ ap (λ (xs : List ℕ). take at out ++ xs) (take-append_seam bytes (rest ++ post))

less_one : (k : ℕ) → suc k - 1 ≡ k
less_one k = omega arith

-- a number of two digits or more, and the same over 10
at_least : (n m : ℕ) → IsDigitCount 10 1 n (suc (suc m)) → 10 ^ suc m ≤ n
at_least n m f = subst (λ (k : ℕ). 10 ^ k ≤ n) (less_one (suc m)) (f.2 (omega arith))

one_less : (n m : ℕ) → IsDigitCount 10 1 n (suc (suc m)) → IsDigitCount 10 1 (n / 10) (suc m)
one_less n m f =
    let most : 10 ^ suc (suc m) ≡ 10 ^ suc m * 10 = pow-suc 10 (suc m) in
    let least : 10 ^ suc m ≡ 10 ^ m * 10 = pow-suc 10 m in
    let below : 10 ^ m ≤ n / 10 = omega (arith, least, at_least n m f) in
    (omega arith, omega (arith, most, f.1), λ h. subst (λ (k : ℕ). 10 ^ k ≤ n / 10) (sym (less_one m)) below)

ten : (m : ℕ) → 10 ≤ 10 ^ suc m
ten m = let e : 10 ^ suc m ≡ 10 ^ m * 10 = pow-suc 10 m in omega (arith, e, one-le-pow m 10 (omega arith))

-- the fewest digits are as many as the number has
places_is : (k n r : ℕ) → IsDigitCount 10 1 n r → r ≤ suc k → places k n ≡ r
unfolding places
places_is zero n r f h = omega (arith, f.0)
places_is (suc k) n r f h = go (ltb n 10) refl r f h (λ m g l. places_is k (n / 10) m g l)
  where
    go :
        (b : Bool) → ltb n 10 ≡ b → (r : ℕ) → IsDigitCount 10 1 n r → r ≤ suc (suc k) →
        ((m : ℕ) → IsDigitCount 10 1 (n / 10) m → m ≤ suc k → places k (n / 10) ≡ m) → cond b 1 (suc (places k (n / 10))) ≡ r
    go true e zero f h ih = absurd (omega (arith, f.0))
    go true e (suc zero) f h ih = refl
    go true e (suc (suc m)) f h ih =
        absurd (omega (arith, ltb-true n 10 e, ten m, at_least n m f))
    go false e zero f h ih = absurd (omega (arith, f.0))
    go false e (suc zero) f h ih = absurd (omega (arith, ltb-false n 10 e, f.1))
    go false e (suc (suc m)) f h ih = ap suc (ih (suc m) (one_less n m f) (omega arith))

-- a number of 64 bits has at most 20 digits
pub few : (n r : ℕ) → n < 18446744073709551616 → IsDigitCount 10 1 n r → r ≤ 20
few n r h f = go (leb r 20) refl
  where
    go : (b : Bool) → leb r 20 ≡ b → r ≤ 20
    go true e = leb-true r 20 e
    go false e =
        let over : 20 < r = leb-false r 20 e in
        let most : 10 ^ 20 ≤ 10 ^ (r - 1) = pow-le-pow_right {n = 10} (omega arith) {i = 20} {j = r - 1} (omega arith) in
        absurd (omega (arith, most, f.2 (omega arith), h))

pub decimal_is : (n r : ℕ) → n < 18446744073709551616 → IsDigitCount 10 1 n r → last_digits 10 r n ≡ decimal n
unfolding decimal
decimal_is n r h f = ap (λ (k : ℕ). last_digits 10 k n) (sym (places_is 19 n r f (few n r h f)))

pub signed_low : (n : ℕ) → n < 9223372036854775808 → signed (of_bits n) ≡ decimal n
unfolding signed
signed_low n h = rw (lt-ltb n 9223372036854775808 h) refl

pub signed_high : (n : ℕ) → 9223372036854775808 ≤ n → n < 18446744073709551616 → signed (of_bits n) ≡ 45 ∷ decimal (18446744073709551615 - n + 1)
unfolding signed
signed_high n h b =
    let e : suc (18446744073709551616 - suc n) ≡ 18446744073709551615 - n + 1 = omega arith in
    rw (le-ltb n 9223372036854775808 h) (ap (λ (m : ℕ). 45 ∷ decimal m) e)

-- what may be absent, by its mark
pub marked_none : (m n : ℕ) → m ≡ 0 → 45 ∷ [] ≡ marked m n
unfolding marked
marked_none m n e = ap (λ (k : ℕ). marked k n) (sym e)

pub marked_some : (m n : ℕ) → (m ≡ 0 → ⊥) → signed (of_bits n) ≡ marked m n
unfolding marked
marked_some zero n h = absurd (h refl)
marked_some (suc m) n h = refl

-- one figure more is put behind a blank, and all are put
pub figures_next :
    (xs ys zs numbers : List ℕ) (i : ℕ) → i < length numbers → ys ≡ xs ++ 32 ∷ [] → zs ≡ ys ++ signed (of_bits (get_or numbers i 0)) →
    zs ++ figures (drop (i + 1) numbers) ≡ xs ++ figures (drop i numbers)
unfolding figures
figures_next xs ys zs numbers i h e f =
    let left = figures (drop (suc i) numbers) in
    ap (λ (k : ℕ). zs ++ figures (drop k numbers)) (add-one i)
    ∙ ap (λ (z : List ℕ). z ++ left) (both xs (32 ∷ []) (signed (of_bits (get_or numbers i 0))) e f)
    ∙ append_assoc xs (32 ∷ signed (of_bits (get_or numbers i 0))) left
    ∙ ap (λ (z : List ℕ). xs ++ figures z) (sym (drop-cons numbers i 0 h))

pub figures_end : (xs numbers : List ℕ) (i : ℕ) → length numbers ≤ i → xs ++ figures (drop i numbers) ≡ xs
unfolding figures
figures_end xs numbers i h = ap (λ (z : List ℕ). xs ++ figures z) (drop_of_length-le numbers h) ∙ append-nil xs
