-- What the comparisons of floats say of the fractions that the floats are. Assumes nothing.
use Rattle.std.proofs.Common.{◌≡◌, ℕ, ◌+◌, ◌*◌, ◌≤◌, Bool, true, false, ◌&&◌, ◌||◌, T, eqb, ltb, sym, refl, true≢false, le_of_eq, le_of_lt, arith, ltb-false, ltb-true, eq-eqb, eqb-true}
use denote.Floats.{is_true}
use lib.Ieee.{Float, nan, inf, fin, up, down, below, level, lt, eq, le, is_nan}
use lib.Ieee.Fits.{down_pos}
use lib.Ieee.Exact.{HasValue}
use lib.Ieee.Order.{transfer}

pub and_true : (p q : Bool) → (p && q) ≡ true → q ≡ true
and_true true q e = e
and_true false q e = absurd (true≢false (sym e))

-- ---- `le` on two magnitudes
pub at_least : (p q : ℕ) → (ltb p q || (eqb p q && true)) ≡ true → p ≤ q
at_least p q = go (ltb p q) (eqb p q) refl refl
  where
    go : (b t : Bool) → ltb p q ≡ b → eqb p q ≡ t → (b || (t && true)) ≡ true → p ≤ q
    go true t h k e = le_of_lt (ltb-true p q h)
    go false true h k e = le_of_eq (eqb-true p q k)
    go false false h k e = absurd (true≢false (sym e))

pub above : (p q : ℕ) → (ltb p q || (eqb p q && true)) ≡ false → q ≤ p
above p q = go (ltb p q) refl
  where
    go : (b : Bool) → ltb p q ≡ b → (b || (eqb p q && true)) ≡ false → q ≤ p
    go true h e = absurd (true≢false e)
    go false h e = ltb-false p q h

pub order : (x y : Float) (a c b d : ℕ) → HasValue x false a c → HasValue y false b d → T (le x y) → a * d ≤ b * c
unfolding le lt eq
order nan y a c b d v w h = absurd v
order (inf s) y a c b d v w h = absurd v
order (fin true m e) y a c b d v w h = absurd (true≢false v.0)
order (fin false m e) nan a c b d v w h = absurd w
order (fin false m e) (inf s) a c b d v w h = absurd w
order (fin false m e) (fin true n k) a c b d v w h = absurd (true≢false w.0)
order (fin false m e) (fin false n k) a c b d v w h =
    let l : m * up e * down k ≤ n * up k * down e = at_least (m * up e * down k) (n * up k * down e) (is_true _ h) in
    transfer a b c d (m * up e) (n * up k) (down e) (down k) (down_pos e) (down_pos k) (sym v.1) (sym w.1) l

-- ---- of two floats that are no NaN, one is at most the other
or_else : (p q : Bool) → (p ≡ false → T q) → T (p || q)
or_else true q f = tt
or_else false q f = f refl

and_both : {p q : Bool} → p ≡ true → q ≡ true → T (p && q)
and_both {p} {q} e f = rw (e, f) tt

level_or_below : (s t : Bool) (a b : ℕ) → below s a t b ≡ false → T (below t b s a || level t b s a)
level_or_below false false a b h =
    or_else (ltb b a) (eqb b a && true)
    (λ (k : ltb b a ≡ false). and_both (eq-eqb b a (omega (arith, ltb-false a b h, ltb-false b a k))) refl)
level_or_below false true a b h =
    or_else (ltb 0 (b + a)) (eqb b a && (false || eqb b 0))
    (λ (k : ltb 0 (b + a) ≡ false). and_both (eq-eqb b a (omega (arith, ltb-false 0 (b + a) k))) (eq-eqb b 0 (omega (arith, ltb-false 0 (b + a) k))))
level_or_below true false a b h =
    and_both (eq-eqb b a (omega (arith, ltb-false 0 (a + b) h))) (eq-eqb b 0 (omega (arith, ltb-false 0 (a + b) h)))
level_or_below true true a b h =
    or_else (ltb a b) (eqb b a && true)
    (λ (k : ltb a b ≡ false). and_both (eq-eqb b a (omega (arith, ltb-false b a h, ltb-false a b k))) refl)

pub not_less : (x y : Float) → is_nan x ≡ false → is_nan y ≡ false → lt x y ≡ false → T (le y x)
unfolding is_nan le lt eq
not_less nan y p q h = absurd (true≢false p)
not_less (inf s) nan p q h = absurd (true≢false q)
not_less (inf true) (inf true) p q h = tt
not_less (inf true) (inf false) p q h = absurd (true≢false h)
not_less (inf false) (inf true) p q h = tt
not_less (inf false) (inf false) p q h = tt
not_less (inf true) (fin t n k) p q h = absurd (true≢false h)
not_less (inf false) (fin t n k) p q h = tt
not_less (fin s m e) nan p q h = absurd (true≢false q)
not_less (fin s m e) (inf true) p q h = tt
not_less (fin s m e) (inf false) p q h = absurd (true≢false h)
not_less (fin s m e) (fin t n k) p q h = level_or_below s t (m * up e * down k) (n * up k * down e) h
