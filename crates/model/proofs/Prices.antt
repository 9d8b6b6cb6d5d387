-- The price on a day is, of those in effect, the one with the latest day, among equal days the last listed; else the first listed; else 0.
use Rattle.std.specs.Prelude.{None, Option, Some}
use mathlib.Core.Path.{◌≡◌, refl, sym, ap, ◌∙◌, subst}
use mathlib.Core.Logic.{⊎_elim}
use mathlib.Core.Bool.{Bool, true, false, true≢false, cond, ◌||◌}
use mathlib.Core.List.Memᴰ
use mathlib.Core.List.{List, [], ◌∷◌, ◌++◌, map, foldl, Memᴰ}
use Prim.Native.Nat.{ℕ}
use native.Mathlib.Omega.{arith}
use borrow.Author.Tests.{leb-true, leb-false, le-leb}
use lib.IntN.{ℤ, pos}
use Rattle.format.specs.Book.{Price}
use Rattle.lists.specs.Lists.{any, cons_if, keep}
use Rattle.model.specs.Costs.{no_later, in_effect, later, price_among, price_on}
use Rattle.lists.proofs.Lists.{in_any, keep_in, keep_none, keep_append}

-- a price of the list that is in effect on the day: of those listed before it none is later, and all those listed after it are earlier
pub record Latest (day : ℕ) (prices : List Price) : Type 0 where
  pub before : List Price
  pub price : Price
  pub after : List Price
  pub listed : before ++ (price ∷ after) ≡ prices
  pub effective : in_effect day price ≡ true
  pub first : (q : Price) → Memᴰ q before → in_effect day q ≡ true → no_later q.from price.from ≡ true
  pub last : (q : Price) → Memᴰ q after → in_effect day q ≡ true → no_later price.from q.from ≡ false

-- ---- it is the price on the day

-- what comes after it does not replace it
kept : (p : Price) (qs : List Price) → ((q : Price) → Memᴰ q qs → no_later p.from q.from ≡ false) → foldl later p qs ≡ p
unfolding later
kept p [] h = refl
kept p (q ∷ qs) h = ap (λ (b : Bool). foldl later (cond b q p) qs) (h q (Memᴰ.head refl)) ∙ kept p qs (λ r m. h r (Memᴰ.tail m))

-- it replaces all that come before it
replaces : (p b : Price) (qs rest : List Price) → no_later b.from p.from ≡ true → ((q : Price) → Memᴰ q qs → no_later q.from p.from ≡ true)
    → foldl later b (qs ++ (p ∷ rest)) ≡ foldl later p rest
unfolding later
replaces p b [] rest e h = ap (λ (t : Bool). foldl later (cond t p b) rest) e
replaces p b (q ∷ qs) rest e h = replaces p (later b q) qs rest (go (no_later b.from q.from)) (λ r m. h r (Memᴰ.tail m))
  where
    go : (t : Bool) → no_later (cond t q b).from p.from ≡ true
    go true = h q (Memᴰ.head refl)
    go false = e

module _ (day : ℕ) (prices : List Price) where
  pub price_latest : (l : Latest day prices) → price_on prices day ≡ l.price.per_unit
  unfolding price_on price_among keep
  price_latest l =
      ap (λ (ps : List Price). price_among (keep (in_effect day) ps) prices) (sym l.listed)
      ∙ ap (λ (ps : List Price). price_among ps prices)
      (keep_append (in_effect day) l.before (p ∷ l.after) ∙ ap (λ (b : Bool). keep (in_effect day) l.before ++ cons_if b p rest) l.effective)
      ∙ go (keep (in_effect day) l.before) (λ q m. let k = keep_in (in_effect day) q l.before m in l.first q k.0 k.1)
    where
      p : Price
      p = l.price

      rest : List Price
      rest = keep (in_effect day) l.after

      stays : foldl later p rest ≡ p
      stays = kept p rest (λ q m. let k = keep_in (in_effect day) q l.after m in l.last q k.0 k.1)

      go : (qs : List Price) → ((q : Price) → Memᴰ q qs → no_later q.from p.from ≡ true) → price_among (qs ++ (p ∷ rest)) prices ≡ p.per_unit
      go [] h = ap (λ (q : Price). q.per_unit) stays
      go (b ∷ bs) h = ap (λ (q : Price). q.per_unit) (replaces p b bs rest (h b (Memᴰ.head refl)) (λ q m. h q (Memᴰ.tail m)) ∙ stays)

-- ---- there is one where any is in effect

order_same : (s : Option ℕ) → no_later s s ≡ true
order_same None = refl
order_same (Some s) = le-leb s s (omega arith)

order_total : (s t : Option ℕ) → no_later s t ≡ false → no_later t s ≡ true
order_total None t e = absurd (true≢false e)
order_total (Some s) None e = refl
order_total (Some s) (Some t) e = le-leb t s (omega (arith, leb-false s t e))

order_trans : (r s t : Option ℕ) → no_later r s ≡ true → no_later s t ≡ true → no_later r t ≡ true
order_trans None s t d e = refl
order_trans (Some r) None t d e = absurd (true≢false (sym d))
order_trans (Some r) (Some s) None d e = e
order_trans (Some r) (Some s) (Some t) d e = le-leb r t (omega (arith, leb-true r s d, leb-true s t e))

-- none in effect is later
pub none_later : (day : ℕ) (prices : List Price) (l : Latest day prices) (q : Price) → Memᴰ q prices → in_effect day q ≡ true → no_later q.from l.price.from ≡ true
none_later day prices l q m t =
    ⊎_elim (λ r. l.first q r t)
    (λ r. ⊎_elim (λ e. rw e (order_same l.price.from)) (λ n. order_total l.price.from q.from (l.last q n t)) (Memᴰ.cases_cons r))
    (Memᴰ.append_cases l.before (subst (Memᴰ q) (sym l.listed) m))

not_true : {b : Bool} → (b ≡ true → ⊥) → b ≡ false
not_true {b = true} h = absurd (h refl)
not_true {b = false} h = refl

pub some_latest : (day : ℕ) (prices : List Price) → any (in_effect day) prices ≡ true → Latest day prices
unfolding any
some_latest day [] e = absurd (true≢false (sym e))
some_latest day (x ∷ xs) e = go (in_effect day x) refl (any (in_effect day) xs) refl e (some_latest day xs)
  where
    -- x itself
    here : in_effect day x ≡ true → ((q : Price) → Memᴰ q xs → in_effect day q ≡ true → no_later x.from q.from ≡ false) → Latest day (x ∷ xs)
    here t h = record { before = []; price = x; after = xs; listed = refl; effective = t; first = λ q m. absurd (Memᴰ.not-nil m); last = h }

    -- that of the others
    there : (l : Latest day xs) → (in_effect day x ≡ true → no_later x.from l.price.from ≡ true) → Latest day (x ∷ xs)
    there l h = record {
      before = x ∷ l.before;
      price = l.price;
      after = l.after;
      listed = ap (λ (ps : List Price). x ∷ ps) l.listed;
      effective = l.effective;
      first = λ q m t. ⊎_elim (λ s. rw s (h (rw s at t))) (λ r. l.first q r t) (Memᴰ.cases_cons m);
      last = l.last;
    }

    -- x is later than the latest of the others, and so than each
    later_than_all : (l : Latest day xs) → no_later x.from l.price.from ≡ false → (q : Price) → Memᴰ q xs → in_effect day q ≡ true → no_later x.from q.from ≡ false
    later_than_all l f q m t = not_true (λ n. true≢false (sym (order_trans x.from q.from l.price.from n (none_later day xs l q m t)) ∙ f))

    go : (b : Bool) → in_effect day x ≡ b → (a : Bool) → any (in_effect day) xs ≡ a → (b || a) ≡ true → (any (in_effect day) xs ≡ true → Latest day xs) → Latest day (x ∷ xs)
    go true t false n e ih = here t (λ q m s. absurd (true≢false (sym (in_any (in_effect day) q xs m s) ∙ n)))
    go true t true n e ih = decide (no_later x.from (ih n).price.from) refl
      where
        decide : (c : Bool) → no_later x.from (ih n).price.from ≡ c → Latest day (x ∷ xs)
        decide true s = there (ih n) (λ k. s)
        decide false s = here t (later_than_all (ih n) s)
    go false t a n e ih = there (ih (n ∙ e)) (λ k. absurd (true≢false (sym k ∙ t)))

-- ---- else

pub price_first : (day : ℕ) (p : Price) (ps : List Price) → ((q : Price) → Memᴰ q (p ∷ ps) → in_effect day q ≡ false) → price_on (p ∷ ps) day ≡ p.per_unit
unfolding price_on price_among
price_first day p ps h = ap (λ (qs : List Price). price_among qs (p ∷ ps)) (keep_none (in_effect day) (p ∷ ps) h)

pub price_none : (day : ℕ) → price_on [] day ≡ pos 0
unfolding price_on price_among keep
price_none day = refl

-- ---- where later days are listed first (document 01's cases 7 and 8 stand in crates/reference)

abbrev at : Option ℕ → ℕ → Price
at day z = record { from = day; per_unit = pos z }

-- prices, a day, the price
abbrev cases : List (List Price × ℕ × ℤ)
cases =
    (at (Some 20001) 5 ∷ at (Some 20000) 6 ∷ at (Some 20000) 7 ∷ [], 19999, pos 5)
    ∷ (at (Some 20001) 5 ∷ at (Some 20000) 6 ∷ at (Some 20000) 7 ∷ [], 20000, pos 7)
    ∷ (at (Some 20001) 5 ∷ at (Some 20000) 6 ∷ at (Some 20000) 7 ∷ [], 20001, pos 5)
    ∷ (at (Some 20000) 5 ∷ at None 6 ∷ [], 20000, pos 5)
    ∷ []

pub price_cases : map (λ (c : List Price × ℕ × ℤ). price_on c.0 c.1) cases ≡ map (λ (c : List Price × ℕ × ℤ). c.2) cases
unfolding price_on price_among later keep
price_cases = refl
