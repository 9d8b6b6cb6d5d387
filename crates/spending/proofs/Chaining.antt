-- What the loop keeps that chains the charges, from the last on.
use Prim.Native.Nat.{ℕ, ◌+◌, ◌*◌, ◌-◌, ◌/◌, ◌≤◌, ◌<◌}
use mathlib.Core.Path.{◌≡◌, refl, sym, ap, ◌∙◌, subst}
use mathlib.Core.Bool.{Bool, true, false}
use mathlib.Core.List.{List}
use native.Mathlib.Omega.{arith}
use native.Mathlib.Decide.{dec_lt}
use borrow.Author.Tests.{eqb-true, eqb-false}
use lib.Dec.{eqb}
use lib.ListN.{length, get_or, set, replicate, length-set, length-replicate, get_or-replicate}
use lib.Seq.{get_or-set_same, get_or-set_other}
use Rattle.spending.specs.Chained.{IsNext, account_in, Chained}

module _ (of : ℕ → ℕ) (n i : ℕ) where
  pub next_none : IsNext of n i n 0
  next_none = record { most = omega arith; here = λ h. absurd (omega arith); skipped = λ l h k e. omega arith }

  -- one charge before, which is booked to another
  next_before : {k j left : ℕ} → k ≡ j + 1 → (of j ≡ i → ⊥) → IsNext of n i k left → IsNext of n i j left
  next_before {k} {j} {left} e other w =
      record {
        most = omega (arith, w.most);
        here = w.here;
        skipped = λ l h m q. go l h m q (dec_lt j l);
      }
    where
      go : (l : ℕ) → j ≤ l → l < n - left → of l ≡ i → Dec (j < l) → ⊥
      go l h m q (yes s) = w.skipped l (omega arith) m q
      go l h m q (no s) = let here : l ≡ j = omega arith in other (sym (ap of here) ∙ q)

  -- one that is booked to it
  next_here : {j left : ℕ} → j + left ≡ n → of j ≡ i → IsNext of n i j left
  next_here {j} {left} e q = record { most = omega arith; here = λ h. let s : n - left ≡ j = omega arith in ap of s ∙ q; skipped = λ l h k f. omega arith }

module _ (links₀ : List ℕ) where
  abbrev n : ℕ
  n = length links₀ / 2

  abbrev of : ℕ → ℕ
  of k = account_in links₀ k

  pub record Chaining (left : ℕ) (links heads : List ℕ) : Type 0 where
    pub most : left ≤ n
    pub long : length links ≡ length links₀
    pub size : length heads ≡ 500
    pub first : (i : ℕ) → i < 500 → IsNext of n i (n - left) (get_or heads i 0)
    pub next : (k : ℕ) → n - left ≤ k → k < n → of k < 500 → IsNext of n (of k) (k + 1) (account_in links k)
    pub rest : (k : ℕ) → k < n - left → account_in links k ≡ of k
    pub kept : (k : ℕ) → get_or links (k * 2 + 1) 0 ≡ get_or links₀ (k * 2 + 1) 0

  pub chaining_none : Chaining 0 links₀ (replicate 500 0)
  chaining_none =
      let all : n ≡ n - 0 = omega arith in
      record {
        most = omega arith;
        long = refl;
        size = length-replicate {A = ℕ} 500 0;
        first = λ i h. rw (get_or-replicate {A = ℕ} 500 i 0 0 h) (subst (λ (k : ℕ). IsNext of n i k 0) all (next_none of n i));
        next = λ k h l a. absurd (omega arith);
        rest = λ k h. refl;
        kept = λ k. refl;
      }

  module _ {left : ℕ} {links heads : List ℕ} (w : Chaining left links heads) (h : left < n) where
    abbrev j : ℕ
    j = n - (left + 1)

    pub chaining_account : account_in links j ≡ of j
    chaining_account = w.rest j (omega arith)

    after : n - left ≡ j + 1
    after = omega arith

    -- a charge that is booked to no activity
    pub chaining_past : (account_in links j < 500 → ⊥) → Chaining (left + 1) links heads
    chaining_past idle =
        record {
          most = omega arith;
          long = w.long;
          size = w.size;
          first = λ i l. next_before of n i after (λ e. idle (omega (arith, chaining_account))) (w.first i l);
          next = λ k a l b. go k a l b (dec_lt j k);
          rest = λ k l. w.rest k (omega arith);
          kept = w.kept;
        }
      where
        go : (k : ℕ) → j ≤ k → k < n → of k < 500 → Dec (j < k) → IsNext of n (of k) (k + 1) (account_in links k)
        go k a l b (yes e) = w.next k (omega arith) l b
        go k a l b (no e) = let here : k ≡ j = omega arith in absurd (idle (omega (arith, chaining_account, ap of here)))

    -- one that is booked to an activity
    pub chaining_more : (a : ℕ) → a ≡ account_in links j → a < 500 → Chaining (left + 1) (set links (j * 2) (get_or heads a 0)) (set heads a (left + 1))
    chaining_more a e few =
        record {
          most = omega arith;
          long = length-set links (j * 2) (get_or heads a 0) ∙ w.long;
          size = length-set heads a (left + 1) ∙ w.size;
          first = λ i l. first i l (eqb i a) refl;
          next = λ k g l b. next k g l b (dec_lt j k);
          rest = λ k l. get_or-set_other links (j * 2) (k * 2) (get_or heads a 0) 0 (λ q. omega arith) ∙ w.rest k (omega arith);
          kept = λ k. get_or-set_other links (j * 2) (k * 2 + 1) (get_or heads a 0) 0 (λ q. omega arith) ∙ w.kept k;
        }
      where
        first : (i : ℕ) → i < 500 → (t : Bool) → eqb i a ≡ t → IsNext of n i j (get_or (set heads a (left + 1)) i 0)
        first i l true t =
            rw (eqb-true i a t, get_or-set_same heads a (left + 1) 0 (omega (arith, w.size))) (next_here of n a (omega arith) (sym (e ∙ chaining_account)))
        first i l false t =
            rw (get_or-set_other heads a i (left + 1) 0 (eqb-false i a t)) (next_before of n i after (λ q. eqb-false i a t (sym (e ∙ chaining_account ∙ q))) (w.first i l))

        next : (k : ℕ) → j ≤ k → k < n → of k < 500 → Dec (j < k) → IsNext of n (of k) (k + 1) (account_in (set links (j * 2) (get_or heads a 0)) k)
        next k g l b (yes s) = rw (get_or-set_other links (j * 2) (k * 2) (get_or heads a 0) 0 (λ q. omega arith)) (w.next k (omega arith) l b)
        next k g l b (no s) =
            let here : k ≡ j = omega arith in
            rw (here, get_or-set_same links (j * 2) (get_or heads a 0) 0 (omega (arith, w.long)))
            (subst (λ (i : ℕ). IsNext of n i (j + 1) (get_or heads a 0)) (e ∙ chaining_account) (subst (λ (k : ℕ). IsNext of n a k (get_or heads a 0)) after (w.first a few)))

  -- from the last charge on
  pub chaining_start : Chaining (n - n) links₀ (replicate 500 0)
  chaining_start = let none : 0 ≡ n - n = omega arith in subst (λ (l : ℕ). Chaining l links₀ (replicate 500 0)) none chaining_none

  pub chaining_end : {left : ℕ} {links heads : List ℕ} → Chaining left links heads → n ≤ left → Chained links₀ links heads
  chaining_end {left} {heads} w h =
      let all : n - left ≡ 0 = omega arith in
      record {
        long = w.long;
        first = λ i l. subst (λ (k : ℕ). IsNext of n i k (get_or heads i 0)) all (w.first i l);
        next = λ k l b. w.next k (omega arith) l b;
        kept = w.kept;
      }
