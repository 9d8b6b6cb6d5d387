-- A table with amounts laid onto it: one amount, amounts one after the other, and what a loop keeps that lays them.
use Prim.Native.Nat.{ℕ, ◌+◌, ◌*◌, ◌-◌, ◌/◌, ◌≤◌, ◌<◌}
use mathlib.Core.Path.{◌≡◌, refl, sym, ap, ◌∙◌, subst}
use mathlib.Core.Bool.{Bool, true, false, ◌||◌}
use mathlib.Core.List.Memᴰ
use mathlib.Core.List.{List, [], ◌∷◌, ◌++◌, map-append, append-nil, append_assoc}
use native.Mathlib.Omega.{arith}
use borrow.Author.Tests.{eqb-true, eqb-false, ne_eqb}
use lib.Dec.{eqb}
use lib.IntN.{ℤ, pos, ◌+ℤ◌}
use lib.ListN.{length, get_or, set, length-set, replicate, get_or-replicate, length-replicate}
use lib.Seq.{get_or-set_same, get_or-set_other}
use mir.Syntax.{w64}
use mir.Val.{SFits}
use Rattle.integer.specs.Clamp.{clamp}
use Rattle.integer.specs.Folds.{saturated, saturated_append}
use Rattle.money.specs.Words.{bits, of_bits}
use Rattle.money.proofs.Bits.{there_and_back}
use Rattle.lists.specs.Lists.{any, cons_if, keep}
use Rattle.calendar.specs.Tables.{one}
use Rattle.model.specs.Amounts.{Dated, on, amounts, is_dated, is_charged, saturated_sum}
use Rattle.lists.proofs.Lists.{in_any, keep_append}
use Rattle.model.proofs.Saturating.{saturated_fits}
use Rattle.laid.specs.Laid.{mark_of, sum_of, Holds, Laid}

-- ---- what one amount more changes of a date

module _ (xs : List Dated) (x : Dated) (d : ℕ) where
  charged_here : eqb x.day d ≡ true → is_charged (xs ++ (x ∷ [])) d ≡ true
  unfolding is_charged
  charged_here e = in_any (is_dated d) x (xs ++ (x ∷ [])) (Memᴰ.append_right xs (Memᴰ.head refl)) e

  charged_else : eqb x.day d ≡ false → is_charged (xs ++ (x ∷ [])) d ≡ is_charged xs d
  unfolding is_charged any
  charged_else e = go xs
    where
      go : (l : List Dated) → any (is_dated d) (l ++ (x ∷ [])) ≡ any (is_dated d) l
      go [] = ap (λ (b : Bool). b || false) e
      go (y ∷ l) = ap (λ (b : Bool). is_dated d y || b) (go l)

  kept_more : (b : Bool) → eqb x.day d ≡ b → keep (is_dated d) (xs ++ (x ∷ [])) ≡ keep (is_dated d) xs ++ cons_if b x []
  unfolding keep
  kept_more b e = keep_append (is_dated d) xs (x ∷ []) ∙ ap (λ (b : Bool). keep (is_dated d) xs ++ cons_if b x []) e

  summed_here : eqb x.day d ≡ true → saturated_sum (keep (is_dated d) (xs ++ (x ∷ []))) ≡ clamp w64 (saturated_sum (keep (is_dated d) xs) +ℤ x.amount)
  unfolding saturated_sum saturated
  summed_here e =
      ap (λ (l : List Dated). saturated w64 (pos 0) (amounts l)) (kept_more true e)
      ∙ ap (saturated w64 (pos 0)) (map-append (λ (y : Dated). y.amount) (keep (is_dated d) xs) (x ∷ []))
      ∙ saturated_append w64 (pos 0) (amounts (keep (is_dated d) xs)) (x.amount ∷ [])

  summed_else : eqb x.day d ≡ false → saturated_sum (keep (is_dated d) (xs ++ (x ∷ []))) ≡ saturated_sum (keep (is_dated d) xs)
  summed_else e = ap saturated_sum (kept_more false e ∙ append-nil (keep (is_dated d) xs))

pub sum_fits : (xs : List Dated) → SFits w64 (saturated_sum xs)
unfolding saturated_sum
sum_fits xs = saturated_fits w64 (pos 0) (record { sfits = omega arith }) (amounts xs)

-- ---- an amount laid

module _ (base date : ℕ) (z : ℤ) (table : List ℕ) where
  -- on a date that the table does not have
  pub laid_past : (base ≤ date → date - base < length table / 2 → ⊥) → Laid base (on date z ∷ []) table table
  laid_past out =
      record {
        long = refl;
        holds = λ xs h.
            record {
              mark = λ d k l. h.mark d k l ∙ sym (ap one (charged_else xs (on date z) d (other d k l)));
              sum = λ d k l. h.sum d k l ∙ sym (ap bits (summed_else xs (on date z) d (other d k l)));
            };
      }
    where
      other : (d : ℕ) → base ≤ d → (d - base) * 2 + 1 < length table → eqb date d ≡ false
      other d k l = ne_eqb date d (λ e. out (omega arith) (omega arith))

  abbrev at : ℕ
  at = (date - base) * 2

  abbrev total : ℕ
  total = bits (clamp w64 (of_bits (get_or table (at + 1) 0) +ℤ z))

  pub laid_here : base ≤ date → date - base < length table / 2 → Laid base (on date z ∷ []) table (set (set table at 1) (at + 1) total)
  laid_here b r =
      record {
        long = long;
        holds = λ xs h. record { mark = λ d k l. mark xs h d k l (eqb date d) refl; sum = λ d k l. sum xs h d k l (eqb date d) refl };
      }
    where
      marked : List ℕ
      marked = set table at 1

      long : length (set marked (at + 1) total) ≡ length table
      long = length-set marked (at + 1) total ∙ length-set table at 1

      -- an entry of another date
      apart : (d i : ℕ) → eqb date d ≡ false → base ≤ d → i < 2 → get_or (set marked (at + 1) total) ((d - base) * 2 + i) 0 ≡ get_or table ((d - base) * 2 + i) 0
      apart d i e k l =
          let n = eqb-false date d e in
          get_or-set_other marked (at + 1) ((d - base) * 2 + i) total 0 (λ q. n (omega arith))
          ∙ get_or-set_other table at ((d - base) * 2 + i) 1 0 (λ q. n (omega arith))

      mark : (xs : List Dated) → Holds base xs table → (d : ℕ) → base ≤ d → (d - base) * 2 + 1 < length (set marked (at + 1) total) → (t : Bool) → eqb date d ≡ t
          → mark_of base (set marked (at + 1) total) d ≡ one (is_charged (xs ++ (on date z ∷ [])) d)
      mark xs h d k l true e =
          let same : (d - base) * 2 ≡ at = omega (arith, eqb-true date d e) in
          ap (λ (i : ℕ). get_or (set marked (at + 1) total) i 0) same
          ∙ get_or-set_other marked (at + 1) at total 0 (λ q. omega arith)
          ∙ get_or-set_same table at 1 0 (omega arith)
          ∙ sym (ap one (charged_here xs (on date z) d e))
      mark xs h d k l false e =
          let none : (d - base) * 2 + 0 ≡ (d - base) * 2 = omega arith in
          sym (ap (λ (i : ℕ). get_or (set marked (at + 1) total) i 0) none) ∙ apart d 0 e k (omega arith) ∙ ap (λ (i : ℕ). get_or table i 0) none
          ∙ h.mark d k (omega (arith, long)) ∙ sym (ap one (charged_else xs (on date z) d e))

      sum : (xs : List Dated) → Holds base xs table → (d : ℕ) → base ≤ d → (d - base) * 2 + 1 < length (set marked (at + 1) total) → (t : Bool) → eqb date d ≡ t
          → sum_of base (set marked (at + 1) total) d ≡ bits (saturated_sum (keep (is_dated d) (xs ++ (on date z ∷ []))))
      sum xs h d k l true e =
          let same : (d - base) * 2 ≡ at = omega (arith, eqb-true date d e) in
          let before = saturated_sum (keep (is_dated d) xs) in
          ap (λ (i : ℕ). get_or (set marked (at + 1) total) (i + 1) 0) same
          ∙ get_or-set_same marked (at + 1) total 0 (omega (arith, length-set table at 1))
          ∙ ap (λ (y : ℤ). bits (clamp w64 (y +ℤ z)))
          (ap of_bits (sym (ap (λ (i : ℕ). get_or table (i + 1) 0) same) ∙ h.sum d k (omega (arith, long))) ∙ there_and_back before (sum_fits (keep (is_dated d) xs)))
          ∙ sym (ap bits (summed_here xs (on date z) d e))
      sum xs h d k l false e = apart d 1 e k (omega arith) ∙ h.sum d k (omega (arith, long)) ∙ sym (ap bits (summed_else xs (on date z) d e))

-- ---- amounts one after the other

module _ {base : ℕ} where
  pub laid_none : {table : List ℕ} → Laid base [] table table
  laid_none {table} = record { long = refl; holds = λ xs h. subst (λ (l : List Dated). Holds base l table) (sym (append-nil xs)) h }

  pub laid_same : {xs ys : List Dated} {before after : List ℕ} → xs ≡ ys → Laid base xs before after → Laid base ys before after
  laid_same e l = rw e at l

  pub laid_both : {ys zs : List Dated} {t u v : List ℕ} → Laid base ys t u → Laid base zs u v → Laid base (ys ++ zs) t v
  laid_both {ys} {zs} {t} {u} {v} l m =
      record {
        long = m.long ∙ l.long;
        holds = λ xs h. subst (λ (l : List Dated). Holds base l v) (append_assoc xs ys zs) (m.holds (xs ++ ys) (l.holds xs h));
      }

-- what a loop keeps: with the rest laid, all is laid onto what was there at the start
pub record Laying (base : ℕ) (all : List Dated) (before : List ℕ) (rest : List Dated) (table : List ℕ) : Type 0 where
  pub long : length table ≡ length before
  pub ends : (after : List ℕ) → Laid base rest table after → Laid base all before after

pub laying_none : (base : ℕ) (all : List Dated) (table : List ℕ) → Laying base all table all table
laying_none base all table = record { long = refl; ends = λ after l. l }

module _ {base : ℕ} {all : List Dated} {before : List ℕ} {rest : List Dated} {table : List ℕ} (w : Laying base all before rest table) where
  pub laying_more : {xs left : List Dated} {next : List ℕ} → rest ≡ xs ++ left → Laid base xs table next → Laying base all before left next
  laying_more e l = record { long = l.long ∙ w.long; ends = λ after m. w.ends after (laid_same (sym e) (laid_both l m)) }

  pub laying_past : {left : List Dated} → rest ≡ left → Laying base all before left table
  laying_past e = record { long = w.long; ends = λ after m. w.ends after (laid_same (sym e) m) }

  pub laying_end : rest ≡ [] → Laid base all before table
  laying_end e = w.ends table (laid_same (sym e) laid_none)

-- ---- a table of n numbers, as it is before anything is laid onto it

pub holds_none : (base n : ℕ) → Holds base [] (replicate n 0)
unfolding is_charged any saturated_sum saturated keep
holds_none base n =
    let size = length-replicate {A = ℕ} n 0 in
    record { mark = λ d k l. get_or-replicate n ((d - base) * 2) 0 0 (omega arith); sum = λ d k l. get_or-replicate n ((d - base) * 2 + 1) 0 0 (omega arith) }
