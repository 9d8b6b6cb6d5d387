-- A chain of later and later activities: one taken off it, and what a store before it leaves as it was.
use Prim.Native.Nat.{ℕ, zero, suc, ◌+◌, ◌≤◌, ◌<◌}
use mathlib.Core.Path.{◌≡◌, refl, sym, ap, ap₂, ◌∙◌}
use mathlib.Core.Bool.{Bool, cond}
use mathlib.Core.List.{List, [], ◌∷◌}
use native.Mathlib.Omega.{arith}
use native.Mathlib.Decide.{dec_lt}
use lib.Dec.{ltb}
use lib.ListN.{length, get_or, set, length-set}
use lib.Seq.{get_or-set_other}
use borrow.Author.Tests.{lt-ltb, le-ltb}
use Rattle.descent.specs.Links.{chain, chain_from, Rises}

module _ (next : List ℕ) where
  abbrev on : ℕ → ℕ → Bool → List ℕ
  on fuel i b = cond b (i ∷ chain next fuel (get_or next i 0)) []

  chain_stop : (fuel i : ℕ) → length next ≤ i → chain next fuel i ≡ []
  unfolding chain
  chain_stop zero i h = refl
  chain_stop (suc fuel) i h = ap (on fuel i) (le-ltb i (length next) h)

  chain_suc : (fuel i : ℕ) → i < length next → chain next (suc fuel) i ≡ i ∷ chain next fuel (get_or next i 0)
  unfolding chain
  chain_suc fuel i h = ap (on fuel i) (lt-ltb i (length next) h)

  pub chain_end : (i : ℕ) → length next ≤ i → chain_from next i ≡ []
  unfolding chain_from
  chain_end i h = chain_stop (length next) i h

  module _ (lo : ℕ) (r : Rises lo next) where
    -- more fuel than is left changes nothing
    enough : (f g i : ℕ) → lo ≤ i → length next ≤ i + f → length next ≤ i + g → chain next f i ≡ chain next g i
    unfolding chain
    enough zero g i l h k = sym (chain_stop g i (omega arith))
    enough (suc f) zero i l h k = chain_stop (suc f) i (omega arith)
    enough (suc f) (suc g) i l h k = go (dec_lt i (length next)) (enough f g (get_or next i 0))
      where
        go : Dec (i < length next) → (lo ≤ get_or next i 0 → length next ≤ get_or next i 0 + f → length next ≤ get_or next i 0 + g → chain next f (get_or next i 0) ≡ chain next g (get_or next i 0)) → chain next (suc f) i ≡ chain next (suc g) i
        go (yes b) ih = let e = r i l b in chain_suc f i b ∙ ap (λ (is : List ℕ). i ∷ is) (ih (omega arith) (omega arith) (omega arith)) ∙ sym (chain_suc g i b)
        go (no b) ih = chain_stop (suc f) i (omega arith) ∙ sym (chain_stop (suc g) i (omega arith))

    pub chain_next : (i : ℕ) → lo ≤ i → i < length next → chain_from next i ≡ i ∷ chain_from next (get_or next i 0)
    unfolding chain_from
    chain_next i l h = enough (length next) (suc (length next)) i l (omega arith) (omega arith) ∙ chain_suc (length next) i h

    -- a store before it
    chain_set : (k v fuel i : ℕ) → lo ≤ i → k < i → chain (set next k v) fuel i ≡ chain next fuel i
    unfolding chain
    chain_set k v zero i l h = refl
    chain_set k v (suc fuel) i l h =
        let e = get_or-set_other next k i v 0 (λ s. omega arith) in
        ap₂ (λ (n m : ℕ). cond (ltb i n) (i ∷ chain (set next k v) fuel m) []) (length-set next k v) e ∙ go (dec_lt i (length next)) (chain_set k v fuel (get_or next i 0))
      where
        go : Dec (i < length next) → (lo ≤ get_or next i 0 → k < get_or next i 0 → chain (set next k v) fuel (get_or next i 0) ≡ chain next fuel (get_or next i 0))
            → cond (ltb i (length next)) (i ∷ chain (set next k v) fuel (get_or next i 0)) [] ≡ on fuel i (ltb i (length next))
        go (yes b) ih = let s = r i l b in ap (λ (is : List ℕ). cond (ltb i (length next)) (i ∷ is) []) (ih (omega arith) (omega arith))
        go (no b) ih = rw (le-ltb i (length next) (omega arith)) refl

    pub chain_kept : (k v i : ℕ) → lo ≤ i → k < i → chain_from (set next k v) i ≡ chain_from next i
    unfolding chain_from
    chain_kept k v i l h = ap (λ (n : ℕ). chain (set next k v) n i) (length-set next k v) ∙ chain_set k v (length next) i l h
