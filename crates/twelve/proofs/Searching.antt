-- What a search has passed over: one number more, upwards or downwards.
use Prim.Native.Nat.{ℕ, ◌+◌, ◌≤◌, ◌<◌}
use mathlib.Core.Path.{◌≡◌, sym, subst}
use native.Mathlib.Omega.{arith}
use native.Mathlib.Decide.{ℕ_discrete}

module _ (P : ℕ → Type 0) (n : ℕ) (here : P n) where
  pub passed_up : (a : ℕ) → ((d : ℕ) → a ≤ d → d < n → P d) → (d : ℕ) → a ≤ d → d < n + 1 → P d
  passed_up a rest d h l = go (ℕ_discrete d n)
    where
      go : Dec (d ≡ n) → P d
      go (yes e) = subst P (sym e) here
      go (no e) = rest d h (omega arith)

  pub passed_down : (b : ℕ) → ((d : ℕ) → n < d → d ≤ b → P d) → (d : ℕ) → n ≤ d → d ≤ b → P d
  passed_down b rest d h l = go (ℕ_discrete d n)
    where
      go : Dec (d ≡ n) → P d
      go (yes e) = subst P (sym e) here
      go (no e) = rest d (omega arith) l
