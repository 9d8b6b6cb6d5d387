-- Numbers set in lent memory, one run behind the other. Assumes nothing.
use Prim.Native.Nat.{ℕ, suc, ◌+◌, ◌≤◌, ◌<◌}
use native.Mathlib.Omega.{arith}
use mathlib.Core.Path.{◌≡◌, ap, ap₂, sym, ◌∙◌}
use mathlib.Core.List.{List, [], ◌∷◌, ◌++◌, append-nil}
use lib.ListN.{length, get_or, drop, set}
use lib.Seq.{sets, sets-eq, drop-length, drop-cons}

module _ {B : Type 0} where
  -- what is set behind what was set
  pub sets_on : (out : List B) (at : ℕ) (r rs : List B) (n : ℕ) → at + length r ≡ n → sets (sets out at r) n rs ≡ sets out at (r ++ rs)
  sets_on out at [] rs n e = let z : n ≡ at = omega arith in ap (λ (k : ℕ). sets out k rs) z
  sets_on out at (x ∷ r) rs n e = sets_on (set out at x) (suc at) r rs n (omega arith)

  -- as many as are lent
  pub sets_whole : (vs out : List B) → length vs ≡ length out → sets out 0 vs ≡ vs
  sets_whole vs out e =
      let room : 0 + length vs ≤ length out = omega arith in
      let all : 0 + length vs ≡ length out = omega arith in
      rw (sets-eq vs out 0 room, all, drop-length out) (append-nil vs)

  -- one number of a row, then the rest of it
  pub sets_step : (out row : List B) (at k : ℕ) (d : B) → k < length row → sets (set out (at + k) (get_or row k d)) (at + (k + 1)) (drop (k + 1) row) ≡ sets out (at + k) (drop k row)
  sets_step out row at k d h =
      let x : at + (k + 1) ≡ suc (at + k) = omega arith in
      let y : k + 1 ≡ suc k = omega arith in
      ap₂ (λ (m n : ℕ). sets (set out (at + k) (get_or row k d)) m (drop n row)) x y ∙ sym (ap (λ (l : List B). sets out (at + k) l) (drop-cons row k d h))
