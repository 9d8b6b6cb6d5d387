-- The walk as a loop makes it: what is left of it at a number of the slice, and what one step takes off.
use Rattle.std.specs.Prelude.{None, Option, Some}
use Prim.Native.Nat.{ℕ, zero, suc, ◌+◌, ◌-◌, ◌≤◌, ◌<◌}
use mathlib.Core.Path.{◌≡◌, refl, ap, ◌∙◌}
use mathlib.Core.Bool.{Bool, cond}
use mathlib.Core.List.{List, [], ◌∷◌}
use native.Mathlib.Omega.{arith}
use lib.ListN.{length, get_or, length-map}
use borrow.Author.Tests.{lt-ltb, le-ltb}
use Rattle.lists.proofs.Lists.{at_map}
use Rattle.model.specs.Tree.{parent_of, steps, walk}
use Rattle.tree.specs.Figures.{index_of, parents_of}

pub count_is : (numbers : List ℕ) → length (parents_of numbers) ≡ length numbers
unfolding parents_of
count_is numbers = length-map numbers (index_of (length numbers))

module _ (numbers : List ℕ) where
  -- the steps that are left where the walk has come to a number
  abbrev pub ahead : ℕ → ℕ → List ℕ
  ahead limit at = steps (parents_of numbers) limit (index_of (length numbers) at)

  pub parent_is : (i : ℕ) → i < length numbers → parent_of (parents_of numbers) i ≡ index_of (length numbers) (get_or numbers i 0)
  unfolding parents_of
  parent_is i h = at_map (index_of (length numbers)) numbers i 0 None h

  pub walk_is : (limit from : ℕ) → from < length numbers → walk (parents_of numbers) limit from ≡ ahead limit (get_or numbers from 0)
  unfolding walk
  walk_is limit from h = ap (steps (parents_of numbers) limit) (parent_is from h)

  pub ahead_done : (limit made at : ℕ) → limit ≤ made → ahead (limit - made) at ≡ []
  unfolding steps
  ahead_done limit made at h =
      let e : limit - made ≡ 0 = omega arith in
      ap (λ (l : ℕ). ahead l at) e

  pub ahead_top : (limit at : ℕ) → length numbers ≤ at → ahead limit at ≡ []
  unfolding steps
  ahead_top zero at h = refl
  ahead_top (suc limit) at h = ap (λ (b : Bool). steps (parents_of numbers) (suc limit) (cond b (Some at) None)) (le-ltb at (length numbers) h)

  pub ahead_suc : (limit at : ℕ) → at < length numbers → ahead (suc limit) at ≡ at ∷ ahead limit (get_or numbers at 0)
  unfolding steps
  ahead_suc limit at h =
      ap (λ (b : Bool). steps (parents_of numbers) (suc limit) (cond b (Some at) None)) (lt-ltb at (length numbers) h)
      ∙ ap (λ (o : Option ℕ). at ∷ steps (parents_of numbers) limit o) (parent_is at h)

  pub ahead_next : (limit made at : ℕ) → made < limit → at < length numbers → ahead (limit - made) at ≡ at ∷ ahead (limit - (made + 1)) (get_or numbers at 0)
  ahead_next limit made at h l =
      let e : limit - made ≡ suc (limit - (made + 1)) = omega arith in
      ap (λ (k : ℕ). ahead k at) e ∙ ahead_suc (limit - (made + 1)) at l
