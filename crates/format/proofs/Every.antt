-- What holds of every element of a list.
use Prim.Native.Nat.{suc}
use native.Mathlib.Omega.{arith}
use mathlib.Core.Path.{sym, subst}
use mathlib.Core.Logic.{⊎_elim}
use mathlib.Core.List.Memᴰ
use mathlib.Core.List.{List, [], ◌∷◌, Memᴰ}
use Rattle.format.specs.InRange.{Every}

-- it holds of each that is in the list
pub every_in : {A : Type 0} (P : A → Type 0) (l : List A) → Every P l → (x : A) → Memᴰ x l → P x
every_in P [] h x m = absurd (Memᴰ.not-nil m)
every_in P (y ∷ ys) h x m =
    ⊎_elim (λ e. subst P (sym e) (h 0 y (omega arith))) (λ r. every_in P ys (λ k d l. h (suc k) d (omega arith)) x r) (Memᴰ.cases_cons m)
