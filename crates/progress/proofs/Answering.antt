-- The rows of earned value and of performance: what is answered with them.
use Rattle.std.specs.Prelude.{Ok}
use Prim.Native.Nat.{ℕ, ◌≤◌, ◌<◌}
use native.Mathlib.Omega.{arith}
use mathlib.Core.Path.{◌≡◌, refl, ap, sym, ◌∙◌}
use mathlib.Core.List.{List, [], ◌∷◌, map}
use lib.IntN.{ℤ}
use lib.ListN.{length, set}
use lib.Seq.{sets, sets-eq, set_split}
use Rattle.floats.specs.Figures.{bits_of}
use Rattle.format.specs.Book.{Book}
use Rattle.format.specs.InRange.{InRange}
use Rattle.model.specs.Earned.{project_earned, performance}
use Rattle.tree.specs.Figures.{parents_of, rolled_rows}
use Rattle.tree.specs.Tables.{own_values, rolled_values}
use Rattle.tree.proofs.Figured.{values_rolled}
use Rattle.spans.specs.Columns.{parent_number}
use Rattle.activities.proofs.Leaves.{parents_are}
use Rattle.answers.specs.Rows.{earned_width, earned_row, project_earned_rows, performance_rows}
use Rattle.answers.specs.Calls.{Puts}
use Rattle.answers.proofs.SizedEarned.{row_wide, project_sized}
use Rattle.answers.proofs.Sized.{Sized, one_sized, one_numbers, in_front}

-- the own figures, rolled up along the walks
pub values_from :
    (b : Book) (date : ℕ) → InRange b → length b.activities ≤ 500 → {ps : List ℕ} {own out : List ℤ} →
    ps ≡ map parent_number b.activities → own ≡ own_values b date → out ≡ rolled_rows 5 ps own → out ≡ rolled_values b date
values_from b date r few {ps = ps} named made rolled = rolled ∙ ap (rolled_rows 5 ps) made ∙ values_rolled b date ps (ap parents_of named ∙ parents_are b few r)

-- a row put at the front
pub project_put :
    (date : ℕ) (b : Book) (out : List ℕ) → earned_width ≤ length out → Puts (project_earned_rows date b) out (Ok 1) (sets out 0 (earned_row (project_earned b date)))
unfolding project_earned_rows
project_put date b out h =
    let row = earned_row (project_earned b date) in
    let seven = row_wide (project_earned b date) in
    rw (sets-eq row out 0 (omega arith), seven) (in_front (project_earned_rows date b) out (project_sized date b) (omega arith) row (sym (one_numbers row)))

pub performance_sized : (i : ℕ) (b : Book) → Sized (performance_rows i b) 1 1
unfolding performance_rows
performance_sized i b = one_sized (bits_of (performance b i) ∷ []) 1 refl

pub performance_put : (i : ℕ) (b : Book) (out : List ℕ) → 0 < length out → (x : ℕ) → x ≡ bits_of (performance b i) → Puts (performance_rows i b) out (Ok 1) (set out 0 x)
unfolding performance_rows
performance_put i b out h x e =
    rw (set_split out 0 x h) (in_front (performance_rows i b) out (performance_sized i b) h (x ∷ []) (ap (λ (n : ℕ). n ∷ []) e ∙ sym (one_numbers (bits_of (performance b i) ∷ []))))
