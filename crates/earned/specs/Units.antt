-- The units of the activities' assignments: of each activity those done, and those with the ones that remain, row after row.
use Rattle.std.specs.Prelude.{ℕ, ◌+◌, ◌*◌, ◌<◌, ◌≡◌, Bool, true, false, cond, eqb, ℤ, pos, length, get_or, set}
use mathlib.Core.List.{List, [], ◌∷◌, flat_map}
use Rattle.std.specs.Int.{w64}
use Rattle.integer.specs.Folds.{saturated}
use Rattle.format.specs.declared.EvTechnique.{EvTechnique}
use Rattle.format.specs.declared.EvTechnique.TheVariants.{Physical, Duration, Units, ZeroHundred, FiftyFifty, Custom}
use Rattle.format.specs.Book.{Assignment, Book}
use Rattle.lists.specs.Lists.{keep}
use Rattle.model.specs.Earned.{units_done, units_in_all}

-- ---- what an assignment adds

abbrev pub done_of : Assignment → List ℤ
done_of x = x.actual ∷ []

abbrev pub all_of : Assignment → List ℤ
all_of x = x.actual ∷ x.remaining ∷ []

-- the table with an assignment added
unfoldable pub added : List ℤ → Assignment → List ℤ
added table x =
    let at = x.activity * 2 in
    set (set table at (saturated w64 (get_or table at (pos 0)) (done_of x))) (at + 1) (saturated w64 (get_or table (at + 1) (pos 0)) (all_of x))

-- of activity i: what these assignments add up to, each with so much of it
abbrev pub summed_by : (Assignment → List ℤ) → List Assignment → ℕ → ℤ
summed_by f all i = saturated w64 (pos 0) (flat_map f (keep (λ (x : Assignment). eqb x.activity i) all))

-- all of these added
pub record Summed (all : List Assignment) (n : ℕ) (table : List ℤ) : Type 0 where
  pub long : length table ≡ n * 2
  pub done : (i : ℕ) → i < n → get_or table (i * 2) (pos 0) ≡ summed_by done_of all i
  pub total : (i : ℕ) → i < n → get_or table (i * 2 + 1) (pos 0) ≡ summed_by all_of all i

-- ---- of a book

abbrev pub is_units : EvTechnique → Bool
is_units Physical = false
is_units Duration = false
is_units Units = true
is_units ZeroHundred = false
is_units FiftyFifty = false
is_units (Custom share) = false

-- units count for one technique only; for the others the table holds 0
abbrev pub if_units : EvTechnique → ℤ → ℤ
if_units technique z = cond (is_units technique) z (pos 0)

pub record AreUnits (book : Book) (technique : EvTechnique) (units : List ℤ) : Type 0 where
  pub long : length units ≡ length book.activities * 2
  pub done : (i : ℕ) → i < length book.activities → get_or units (i * 2) (pos 0) ≡ if_units technique (units_done book i)
  pub total : (i : ℕ) → i < length book.activities → get_or units (i * 2 + 1) (pos 0) ≡ if_units technique (units_in_all book i)
