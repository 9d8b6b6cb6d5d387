-- `holidays::is_movable` meets its contract: the search's test is the definition's.
-- Assumes nothing.
use Rattle.std.proofs.Common.{◌≡◌, ◌∙◌, sym, ap, refl, List, [], ◌∷◌, ℤ, int_eq, to_z-of_z}
use Rattle.std.specs.List.{list_any}
use Rattle.std.proofs.lemmas.Bool.Decides.{same_from_decides, Decides-int_eq}
use Rattle.lists.specs.Lists.{any}
use Rattle.holidays.specs.Holiday.{same, distances, is_movable}
use Rattle.holidays.proofs.Years.{self, equal}
use Rattle.holidays.proofs.is_movable.Goals as goal

alike : (z y : ℤ) → int_eq y z ≡ same z y
alike z y = same_from_decides (int_eq y z) (same z y) (Decides-int_eq y z) (λ e. sym (equal z y e), λ e. ap (same z) e ∙ self z)

all_alike : (z : ℤ) (xs : List ℤ) → list_any (λ y. int_eq y z) xs ≡ any (same z) xs
unfolding any
all_alike z [] = refl
all_alike z (x ∷ xs) = rw (alike z x, all_alike z xs)

pub returns : goal.returns
unfolding is_movable
returns c = c.contains.ensures.value ∙ all_alike _ distances ∙ ap is_movable (to_z-of_z c.ranges.distance)
