-- The stretch of a schedule's spans, all three ways.
use Prim.Native.Nat.{ℕ, ◌+◌}
use mathlib.Core.Path.{◌≡◌, refl}
use mathlib.Core.List.{List}
use Rattle.model.specs.declared.Way.{Way}
use Rattle.model.specs.declared.Way.TheVariants.{Planned, Actual, Remaining}
use Rattle.spans.specs.declared.Stretch.{Stretch}
use Rattle.spans.specs.Stretches.{DatedSpans, widened}
use Rattle.spans.proofs.Covering.{Covering, covering_still, covering_more}
use Rattle.activities.specs.Schedule.{first_in, last_in}
use Rattle.activities.specs.Stretches.{widened_ways}

module _ (schedule : List ℕ) (dated : (way : Way) → DatedSpans (first_in schedule way) (last_in schedule way)) {i : ℕ} {r : Stretch}
    (w : (way : Way) → Covering (first_in schedule way) (last_in schedule way) i r)
  where
    still :
        (way : Way) {f l : ℕ → ℕ} {j : ℕ} {x y : Stretch} → Covering f l j x → y ≡ widened x (first_in schedule way i) (last_in schedule way i) → Covering f l j y
    still way v e = covering_still v (first_in schedule way i) (last_in schedule way i) ((dated way).begins i) ((dated way).ends i) e

    pub covering_ways : {q : Stretch} → q ≡ widened_ways schedule i r → (way : Way) → Covering (first_in schedule way) (last_in schedule way) (i + 1) q
    unfolding widened_ways
    covering_ways e Planned = still Remaining (still Actual (covering_more (w Planned) (dated Planned) refl) refl) e
    covering_ways e Actual = still Remaining (covering_more (still Planned (w Actual) refl) (dated Actual) refl) e
    covering_ways e Remaining = covering_more (still Actual (still Planned (w Remaining) refl) refl) (dated Remaining) e
