-- How much of an activity is done, as the schedule and the units say it.
use Rattle.std.specs.Prelude.{Option}
use Prim.Native.Nat.{ℕ, ◌<◌}
use mathlib.Core.Path.{◌≡◌, refl}
use mathlib.Core.List.{List}
use lib.IntN.{ℤ}
use lib.ListN.{length}
use Rattle.format.specs.declared.Status.{Status}
use Rattle.format.specs.declared.Status.TheVariants.{NotStarted, InProgress, Completed}
use Rattle.format.specs.declared.EvTechnique.{EvTechnique}
use Rattle.format.specs.declared.EvTechnique.TheVariants.{Physical, Duration, Units, ZeroHundred, FiftyFifty, Custom}
use Rattle.format.specs.InRange.{InRange}
use Rattle.format.specs.Book.{Book}
use Rattle.model.specs.Lookup.{no_activity, activity_at}
use Rattle.model.specs.Earned.{units_done, units_in_all, performance_by, performance}
use Rattle.activities.specs.Schedule.{schedule_row, schedule_of}
use Rattle.activities.proofs.Scheduling.{status_at, working_at, remaining_at, percent_at, row_status, row_working, row_remaining, row_percent}
use Rattle.earned.specs.Done.{done_in}
use Rattle.earned.specs.Units.{if_units}

-- units count for one technique only
module _ (percent : Option ℤ) (working remaining : ℕ) (done all : ℤ) where
  by_units :
      (technique : EvTechnique) (status : Status) →
      performance_by technique status percent working remaining (if_units technique done) (if_units technique all) ≡ performance_by technique status percent working remaining done all
  by_units Physical InProgress = refl
  by_units Duration InProgress = refl
  by_units Units InProgress = refl
  by_units ZeroHundred InProgress = refl
  by_units FiftyFifty InProgress = refl
  by_units (Custom share) InProgress = refl
  by_units technique NotStarted = refl
  by_units technique Completed = refl

module _ (b : Book) (i : ℕ) where
  pub share_is :
      {schedule : List ℕ} → schedule ≡ schedule_of b → InRange b → i < length b.activities → (technique : EvTechnique) → b.technique ≡ technique → {done all : ℤ} →
      done ≡ if_units technique (units_done b i) → all ≡ if_units technique (units_in_all b i) → done_in technique schedule i done all ≡ performance b i
  unfolding done_in performance
  share_is e r h technique t d u =
      let a = activity_at b i in
      rw (percent_at b e i h (r.activities i no_activity h).percent, working_at b e i h, remaining_at b e i h, status_at b e i h, d, u, ← t) (by_units a.percent a.working_minutes a.remaining_minutes (units_done b i) (units_in_all b i) b.technique a.status)

  -- by the row of the activity alone
  pub share_row :
      {row : List ℕ} → row ≡ schedule_row b.data_date (activity_at b i) → InRange b → i < length b.activities → (technique : EvTechnique) → b.technique ≡ technique → {done all : ℤ} →
      done ≡ if_units technique (units_done b i) → all ≡ if_units technique (units_in_all b i) → done_in technique row 0 done all ≡ performance b i
  unfolding done_in performance
  share_row e r h technique t d u =
      let date = b.data_date in
      let a = activity_at b i in
      rw (row_percent date a e (r.activities i no_activity h).percent, row_working date a e, row_remaining date a e, row_status date a e, d, u, ← t) (by_units a.percent a.working_minutes a.remaining_minutes (units_done b i) (units_in_all b i) b.technique a.status)
