-- Earned value: how much of an activity is done, by the book's technique, and what that is worth of its budget.
use Rattle.std.specs.Prelude.{ℕ, false, cond, ℤ, pos, negsuc, ◌+ℤ◌, ◌-ℤ◌, Float, unwrap_or, Some, None, Option}
use mathlib.Core.List.{List, [], ◌∷◌, map, flat_map, foldl}
use Rattle.std.specs.Float.{fin}
use Rattle.std.specs.Int.{w64}
use Rattle.integer.specs.Clamp.{clamp}
use Rattle.integer.specs.Folds.{saturated}
use Rattle.money.specs.Scale.{spent_of}
use Rattle.floats.specs.Figures.{nought, one, ratio_of, clamp01_of, share_of, earned_of}
use Rattle.format.specs.declared.Status.{Status}
use Rattle.format.specs.declared.Status.TheVariants.{NotStarted, InProgress, Completed}
use Rattle.format.specs.declared.EvTechnique.{EvTechnique}
use Rattle.format.specs.declared.EvTechnique.TheVariants.{Physical, Duration, Units, ZeroHundred, FiftyFifty, Custom}
use Rattle.format.specs.Book.{Assignment, Book}
use Rattle.model.specs.declared.Earned.{Earned}
use Rattle.model.specs.Lookup.{activity_at}
use Rattle.model.specs.Tree.{parents, indices, is_leaf, leaves, roll_up}
use Rattle.model.specs.Costs.{assignments_of, cost_of}
use Rattle.model.specs.Planned.{budget_of, planned_on}

-- ---- how much is done, from 0 to 1

abbrev pub half : Float
half = fin false 1 (negsuc 0)

-- the percent complete that was judged; 0 without one
abbrev pub by_percent : Option ℤ → Float
by_percent percent = share_of (unwrap_or percent (pos 0))

-- the minutes worked, of all; 0 where there are none
abbrev pub by_duration : ℕ → ℕ → Float
by_duration working remaining = unwrap_or (ratio_of (pos working -ℤ pos remaining) (pos working)) nought

-- the units done, of all; by duration where there are none
abbrev pub byUnits : ℤ → ℤ → ℕ → ℕ → Float
byUnits done all working remaining = unwrap_or (ratio_of done all) (by_duration working remaining)

-- what counts before the work is marked started: a percent that was judged, and nothing else
abbrev pub unstarted : EvTechnique → Option ℤ → Float
unstarted Physical percent = by_percent percent
unstarted Duration percent = nought
unstarted Units percent = nought
unstarted ZeroHundred percent = nought
unstarted FiftyFifty percent = nought
unstarted (Custom share) percent = nought

-- and while it is under way
abbrev pub under_way : EvTechnique → Option ℤ → ℕ → ℕ → ℤ → ℤ → Float
under_way Physical percent working remaining done all = by_percent percent
under_way Duration percent working remaining done all = clamp01_of (by_duration working remaining)
under_way Units percent working remaining done all = clamp01_of (byUnits done all working remaining)
under_way ZeroHundred percent working remaining done all = nought
under_way FiftyFifty percent working remaining done all = half
under_way (Custom share) percent working remaining done all = share_of share

-- from the percent, the working and the remaining minutes, the units done and in all
abbrev pub performance_by : EvTechnique → Status → Option ℤ → ℕ → ℕ → ℤ → ℤ → Float
performance_by technique NotStarted percent working remaining done all = unstarted technique percent
performance_by technique InProgress percent working remaining done all = under_way technique percent working remaining done all
performance_by technique Completed percent working remaining done all = one

-- of the activity's assignments: the units done, and those with the ones that remain
unfoldable pub units_done : Book → ℕ → ℤ
units_done book i = saturated w64 (pos 0) (map (λ (x : Assignment). x.actual) (assignments_of book i))

unfoldable pub units_in_all : Book → ℕ → ℤ
units_in_all book i = saturated w64 (pos 0) (flat_map (λ (x : Assignment). x.actual ∷ x.remaining ∷ []) (assignments_of book i))

-- document 01's `performance`, under the book's technique
unfoldable pub performance : Book → ℕ → Float
performance book i =
    let a = activity_at book i in
    performance_by book.technique a.status a.percent a.working_minutes a.remaining_minutes (units_done book i) (units_in_all book i)

-- ---- the rows

abbrev pub no_earned : Earned
no_earned = record { budget = pos 0; planned = pos 0; earned = pos 0; actual = pos 0; remaining = pos 0 }

abbrev pub add_earned : Earned → Earned → Earned
add_earned a b = record {
  budget = clamp w64 (a.budget +ℤ b.budget);
  planned = clamp w64 (a.planned +ℤ b.planned);
  earned = clamp w64 (a.earned +ℤ b.earned);
  actual = clamp w64 (a.actual +ℤ b.actual);
  remaining = clamp w64 (a.remaining +ℤ b.remaining);
}

-- a leaf's figures at a status date: BAC, PV, EV, AC, and what remains
unfoldable pub leaf_earned : Book → ℕ → ℕ → Earned
leaf_earned book date i = record {
  budget = budget_of book i;
  planned = planned_on book date i;
  earned = earned_of (budget_of book i) (performance book i);
  actual = (cost_of book i).actual;
  remaining = (cost_of book i).remaining;
}

-- a parent has none of its own
unfoldable pub own_earned : Book → ℕ → ℕ → Earned
own_earned book date i = cond (is_leaf (parents book) i) (leaf_earned book date i) no_earned

-- an activity's figures: its own, then those of the activities below it
unfoldable pub earned_at : Book → ℕ → ℕ → Earned
earned_at book date i = roll_up add_earned (parents book) (own_earned book date) i

-- document 01's `earned_value`: a row for each activity
unfoldable pub earned_value : Book → ℕ → List Earned
earned_value book date = map (earned_at book date) (indices (parents book))

-- document 01's `project_earned`: the figures of the leaves, added up
unfoldable pub project_earned : Book → ℕ → Earned
project_earned book date = foldl add_earned no_earned (map (earned_at book date) (leaves (parents book)))

-- document 01's `spent`, at the end of every row: of the row's own figures, and none where its own budget is 0
abbrev pub spent_in : Earned → Option ℤ
spent_in e = spent_of e.actual e.budget
