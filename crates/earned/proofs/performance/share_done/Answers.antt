-- `share_done` meets its contract: by the status.
use mathlib.Core.Path.{refl, ◌∙◌}
use lib.Ieee.{of_bits}
use mir.Facts.{to_z-of_z}
use borrow.Author.Rules.{rules}
use Rattle.earned.specs.Done.{done_in}
use Rattle.earned.proofs.performance.share_done.Goals as goal

pub returns-in-NotStarted : goal.returns-in-NotStarted
unfolding done_in
returns-in-NotStarted c =
    rw (← c.status_at-status.ensures, c.in-NotStarted.is, ← c.percent_at-percent.ensures) c.unstarted.ensures

pub returns-in-InProgress : goal.returns-in-InProgress
unfolding done_in
returns-in-InProgress c =
    rw (← c.status_at-status.ensures, c.in-InProgress.is, ← c.percent_at-percent.ensures, ← c.entry-working.ensures, ← c.entry-remaining.ensures) (c.under_way.ensures ∙ rw (to_z-of_z c.ranges.done, to_z-of_z c.ranges.all) refl)

pub returns-in-Completed : goal.returns-in-Completed
unfolding done_in of_bits
returns-in-Completed c =
    rw (← c.status_at-status.ensures, c.in-Completed.is) refl
