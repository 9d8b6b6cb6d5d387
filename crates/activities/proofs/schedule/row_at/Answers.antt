-- `row_at` meets its contract: the activity stands behind those before it.
use mathlib.Core.Path.{sym, ap, ap₂, ◌∙◌}
use mathlib.Core.List.{List}
use lib.ListN.{get_or}
use borrow.Author.Rules.{rules}
use Rattle.format.specs.Book.{Activity}
use Rattle.format.specs.Format as layout
use Rattle.sections.specs.Sections.{elements}
use Rattle.model.specs.Lookup.{no_activity}
use Rattle.activities.specs.Schedule.{schedule_row}
use Rattle.activities.proofs.Rows.{element_at}
use Rattle.activities.proofs.schedule.row_at.Goals as goal
use Rattle.format.specs.Position.{Pos}

pub returns : goal.returns
unfolding elements
returns c =
    let book = c.args.book.now in
    let plan = c.args.plan in
    let p = c.requires.plan_of in
    let codec = layout.activity plan.calendars.count plan.activities.count in
    c.row_of.ensures
    ∙ ap₂ schedule_row (sym p.data_date)
    (ap (λ (v : Activity × Pos). v.0) c.read_activity.ensures
    ∙ ap (λ (q : Pos). (codec.read book q).0) c.skip_all-at.ensures
    ∙ sym (element_at codec book plan.activities.count c.args.i plan.activities.first no_activity c.requires.i_lt_count)
    ∙ sym (ap (λ (l : List Activity). get_or l c.args.i no_activity) p.activities.listed))
