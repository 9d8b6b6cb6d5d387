-- `asked_date` meets its contract: what the layout's header has is the content's. Assumes nothing.
use Rattle.std.specs.Prelude.{Option, ℕ}
use Prim.Native.Nat.{ℕ}
use mathlib.Core.Path.{◌≡◌, sym, ap, ◌∙◌}
use mathlib.Core.List.{List}
use Rattle.format.specs.Book.{Book}
use Rattle.format.specs.Verdict.{content, verdict}
use Rattle.book.specs.declared.layout.Layout.{Layout}
use Rattle.book.specs.Layout.{book_of}
use Rattle.report.specs.Status.{asked_at}
use borrow.Author.Rules.{rules}
use Rattle.report.proofs.asked_date.Goals as goal
use Rattle.format.specs.Position.{Pos}

-- the content's data date is what the header has
dated :
    (s : List ℕ) (layout : Layout) → ◌≡◌ {A = Book × Pos} (book_of s layout, layout.end) (content s, verdict s) →
    asked_at (content s).data_date ≡ asked_at layout.header.date
unfolding book_of
dated s layout e = ap (λ (p : Book × Pos). asked_at p.0.data_date) (sym e)

pub returns-in-Some : goal.returns-in-Some
returns-in-Some c =
    let layout = c.read_layout-layout in
    sym (dated _ layout.result layout.ensures.0 ∙ ap (λ (d : Option ℕ). asked_at d) c.in-Some.is)

pub returns-in-None : goal.returns-in-None
returns-in-None c =
    let layout = c.read_layout-layout in
    sym (dated _ layout.result layout.ensures.0 ∙ ap (λ (d : Option ℕ). asked_at d) c.in-None.is)
