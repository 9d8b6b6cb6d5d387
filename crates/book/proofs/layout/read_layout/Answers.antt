-- `read_layout` meets its contract: what leads the book, then its lists, then its end.
use Prim.Native.Nat.{ℕ}
use mathlib.Core.Path.{◌≡◌, ap}
use mathlib.Core.List.{List}
use Rattle.format.specs.Book.{Book}
use Rattle.format.specs.Verdict.{content, verdict}
use Rattle.book.specs.declared.layout.Layout.{Layout}
use Rattle.book.specs.Layout.{IsLayout, book_of}
use Rattle.sections.proofs.Limits.{count_most}
use Rattle.book.proofs.Whole.{layout_book}
use Rattle.book.proofs.layout.read_layout.Goals as goal
use Rattle.format.specs.Position.{Pos}

pub read_ledger-ledger-requires : goal.read_ledger-ledger-requires
read_ledger-ledger-requires c = rw (ap (λ v. v.0) c.read_plan-plan.ensures.activities.lead) (count_most 0 500 _ _)

laid : {s : List ℕ} {r : Layout} → IsLayout s r → ◌≡◌ {A = Book × Pos} (book_of s r, r.end) (content s, verdict s) × IsLayout s r
laid {s} {r} l = (layout_book s r l, l)

pub returns : goal.returns
returns c =
    laid
    record {
      header = rw c.begin-at.ensures at c.read_header-header.ensures;
      plan = c.read_plan-plan.ensures;
      ledger = c.read_ledger-ledger.ensures;
      last = c.end.ensures;
    }
