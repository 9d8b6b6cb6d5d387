-- The lines of the baseline in one table: of each activity the line that counts, as five numbers, row after row.
use Rattle.std.specs.Prelude.{ℕ, ◌*◌, ◌≡◌, Bool, true, false, cond, ◌||◌, eqb, length, get_or, None, Option, Some, unwrap_or}
use mathlib.Core.List.{List, [], ◌∷◌, flat_map}
use Rattle.std.proofs.lemmas.List.Edits.{sets}
use Rattle.format.specs.InRange.{Every, BaselineLineInRange}
use Rattle.format.specs.Book.{BaselineLine, Book}
use Rattle.format.specs.Format as layout
use Rattle.format.specs.Verdict.{content}
use Rattle.money.specs.Words.{bits}
use Rattle.sections.specs.declared.Section.{Section}
use Rattle.sections.specs.Sections.{alike_in}
use Rattle.model.specs.Tree.{parents, indices}
use Rattle.model.specs.Planned.{line_of}
use Rattle.model.specs.Variances.{last_line}

-- the line of an activity that counts: its last, or its first
abbrev pub line_by : Bool → Book → ℕ → Option BaselineLine
line_by true book i = last_line book i
line_by false book i = line_of book i

-- 1, the start, the finish, the working minutes and the bits of the cost; zeros without a line
abbrev pub line_row : Option BaselineLine → List ℕ
line_row None = 0 ∷ 0 ∷ 0 ∷ 0 ∷ 0 ∷ []
line_row (Some l) = 1 ∷ l.start ∷ l.finish ∷ l.minutes ∷ bits l.cost ∷ []

unfoldable pub lines_table : Bool → Book → List ℕ
lines_table last book = flat_map (λ (i : ℕ). line_row (line_by last book i)) (indices (parents book))

-- ---- as the lines are read

-- a line counts where the last does, and where its activity has none before
abbrev pub counts : Bool → ℕ → Bool
counts last mark = last || eqb mark 0

-- the table with a line taken in
unfoldable pub taken : Bool → List ℕ → BaselineLine → List ℕ
taken last table l = cond (counts last (get_or table (l.activity * 5) 0)) (sets table (l.activity * 5) (line_row (Some l))) table

-- a table of zeros
abbrev pub Zeros : List ℕ → Type 0
Zeros table = (i : ℕ) → get_or table i 0 ≡ 0

-- the lines of the book's baseline, in a book with so many activities
pub record IsLines (s : List ℕ) (list : Section) (activities : ℕ) : Type 0 where
  pub counted : length (parents (content s)) ≡ activities
  pub listed : unwrap_or (content s).baseline [] ≡ alike_in (layout.baseline_line activities) s list
  pub ranges : Every (BaselineLineInRange activities) (unwrap_or (content s).baseline [])
