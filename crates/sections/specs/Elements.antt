-- The lists whose elements do not depend on those before them: what an element is, and how it is read and written.
use Rattle.std.specs.Prelude.{ℕ}
use Rattle.format.specs.Book as book
use Rattle.format.specs.Field.{D}
use Rattle.format.specs.Codec.{Codec, field}
use Rattle.format.specs.Format as layout
use Rattle.sections.specs.declared.elements.Element.{Element}
use Rattle.sections.specs.declared.elements.Element.TheVariants.{Calendar, Activity, Resource, Assignment, Expense, BaselineLine, BudgetChange, Period, PeriodRecord}

abbrev pub Value : Element → Type 0
Value Calendar = book.Calendar
Value (Activity calendars activities) = book.Activity
Value Resource = book.Resource
Value (Assignment activities resources) = book.Assignment
Value (Expense activities) = book.Expense
Value (BaselineLine activities) = book.BaselineLine
Value (BudgetChange activities) = book.BudgetChange
Value Period = ℕ
Value (PeriodRecord periods activities) = book.PeriodRecord

abbrev pub codec_of : (e : Element) → Codec (Value e)
codec_of Calendar = layout.calendar
codec_of (Activity calendars activities) = layout.activity calendars activities
codec_of Resource = layout.resource
codec_of (Assignment activities resources) = layout.assignment activities resources
codec_of (Expense activities) = layout.expense activities
codec_of (BaselineLine activities) = layout.baseline_line activities
codec_of (BudgetChange activities) = layout.budget_change activities
codec_of Period = field D
codec_of (PeriodRecord periods activities) = layout.period_record periods activities
