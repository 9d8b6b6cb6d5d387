-- What a list of the book is, and what a record with lists holds.
use Rattle.std.specs.Prelude.{ℕ, min, ◌≡◌, List, None, Option, Some}
use Rattle.format.specs.Field.{count}
use Rattle.format.specs.Codec.{Codec, field, times, stay}
use Rattle.format.specs.Book as book
use Rattle.format.specs.Format.{rising, exception, price, amount}
use Rattle.sections.specs.declared.Section.{Section}
use Rattle.sections.specs.declared.budgets.Budget.{Budget}
use Rattle.sections.specs.declared.calendars.Calendar.{Calendar}
use Rattle.sections.specs.declared.resources.Resource.{Resource}
use Rattle.format.specs.Position.{Pos}

-- r is a list of `low` to `most` elements, led by their count, from p on; an element may depend on a state that those before it leave
pub record IsList {X A : Type 0} (low most : ℕ) (c : X → Codec A) (f : X → A → X) (x : X) (s : List ℕ) (p : Pos) (r : Section) : Type 0 where
  pub lead : (r.count, r.first) ≡ (field (count low most)).read s p
  pub rest : r.next ≡ ((times c f r.count x).read s r.first).1

-- the elements of a list
unfoldable pub elements : {X A : Type 0} → (X → Codec A) → (X → A → X) → X → List ℕ → Section → List A
elements c f x s l = ((times c f l.count x).read s l.first).0

-- the same, where no element depends on those before it
abbrev pub IsAlike : {A : Type 0} → ℕ → ℕ → Codec A → List ℕ → Pos → Section → Type 0
IsAlike low most c s p r = IsList low most (λ x. c) stay tt s p r

abbrev pub alike_in : {A : Type 0} → Codec A → List ℕ → Section → List A
alike_in c s l = elements (λ x. c) stay tt s l

unfoldable pub calendar_of : List ℕ → Calendar → book.Calendar
calendar_of s c =
    record {
      week = c.week;
      region = c.region;
      holidays = elements rising (λ before day. day) 0 s c.holidays;
      extra_days = elements rising (λ before day. day) 0 s c.extra;
      exceptions = elements exception (λ before e. e.day) 0 s c.exceptions;
    }

unfoldable pub resource_of : List ℕ → Resource → book.Resource
resource_of s r = record { kind = r.kind; prices = alike_in price s r.prices }

unfoldable pub budget_of : List ℕ → Budget → book.Budget
budget_of s b = record { activity = b.activity; original = b.original; plan = alike_in amount s b.plan }

-- where what is named has its mark
unfoldable pub mark_of : Option ℕ → ℕ
mark_of None = 500
mark_of (Some a) = min a 500
