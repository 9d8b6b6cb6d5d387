-- What a book holds at an index. An accepted book names nothing that it does not hold; what stands for it is here so that every lookup has an answer.
use Rattle.std.specs.Prelude.{ℕ, [], get_or, None}
use Rattle.format.specs.declared.Status.TheVariants.{NotStarted}
use Rattle.format.specs.declared.ResourceKind.TheVariants.{Labor}
use Rattle.format.specs.declared.Region.TheVariants as regions
use Rattle.format.specs.Book.{Calendar, Activity, Resource, Book}

abbrev pub no_calendar : Calendar
no_calendar = record { week = 0; region = regions.None; holidays = []; extra_days = []; exceptions = [] }

abbrev pub no_activity : Activity
no_activity =
    record {
      parent = None;
      calendar = None;
      status = NotStarted;
      early_start = 0;
      early_finish = 0;
      actual_start = None;
      actual_finish = None;
      working_minutes = 0;
      remaining_minutes = 0;
      percent = None;
    }

abbrev pub no_resource : Resource
no_resource = record { kind = Labor; prices = [] }

abbrev pub calendar_at : Book → ℕ → Calendar
calendar_at book i = get_or book.calendars i no_calendar

abbrev pub activity_at : Book → ℕ → Activity
activity_at book i = get_or book.activities i no_activity

abbrev pub resource_at : Book → ℕ → Resource
resource_at book i = get_or book.resources i no_resource
