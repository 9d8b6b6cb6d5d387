-- Document 01's book for the status program, its bytes and its content, and the smallest refusals, by computation.
use Rattle.std.specs.Prelude.{None, Some, Ok}
use Prim.Native.Nat.{ℕ}
use mathlib.Core.Path.{◌≡◌, refl}
use mathlib.Core.List.{List, [], ◌∷◌, ◌++◌, map}
use lib.ListN.{replicate}
use lib.IntN.{pos}
use Rattle.format.specs.declared.Status.TheVariants.{InProgress}
use Rattle.format.specs.declared.EvTechnique.TheVariants.{Physical}
use Rattle.format.specs.declared.EtcTechnique.TheVariants.{Remaining}
use Rattle.format.specs.declared.Accrual.TheVariants.{Uniform}
use Rattle.format.specs.declared.Region.TheVariants as regions
use Rattle.format.specs.Number as n
use Rattle.format.specs.Reader as r
use Rattle.format.specs.Signed as z
use Rattle.format.specs.Field.{range, S}
use Rattle.format.specs.Codec.{field, O, ◌then◌, ◌&◌, iso, test, when, marked, times, list, counted, up_to}
use Rattle.format.specs.Enumeration as e
use Rattle.format.specs.Book.{Book}
use Rattle.format.specs.Format as f
use Rattle.format.specs.Format.{book}
use Rattle.format.specs.Verdict.{begin, end, verdict, content, answer_of, answer_number}
use Rattle.format.specs.declared.Reason.TheVariants.{BookTooLong, EndsEarly, NotShortest, OutOfRange, CountOutOfRange, OutOfOrder, BytesLeft, UnknownActivity, DateOutOfRange, TooShort, SumOutOfRange}
use Rattle.format.specs.Position.{Pos, refused}
use Rattle.format.specs.Refusals.{reason_number}

abbrev pub example : Book
example =
    record {
      data_date = Some 19724;
      technique = Physical;
      forecast = Remaining;
      calendars = record { week = 31; region = regions.None; holidays = []; extra_days = []; exceptions = [] } ∷ [];
      activities =
          record {
            parent = None;
            calendar = None;
            status = InProgress;
            early_start = 19723;
            early_finish = 19725;
            actual_start = None;
            actual_finish = None;
            working_minutes = 0;
            remaining_minutes = 0;
            percent = None;
          }
          ∷ record {
            parent = Some 0;
            calendar = None;
            status = InProgress;
            early_start = 19723;
            early_finish = 19725;
            actual_start = Some 19723;
            actual_finish = None;
            working_minutes = 1440;
            remaining_minutes = 960;
            percent = Some (pos 5000);
          }
          ∷ [];
      resources = [];
      assignments = [];
      expenses = record { activity = 1; accrual = Uniform; planned = pos 1000; actual = pos 400; remaining = pos 600 } ∷ [];
      baseline = None;
      budgets = [];
      log = [];
      funds = [];
      periods = [];
      records = [];
    }

abbrev pub bytes : List ℕ
bytes =
    1 ∷ 1 ∷ 140 ∷ 154 ∷ 1 ∷ 0 ∷ 0  -- edition, data date, technique, forecast
    ∷ 1  -- calendars
    ∷ 31 ∷ 0 ∷ 0 ∷ 0 ∷ 0
    ∷ 2  -- activities
    ∷ 0 ∷ 0 ∷ 1 ∷ 139 ∷ 154 ∷ 1 ∷ 141 ∷ 154 ∷ 1 ∷ 0 ∷ 0 ∷ 0 ∷ 0 ∷ 0
    ∷ 1 ∷ 0 ∷ 0 ∷ 1 ∷ 139 ∷ 154 ∷ 1 ∷ 141 ∷ 154 ∷ 1 ∷ 1 ∷ 139 ∷ 154 ∷ 1 ∷ 0 ∷ 160 ∷ 11 ∷ 192 ∷ 7 ∷ 1 ∷ 144 ∷ 78
    ∷ 0 ∷ 0  -- resources, assignments
    ∷ 1  -- expenses
    ∷ 1 ∷ 2 ∷ 208 ∷ 15 ∷ 160 ∷ 6 ∷ 176 ∷ 9
    ∷ 0 ∷ 0 ∷ 0 ∷ 0 ∷ 0 ∷ 0  -- baseline, budgets, log, funds, periods, records
    ∷ []

pub example_written : book.write example ≡ bytes
unfolding
    book f.calendar f.days f.exceptions f.activity f.resource f.assignment f.expense f.baseline_line f.budgets f.budget f.budget_change
    f.period_record e.status e.status_number e.technique e.technique_parts e.forecast e.forecast_number e.accrual e.accrual_number e.region
    e.region_number e.enumeration field O ◌then◌ ◌&◌ iso when marked times list counted up_to range S r.write_both r.write_many
    r.write_optional r.write_given z.write_signed z.sent n.write_number n.write_groups
example_written = refl

-- the first bytes of a book without a data date, up to its calendar's region
abbrev head : List ℕ
head = 1 ∷ 0 ∷ 0 ∷ 0 ∷ 1 ∷ 127 ∷ 0 ∷ []

-- byte strings, each with its number and its verdict
abbrev pub cases : List (List ℕ × (ℕ × Pos))
cases =
    (bytes, (0, Ok 67))
    -- it ends where a byte is still due: at once, and behind nine bytes that all go on
    ∷ ([], (2, refused EndsEarly 0))
    ∷ (replicate 9 128, (2, refused EndsEarly 9))
    -- a tenth byte above 1, with the top bit too, and a last byte 0; with 1 it is a number, and no edition
    ∷ (129 ∷ replicate 8 128 ++ (2 ∷ []), (3, refused NotShortest 0))
    ∷ (129 ∷ replicate 8 128 ++ (129 ∷ []), (3, refused NotShortest 0))
    ∷ (129 ∷ replicate 8 128 ++ (0 ∷ []), (3, refused NotShortest 0))
    ∷ (129 ∷ replicate 8 128 ++ (1 ∷ []), (4, refused OutOfRange 0))
    -- the data date, behind its mark: 3 at the number's own place, 4 at the mark's
    ∷ (1 ∷ 1 ∷ 128 ∷ 0 ∷ [], (3, refused NotShortest 2))
    ∷ (1 ∷ 1 ∷ 0 ∷ [], (4, refused OutOfRange 1))
    -- the last date, and one more
    ∷ (1 ∷ 1 ∷ 249 ∷ 242 ∷ 2 ∷ [], (2, refused EndsEarly 5))
    ∷ (1 ∷ 1 ∷ 250 ∷ 242 ∷ 2 ∷ [], (4, refused OutOfRange 1))
    -- no calendar
    ∷ (1 ∷ 0 ∷ 0 ∷ 0 ∷ 0 ∷ [], (5, refused CountOutOfRange 4))
    -- a holiday twice; the second day of two exceptions, before its idle or working number
    ∷ (head ++ (2 ∷ 160 ∷ 156 ∷ 1 ∷ 160 ∷ 156 ∷ 1 ∷ []), (6, refused OutOfOrder 11))
    ∷ (head ++ (0 ∷ 0 ∷ 2 ∷ 160 ∷ 156 ∷ 1 ∷ 0 ∷ 160 ∷ 156 ∷ 1 ∷ []), (6, refused OutOfOrder 14))
    -- the range before the order: a second holiday outside D
    ∷ (head ++ (2 ∷ 160 ∷ 156 ∷ 1 ∷ 0 ∷ []), (4, refused OutOfRange 11))
    -- the project's budget twice, where its amounts are cut off
    ∷ (head ++ (0 ∷ 0 ∷ 0 ∷ 0 ∷ 0 ∷ 0 ∷ 0 ∷ 0 ∷ 2 ∷ 0 ∷ 0 ∷ 0 ∷ 0 ∷ []), (6, refused OutOfOrder 19))
    -- bytes behind the book are not read
    ∷ (bytes ++ (128 ∷ []), (7, refused BytesLeft 67))
    ∷ []

pub read_back : (content bytes ≡ example) × (map (λ (c : List ℕ × (ℕ × Pos)). (answer_number (answer_of (verdict c.0)), verdict c.0)) cases ≡ map (λ (c : List ℕ × (ℕ × Pos)). c.1) cases)
unfolding
    content answer_number answer_of verdict begin end book f.calendar f.days f.rising f.exceptions f.exception f.activity f.resource f.price f.assignment
    f.expense f.baseline_line f.budgets f.budget f.is_new f.names f.budget_change f.period_record e.status e.status_of e.technique
    e.technique_of e.forecast e.forecast_of e.resource_kind e.resource_kind_of e.accrual e.accrual_of e.change_status e.change_status_of
    e.region e.region_of e.working e.working_of e.enumeration field O ◌then◌ ◌&◌ iso test when marked times list counted up_to range
    S r.both r.mapped r.many r.optional r.given r.passing r.tested r.here r.ranged r.number r.found r.place_of z.signed z.received
    n.number_at n.groups n.wrong_group n.onto n.in_range
read_back = (refl, refl)

-- the table of refusals: 1 to 7 of a book, 8 to 11 of a call
pub table_of_refusals :
    map reason_number (BookTooLong ∷ EndsEarly ∷ NotShortest ∷ OutOfRange ∷ CountOutOfRange ∷ OutOfOrder ∷ BytesLeft ∷ UnknownActivity ∷ DateOutOfRange ∷ TooShort ∷ SumOutOfRange ∷ [])
    ≡ 1 ∷ 2 ∷ 3 ∷ 4 ∷ 5 ∷ 6 ∷ 7 ∷ 8 ∷ 9 ∷ 10 ∷ 11 ∷ []
table_of_refusals = refl
