-- What a book holds, decoded. Dates are counts of days from 1 January 1970, money is in hundredths, an index counts from 0.
use Rattle.std.specs.Prelude.{ℕ, Bool, List, ℤ, Option}
use Rattle.format.specs.declared.Status.{Status}
use Rattle.format.specs.declared.EvTechnique.{EvTechnique}
use Rattle.format.specs.declared.EtcTechnique.{EtcTechnique}
use Rattle.format.specs.declared.ResourceKind.{ResourceKind}
use Rattle.format.specs.declared.Accrual.{Accrual}
use Rattle.format.specs.declared.ChangeStatus.{ChangeStatus}
use Rattle.format.specs.declared.Region.{Region}

-- a day of a calendar that works, or not, whatever else the calendar says
pub record Exception : Type 0 where
  pub day : ℕ
  pub working : Bool

-- the bits of `week` are the working days of the week, bit 0 Monday
pub record Calendar : Type 0 where
  pub week : ℕ
  pub region : Region
  pub holidays : List ℕ
  pub extra_days : List ℕ
  pub exceptions : List Exception

-- `calendar`: none is the project's, calendar 0; `percent` is in hundredths of a percent
pub record Activity : Type 0 where
  pub parent : Option ℕ
  pub calendar : Option ℕ
  pub status : Status
  pub early_start : ℕ
  pub early_finish : ℕ
  pub actual_start : Option ℕ
  pub actual_finish : Option ℕ
  pub working_minutes : ℕ
  pub remaining_minutes : ℕ
  pub percent : Option ℤ

-- a price per unit from a day on; none is from the start of time
pub record Price : Type 0 where
  pub from : Option ℕ
  pub per_unit : ℤ

pub record Resource : Type 0 where
  pub kind : ResourceKind
  pub prices : List Price

-- units of a resource at work on an activity, in hundredths
pub record Assignment : Type 0 where
  pub activity : ℕ
  pub resource : Option ℕ
  pub planned : ℤ
  pub actual : ℤ
  pub remaining : ℤ

pub record Expense : Type 0 where
  pub activity : ℕ
  pub accrual : Accrual
  pub planned : ℤ
  pub actual : ℤ
  pub remaining : ℤ

-- an activity as the baseline froze it
pub record BaselineLine : Type 0 where
  pub activity : ℕ
  pub start : ℕ
  pub finish : ℕ
  pub minutes : ℕ
  pub cost : ℤ

-- `activity`: none is the project
pub record Budget : Type 0 where
  pub activity : Option ℕ
  pub original : ℤ
  pub plan : List ℤ

-- a line of the budget log; `activity`: none is the project
pub record BudgetChange : Type 0 where
  pub activity : Option ℕ
  pub amount : ℤ
  pub status : ChangeStatus

-- what an activity did in one period
pub record PeriodRecord : Type 0 where
  pub period : ℕ
  pub activity : ℕ
  pub earned : ℤ
  pub labor : ℤ
  pub nonlabor : ℤ
  pub material : ℤ
  pub expense : ℤ

-- `forecast` is how the cost to complete is estimated; a period is its finish
pub record Book : Type 0 where
  pub data_date : Option ℕ
  pub technique : EvTechnique
  pub forecast : EtcTechnique
  pub calendars : List Calendar
  pub activities : List Activity
  pub resources : List Resource
  pub assignments : List Assignment
  pub expenses : List Expense
  pub baseline : Option (List BaselineLine)
  pub budgets : List Budget
  pub log : List BudgetChange
  pub funds : List ℤ
  pub periods : List ℕ
  pub records : List PeriodRecord
