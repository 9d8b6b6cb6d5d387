-- Room for the tables of what is charged to the budgets.
use Rattle.std.specs.Prelude.{ℕ, ◌+◌, ◌*◌, ◌≤◌, ◌≡◌, List, ℤ, length}
use Rattle.book.specs.declared.layout.Plan.{Plan}

abbrev pub charge_count : Plan → ℕ
charge_count plan = plan.assignments.count + plan.expenses.count

-- tables with room for just the rates and the charges
pub record HasRoom (plan : Plan) (rates links : List ℕ) (units : List ℤ) : Type 0 where
  pub for_rates : length rates ≡ plan.resources.count * 82
  pub for_links : length links ≡ charge_count plan * 2
  pub for_units : length units ≡ charge_count plan * 3

-- at most c charges and r resources
pub record AreWithin (c r count resources : ℕ) : Type 0 where
  pub charged : count ≤ c
  pub rated : resources ≤ r

-- few charges and resources
abbrev pub AreFew : ℕ → ℕ → Type 0
AreFew = AreWithin 256 24
