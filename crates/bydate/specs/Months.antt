-- Points by month.
use Rattle.std.specs.Prelude.{List, map}
use Rattle.model.specs.Amounts.{Dated, points}
use Rattle.model.specs.Months.{in_month}

-- each month that has a point, from its first day, with its points added up
unfoldable pub by_month : List Dated → List Dated
by_month xs = points (map in_month xs)
