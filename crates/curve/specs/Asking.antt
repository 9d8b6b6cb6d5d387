-- What is asked of an opened book, by what planned value is made of.
use Rattle.std.specs.Prelude.{ℕ, ◌≤◌, min, max, List, ℤ}
use Rattle.format.specs.Verdict.{content}
use Rattle.model.specs.Tree.{parents}
use Rattle.tree.specs.Figures.{MarksLeaves}
use Rattle.spans.specs.declared.Stretch.{Stretch}
use Rattle.planned.specs.declared.Reach.{Reach}
use Rattle.planned.specs.Reached.{IsReach}
use Rattle.curve.specs.declared.Asked.{Asked}

-- the dates between two, as far as the reach has them
abbrev pub narrowed : Reach → Stretch → Asked
narrowed reach between = record { reach = reach; from = max between.from reach.known.from; to = min between.to reach.known.to }

-- between two dates of the reach, with the marks of the parents, the listed spans and the leaves' budgets
pub record IsAsked (s : List ℕ) (asked : Asked) (marks listed : List ℕ) (budgets : List ℤ) : Type 0 where
  pub reached : IsReach s asked.reach listed budgets
  pub marked : MarksLeaves marks (parents (content s))
  pub begins : asked.reach.known.from ≤ asked.from
  pub rises : asked.from ≤ asked.to
  pub ends : asked.to ≤ asked.reach.known.to
