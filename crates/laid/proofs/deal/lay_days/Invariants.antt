-- `lay_days` meets its contract: the loop keeps that with the dates that are left all are laid.
use mathlib.Core.Path.{◌≡◌}
use Prim.Native.Nat.{◌+◌, ◌≤◌}
use lib.ListN.{length}
use Rattle.laid.specs.Dealt.{dealt, of_deal}
use Rattle.laid.specs.Listed.{worked_in}
use Rattle.laid.proofs.Laying.{Laying}
use Rattle.laid.proofs.deal.lay_days.Given as goal

abbrev pub invariant-loop-date : goal.invariant-loop-date
invariant-loop-date l =
    (l.first ≤ l.date)
    × (l.next ≤ l.date)
    × (l.next + length (worked_in l.days l.span l.date l.last) ≡ l.k + length (worked_in l.days l.span l.first l.last))
    × Laying l.span.base (dealt (λ d. of_deal l.deal) l.k (worked_in l.days l.span l.first l.last)) l.initial.table (dealt (λ d. of_deal l.deal) l.next (worked_in l.days l.span l.date l.last)) l.table
