-- `sized_periods` meets its contract: the tables have room for the periods.
use Prim.Native.Nat.{ℕ, ◌*◌}
use mathlib.Core.Path.{sym}
use lib.IntN.{pos}
use Rattle.bydate.proofs.Arrays.{front_long}
use Rattle.periods.proofs.Made.{zero_figures}
use Rattle.periods.proofs.sized_periods.Goals as goal

pub put_figures-requires : goal.put_figures-requires
put_figures-requires g c =
    let r = c.requires in record {
      opened = r.opened;
      finishes_len = (sym (front_long {A = ℕ} g.row.PERIODS 0 _ r.room.0), sym (front_long g.row.PERIODS (pos 0) _ r.room.0), sym (front_long g.row.FIGURES (pos 0) _ r.room.1), r.out_len);
      by_index = zero_figures (c.args.opened.ledger.periods.count * 3) g.row.FIGURES;
    }
