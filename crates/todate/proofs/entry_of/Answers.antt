-- `entry_of` meets its contract: one kind after the other.
use mathlib.Core.Path.{refl}
use mir.Syntax.{w64}
use Rattle.integer.specs.Linear.{back}
use Rattle.records.specs.Decoded.{period_record_of}
use Rattle.model.specs.Periods.{actual_in}
use Rattle.todate.proofs.entry_of.Goals as goal

pub returns : goal.returns
unfolding actual_in period_record_of
returns c =
    let x = c.args.x in
    record {
      period = refl;
      earned = back w64 x.earned c.struct_told-2-1.given.1.1.0.1;
      actual =
          rw (
            back w64 c.saturating_add-actual.result c.saturating_add-actual.type_inv,
            c.saturating_add-actual.ensures,
            back w64 c.saturating_add-goods.result c.saturating_add-goods.type_inv,
            c.saturating_add-goods.ensures,
            back w64 c.saturating_add-work.result c.saturating_add-work.type_inv,
            c.saturating_add-work.ensures,
            back w64 x.labor c.struct_told-2-1.given.1.1.1.0.1,
            back w64 x.nonlabor c.struct_told-2-1.given.1.1.1.1.0.1,
            back w64 x.material c.struct_told-2-1.given.1.1.1.1.1.0.1,
            back w64 x.expense c.struct_told-2-1.given.1.1.1.1.1.1.0.1,
          )
          refl;
    }
