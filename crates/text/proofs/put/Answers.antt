-- `put` meets its contract: what is copied stands behind the first bytes. Assumes nothing.
use Rattle.std.proofs.Common.{[], sym, ◌∙◌, length, take, rules}
use Rattle.std.proofs.Math.Seq.{take-length}
use mathlib.Core.List.{append-nil}
use Rattle.text.proofs.Spelling.{behind}
use Rattle.text.proofs.put.Goals as goal

pub returns : goal.returns
returns c =
    let bytes = c.args.bytes.now in record {
      value = search rules;
      out_after =
          behind c.args.out.now c.args.at bytes _ [] _ (search rules)
          (c.copy_from_slice.ensures.after ∙ sym (append-nil (take (length bytes) bytes) ∙ take-length bytes));
    }
