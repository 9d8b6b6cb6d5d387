-- `row_of` meets its contract: the activity, the depth, five amounts, and what is scheduled.
use Rattle.std.specs.Prelude.{None, Option, Some}
use Prim.Native.Nat.{ℕ, ◌^◌, ◌<◌}
use mathlib.Core.Path.{◌≡◌, ap, ◌∙◌}
use mathlib.Core.List.{List, [], ◌∷◌, ◌++◌}
use lib.IntN.{ℤ}
use lib.ListN.{get_or}
use lib.Signed.{mag}
use mir.Syntax.{w64}
use mir.Val.{hbits}
use Rattle.integer.specs.Linear.{seen, back}
use Rattle.money.specs.Words.{bits}
use Rattle.rows.specs.Rows.{optional}
use Rattle.answers.specs.Rows.{budget_row}
use Rattle.ledger.specs.Lines.{line_of}
use Rattle.ledger.proofs.lines.row_of.Goals as goal

-- two's complement of what a struct holds
bits_of : (z : ℤ) {n : ℕ} → n ≡ bits (seen w64 z) → mag z < 2 ^ hbits w64 → n ≡ bits z
bits_of z e h = e ∙ ap bits (back w64 z h)

-- a pair, and the numbers behind it
paired : (o : Option ℕ) {pair : List ℕ} → pair ≡ optional o → (depth : ℕ) {a b c d e f a' b' c' d' e' f' : ℕ} → a ≡ a' → b ≡ b' → c ≡ c' → d ≡ d' → e ≡ e' → f ≡ f' →
    get_or pair 0 0 ∷ get_or pair 1 0 ∷ depth ∷ a ∷ b ∷ c ∷ d ∷ e ∷ 1 ∷ f ∷ [] ≡ optional o ++ (depth ∷ a' ∷ b' ∷ c' ∷ d' ∷ e' ∷ optional (Some f'))
unfolding optional
paired None g depth e₀ e₁ e₂ e₃ e₄ e₅ = rw (g, e₀, e₁, e₂, e₃, e₄, e₅)
paired (Some n) g depth e₀ e₁ e₂ e₃ e₄ e₅ = rw (g, e₀, e₁, e₂, e₃, e₄, e₅)

pub returns : goal.returns
unfolding budget_row line_of
returns c =
    let line = c.args.line in
    paired line.activity c.optional_pair-pair.ensures line.depth
    (bits_of line.original c.to_bits.ensures c.struct_told-1.given.1.1.0.1)
    (bits_of line.current c.to_bits-2.ensures c.struct_told-2-1.given.1.1.1.0.1)
    (bits_of line.proposed c.to_bits-3.ensures c.struct_told-3-1.given.1.1.1.1.0.1)
    (bits_of line.distributed c.to_bits-4.ensures c.struct_told-4-1.given.1.1.1.1.1.0.1)
    (bits_of line.planned c.to_bits-5.ensures c.struct_told-5-1.given.1.1.1.1.1.1.0.1)
    (bits_of line.scheduled c.to_bits-6.ensures c.struct_told-6-1.given.1.1.1.1.1.1.1.0.1)
