-- `clear` meets its contract: what is planned is nothing at each date.
use Prim.Native.Nat.{ℕ}
use mathlib.Core.Path.{refl, ap, ◌∙◌}
use lib.IntN.{pos}
use lib.ListN.{replicate}
use Rattle.std.proofs.lemmas.Simd.{splat_is_map}
use Rattle.model.specs.declared.Earned.{Earned}
use Rattle.model.specs.Earned.{project_earned}
use Rattle.lists.proofs.Lists.{map_same}
use Rattle.answers.proofs.Nothing.{nothing_earned}
use Rattle.periods.proofs.listed.clear.Goals as goal

pub returns : goal.returns
returns c =
    let dates = c.args.dates.now in
    λ b none.
    c.fill.ensures.after (λ y e. e)
    ∙ ap (λ (n : ℕ). replicate n (pos 0)) c.requires
    ∙ splat_is_map dates _ (pos 0) refl
    ∙ map_same (λ (d : ℕ). pos 0) (λ d. (project_earned b d).planned) dates (λ d m. ap (λ (e : Earned). e.planned) (nothing_earned b none d))
