-- A forecast as the only row of a call.
use Prim.Native.Nat.{ℕ}
use mathlib.Core.Path.{◌≡◌, refl, ap, ap₂, sym, ◌∙◌, subst}
use mathlib.Core.List.{List, [], ◌∷◌}
use lib.ListN.{length}
use lib.Seq.{length-sets}
use Rattle.format.specs.declared.EtcTechnique.{EtcTechnique}
use Rattle.model.specs.declared.Earned.{Earned}
use Rattle.answers.specs.Rows.{forecast_row}
use Rattle.answers.specs.Calls.{Puts}
use Rattle.forecast.proofs.Put.{row_put}
use Rattle.answers.proofs.Sized.{Sized, one_sized}
use Rattle.answers.specs.Reply.{Reply}

forecast_long : (technique : EtcTechnique) (e : Earned) → length (forecast_row technique e) ≡ 9
forecast_long technique e = ap length (sym (row_put technique e (0 ∷ 0 ∷ 0 ∷ 0 ∷ 0 ∷ 0 ∷ 0 ∷ 0 ∷ 0 ∷ []) refl)) ∙ simp length-sets

pub forecast_sized : (technique : EtcTechnique) (e : Earned) → Sized (forecast_row technique e ∷ []) 1 9
forecast_sized technique e = one_sized (forecast_row technique e) 9 (forecast_long technique e)

-- the book's forecast and the figures that were computed
pub same_row :
    {technique by : EtcTechnique} {e f : Earned} {out after : List ℕ} {r : Reply} → by ≡ technique → e ≡ f → Puts (forecast_row technique e ∷ []) out r after →
    Puts (forecast_row by f ∷ []) out r after
same_row {technique} {by} {e} {f} {out} {after} {r} s t p = subst (λ (row : List ℕ). Puts (row ∷ []) out r after) (ap₂ forecast_row (sym s) t) p
