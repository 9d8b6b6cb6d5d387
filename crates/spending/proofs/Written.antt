-- What is answered with points by day, by month or by twelve months.
use Rattle.std.specs.Prelude.{Ok}
use Prim.Native.Nat.{ℕ}
use mathlib.Core.Path.{◌≡◌, refl, sym, subst}
use mathlib.Core.List.{List, []}
use Rattle.model.specs.Amounts.{Dated}
use Rattle.model.specs.TwelveMonths.{monthly}
use Rattle.answers.proofs.Sized.{nothing_there}
use Rattle.answers.proofs.Replies.{puts_if}
use Rattle.bydate.specs.Months.{by_month}
use Rattle.bydate.proofs.Writing.{nothing_points}
use Rattle.bydate.proofs.Monthly.{no_months}
use Rattle.twelve.proofs.Spanned.{nothing_listed}
use Rattle.twelve.proofs.Largest.{none_words, rows_sized}
use Rattle.spending.specs.declared.asked.Grain.{Grain}
use Rattle.spending.specs.declared.asked.Grain.TheVariants.{Day, Month, TwelveMonths}
use Rattle.spending.specs.Grained.{rows_by, are_held, Writes}
use Rattle.answers.specs.Reply.{Reply}

module _ (grain : Grain) {out after : List ℕ} {r : Reply} where
  -- the same points under another name
  pub writes_same : {xs ys : List Dated} → xs ≡ ys → Writes grain xs out r after → Writes grain ys out r after
  writes_same e p = subst (λ (l : List Dated). Writes grain l out r after) e p

-- the grain that is found to be asked
pub told : {grain found : Grain} (xs : List Dated) {out after : List ℕ} {r : Reply} → grain ≡ found → Writes found xs out r after → Writes grain xs out r after
told xs {out = out} {after = after} {r = r} e p = subst (λ (g : Grain). Writes g xs out r after) (sym e) p

-- nothing is written without points
pub writes_none : (grain : Grain) {xs : List Dated} (out : List ℕ) → xs ≡ [] → Writes grain xs out (Ok 0) out
unfolding rows_by are_held monthly
writes_none grain {xs} out e = writes_same grain (sym e) (none grain)
  where
    none : (g : Grain) → Writes g [] out (Ok 0) out
    none Day = puts_if refl (nothing_points [] out refl)
    none Month = puts_if refl (nothing_points (by_month []) out no_months)
    none TwelveMonths = puts_if (none_words nothing_listed refl) (nothing_there _ out (rows_sized nothing_listed) refl)
