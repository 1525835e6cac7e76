-- Errors that a call hands on.
use Rattle.net_builder.proofs.Common.{◌≡◌, subst, sym}
use Rattle.std.specs.Prelude.{Result, Ok, Err, IfErr}
use Rattle.std.specs.Result.{IsErrAnd}

-- what is said of the error that a call hands on
pub same_err : {T E : Type 0} (r : Result T E) (e : E) (P : E → Type 0) → IsErrAnd r (λ x. x ≡ e) → P e → IfErr r P
same_err (Ok x) e P h p = tt
same_err (Err x) e P h p = subst P (sym h) p
