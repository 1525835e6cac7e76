-- What results tell.
use Rattle.elab_hier.proofs.Common.{◌≡◌, Result, Ok, Err, sym, subst, IfErr, IfOk, IsErrAnd}

-- an error is handed on
pub handed_on : {T E : Type 0} (r : Result T E) (e : E) (Q : E → Type 0) → IsErrAnd r (λ x. x ≡ e) → Q e → IfErr r Q
handed_on (Ok x) e Q is q = absurd is
handed_on (Err x) e Q is q = subst Q (sym is) q

-- five facts of a value give another
pub all_told : {T E : Type 0} (r : Result T E) (A B C D F G : T → Type 0) → ((x : T) → A x → B x → C x → D x → F x → G x) → IfOk r A → IfOk r B → IfOk r C → IfOk r D → IfOk r F → IfOk r G
all_told (Ok x) A B C D F G g a b c d f = g x a b c d f
all_told (Err e) A B C D F G g a b c d f = tt
