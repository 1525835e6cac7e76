-- The first of one refusal, and of what is wrong in expressions.
use Rattle.elab_proc.proofs.Common.{◌≡◌, List, [], ◌∷◌, map, refl, Option, Some, option_map, Fault, least, Refusal, Wrong, place, IsFirst}
use Rattle.vlog_refusals.proofs.Firsts.{first_alone as first_alone_by, first_wrong as first_wrong_by}

pub first_alone : (f : Refusal) → IsFirst (f ∷ []) (Some f)
first_alone = first_alone_by place

pub first_wrong : (fs : List Fault) (o : Option Fault) → o ≡ least fs → IsFirst (map Wrong fs) (option_map Wrong o)
first_wrong = first_wrong_by place Wrong (λ f. refl)
