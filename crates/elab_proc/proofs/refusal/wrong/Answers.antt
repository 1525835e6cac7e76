use Rattle.elab_proc.proofs.Common.{map, subst, Option, option_map, Fault, Wrong, IsFirst}
use Rattle.elab_proc.proofs.Firsts.{first_wrong}
use Rattle.elab_proc.proofs.refusal.wrong.Goals as goal

pub returns-in-Some : goal.returns-in-Some
returns-in-Some c = λ fs is. subst (λ (o : Option Fault). IsFirst (map Wrong fs) (option_map Wrong o)) c.in-Some.is (first_wrong fs c.args.fault is)

pub returns-in-None : goal.returns-in-None
returns-in-None c = λ fs is. subst (λ (o : Option Fault). IsFirst (map Wrong fs) (option_map Wrong o)) c.in-None.is (first_wrong fs c.args.fault is)
