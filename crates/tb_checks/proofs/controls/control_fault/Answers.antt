use Rattle.tb_checks.proofs.Common.{Bool, [], ◌∷◌, if◌then◌else◌, ClockList, Unsupported}
use Rattle.tb_checks.proofs.Firsts.{moved}
use Rattle.tb_checks.proofs.controls.control_fault.Goals as goal

pub returns : goal.returns
returns c = c.earlier.ensures.joined _ _ (moved (λ (b : Bool). if b then [] else Unsupported c.args.at ClockList ∷ []) _ _ _ c.is_supported.ensures c.list_fault-listed.ensures) c.names_fault.ensures
