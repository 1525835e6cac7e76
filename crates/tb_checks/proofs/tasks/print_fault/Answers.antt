use Rattle.tb_checks.proofs.Common.{Bool, format_faults}
use Rattle.tb_checks.proofs.Firsts.{moved}
use Rattle.tb_checks.proofs.tasks.print_fault.Goals as goal

pub returns : goal.returns
returns c = c.earlier.ensures.joined _ _ (moved (λ (b : Bool). format_faults b c.args.arguments.now) _ _ _ c.in_ok-fits.ensures c.format_fault-found.ensures) c.arguments_fault.ensures
