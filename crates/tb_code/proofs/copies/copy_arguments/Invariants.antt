use Rattle.tb_code.proofs.Common.{◌≡◌, take}
use Rattle.tb_code.proofs.copies.copy_arguments.Given as goal

abbrev pub invariant-loop-argument : goal.invariant-loop-argument
invariant-loop-argument l = l.copies ≡ take l.argument-index l.arguments
