use Rattle.std.proofs.Common.{◌≡◌, length}
use Rattle.mcy_outside.specs.Files.{look_up}
use Rattle.mcy_outside.proofs.clean_files.look_up.Given as goal

abbrev pub invariant-loop-rest : goal.invariant-loop-rest
invariant-loop-rest l = look_up l.files l.name ≡ look_up l.rest l.name

abbrev pub decreases-loop-rest : goal.decreases-loop-rest
decreases-loop-rest l = length l.rest
