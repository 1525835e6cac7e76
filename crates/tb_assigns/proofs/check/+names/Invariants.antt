use Rattle.tb_assigns.proofs.Common.{◌≡◌, map, take, names_of, parts_of, concatenated, all_signals}
use Rattle.tb_assigns.proofs.check.+names.Given as goal

abbrev pub invariant-all_name_signals-loop-part : goal.invariant-all_name_signals-loop-part
invariant-all_name_signals-loop-part l = l.found ≡ all_signals (names_of l.scope) (concatenated (map parts_of (take l.part-index l.parts)))
