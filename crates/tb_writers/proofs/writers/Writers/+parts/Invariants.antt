use Rattle.tb_writers.proofs.Common.{◌≡◌, map, take, names_of, parts_of, concatenated, IsFirst, written_of, with_parts, parts_faults}
use Rattle.tb_writers.proofs.writers.Writers.+parts.Given as goal

abbrev pub invariant-write_joined-loop-left : goal.invariant-write_joined-loop-left
invariant-write_joined-loop-left l = (written_of l.self ≡ with_parts (names_of l.scope) l.kind (written_of l.initial.self) (concatenated (map parts_of (take l.left-index l.lefts)))) × IsFirst (parts_faults (names_of l.scope) l.kind (written_of l.initial.self) (concatenated (map parts_of (take l.left-index l.lefts)))) l.found
