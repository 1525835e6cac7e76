use Rattle.tb_writers.proofs.Common.{◌≡◌, take, names_of, IsFirst, written_of, with_lefts, lefts_faults}
use Rattle.tb_writers.proofs.writers.Writers.write_lefts.Given as goal

abbrev pub invariant-loop-left : goal.invariant-loop-left
invariant-loop-left l = (written_of l.self ≡ with_lefts (names_of l.scope) l.kind (written_of l.initial.self) (take l.left-index l.lefts)) × IsFirst (lefts_faults (names_of l.scope) l.kind (written_of l.initial.self) (take l.left-index l.lefts)) l.found
