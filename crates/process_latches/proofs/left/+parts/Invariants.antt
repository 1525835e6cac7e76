use Rattle.process_latches.proofs.Common.{map, take, names_of, parts_of, concatenated, PartsAdded, sound_part}
use Rattle.process_latches.proofs.left.+parts.Given as goal

abbrev pub invariant-mark_lefts-loop-left : goal.invariant-mark_lefts-loop-left
invariant-mark_lefts-loop-left l = PartsAdded (names_of l.scope) l.fn.manner (map (sound_part (names_of l.scope)) (concatenated (map parts_of (take l.left-index l.lefts)))) l.fn.marks l.marks
