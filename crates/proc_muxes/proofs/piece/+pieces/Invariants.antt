use Rattle.proc_muxes.proofs.Common.{map, take, names_of, parts_of, concatenated, MakesPieces}
use Rattle.proc_muxes.proofs.piece.+pieces.Given as goal

abbrev pub invariant-push_all_pieces-loop-part : goal.invariant-push_all_pieces-loop-part
invariant-push_all_pieces-loop-part l = MakesPieces (names_of l.scope) (concatenated (map parts_of (take l.part-index l.parts))) l.fn.builder l.builder l.fn.pieces.items l.pieces.items
