use Rattle.tb_assigns.proofs.Common.{map, take, names_of, store_of, parts_of, concatenated, AreDrawn}
use Rattle.tb_assigns.proofs.left_side.+pieces.Given as goal

abbrev pub invariant-push_all_pieces-loop-part : goal.invariant-push_all_pieces-loop-part
invariant-push_all_pieces-loop-part l = AreDrawn (names_of l.moment.scope.now) l.moment.phase (store_of l.moment.store.now) (concatenated (map parts_of (take l.part-index l.parts))) l.fn.words l.words l.fn.pieces.items l.pieces.items
