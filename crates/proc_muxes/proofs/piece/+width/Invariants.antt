use Rattle.proc_muxes.proofs.Common.{◌≡◌, map, take, names_of, parts_of, parts_width, concatenated}
use Rattle.proc_muxes.proofs.piece.+width.Given as goal

abbrev pub invariant-left_widths-loop-part : goal.invariant-left_widths-loop-part
invariant-left_widths-loop-part l = l.width ≡ parts_width (names_of l.scope) (concatenated (map parts_of (take l.part-index l.parts)))
