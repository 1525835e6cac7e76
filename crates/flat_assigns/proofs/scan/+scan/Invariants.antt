use Rattle.flat_assigns.proofs.Common.{map, take, names_of, concatenated, parts_of, IsScanned}
use Rattle.flat_assigns.proofs.scan.+scan.Given as goal

abbrev pub invariant-scan_all-loop-part : goal.invariant-scan_all-loop-part
invariant-scan_all-loop-part l = IsScanned (names_of l.scope) l.fn.slices.items l.slices.items (concatenated (map parts_of (take l.part-index l.parts))) l.found
