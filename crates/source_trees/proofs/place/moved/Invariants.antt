use Rattle.source_trees.proofs.Common.{◌≡◌, ◌+◌, ◌≤◌, take, place_moved}
use Rattle.source_trees.proofs.place.moved.Given as goal

abbrev pub invariant-loop-byte : goal.invariant-loop-byte
invariant-loop-byte l = record {
  is : l.place ≡ place_moved l.fn.at (take l.byte-index l.bytes);
  line : l.place.line ≤ l.fn.at.line + l.byte-index;
  col : l.place.col ≤ l.fn.at.col + l.byte-index;
}
