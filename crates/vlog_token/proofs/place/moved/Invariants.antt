use Rattle.vlog_token.proofs.Common.{◌≡◌, ◌+◌, ◌≤◌, take, place_moved}
use Rattle.vlog_token.proofs.place.moved.Given as goal

abbrev pub invariant-loop-b : goal.invariant-loop-b
invariant-loop-b l = record {
  is : l.place ≡ place_moved l.fn.at (take l.b-index l.bytes);
  line : l.place.line ≤ l.fn.at.line + l.b-index;
  col : l.place.col ≤ l.fn.at.col + l.b-index;
}
