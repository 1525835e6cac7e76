use Rattle.std.proofs.Common.{◌≡◌, ◌≤◌, drop, length}
use Rattle.tb_tasks.specs.Tasks.{fits}
use Rattle.tb_tasks.proofs.fitting.pieces_fit.Given as goal

abbrev pub invariant-loop-piece : goal.invariant-loop-piece
invariant-loop-piece l = (l.at ≤ length l.arguments) × (fits (drop l.piece-index l.pieces) (drop l.at l.arguments) ≡ fits l.pieces l.arguments)
