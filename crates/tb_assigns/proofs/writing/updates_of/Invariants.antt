use Rattle.tb_assigns.proofs.Common.{◌≡◌, ◌++◌, windows_of, updates_of}
use Rattle.tb_assigns.proofs.writing.updates_of.Given as goal

-- what is written, and what the pieces that are left write with the rest of the value
abbrev pub invariant-loop-piece : goal.invariant-loop-piece
invariant-loop-piece l = l.updates.items ++ updates_of (windows_of l.piece-iterator.iter.rest.now) l.rest ≡ updates_of (windows_of l.pieces) l.fn.value
