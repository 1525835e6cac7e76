-- What is gone from `rest` was written.
use Rattle.mcy_outside.specs.RealSink.{Moves}
use Rattle.mcy_outside.proofs.real_sink.write_through.Given as goal

abbrev pub invariant-loop : goal.invariant-loop
invariant-loop g l = Moves (g.W.Write.contents l.initial.writer) (g.W.Write.contents l.writer) l.piece l.rest
