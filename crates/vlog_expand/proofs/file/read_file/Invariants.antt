use Rattle.vlog_expand.proofs.Common.{length, LeadsOn, state_of}
use Rattle.vlog_expand.proofs.file.read_file.Given as goal

abbrev pub invariant-loop-rest : goal.invariant-loop-rest
invariant-loop-rest l =
    LeadsOn l.initial.output.given.items l.end (state_of l.initial.reading l.tokens) l.initial.output.left l.output.given.items (state_of l.reading l.rest.tokens.now) l.output.left

abbrev pub decreases-loop-rest : goal.decreases-loop-rest
decreases-loop-rest l = length l.rest.tokens.now
