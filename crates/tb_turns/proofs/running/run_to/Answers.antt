use Rattle.tb_turns.proofs.Common.{◌+◌, arith, Finish, Limit}
use Rattle.tb_turns.proofs.Endings.{last_within}
use Rattle.tb_turns.proofs.running.run_to.Goals as goal

pub returns-in-Finished-clause-at : goal.returns-in-Finished-clause-at
returns-in-Finished-clause-at g c = λ setting start begun.
    last_within setting (g.L.Listener.heard c.phase_heard.new.listener) start (c.loop-phase._phase + 1) c.args.to Finish (omega arith) (rw c.in-Finished.is at (c.in_ok-phase_heard.ensures.at setting start c.loop-phase._phase (c.loop-phase.invariant.at setting start begun)))

pub returns-in-TooLong-clause-at : goal.returns-in-TooLong-clause-at
returns-in-TooLong-clause-at g c = λ setting start begun.
    last_within setting (g.L.Listener.heard c.phase_heard.new.listener) start (c.loop-phase._phase + 1) c.args.to Limit (omega arith) (rw c.in-TooLong.is at (c.in_ok-phase_heard.ensures.at setting start c.loop-phase._phase (c.loop-phase.invariant.at setting start begun)))
