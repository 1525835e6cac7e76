use Rattle.tb_turns.proofs.Common.{◌≡◌, Setting, State, IsAt}
use Rattle.tb_turns.proofs.running.run_to.Given as goal

abbrev pub invariant-loop-phase : goal.invariant-loop-phase
invariant-loop-phase g l = record {
  at : (setting : Setting) (start : State) → IsAt setting (g.R.Phases.stands l.fn.run setting) (g.L.Listener.heard l.fn.listener) start l.fn.from → IsAt setting (g.R.Phases.stands l.run setting) (g.L.Listener.heard l.listener) start l._phase;
  going : g.R.Phases.is_going l.run;
  phases : g.R.Phases.phases l.run ≡ l._phase;
  run : g.R.Phases.is_same l.fn.run l.run;
  same : g.L.Listener.listens_for l.listener ≡ g.L.Listener.listens_for l.fn.listener;
}
