use Rattle.net_builder.proofs.Common.{◌≡◌, drop, bits_at, next_in, after_all_kept}
use Rattle.net_builder.proofs.steps.Steps.keep_ports.Given as goal

abbrev pub invariant-loop-port : goal.invariant-loop-port
invariant-loop-port l = after_all_kept (bits_at (drop l.port-index l.ports)) (next_in l.self) ≡ after_all_kept (bits_at l.ports) (next_in l.initial.self)
