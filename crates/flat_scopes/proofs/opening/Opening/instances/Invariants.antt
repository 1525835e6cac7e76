use Rattle.flat_scopes.proofs.Common.{◌≡◌, true, drop, instances, opened_of}
use Rattle.flat_scopes.proofs.opening.Opening.instances.Given as goal

abbrev pub invariant-loop-instance : goal.invariant-loop-instance
invariant-loop-instance l = instances (opened_of l.self) l.module_name l.values l.is_first (drop l.instance-index l.instances) ≡ instances (opened_of l.initial.self) l.module_name l.values true l.instances
