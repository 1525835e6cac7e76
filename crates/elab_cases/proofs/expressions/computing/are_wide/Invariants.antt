use Rattle.std.proofs.Common.{drop}
use Rattle.netlist_core.specs.Checked.{AllWide}
use Rattle.elab_cases.proofs.expressions.computing.are_wide.Given as goal

abbrev pub invariant-loop-port : goal.invariant-loop-port
invariant-loop-port l = AllWide (drop l.port-index l.ports) → AllWide l.ports
