use Rattle.process_cells.proofs.Common.{take, CanStoreAll, Stores}
use Rattle.process_cells.proofs.registers.store_all.Given as goal

abbrev pub invariant-loop-variable : goal.invariant-loop-variable
invariant-loop-variable l = record { fit : CanStoreAll l.initial.builder l.variables; so_far : Stores l.initial.builder (take l.variable-index l.variables) l.builder }
