use Rattle.flat_runs.proofs.Growing.{cells_extend, empty_stands, registers_stand, declared_stand, starts_stand}
use Rattle.flat_runs.proofs.Joining.{joints_stand, variables_stand}
use Rattle.flat_runs.proofs.Signals.{declared_own, own_stays, empty_owns}
use Rattle.flat_runs.proofs.laws.builders_keep.Goals as goal

pub returns-clause-empty : goal.returns-clause-empty
returns-clause-empty c = (empty_owns, empty_stands)

pub returns-clause-signals : goal.returns-clause-signals
returns-clause-signals c = declared_own

pub returns-clause-own_nets : goal.returns-clause-own_nets
returns-clause-own_nets c = own_stays

pub returns-clause-cells : goal.returns-clause-cells
returns-clause-cells c = cells_extend

pub returns-clause-joints : goal.returns-clause-joints
returns-clause-joints c = joints_stand

pub returns-clause-variables : goal.returns-clause-variables
returns-clause-variables c = variables_stand

pub returns-clause-registers : goal.returns-clause-registers
returns-clause-registers c = registers_stand

pub returns-clause-declared : goal.returns-clause-declared
returns-clause-declared c = declared_stand

pub returns-clause-starts : goal.returns-clause-starts
returns-clause-starts c = starts_stand
