-- What several files here take from the specs of this crate and from the crates below.
pub use Rattle.std.proofs.Common.{[], ◌++◌, ◌<◌, ◌∙◌, ◌≡◌, Bool, Err, IfOk, List, MatchOption, None, Ok, Option, Result, Some, ap, arith, false, is_some, refl, subst, sym, true, ℕ}
pub use Rattle.netlist_core.specs.Checked.{Plan}
pub use Rattle.tb_machine.specs.Nodes.{IsCode, tree_of}
pub use Rattle.tb_machine.specs.Simulations.{IsSimulation, outcome, phases_of}
pub use Rattle.tb_process.specs.Running.{CanGoOn, Follows, IsOf, Running, Stands}
pub use Rattle.tb_turns.specs.Reached.{IsAt, IsOpen, MeetsEnd, phases_after}
pub use Rattle.tb_watch.specs.Searches.{HasWatched, Watched}
pub use Rattle.vlog_syntax.specs.declared.stmt.Stmt.{Stmt}
pub use Rattle.tb_runner.specs.Jobs.{IsJob}
pub use Rattle.tb_runner.specs.Simulated.{GoesOn, Simulated, StandsIn, setting, start}
