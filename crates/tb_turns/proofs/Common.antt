-- What several files here take from the specs of this crate and from the crates below.
pub use Rattle.std.proofs.Common.{[], ◌*◌, ◌+◌, ◌-◌, ◌<◌, ◌∙◌, ◌∷◌, ◌≡◌, ◌≤◌, List, arith, false, inl, inr, refl, subst, suc, sym, true, ℕ}
pub use Rattle.tb_machine.specs.Laws.{InPieces, OneOutcome}
pub use Rattle.tb_machine.specs.Phases.{Ending, Finish, Limit, Setting, State}
pub use Rattle.tb_machine.specs.Simulations.{IsSimulation, Outcome, Reaches, outcome, phases_of}
pub use Rattle.tb_turns.specs.Reached.{HasEnded, IsAt, IsLast, IsRunTo, phases_after}
pub use Rattle.tb_turns.specs.Verdicts.{IsVerdict, IsWord, OneVerdict}
pub use Rattle.tb_turns.specs.declared.verdict.SimVerdict.{SimVerdict}
