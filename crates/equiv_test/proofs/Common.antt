-- What several files here take from the specs of this crate and from the crates below.
pub use Rattle.std.proofs.Common.{[], ◌*◌, ◌++◌, ◌+◌, ◌-◌, ◌<◌, ◌^◌, ◌∙◌, ◌∷◌, ◌≡◌, ◌≢◌, ◌≤◌, List, None, Option, Some, ap, arith, drop, get_or, inl, inr, length, map, refl, subst, suc, sym, take}
pub use Rattle.std.proofs.Common.{zero, ℕ, ℤ}
pub use Rattle.std.proofs.lemmas.List.{append-nil, append_assoc, drop_all, drop_more, get_or-map, length-map, map-append, take_all, take_more}
pub use Rattle.std.specs.Prelude.{⊤, Err, IfErr, IfOk, IsErrAnd, IsSome, MatchOption, Ok, Result, slice_get}
pub use Rattle.clause_store.specs.Clauses.{IsModel, Values}
pub use Rattle.cycle_sim.proofs.Cycles.{wide-at}
pub use Rattle.cycle_sim.specs.Simulated.{HaveWidths, Simulated, numbers_of, settled_nets}
pub use Rattle.lrat_checker.specs.LegalLogs.{EndsEmpty, IsAttempt, IsRefutation, Log}
pub use Rattle.mcy_base.specs.declared.word.Word.{Word}
pub use Rattle.netlist_core.specs.Checked.{AllRegistersFit, AllWide, IsSound, Plan, all_bits, free_bits}
pub use Rattle.netlist_core.specs.Numbers.{number}
pub use Rattle.netlist_core.specs.Runs.{Holds, Nets, bits_at, plain, q_bits, shown, taken, values}
pub use Rattle.netlist_core.specs.Solutions.{OneAnswerBySight}
pub use Rattle.netlist_core.specs.declared.bit.Bit.{Bit}
pub use Rattle.netlist_core.specs.declared.port.Port.{Port}
pub use Rattle.netlist_core.specs.declared.port.Register.{Register}
pub use Rattle.netlist_core.specs.declared.raw.RawNetlist.{RawNetlist}
pub use Rattle.netlist_gates.specs.Meanings.{free_numbers, input_numbers, register_numbers}
pub use Rattle.pair_gates.proofs.Widths.{AreSameWide, ports-same, registers-same}
pub use Rattle.pair_gates.specs.Copies.{pair_clauses}
pub use Rattle.pair_gates.specs.Differences.{Differ, TellDifferences}
pub use Rattle.pair_gates.specs.Matching.{AreAlike, Named, port_named, register_named}
pub use Rattle.sat_solver.specs.Found.{Hunt, IsContinued, IsRunning, listed_values}
pub use Rattle.step_trials.proofs.TableLemmas.{small, some-word, word-parts}
pub use Rattle.equiv_test.specs.Jobs.{GoesOn, HasSeen, IsJob, IsPairSearch, Job, lemmas_in, lemmas_of}
pub use Rattle.equiv_test.specs.Verdicts.{DifferAt, DifferFirst, IsOfPair, Shows, Tells}
pub use Rattle.equiv_test.specs.declared.verdict.Difference.{Difference}
pub use Rattle.equiv_test.specs.declared.verdict.EqVerdict.TheVariants.{Change, NoChange, Unknown}
