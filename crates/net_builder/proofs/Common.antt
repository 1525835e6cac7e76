-- What several files here take from the specs of this crate and from the crates below.
pub use Rattle.std.proofs.Common.{[], ◌%◌, ◌++◌, ◌+◌, ◌-◌, ◌/◌, ◌<◌, ◌^◌, ◌||◌, ◌↔◌, ◌∙◌, ◌∷◌, ◌≡◌, ◌≢◌, ◌≤◌, ◌⊎◌, Bool, List, None, Option, Some, add-one, add-zero, ap, append_assoc, arith, drop}
pub use Rattle.std.proofs.Common.{false, get_or, if◌then◌else◌, inl, inr, length, map, min, nat_eq, refl, replicate, set, slice_get, slice_index_or, subst, suc, sym, take, true, vec_len, zero, ℕ}
pub use Rattle.std.proofs.lemmas.Bool.{false≢true, or_cases, or_left, or_right}
pub use Rattle.std.proofs.lemmas.Bool.Decides.{Decides-eqb, eqb_tells}
pub use Rattle.std.proofs.lemmas.List.{get_or-set_other, get_or-set_same, get_or_read, length-append, length-map, length-replicate, length-set, map-append, map-set, nil_from_length}
pub use Rattle.std.proofs.lemmas.List.Elements.{Contains-append_left, Contains-get_or, Contains-push, Contains-push_cases}
pub use Rattle.std.specs.List.{Contains}
pub use Rattle.mcy_base.specs.declared.word.Word.{Word}
pub use Rattle.netlist_core.specs.Checked.{AllWide, IsFirst}
pub use Rattle.netlist_core.specs.Runs.{Computes, Nets, bits_at, input_ports, output_port, plain, ports_seen, q_bits, values}
pub use Rattle.netlist_core.specs.declared.bit.Bit.{Bit}
pub use Rattle.netlist_core.specs.declared.bit.Bit.TheVariants.{Fixed, Net}
pub use Rattle.netlist_core.specs.declared.cell.Cell.{Cell}
pub use Rattle.netlist_core.specs.declared.port.Port.{Port}
pub use Rattle.netlist_core.specs.declared.port.Register.{Register}
pub use Rattle.net_builder.specs.Building.{AllBelow, AreAdded, Building, Grows, PortsBelow, RunsIn, fresh_bits, numbers_of, own_bits, signal, store, with_cell, with_start, word_widths}
pub use Rattle.net_builder.specs.Finished.{Follows, IsOnLoop, IsStuck, LeadsTo, all_led, direct, fixed, further, goes, later, led_cell, led_port, led_register, some_has, start_among, start_of, stays}
pub use Rattle.net_builder.specs.Finished.{step_of, stepped}
pub use Rattle.net_builder.specs.Rounds.{IsClosed, IsRound, seen_in}
pub use Rattle.net_builder.specs.Stepping.{after_all_kept, after_joints, after_kept, after_start, after_starts, joined_step, next_in, no_steps, with_step}
pub use Rattle.net_builder.specs.Tracing.{Comes, Fits, IsDone, IsTraced, Keeps, Known, LeadsInto, end_by, end_in, known_of, mark_in, mark_of, next_of, one_unknown, unknowns}
pub use Rattle.net_builder.specs.Written.{IsJoined, IsStored, after_joint, after_stored, after_stores, has_net, is_stored, joined_by, joint_of, no_writers, stored_by, writer, writer_in, writer_of}
pub use Rattle.net_builder.specs.Written.{writers_of}
pub use Rattle.net_builder.specs.declared.builder.Joint.{Joint}
pub use Rattle.net_builder.specs.declared.steps.Step.{Step}
pub use Rattle.net_builder.specs.declared.steps.Step.TheVariants.{Constant, On, Stays}
pub use Rattle.net_builder.specs.declared.tracing.Mark.{Mark}
pub use Rattle.net_builder.specs.declared.tracing.Mark.TheVariants.{Ends, Loops, Open, Unknown}
pub use Rattle.net_builder.specs.declared.writers.Writer.{Writer}
