-- What several files here take from the specs of this crate and from the crates below.
pub use Rattle.std.proofs.Common.{[], ◌++◌, ◌+◌, ◌-ℤ◌, ◌-◌, ◌<◌, ◌∙◌, ◌∷◌, ◌≡◌, ◌≤◌, ◌⊎◌, Bool, Err, List, None, Ok, Option, Result, Some, ap, arith, false, inl, inr, length, map, negsuc, pos, refl}
pub use Rattle.std.proofs.Common.{subst, suc, sym, true, true≢false, zero, ℕ, ℤ}
pub use Rattle.std.proofs.lemmas.List.{append-nil, length-set, length_push}
pub use Rattle.std.proofs.lemmas.Option.{none-some, slice_get_within}
pub use Rattle.std.proofs.lemmas.Slice.Eq.{bytes_eq-Decides}
pub use Rattle.std.specs.Option.{option_map}
pub use Rattle.std.specs.Prelude.{◌&&◌, ◌==◌, ◌^◌, ◌||◌, if◌then◌else◌, int_lt, is_some, nat_eq, nat_lt, not, option_to_list, slice_get, slice_set}
pub use Rattle.std.specs.Str.{bytes_eq}
pub use Rattle.flat_instances.specs.Gifts.{first_of, gift_of, parameters_of, value_faults}
pub use Rattle.flat_instances.specs.Instances.{fault_item, head_of, inner_prefix, listed_of, name_item, no_names, own_faults}
pub use Rattle.flat_instances.specs.Places.{Place}
pub use Rattle.flat_instances.specs.declared.error.ItemError.{ItemError}
pub use Rattle.flat_instances.specs.declared.item.FlatItem.{FlatItem}
pub use Rattle.flat_items.specs.declared.task.Task.{Task}
pub use Rattle.flat_scopes.specs.Openings.{Opened, again_data, again_port, bits_or_one, data_name, data_names, genvar_names, has_bits, initial, is_among, new_signal, one_bit, own_name, plain_name}
pub use Rattle.flat_scopes.specs.Openings.{port_found, port_name, port_names, refuse, refused_range, refused_type, same_signal, step, type_of, unopened, variable_start}
pub use Rattle.flat_scopes.specs.Ranges.{bits_between, bits_of_bounds, bits_of_range}
pub use Rattle.flat_scopes.specs.Wires.{declared_ports, name_in, ports_of, wires_of}
pub use Rattle.flat_scopes.specs.declared.opening.Head.{Head}
pub use Rattle.flat_scopes.specs.declared.opening.Placing.{Placing}
pub use Rattle.flat_scopes.specs.declared.opening.Step.{Step}
pub use Rattle.flat_scopes.specs.declared.range.VectorBits.{VectorBits}
pub use Rattle.flat_scopes.specs.declared.refusal.Refusal.{Refusal}
pub use Rattle.flat_scopes.specs.declared.signal.Port.{Port}
pub use Rattle.flat_scopes.specs.declared.signal.Signal.{Signal}
pub use Rattle.flat_scopes.specs.declared.signal.What.{What}
pub use Rattle.vlog_meaning.specs.Answers.{const_error, least}
pub use Rattle.vlog_meaning.specs.Scopes.{Names}
pub use Rattle.vlog_meaning.specs.Senses.{Sense, constant_faults, constant_integer, sense}
pub use Rattle.vlog_meaning.specs.declared.fault.Fault.{Fault}
pub use Rattle.vlog_meaning.specs.declared.scope.Decl.{Decl}
pub use Rattle.vlog_syntax.specs.declared.expr.Expr.{Expr}
pub use Rattle.vlog_syntax.specs.declared.identifier.Identifier.{Identifier}
pub use Rattle.vlog_syntax.specs.declared.item.DataType.{DataType}
pub use Rattle.vlog_syntax.specs.declared.item.DataType.TheVariants.{Integer, Reg, Wire}
pub use Rattle.vlog_syntax.specs.declared.item.DeclaredName.{DeclaredName}
pub use Rattle.vlog_syntax.specs.declared.item.Direction.{Direction}
pub use Rattle.vlog_syntax.specs.declared.item.Item.{Item, out-Item}
pub use Rattle.vlog_syntax.specs.declared.item.PlainItem.{PlainItem}
pub use Rattle.vlog_syntax.specs.declared.item.PortDeclaration.{PortDeclaration}
pub use Rattle.vlog_syntax.specs.declared.item.Ports.{Ports}
pub use Rattle.vlog_syntax.specs.declared.item.Ports.TheVariants.{Declarations, Names as Named}
pub use Rattle.vlog_syntax.specs.declared.module.Module.{Module}
pub use Rattle.flat_laws.specs.Ports.{AreAccepted, ArePorts, HasDirection, IsDirected, IsPort}
pub use Rattle.flat_laws.specs.Sound.{AllStand, AreSized, HasBits, ItemStands, NamesSignal, OwnsSignal, PlaceStands, declares, times_declared}
