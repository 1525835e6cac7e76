-- What several files here take from the specs of this crate and from the crates below.
pub use Rattle.std.proofs.Common.{[], ◌++◌, ◌+◌, ◌-◌, ◌<◌, ◌∙◌, ◌∷◌, ◌≡◌, ◌≤◌, Bool, Err, IsSome, List, None, Ok, Option, Result, Some, ap, arith, codes, cond, decimal, drop, false, get_or, length}
pub use Rattle.std.proofs.Common.{map, refl, rules, slice_get, string_bytes, subst, suc, sym, true, true≢false, vec_len, zero, ℕ}
pub use Rattle.std.proofs.lemmas.List.{append-nil, drop_more}
pub use Rattle.std.proofs.lemmas.Result.{IfOk-weaker}
pub use Rattle.std.specs.Option.{is_some, option_map}
pub use Rattle.std.specs.Str.{bytes_eq}
pub use Rattle.flat_instances.specs.Instances.{OpensInstance, inner_prefix, no_names}
pub use Rattle.flat_instances.specs.Places.{Place, place_of}
pub use Rattle.flat_instances.specs.declared.error.ItemError.{ItemError}
pub use Rattle.flat_instances.specs.declared.error.ItemError.TheVariants.{Constant, Scopes}
pub use Rattle.flat_instances.specs.declared.place.Place.{Place as Kept}
pub use Rattle.flat_scopes.specs.Openings.{Opened, own_name, unopened}
pub use Rattle.flat_scopes.specs.Opens.{Opens, OpensModule}
pub use Rattle.flat_scopes.specs.Owns.{Own, what_of}
pub use Rattle.flat_scopes.specs.Views.{opened_of}
pub use Rattle.flat_scopes.specs.declared.opening.Head.{Head}
pub use Rattle.flat_scopes.specs.declared.opening.Step.{Step}
pub use Rattle.flat_scopes.specs.declared.signal.Signal.{Signal}
pub use Rattle.flat_scopes.specs.declared.signal.What.{What}
pub use Rattle.vlog_meaning.specs.Scopes.{Names, names_of}
pub use Rattle.vlog_syntax.specs.declared.identifier.Identifier.{Identifier}
pub use Rattle.vlog_syntax.specs.declared.item.GenerateLoop.{GenerateLoop}
pub use Rattle.vlog_syntax.specs.declared.item.Item.{Item, out-Item}
pub use Rattle.vlog_syntax.specs.declared.module.Module.{Module}
pub use Rattle.flat_items.specs.Flattened.{Flat, IsBlockName, IsFree, OpensBlock, Sees, add_all, assigned_items, block_head, block_items, chosen_tasks, condition_in, entered, faultless, free}
pub use Rattle.flat_items.specs.Flattened.{genvar_fault, here, integer_in, is_full, is_within, kept_names, label_of, labelled, module_at, module_from, nowhere, outside, placed_in, step_items}
pub use Rattle.flat_items.specs.Flattened.{step_tasks, taken, taken_tasks, tasks_of, turn_start, unlabelled}
pub use Rattle.flat_items.specs.Numbers.{AreNumbered, number_entry, number_of, with_number}
pub use Rattle.flat_items.specs.Replacing.{Flattens, FlattensModule, PlacesInstance, Replaces, TurnsOnce, arm_block, arm_condition, arm_full, arm_null, bad_genvar, bad_start, bad_turn, condition}
pub use Rattle.flat_items.specs.Replacing.{first_turn, flattened, is_block_form, is_construct_form, loop, next_turn, no_construct, not_placed, outcome, placed, refused, repeated, replaces, step}
pub use Rattle.flat_items.specs.Replacing.{top_head, turn, turn_ended, turn_name}
pub use Rattle.flat_items.specs.Views.{flat_of}
pub use Rattle.flat_items.specs.declared.task.Task.{Task}
pub use Rattle.flat_items.specs.declared.task.Turn.{Turn}
