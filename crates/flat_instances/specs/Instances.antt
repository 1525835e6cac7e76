-- One instance: its module is opened, and its connections are listed (IEEE 1364-2005, 12.1.2, 12.2.2 and 12.3).
use Rattle.std.specs.Prelude.{◌≡◌, ℕ, Bool, true, false, List, [], ◌++◌, codes, option_to_list, Option, None, Some}
use Rattle.vlog_syntax.specs.declared.identifier.Identifier.{Identifier}
use Rattle.vlog_syntax.specs.declared.item.ParameterValues.{ParameterValues}
use Rattle.vlog_syntax.specs.declared.module.Module.{Module}
use Rattle.vlog_meaning.specs.Scopes.{Names, names_of}
use Rattle.flat_scopes.specs.declared.opening.Head.{Head}
use Rattle.flat_scopes.specs.declared.opening.Placing.{Placing}
use Rattle.flat_scopes.specs.declared.refusal.Refusal.TheVariants.{Twice}
use Rattle.flat_scopes.specs.declared.signal.Signal.{Signal}
use Rattle.flat_scopes.specs.Openings.{Opened, unopened}
use Rattle.flat_scopes.specs.Opens.{OpensModule}
use Rattle.flat_instances.specs.declared.error.ItemError.TheVariants.{Declaration, Parameter}
use Rattle.flat_instances.specs.declared.error.ParameterError.{ParameterError}
use Rattle.flat_instances.specs.declared.item.FlatItem.{FlatItem}
use Rattle.flat_instances.specs.declared.item.FlatItem.TheVariants.{Refuses}
use Rattle.flat_instances.specs.Gifts.{parameters_of, gift_of, value_faults, first_of}
use Rattle.flat_instances.specs.Places.{Place}
use Rattle.flat_scopes.specs.Wires.{ports_of, wires_of}
use Rattle.flat_instances.specs.Wires.{connected}

-- what stands before the names of a scope that has this name in another
abbrev pub inner_prefix : List ℕ → List ℕ → List ℕ
inner_prefix prefix name = prefix ++ name ++ codes "."

abbrev pub no_names : Names
no_names = names_of []

abbrev pub head_of : (prefix : List ℕ) → Module → ParameterValues → Head
head_of prefix m values = record { prefix = prefix; ports = ports_of m.ports; given = (gift_of (parameters_of m) values).given }

abbrev pub fault_item : Option ParameterError → Option FlatItem
fault_item None = None
fault_item (Some e) = Some (Refuses (Parameter e))

-- a name that stands already
abbrev pub name_item : (is_twice : Bool) → Identifier → Option FlatItem
name_item false name = None
name_item true name = Some (Refuses (Declaration (Twice name.span)))

-- what is wrong in an instance ahead of its connections: the first by place in the values of its parameters, and then its name
abbrev pub own_faults : List ParameterError → Placing → Opened → List FlatItem
own_faults refused x child = option_to_list (fault_item (first_of (first_of None refused) (value_faults child.steps))) ++ option_to_list (name_item x.is_twice x.instance.name)

-- what an instance lists itself: what is wrong in it, and its connections
abbrev pub listed_of : (outside inside : ℕ) → List ParameterError → List Identifier → Placing → Opened → List FlatItem
listed_of outside inside refused ports x child = own_faults refused x child ++ connected outside inside child (wires_of ports x.instance) ports

-- The module of an instance is opened behind the signals so far, with the values that are read outside.
pub record OpensInstance (place : Place) (outside inside : ℕ) (m : Module) (x : Placing) (signals : List Signal) (child : Opened) (items : List FlatItem) : Type 0 where
  pub opens : OpensModule (head_of (inner_prefix place.prefix x.instance.name.name) m x.values) place.names m (unopened no_names signals) child
  pub lists : items ≡ listed_of outside inside (gift_of (parameters_of m) x.values).refused (ports_of m.ports) x child
