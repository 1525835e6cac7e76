-- The names of instances and of the blocks of generate constructs (IEEE 1364-2005, 12.1.2 and 12.4.3). They have no value. One that
-- stands already is no step of its own: it is told with the instance or the construct, at its place among what is wrong there.
use Rattle.std.specs.Prelude.{ℕ, Bool, false, List, [], ◌∷◌, Option, None, Some, is_some, if◌then◌else◌}
use Rattle.vlog_syntax.specs.declared.identifier.Identifier.{Identifier}
use Rattle.vlog_syntax.specs.declared.item.Instance.{Instance}
use Rattle.vlog_syntax.specs.declared.item.ParameterValues.{ParameterValues}
use Rattle.flat_scopes.specs.declared.opening.Placing.{Placing}
use Rattle.flat_scopes.specs.declared.opening.Step.TheVariants.{Places}
use Rattle.flat_scopes.specs.declared.signal.What.{What}
use Rattle.flat_scopes.specs.declared.signal.What.TheVariants.{Inside}
use Rattle.flat_scopes.specs.Openings.{Opened, step, own_name}

-- a name, and what it stands for so far; where it stands already, it stays what it is
abbrev pub inner_name : Opened → List ℕ → Option What → Opened
inner_name o name None = own_name o name Inside None
inner_name o name (Some other) = o

-- Instances. Each is a step, with whether it is the first of its item, and whether its name stands already.

abbrev pub placing : Opened → Identifier → ParameterValues → (is_first : Bool) → Instance → Placing
placing o name values is_first i = record { module_name = name; values = values; instance = i; is_first = is_first; is_twice = is_some (o.own i.name.name) }

abbrev pub placed : Opened → Identifier → ParameterValues → (is_first : Bool) → Instance → Opened
placed o name values is_first i = step (inner_name o i.name.name (o.own i.name.name)) (Places (placing o name values is_first i))

abbrev pub instances : Opened → Identifier → ParameterValues → (is_first : Bool) → List Instance → Opened
instances o name values is_first [] = o
instances o name values is_first (i ∷ more) = instances (placed o name values is_first i) name values false more

-- Labels of the blocks of one construct.

abbrev pub block_names : Opened → List Identifier → Opened
block_names o [] = o
block_names o (b ∷ more) = block_names (inner_name o b.name (o.own b.name)) more

-- the first of these that stands already
abbrev pub first_taken : Opened → List Identifier → Option Identifier
first_taken o [] = None
first_taken o (b ∷ more) = if is_some (o.own b.name) then Some b else first_taken o more
