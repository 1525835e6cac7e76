-- Scopes that were opened by hand: which signals and steps there are.
use Rattle.std.specs.Prelude.{◌≡◌, Bool, true, false, List, [], ◌∷◌, None, Some}
use Rattle.mcy_base.specs.declared.span.Span.{Span}
use Rattle.vlog_syntax.specs.declared.identifier.Identifier.{Identifier}
use Rattle.vlog_syntax.specs.declared.item.Connections.TheVariants.{Ordered as ByPlace}
use Rattle.vlog_syntax.specs.declared.item.DeclaredName.{DeclaredName}
use Rattle.vlog_syntax.specs.declared.item.Direction.TheVariants.{Input, Output}
use Rattle.vlog_syntax.specs.declared.item.Instance.{Instance}
use Rattle.vlog_syntax.specs.declared.item.ParameterValues.TheVariants.{Ordered}
use Rattle.flat_scopes.specs.declared.declare.Typed.{Typed}
use Rattle.flat_scopes.specs.declared.opening.Head.{Head}
use Rattle.flat_scopes.specs.declared.opening.Step.{Step}
use Rattle.flat_scopes.specs.declared.opening.Step.TheVariants.{Declares, Places, Refuses}
use Rattle.flat_scopes.specs.declared.refusal.Refusal.TheVariants.{Twice, Unknown}
use Rattle.flat_scopes.specs.declared.signal.Signal.{Signal}
use Rattle.flat_scopes.specs.Openings.{Opened, unopened, one_bit, vector_type, port_names, data_names}
use Rattle.flat_scopes.specs.Insides.{instances, block_names, first_taken}
use Rattle.flat_scopes.specs.Opens.{merged, header_names, undeclared}

-- the name q at a place
abbrev pub q : Span → Identifier
q at = record { name = 113 ∷ []; span = at }

abbrev pub alone : Identifier → List DeclaredName
alone id = record { name = id; initial = None } ∷ []

-- the instance `q()`
abbrev pub instance : Span → Instance
instance at = record { name = q at; ports = ByPlace [] }

-- the scope u of a module with q in its head
abbrev pub head : Span → Head
head at = record { prefix = 117 ∷ 46 ∷ []; ports = q at ∷ []; given = [] }

abbrev pub nothing : Opened
nothing = unopened (λ name. None) []

abbrev pub wire : Typed
wire = vector_type one_bit false true

abbrev pub signed_reg : Typed
signed_reg = vector_type one_bit true false

-- output q;
abbrev pub output : Span → Opened → Opened
output at o = port_names (head at) o wire Output (alone (q at))

-- reg signed q;
abbrev pub reg : Span → Opened → Opened
reg at o = data_names (head at) o signed_reg (alone (q at))

-- the port q after both declarations, which is u.q in the design
abbrev pub port : Span → Signal
port at = record { name = 117 ∷ 46 ∷ 113 ∷ []; span = at; bits = one_bit; is_signed = true; direction = Some Output; has_type = true }

-- `output q; reg signed q;` in either order is one signed port
abbrev pub OnePort : Type 0
OnePort = (a b : Span) → ((reg b (output a nothing)).signals ≡ port a ∷ []) × ((reg b (output a nothing)).steps ≡ Declares 0 ∷ []) × ((output b (reg a nothing)).signals ≡ port a ∷ []) × ((output b (reg a nothing)).steps ≡ Declares 0 ∷ [])

-- a third declaration is refused, and so is a second one without a port
abbrev pub SecondIsRefused : Type 0
SecondIsRefused = (a b c : Span) → ((reg c (reg b (output a nothing))).steps ≡ Declares 0 ∷ Refuses (Twice c) ∷ []) × ((reg b (reg a nothing)).steps ≡ Declares 0 ∷ Refuses (Twice b) ∷ [])

-- `input z` where the head has q alone; and q in the head where an item declares it as no port, or not at all
abbrev pub HeadsDiffer : Type 0
HeadsDiffer = (a b : Span) → ((port_names (head a) nothing wire Input (alone (record { name = 122 ∷ []; span = b }))).steps ≡ Refuses (Unknown b) ∷ []) × (undeclared nothing (q a ∷ []) ≡ Refuses (Unknown a) ∷ []) × (undeclared (reg b nothing) (q a ∷ []) ≡ Refuses (Unknown a) ∷ []) × (undeclared (output b nothing) (q a ∷ []) ≡ [])

-- a name that stands in the head twice is refused at its second place
abbrev pub HeadTwice : Type 0
HeadTwice = (a b : Span) → (header_names nothing [] (q a ∷ q b ∷ [])).steps ≡ Refuses (Twice b) ∷ []

-- two blocks of one construct may have one label, and blocks of two constructs may not
abbrev pub LabelsOnce : Type 0
LabelsOnce = (a b : Span) → (first_taken nothing (merged [] (q a ∷ q b ∷ [])) ≡ None) × (first_taken (block_names nothing (q a ∷ [])) (q b ∷ []) ≡ Some (q b))

-- an instance of m, the first of its item or not, whose name stands already or not
abbrev pub in_step : Identifier → (is_first is_twice : Bool) → Span → Step
in_step m is_first is_twice at = Places (record { module_name = m; values = Ordered []; instance = instance at; is_first = is_first; is_twice = is_twice })

-- `m q(), q();` are two steps, of which the second one has the mark; so is `m q();` one with the mark where a port is named q
abbrev pub InstancesTwice : Type 0
InstancesTwice = (a b : Span) (m : Identifier) → ((instances nothing m (Ordered []) true (instance a ∷ instance b ∷ [])).steps ≡ in_step m true false a ∷ in_step m false true b ∷ []) × ((instances (output a nothing) m (Ordered []) true (instance b ∷ [])).steps ≡ Declares 0 ∷ in_step m true true b ∷ [])
