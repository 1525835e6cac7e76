-- The items of a scope, one after the other, and a whole module (IEEE 1364-2005, 12.1, 12.3 and 12.4).
use Rattle.std.specs.Prelude.{◌≡◌, ℕ, ◌+◌, true, List, [], ◌∷◌, ◌++◌, Option, None, Some, is_some, slice_get, if◌then◌else◌}
use Rattle.std.specs.Option.{option_map}
use Rattle.mcy_base.specs.declared.span.Span.{Span}
use Rattle.vlog_syntax.specs.declared.expr.Expr.{Expr}
use Rattle.vlog_syntax.specs.declared.identifier.Identifier.{Identifier}
use Rattle.vlog_syntax.specs.declared.item.GenerateLoop.{GenerateLoop}
use Rattle.vlog_syntax.specs.declared.item.Item.{Item, out-Item}
use Rattle.vlog_syntax.specs.declared.item.Item.TheVariants as i
use Rattle.vlog_syntax.specs.declared.item.Item.TheOpen as t
use Rattle.vlog_syntax.specs.declared.item.Item.TheOpen.{Item-F}
use Rattle.vlog_syntax.specs.declared.item.Item.TheFolds.{fold-Item}
use Rattle.vlog_syntax.specs.declared.item.ParameterDeclaration.{ParameterDeclaration}
use Rattle.vlog_syntax.specs.declared.item.PlainItem.{PlainItem}
use Rattle.vlog_syntax.specs.declared.item.PlainItem.TheVariants as p
use Rattle.vlog_syntax.specs.declared.item.PortDeclaration.{PortDeclaration}
use Rattle.vlog_syntax.specs.declared.item.Ports.{Ports}
use Rattle.vlog_syntax.specs.declared.item.Ports.TheVariants.{Names as Named, Declarations}
use Rattle.vlog_syntax.specs.declared.module.Module.{Module}
use Rattle.vlog_meaning.specs.Scopes.{Names}
use Rattle.flat_scopes.specs.declared.opening.Head.{Head}
use Rattle.flat_scopes.specs.declared.opening.Step.{Step}
use Rattle.flat_scopes.specs.declared.opening.Step.TheVariants as s
use Rattle.flat_scopes.specs.declared.refusal.Refusal.TheVariants as r
use Rattle.flat_scopes.specs.declared.signal.Port.{Port}
use Rattle.flat_scopes.specs.declared.signal.Signal.{Signal}
use Rattle.flat_scopes.specs.declared.signal.What.{What}
use Rattle.flat_scopes.specs.declared.signal.What.TheVariants as w
use Rattle.flat_scopes.specs.Openings.{Opened, step, refuse, genvar_names, is_among, refused_type, type_of, port_names, data_names}
use Rattle.flat_scopes.specs.Insides.{instances, block_names, first_taken}
use Rattle.flat_scopes.specs.Valued.{parameters}

-- an item that is no generate construct; an assign and a process are listed
abbrev pub declared : Head → Names → Opened → PlainItem → Opened
declared h outside o (p.PortDeclaration x) = port_names h (refused_type o x.data_type) (type_of o.names x.data_type) x.direction x.names
declared h outside o (p.DataDeclaration x) = data_names h (refused_type o x.data_type) (type_of o.names x.data_type) x.names
declared h outside o (p.GenvarDeclaration at names) = genvar_names o names
declared h outside o (p.ParameterDeclaration x) = parameters h outside o x
declared h outside o (p.ContinuousAssign at delay assignments) = step o (s.Lists (p.ContinuousAssign at delay assignments))
declared h outside o (p.Process x) = step o (s.Lists (p.Process x))
declared h outside o (p.ModuleInstantiation name values list) = instances o name values true list

-- Generate constructs (12.4). The labels of their blocks are names of the scope around, each once for a construct: the
-- blocks of a condition may have one label. A condition that is a part of another has its blocks in the scope around both. What a
-- loop repeats without `begin` is a block without a label, and what is named in it is named there.

abbrev pub labels_step : Item-F (List Identifier) → List Identifier
labels_step (t.GenerateBlock at (Some name) items) = name ∷ []
labels_step (t.IfGenerate at condition xs (Some ys)) = xs ++ ys
labels_step (t.IfGenerate at condition xs None) = xs
labels_step other = []

abbrev pub labels_of : Item → List Identifier
labels_of = fold-Item (List Identifier) labels_step

abbrev pub body_labels : Item-F Item → List Identifier
body_labels (t.GenerateBlock at (Some name) items) = name ∷ []
body_labels other = []

abbrev pub with_label : List Identifier → Identifier → List Identifier
with_label xs x = if is_among xs x.name then xs else xs ++ x ∷ []

-- these, and those that are not among them
abbrev pub merged : List Identifier → List Identifier → List Identifier
merged xs [] = xs
merged xs (y ∷ more) = merged (with_label xs y) more

-- the constructs of a scope are numbered from 1 on (12.4.3)
abbrev pub numbered : Opened → Item → (taken : Option Identifier) → Opened
numbered o item taken = step (record o { constructs = o.constructs + 1 }) (s.Generates (o.constructs + 1) item taken)

-- a construct whose blocks have these labels, and the first of them that stands already
abbrev pub construct : Opened → Item → List Identifier → Opened
construct o item labels = numbered (block_names o labels) item (first_taken o labels)

-- The items of a scope. A region stands for its items.
pub data Opens (h : Head) (outside : Names) : Opened → List Item → Opened → Type 0 where
  opened : (o : Opened) → Opens h outside o [] o
  open_plain : (o last : Opened) (x : PlainItem) (more : List Item) → Opens h outside (declared h outside o x) more last → Opens h outside o (i.Plain x ∷ more) last
  open_region : (o mid last : Opened) (at : Span) (items more : List Item) → Opens h outside o items mid → Opens h outside mid more last → Opens h outside o (i.GenerateRegion at items ∷ more) last
  open_loop : (o last : Opened) (loop : GenerateLoop) (body : Item) (more : List Item) → Opens h outside (construct o (i.LoopGenerate loop body) (body_labels (out-Item body))) more last → Opens h outside o (i.LoopGenerate loop body ∷ more) last
  open_if : (o last : Opened) (at : Span) (condition : Expr) (first : Item) (second : Option Item) (more : List Item) → Opens h outside (construct o (i.IfGenerate at condition first second) (merged [] (labels_of (i.IfGenerate at condition first second)))) more last → Opens h outside o (i.IfGenerate at condition first second ∷ more) last
  -- a block stands in a loop or a condition alone
  open_block : (o last : Opened) (at : Span) (name : Option Identifier) (items more : List Item) → Opens h outside o more last → Opens h outside o (i.GenerateBlock at name items ∷ more) last
  open_null : (o last : Opened) (at : Span) (more : List Item) → Opens h outside o more last → Opens h outside o (i.NullGenerate at ∷ more) last

-- Modules (12.1 and 12.3).

-- the number and direction of a port
abbrev pub signal_port : ℕ → Option Signal → Option Port
signal_port k None = None
signal_port k (Some g) = option_map (λ direction. record { number = k; direction = direction }) g.direction

abbrev pub port_at : Opened → Option What → Option Port
port_at o (Some (w.Variable k)) = signal_port k (slice_get o.signals k)
port_at o other = None

abbrev pub all_parameters : Head → Names → Opened → List ParameterDeclaration → Opened
all_parameters h outside o [] = o
all_parameters h outside o (d ∷ more) = all_parameters h outside (parameters h outside o d) more

-- names in the head of a module stand there once
abbrev pub header_names : Opened → (seen names : List Identifier) → Opened
header_names o seen [] = o
header_names o seen (n ∷ more) = header_names (if is_among seen n.name then refuse o (r.Twice n.span) else o) (seen ++ n ∷ []) more

abbrev pub all_ports : Head → Opened → List PortDeclaration → Opened
all_ports h o [] = o
all_ports h o (d ∷ more) = all_ports h (port_names h (refused_type o d.data_type) (type_of o.names d.data_type) d.direction d.names) more

abbrev pub header : Head → Opened → Ports → Opened
header h o (Named names) = header_names o [] names
header h o (Declarations declarations) = all_ports h o declarations

-- a name in the head that no item declares as a port is refused before the items
abbrev pub undeclared : Opened → List Identifier → List Step
undeclared o [] = []
undeclared o (n ∷ more) = if is_some (port_at o (o.own n.name)) then undeclared o more else s.Refuses (r.Unknown n.span) ∷ undeclared o more

abbrev pub footer : Opened → Ports → Opened
footer o (Named names) = record o { steps = undeclared o names ++ o.steps }
footer o (Declarations declarations) = o

-- the module's parameters and ports, its items, and the ports that they leave out
pub record OpensModule (h : Head) (outside : Names) (m : Module) (first last : Opened) : Type 0 where
  pub body : Opened
  pub items : Opens h outside (header h (all_parameters h outside first m.parameters) m.ports) m.items body
  pub end : last ≡ footer body m.ports
