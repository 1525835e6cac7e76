-- What the declarations of a scope do, one after the other (IEEE 1364-2005, 4, 12.2, 12.3 and 12.4).
use Rattle.std.specs.Prelude.{ℕ, Bool, true, false, not, ◌&&◌, ◌||◌, ◌==◌, List, [], ◌∷◌, ◌++◌, length, Option, None, Some, is_some, slice_get, slice_set, Result, Ok, Err, if◌then◌else◌}
use Rattle.vlog_syntax.specs.declared.expr.Expr.{Expr}
use Rattle.vlog_syntax.specs.declared.identifier.Identifier.{Identifier}
use Rattle.vlog_syntax.specs.declared.item.Direction.{Direction}
use Rattle.vlog_syntax.specs.declared.item.DataType.{DataType}
use Rattle.vlog_syntax.specs.declared.item.DataType.TheVariants.{Wire, Reg, Integer}
use Rattle.vlog_syntax.specs.declared.item.DeclaredName.{DeclaredName}
use Rattle.vlog_meaning.specs.declared.scope.Decl.{Decl}
use Rattle.vlog_meaning.specs.declared.scope.Decl.TheVariants as d
use Rattle.vlog_meaning.specs.Scopes.{Names, with_name}
use Rattle.flat_scopes.specs.declared.range.VectorBits.{VectorBits}
use Rattle.flat_scopes.specs.declared.range.RangeError.{RangeError}
use Rattle.flat_scopes.specs.declared.refusal.Refusal.{Refusal}
use Rattle.flat_scopes.specs.declared.refusal.Refusal.TheVariants as r
use Rattle.flat_scopes.specs.declared.signal.Signal.{Signal}
use Rattle.flat_scopes.specs.declared.signal.What.{What}
use Rattle.flat_scopes.specs.declared.signal.What.TheVariants as w
use Rattle.flat_scopes.specs.declared.opening.Step.{Step}
use Rattle.flat_scopes.specs.declared.opening.Step.TheVariants as s
use Rattle.flat_scopes.specs.declared.opening.Head.{Head}
use Rattle.flat_scopes.specs.declared.declare.Typed.{Typed}
use Rattle.flat_scopes.specs.Owns.{Own, with_own}
use Rattle.flat_scopes.specs.Ranges.{bits_of_range}
pub use Rattle.flat_scopes.specs.Known.{is_among}

-- A scope of which some items are opened: what its own names stand for, what all names are declared as, the signals of the
-- design, what the items list, and how many generate constructs there were.
pub record Opened : Type 0 where
  pub own : Own
  pub names : Names
  pub signals : List Signal
  pub steps : List Step
  pub constructs : ℕ

-- no names of its own, over these
abbrev pub unopened : Names → List Signal → Opened
unopened names signals = record { own = λ name. None; names = names; signals = signals; steps = []; constructs = 0 }

abbrev pub step : Opened → Step → Opened
step o s = record o { steps = o.steps ++ s ∷ [] }

-- a refusal is listed at its place
abbrev pub refuse : Opened → Refusal → Opened
refuse o e = step o (s.Refuses e)

-- a new name of the scope; where it has no declaration, it hides those outside
abbrev pub own_name : Opened → List ℕ → What → Option Decl → Opened
own_name o name what decl = record o { own = with_own o.own name what; names = with_name o.names name decl }

-- Genvars, which have no value (12.4.1).

abbrev pub plain_name : Opened → Identifier → What → Option What → Opened
plain_name o id what None = own_name o id.name what None
plain_name o id what (Some other) = refuse o (r.Twice id.span)

abbrev pub genvar_names : Opened → List DeclaredName → Opened
genvar_names o [] = o
genvar_names o (n ∷ more) = genvar_names (plain_name o n.name w.Genvar (o.own n.name.name)) more

-- Types (4.2 and 4.3). A range that is refused reads as one bit.

abbrev pub one_bit : VectorBits
one_bit = record { width = 1; low = 0 }

abbrev pub bits_or_one : Result VectorBits RangeError → VectorBits
bits_or_one (Ok bits) = bits
bits_or_one (Err e) = one_bit

abbrev pub refused_range : Opened → Result VectorBits RangeError → Opened
refused_range o (Ok bits) = o
refused_range o (Err e) = refuse o (r.Range e)

abbrev pub vector_type : VectorBits → (is_signed is_wire : Bool) → Typed
vector_type bits is_signed is_wire = record { bits = bits; is_signed = is_signed; has_type = not is_wire; is_wire = is_wire }

abbrev pub type_of : Names → DataType → Typed
type_of names (Wire v) = vector_type (bits_or_one (bits_of_range names v.range)) v.is_signed true
type_of names (Reg v) = vector_type (bits_or_one (bits_of_range names v.range)) v.is_signed false
type_of names Integer = record { bits = record { width = 32; low = 0 }; is_signed = true; has_type = true; is_wire = false }

abbrev pub refused_type : Opened → DataType → Opened
refused_type o (Wire v) = refused_range o (bits_of_range o.names v.range)
refused_type o (Reg v) = refused_range o (bits_of_range o.names v.range)
refused_type o Integer = o

-- Nets, variables and ports.

-- the next number, a name of the scope, and the declaration at its place
abbrev pub new_signal : List ℕ → Opened → Identifier → Typed → Option Direction → Bool → Opened
new_signal prefix o id t direction has_type =
    let k = length o.signals in
    record (own_name o id.name (w.Variable k) (Some (d.Signal t.bits.width t.bits.low t.is_signed k))) {
      signals = o.signals ++ record { name = prefix ++ id.name; span = id.span; bits = t.bits; is_signed = t.is_signed; direction = direction; has_type = has_type } ∷ [];
      steps = o.steps ++ s.Declares k ∷ [];
    }

-- a port's second declaration, which is signed where either says so
abbrev pub same_signal : Opened → List ℕ → ℕ → Signal → Typed → Option Direction → Bool → Opened
same_signal o name k g t direction has_type =
    record o {
      names = with_name o.names name (Some (d.Signal g.bits.width g.bits.low (g.is_signed || t.is_signed) k));
      signals = slice_set o.signals k (record g { is_signed = g.is_signed || t.is_signed; direction = direction; has_type = has_type });
    }

abbrev pub has_bits : Signal → Typed → Bool
has_bits g t = (g.bits.width == t.bits.width) && (g.bits.low == t.bits.low)

-- a port of a net or variable that an item declared: it has the same bits, and says nothing else of the type
abbrev pub again_port : Opened → Identifier → ℕ → Option Signal → Typed → Direction → Opened
again_port o id k None t direction = refuse o (r.Twice id.span)
again_port o id k (Some g) t direction =
    if not (is_some g.direction) && has_bits g t && not t.has_type then same_signal o id.name k g t (Some direction) g.has_type
    else refuse o (r.Twice id.span)

-- a net or variable that a port declaration declared: it has the same bits, and no type yet
abbrev pub again_data : Opened → Identifier → ℕ → Option Signal → Typed → Opened
again_data o id k None t = refuse o (r.Twice id.span)
again_data o id k (Some g) t =
    if is_some g.direction && has_bits g t && not g.has_type then same_signal o id.name k g t g.direction true
    else refuse o (r.Twice id.span)

-- a name of a port declaration, which the head of the module names too
abbrev pub port_found : Head → Opened → Identifier → Typed → Direction → Option What → Opened
port_found h o id t direction None = new_signal h.prefix o id t (Some direction) t.has_type
port_found h o id t direction (Some (w.Variable k)) = again_port o id k (slice_get o.signals k) t direction
port_found h o id t direction (Some other) = refuse o (r.Twice id.span)

abbrev pub port_name : Head → Opened → Identifier → Typed → Direction → Opened
port_name h o id t direction = if is_among h.ports id.name then port_found h o id t direction (o.own id.name) else refuse o (r.Unknown id.span)

-- a name of a net or variable declaration
abbrev pub data_name : Head → Opened → Identifier → Typed → Option What → Opened
data_name h o id t None = new_signal h.prefix o id t None true
data_name h o id t (Some (w.Variable k)) = again_data o id k (slice_get o.signals k) t
data_name h o id t (Some other) = refuse o (r.Twice id.span)

-- an initial value: an assignment to a net, and a start value of a variable
abbrev pub variable_start : Opened → Option What → Expr → Opened
variable_start o (Some (w.Variable k)) x = step o (s.Starts k x)
variable_start o other x = o

abbrev pub initial : Opened → Typed → DeclaredName → Option Expr → Opened
initial o t n None = o
initial o t n (Some x) = if t.is_wire then step o (s.Drives n.name x) else variable_start o (o.own n.name.name) x

abbrev pub port_names : Head → Opened → Typed → Direction → List DeclaredName → Opened
port_names h o t direction [] = o
port_names h o t direction (n ∷ more) = port_names h (initial (port_name h o n.name t direction) t n n.initial) t direction more

abbrev pub data_names : Head → Opened → Typed → List DeclaredName → Opened
data_names h o t [] = o
data_names h o t (n ∷ more) = data_names h (initial (data_name h o n.name t (o.own n.name.name)) t n n.initial) t more
