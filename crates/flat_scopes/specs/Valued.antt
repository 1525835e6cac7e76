-- Parameters of a scope (IEEE 1364-2005, 4.10 and 12.2).
use Rattle.std.specs.Prelude.{ℕ, ◌%◌, ◌^◌, Bool, true, ◌||◌, List, [], ◌∷◌, Option, None, Some, Result, Ok, Err, if◌then◌else◌}
use Rattle.std.specs.Str.{bytes_eq}
use Rattle.vlog_syntax.specs.declared.expr.Expr.{Expr}
use Rattle.vlog_syntax.specs.declared.identifier.Identifier.{Identifier}
use Rattle.vlog_syntax.specs.declared.item.Range.{Range}
use Rattle.vlog_syntax.specs.declared.item.ParameterKind.{ParameterKind}
use Rattle.vlog_syntax.specs.declared.item.ParameterKind.TheVariants.{Parameter, Localparam}
use Rattle.vlog_syntax.specs.declared.item.ParameterType.{ParameterType}
use Rattle.vlog_syntax.specs.declared.item.ParameterType.TheVariants.{Vector, Integer}
use Rattle.vlog_syntax.specs.declared.item.ParameterAssignment.{ParameterAssignment}
use Rattle.vlog_syntax.specs.declared.item.ParameterDeclaration.{ParameterDeclaration}
use Rattle.vlog_meaning.specs.declared.fault.ConstError.{ConstError}
use Rattle.vlog_meaning.specs.declared.fault.Fault.{Fault}
use Rattle.vlog_meaning.specs.declared.scope.Decl.{Decl}
use Rattle.vlog_meaning.specs.declared.scope.Decl.TheVariants as d
use Rattle.vlog_meaning.specs.Answers.{least, const_error}
use Rattle.vlog_meaning.specs.Scopes.{Names, nothing}
use Rattle.vlog_meaning.specs.Senses.{Sense, sense, own, assigned}
use Rattle.flat_scopes.specs.declared.opening.Given.{Given}
use Rattle.flat_scopes.specs.declared.opening.Head.{Head}
use Rattle.flat_scopes.specs.declared.opening.Step.{Step}
use Rattle.flat_scopes.specs.declared.opening.Step.TheVariants as s
use Rattle.flat_scopes.specs.declared.parameter.ParameterBits.{ParameterBits}
use Rattle.flat_scopes.specs.declared.parameter.ParameterBits.TheVariants.{OfValue, OfRange}
use Rattle.flat_scopes.specs.declared.range.VectorBits.{VectorBits}
use Rattle.flat_scopes.specs.declared.range.RangeError.{RangeError}
use Rattle.flat_scopes.specs.declared.refusal.Refusal.TheVariants as r
use Rattle.flat_scopes.specs.declared.signal.What.{What}
use Rattle.flat_scopes.specs.declared.signal.What.TheVariants as w
use Rattle.flat_scopes.specs.Openings.{Opened, step, refuse, own_name, refused_range}
use Rattle.flat_scopes.specs.Parameters.{parameter_faults}
use Rattle.flat_scopes.specs.Ranges.{bits_of_range}
use Rattle.flat_scopes.specs.Words.{word}

-- The type: a range says which bits, and `integer` that there are 32 signed ones. A range that is refused says nothing.

abbrev pub ranged_bits : Result VectorBits RangeError → Bool → ParameterBits
ranged_bits (Ok bits) is_signed = OfRange bits is_signed
ranged_bits (Err e) is_signed = OfValue is_signed

abbrev pub vector_bits : Names → Option Range → Bool → ParameterBits
vector_bits names None is_signed = OfValue is_signed
vector_bits names (Some range) is_signed = ranged_bits (bits_of_range names (Some range)) is_signed

abbrev pub parameter_bits : Names → ParameterType → ParameterBits
parameter_bits names (Vector v) = vector_bits names v.range v.is_signed
parameter_bits names Integer = OfRange (record { width = 32; low = 0 }) true

abbrev pub refused_bits : Opened → ParameterType → Opened
refused_bits o (Vector v) = refused_range o (bits_of_range o.names v.range)
refused_bits o Integer = o

-- The value: that of the instance, which is read outside, or else that of the declaration.

abbrev pub given_value : List Given → List ℕ → Option Expr
given_value [] name = None
given_value (g ∷ more) name = if bytes_eq g.name.name name then Some g.value else given_value more name

-- an instance gives a local parameter none
abbrev pub given_for : ParameterKind → List Given → List ℕ → Option Expr
given_for Parameter given name = given_value given name
given_for Localparam given name = None

abbrev pub value_sense : (outside names : Names) → Option Expr → Expr → Sense
value_sense outside names (Some given) value = sense outside given
value_sense outside names None value = sense names value

abbrev pub value_fault : Option Expr → ConstError → Step
value_fault (Some given) e = s.RefusesGiven e
value_fault None e = s.Refuses (r.Value e)

abbrev pub declared_as : ParameterBits → Sense → Decl
declared_as (OfValue signed) a = d.Constant (word a.shape.width (own nothing a)) 0 (signed || a.shape.is_signed)
declared_as (OfRange bits signed) a = d.Constant (word bits.width (a.value nothing (assigned a bits.width) % 2 ^ bits.width)) bits.low signed

-- a value that is refused reads as 0
abbrev pub zero_as : ParameterBits → Decl
zero_as (OfValue signed) = d.Constant (word 32 0) 0 true
zero_as (OfRange bits signed) = d.Constant (word bits.width 0) bits.low signed

abbrev pub constant_name : Opened → Identifier → Decl → Option What → Opened
constant_name o id decl None = own_name o id.name w.Constant (Some decl)
constant_name o id decl (Some other) = refuse o (r.Twice id.span)

abbrev pub valued : Opened → ParameterBits → Identifier → Option Expr → Sense → Option Fault → Opened
valued o bits id given a None = constant_name o id (declared_as bits a) (o.own id.name)
valued o bits id given a (Some f) = step (constant_name o id (zero_as bits) (o.own id.name)) (value_fault given (const_error f))

abbrev pub with_value : Opened → ParameterBits → Identifier → Option Expr → Sense → Opened
with_value o bits id given a = valued o bits id given a (least (parameter_faults bits a))

abbrev pub parameter_name : Head → Names → Opened → ParameterKind → ParameterBits → ParameterAssignment → Opened
parameter_name h outside o kind bits a = with_value o bits a.name (given_for kind h.given a.name.name) (value_sense outside o.names (given_for kind h.given a.name.name) a.value)

abbrev pub parameter_names : Head → Names → Opened → ParameterKind → ParameterBits → List ParameterAssignment → Opened
parameter_names h outside o kind bits [] = o
parameter_names h outside o kind bits (a ∷ more) = parameter_names h outside (parameter_name h outside o kind bits a) kind bits more

abbrev pub parameters : Head → Names → Opened → ParameterDeclaration → Opened
parameters h outside o p = parameter_names h outside (refused_bits o p.data_type) p.kind (parameter_bits o.names p.data_type) p.assignments
