-- Declarations (IEEE 1364-2005, A.2): what each production means, from what its parts mean.
use Rattle.std.specs.Prelude.{true, false, List, ◌∷◌, None}
use Rattle.vlog_syntax.specs.declared.item.Direction.TheVariants as di
use Rattle.vlog_syntax.specs.declared.item.DataType.{DataType}
use Rattle.vlog_syntax.specs.declared.item.DataType.TheVariants as dt
use Rattle.vlog_syntax.specs.declared.item.DeclaredName.{DeclaredName}
use Rattle.vlog_syntax.specs.declared.item.ParameterKind.{ParameterKind}
use Rattle.vlog_syntax.specs.declared.item.ParameterKind.TheVariants as pk
use Rattle.vlog_syntax.specs.declared.item.ParameterType.TheVariants as pt
use Rattle.vlog_syntax.specs.declared.item.Item.TheVariants as i
use Rattle.vlog_syntax.specs.declared.item.PlainItem.{PlainItem}
use Rattle.vlog_syntax.specs.declared.item.PlainItem.TheVariants as p
use Rattle.vlog_grammar.specs.declared.rule.Rule.{Rule}
use Rattle.vlog_grammar.specs.declared.rule.Rule.TheVariants as r
use Rattle.vlog_parts.specs.declared.value.Value.{Value}
use Rattle.vlog_parts.specs.declared.value.Value.TheVariants as v
use Rattle.vlog_declarations.specs.Modules.{made_module}
use Rattle.vlog_parts.specs.Numbered.{first, second, third, fourth}
use Rattle.vlog_parts.specs.Values.{span_of, identifier_of, expr_of, option_expr_of, range_of, vector_of, declared_of, declareds_of, parameter_type_of, parameter_of, parameters_of, output_names_of}

abbrev pub plain : PlainItem → Value
plain item = v.Item (i.Plain item)

-- a declaration of parameters
abbrev pub parameters : ParameterKind → List Value → Value
parameters kind ms = plain (p.ParameterDeclaration (record { span = span_of (first ms); kind = kind; data_type = parameter_type_of (second ms); assignments = parameter_of (third ms) ∷ parameters_of (fourth ms) }))

-- a declaration of nets or variables
abbrev pub declaration : Value → DataType → List DeclaredName → Value
declaration x type names = plain (p.DataDeclaration (record { span = span_of x; data_type = type; names = names }))

unfoldable pub made_declaration : Rule → List Value → Value
made_declaration r.UnsignedRange ms = v.Vector (record { is_signed = false; range = range_of (first ms) })
made_declaration r.SignedRange ms = v.Vector (record { is_signed = true; range = range_of (second ms) })
made_declaration r.SomeRange ms = v.Range (record { span = span_of (first ms); msb = expr_of (second ms); lsb = expr_of (fourth ms) })
made_declaration r.NameDeclared ms = v.DeclaredName (record { name = identifier_of (first ms); initial = None })
made_declaration r.NextDeclaredName ms = v.DeclaredNames (declared_of (second ms) ∷ declareds_of (third ms))
made_declaration r.VariableDeclared ms = v.DeclaredName (record { name = (declared_of (first ms)).name; initial = option_expr_of (second ms) })
made_declaration r.NextVariable ms = v.DeclaredNames (declared_of (second ms) ∷ declareds_of (third ms))
made_declaration r.VectorParameter ms = v.ParameterType (pt.Vector (vector_of (first ms)))
made_declaration r.IntegerParameter ms = v.ParameterType pt.Integer
made_declaration r.ParamAssigned ms = v.Parameter (record { name = (declared_of (first ms)).name; value = expr_of (third ms) })
made_declaration r.NextParamAssignment ms = v.Parameters (parameter_of (second ms) ∷ parameters_of (third ms))
made_declaration r.OutputNet ms = v.OutputNames (record { data_type = dt.Wire (vector_of (first ms)); names = declared_of (second ms) ∷ declareds_of (third ms) })
made_declaration r.OutputReg ms = v.OutputNames (record { data_type = dt.Reg (vector_of (second ms)); names = declared_of (third ms) ∷ declareds_of (fourth ms) })
made_declaration r.OutputInteger ms = v.OutputNames (record { data_type = dt.Integer; names = declared_of (second ms) ∷ declareds_of (third ms) })
made_declaration r.InputDeclaration ms = plain (p.PortDeclaration (record { span = span_of (first ms); direction = di.Input; data_type = dt.Wire (vector_of (second ms)); names = declared_of (third ms) ∷ declareds_of (fourth ms) }))
made_declaration r.OutputDeclaration ms = plain (p.PortDeclaration (record { span = span_of (first ms); direction = di.Output; data_type = (output_names_of (second ms)).data_type; names = (output_names_of (second ms)).names }))
made_declaration r.ParameterDeclaration ms = parameters pk.Parameter ms
made_declaration r.LocalParameterDeclaration ms = parameters pk.Localparam ms
made_declaration r.NetDeclaration ms = declaration (first ms) (dt.Wire (vector_of (second ms))) (declared_of (third ms) ∷ declareds_of (fourth ms))
made_declaration r.RegDeclaration ms = declaration (first ms) (dt.Reg (vector_of (second ms))) (declared_of (third ms) ∷ declareds_of (fourth ms))
made_declaration r.IntegerDeclaration ms = declaration (first ms) dt.Integer (declared_of (second ms) ∷ declareds_of (third ms))
made_declaration r.GenvarDeclaration ms = plain (p.GenvarDeclaration (span_of (first ms)) (declared_of (second ms) ∷ declareds_of (third ms)))
made_declaration rule ms = made_module rule ms
