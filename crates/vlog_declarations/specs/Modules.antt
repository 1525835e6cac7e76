-- Modules (IEEE 1364-2005, A.1): what each production means, from what its parts mean.
use Rattle.std.specs.Prelude.{List, [], ◌∷◌}
use Rattle.vlog_syntax.specs.declared.item.Direction.TheVariants as di
use Rattle.vlog_syntax.specs.declared.item.DataType.{DataType}
use Rattle.vlog_syntax.specs.declared.item.DataType.TheVariants as dt
use Rattle.vlog_syntax.specs.declared.item.ParameterKind.TheVariants as pk
use Rattle.vlog_syntax.specs.declared.item.Ports.TheVariants as po
use Rattle.vlog_grammar.specs.declared.rule.Rule.{Rule}
use Rattle.vlog_grammar.specs.declared.rule.Rule.TheVariants as r
use Rattle.vlog_parts.specs.declared.value.Value.{Value}
use Rattle.vlog_parts.specs.declared.value.Value.TheVariants as v
use Rattle.vlog_parts.specs.declared.module_parts.ParameterPort.{ParameterPort}
use Rattle.vlog_parts.specs.declared.module_parts.ParameterPort.TheVariants as pp
use Rattle.vlog_parts.specs.declared.module_parts.MoreParameters.{MoreParameters}
use Rattle.vlog_parts.specs.declared.module_parts.MorePorts.{MorePorts}
use Rattle.vlog_parts.specs.Numbered.{first, rest, second, third, fourth, fifth, sixth, eighth}
use Rattle.vlog_parts.specs.Values.{span_of, identifier_of, identifiers_of, vector_of, declared_of, parameter_type_of, parameter_of, items_of, modules_of, parameter_ports_of, parameter_port_of, more_parameters_of, port_list_of, declarations_of, more_ports_of, output_ports_of}

-- A parameter in front of those behind it. One with `parameter` begins a declaration of its own.
unfoldable pub joined : ParameterPort → MoreParameters → MoreParameters
joined (pp.Next x) more = record { same = x ∷ more.same; others = more.others }
joined (pp.First place type x) more = record { same = []; others = record { span = place; kind = pk.Parameter; data_type = type; assignments = x ∷ more.same } ∷ more.others }

-- a port in front of those behind it
abbrev pub front : List Value → MorePorts
front ms = record { same = declared_of (first ms) ∷ (more_ports_of (second ms)).same; others = (more_ports_of (second ms)).others }

-- outputs of one type, and the declarations behind them
abbrev pub outputs : DataType → List Value → Value
outputs type ms = v.OutputPorts (record { data_type = type; names = (front ms).same; others = (front ms).others })

unfoldable pub made_module : Rule → List Value → Value
made_module r.ModuleDeclaration ms = v.Modules (record { name = (identifier_of (second ms)).name; span = (identifier_of (second ms)).span; parameters = parameter_ports_of (third ms); ports = port_list_of (fourth ms); items = items_of (sixth ms) } ∷ modules_of (eighth ms))
made_module r.ParameterPortList ms = v.ParameterDeclarations (joined (pp.First (span_of (third ms)) (parameter_type_of (fourth ms)) (parameter_of (fifth ms))) (more_parameters_of (sixth ms))).others
made_module r.NextParameterPort ms = v.MoreParameters (joined (parameter_port_of (second ms)) (more_parameters_of (third ms)))
made_module r.ParameterPortDeclaration ms = v.ParameterPort (pp.First (span_of (first ms)) (parameter_type_of (second ms)) (parameter_of (third ms)))
made_module r.ParameterPortAssignment ms = v.ParameterPort (pp.Next (parameter_of (first ms)))
made_module r.PortReferences ms = v.Ports (po.Names (identifier_of (first ms) ∷ identifiers_of (second ms)))
made_module r.PortDeclarations ms = v.Ports (po.Declarations (declarations_of (first ms)))
made_module r.NextIdentifier ms = v.Identifiers (identifier_of (second ms) ∷ identifiers_of (third ms))
made_module r.InputPorts ms = v.PortDeclarations (record { span = span_of (first ms); direction = di.Input; data_type = dt.Wire (vector_of (second ms)); names = declared_of (third ms) ∷ (more_ports_of (fourth ms)).same } ∷ (more_ports_of (fourth ms)).others)
made_module r.OutputPorts ms = v.PortDeclarations (record { span = span_of (first ms); direction = di.Output; data_type = (output_ports_of (second ms)).data_type; names = (output_ports_of (second ms)).names } ∷ (output_ports_of (second ms)).others)
made_module r.OutputNetPorts ms = outputs (dt.Wire (vector_of (first ms))) (rest ms)
made_module r.OutputRegPorts ms = outputs (dt.Reg (vector_of (second ms))) (rest (rest ms))
made_module r.OutputIntegerPorts ms = outputs dt.Integer (rest ms)
made_module r.NetPortName ms = v.MorePorts (front ms)
made_module r.NetPortDeclaration ms = v.MorePorts (record { same = []; others = declarations_of (first ms) })
made_module r.VariablePortName ms = v.MorePorts (front ms)
made_module r.VariablePortDeclaration ms = v.MorePorts (record { same = []; others = declarations_of (first ms) })
-- the others mean nothing
made_module _ ms = v.Nothing
