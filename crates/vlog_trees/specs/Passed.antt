-- Productions that mean what one of their parts means.
use Rattle.std.specs.Prelude.{List}
use Rattle.vlog_grammar.specs.declared.rule.Rule.{Rule}
use Rattle.vlog_grammar.specs.declared.rule.Rule.TheVariants as r
use Rattle.vlog_parts.specs.declared.value.Value.{Value}
use Rattle.vlog_parts.specs.Numbered.{first, second, third}
use Rattle.vlog_statements.specs.Statements.{made_statement}

unfoldable pub made_passed : Rule → List Value → Value
made_passed r.StatementWithAttributes ms = second ms
made_passed r.SomeElse ms = second ms
made_passed r.EventInParens ms = second ms
made_passed r.SomeTaskArguments ms = second ms
made_passed r.ImplicitNet ms = first ms
made_passed r.ExplicitNet ms = second ms
made_passed r.SomeInitialValue ms = second ms
made_passed r.ModuleOrGenerateItem ms = first ms
made_passed r.SomeGenerate ms = first ms
made_passed r.GenerateOneItem ms = second ms
made_passed r.SomeGenerateElse ms = second ms
made_passed r.SomeBlockName ms = second ms
made_passed r.SomeParameterValues ms = third ms
made_passed r.SomePortList ms = second ms
made_passed r.AnsiPortDeclaration ms = second ms
made_passed r.NextNetPort ms = second ms
made_passed r.NextVariablePort ms = second ms
made_passed rule ms = made_statement rule ms
