use Rattle.flat_clocks.proofs.Common.{IfOk-weaker, out-LeftSide, names_of, name_alone}
use Rattle.flat_clocks.proofs.Hiding.{named_hidden}
use Rattle.flat_clocks.proofs.names.with_variable.Goals as goal

pub returns-in-Some : goal.returns-in-Some
returns-in-Some c = IfOk-weaker c.with_name.result _ _ (λ v h. named_hidden (names_of c.args.variables.now) (names_of v) _ c.in-Some.name.now _ (name_alone (out-LeftSide c.args.left.now)) c.in-Some.ensures c.as_str.ensures h) c.with_name.ensures
