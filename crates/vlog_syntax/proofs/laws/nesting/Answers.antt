use Rattle.std.proofs.Common.{arith}
use Rattle.vlog_syntax.specs.declared.item.Item.TheVariants as items
use Rattle.std.proofs.Common.{None}
use Rattle.vlog_syntax.proofs.NestLemmas.{expr_nest-binary, expr_nest-arguments, expr_nest-no_arguments, stmt_nest-block, block_nest-if, block_nest-null}
use Rattle.vlog_syntax.proofs.laws.nesting.Goals as goal

pub returns-clause-operator : goal.returns-clause-operator
returns-clause-operator c = expr_nest-binary

pub returns-clause-call : goal.returns-clause-call
returns-clause-call c = expr_nest-arguments

pub returns-clause-no_arguments : goal.returns-clause-no_arguments
returns-clause-no_arguments c = expr_nest-no_arguments

pub returns-clause-block : goal.returns-clause-block
returns-clause-block c = λ at body. stmt_nest-block at None body

pub returns-clause-no_block : goal.returns-clause-no_block
returns-clause-no_block c = λ at x. let e = block_nest-if at x (items.NullGenerate at) in let z = block_nest-null at in omega (arith, e, z)
