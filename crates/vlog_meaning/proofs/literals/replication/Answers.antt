use Rattle.vlog_meaning.proofs.Common.{refl, names_of}
use Rattle.vlog_syntax.specs.declared.expr.Expr.TheVariants as v
use Rattle.vlog_meaning.proofs.Same.{literal_times}
use Rattle.vlog_meaning.proofs.Whole.{whole_times}
use Rattle.vlog_meaning.proofs.literals.replication.Goals as goal

pub literal-requires : goal.literal-requires
literal-requires c = (whole_times (names_of c.args.scope.now) (v.MultipleConcatenation c.args.span c.args.count.now c.args.parts) c.args.span c.args.count.now c.args.parts refl c.requires).times

pub returns : goal.returns
returns c = literal_times (names_of c.args.scope.now) c.args.span c.args.count.now c.in_ok-count.count c.args.parts c.requires c.in_ok-count.ensures
