use Rattle.vlog_meaning.proofs.Common.{◌∙◌, ap, refl, Identifier, names_of, sense}
use Rattle.vlog_syntax.specs.declared.expr.Expr.TheVariants as v
use Rattle.vlog_meaning.proofs.Same.{literal_part}
use Rattle.vlog_meaning.proofs.Whole.{whole_part}
use Rattle.vlog_meaning.proofs.literals.part_select.Goals as goal

pub literal-requires : goal.literal-requires
literal-requires c = (whole_part (names_of c.args.scope.now) (v.PartSelect c.args.name.now c.args.span c.args.msb.now c.args.lsb.now) c.args.name.now c.args.span c.args.msb.now c.args.lsb.now refl c.requires).msb

pub literal-requires-2 : goal.literal-requires-2
literal-requires-2 c = (whole_part (names_of c.args.scope.now) (v.PartSelect c.args.name.now c.args.span c.args.msb.now c.args.lsb.now) c.args.name.now c.args.span c.args.msb.now c.args.lsb.now refl c.requires).lsb

pub returns : goal.returns
returns c =
    ap (λ (i : Identifier). sense (names_of c.args.scope.now) (v.PartSelect i c.args.span c.in_ok-msb.msb c.in_ok-lsb.lsb)) c.in_ok-copy.ensures
    ∙ literal_part (names_of c.args.scope.now) c.args.name.now c.args.span c.args.msb.now c.args.lsb.now c.in_ok-msb.msb c.in_ok-lsb.lsb c.requires c.in_ok-msb.ensures c.in_ok-lsb.ensures
