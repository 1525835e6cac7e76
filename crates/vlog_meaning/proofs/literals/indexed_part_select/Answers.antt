use Rattle.vlog_meaning.proofs.Common.{◌∙◌, ap, refl, Identifier, names_of, sense}
use Rattle.vlog_syntax.specs.declared.expr.Expr.TheVariants as v
use Rattle.vlog_meaning.proofs.Same.{literal_indexed}
use Rattle.vlog_meaning.proofs.Whole.{whole_indexed}
use Rattle.vlog_meaning.proofs.literals.indexed_part_select.Goals as goal

pub literal-requires : goal.literal-requires
literal-requires c = (whole_indexed (names_of c.args.scope.now) (v.IndexedPartSelect c.args.name.now c.args.span c.args.base c.args.width.now) c.args.name.now c.args.span c.args.base c.args.width.now refl c.requires).width

pub returns : goal.returns
returns c =
    ap (λ (i : Identifier). sense (names_of c.args.scope.now) (v.IndexedPartSelect i c.args.span c.args.base c.in_ok-width.width)) c.in_ok-copy.ensures
    ∙ literal_indexed (names_of c.args.scope.now) c.args.name.now c.args.span c.args.base c.args.width.now c.in_ok-width.width c.requires c.in_ok-width.ensures
