use Rattle.vlog_meaning.proofs.Common.{subst, sym, Expr, IsLiteral, names_of, sense}
use Rattle.std.proofs.lemmas.Result.{IfOk-weaker}
use Rattle.vlog_meaning.proofs.Same.{literal_number}
use Rattle.vlog_meaning.proofs.literals.literal.Goals as goal

pub returns : goal.returns
returns c =
    let P : Expr → Type 0 = λ x. IsLiteral (sense (names_of c.args.scope.now) x) (sense (names_of c.args.scope.now) c.args.expr.now) in
    let this = literal_number (names_of c.args.scope.now) c.args.expr.now c.number.result c.own_of-own.result.shape c.own_of-own.result.value c.number.ensures.width c.number.ensures.bits c.number.ensures.sign c.own_of-own.ensures.shape c.own_of-own.ensures.value in
    IfOk-weaker c.new.result _ _ (λ x h. subst P (sym h) this) c.new.ensures
