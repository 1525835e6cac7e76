use Rattle.tb_checks.proofs.Common.{◌≡◌, take, names_of, senses, all_features, least}
use Rattle.tb_checks.proofs.features.+feature.Given as goal

abbrev pub invariant-feature_in_all-loop-expr : goal.invariant-feature_in_all-loop-expr
invariant-feature_in_all-loop-expr l = l.found ≡ least (all_features (senses (names_of l.scope) (take l.expr-index l.exprs)))
