use Rattle.equiv_test.proofs.Common.{◌≡◌, sym, subst, IsModel, Log, EndsEmpty}
use Rattle.equiv_test.proofs.turning.refutation.Goals as goal

pub returns-clause-unsatisfiable : goal.returns-clause-unsatisfiable
returns-clause-unsatisfiable c = λ values model.
    let same : c.into_checker-checker.result ≡ c.args.search.log = c.into_checker-checker.ensures in
    c.refuted-refuted.ensures.unsatisfiable values
    (c.refuted-refuted.ensures.empty.1 (subst (λ (l : Log). EndsEmpty l.lemmas) (sym same) c.requires))
    (subst (λ (l : Log). IsModel values l.clauses) (sym same) model)
