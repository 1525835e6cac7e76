use Rattle.lrat_checker.proofs.Common.{take, drop, IsModel, Log, subst}
use Rattle.lrat_checker.proofs.Sound.{log-true}
use Rattle.lrat_checker.proofs.checker.Checker.store.Goals as goal

pub returns-clause-sound : goal.returns-clause-sound
returns-clause-sound c = λ values.
    let P : Log → Type 0 = λ log. IsModel values log.clauses → IsModel values log.lemmas in
    subst P c.self.view_is (log-true values (take c.self.inside.clauses c.self.inside.store) c.self.inside.free (drop c.self.inside.clauses c.self.inside.store) c.self.invariant.legal)
