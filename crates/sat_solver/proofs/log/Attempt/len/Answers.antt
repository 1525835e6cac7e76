use Rattle.sat_solver.proofs.Common.{◌≡◌, ◌<◌, ◌^◌, length, ap, arith, Log}
use Rattle.sat_solver.proofs.Bound.{short_log}
use Rattle.sat_solver.proofs.log.Attempt.len.Goals as goal

pub returns-clause-short : goal.returns-clause-short
returns-clause-short c =
    let small : length c.self.inside.checker.lemmas < 3 ^ c.self.inside.checker.free = short_log c.self.inside.checker.clauses c.self.inside.checker.free c.self.inside.checker.lemmas c.lemmas.ensures.legal c.self.invariant in
    let same : 3 ^ c.self.inside.checker.free ≡ 3 ^ c.args.self.now.free = ap (λ (log : Log). 3 ^ log.free) c.self.view_is in
    omega (arith, small, same, c.lemmas.ensures.number)
