use Rattle.sat_solver.proofs.Common.{◌≡◌, ◌++◌, ◌∷◌, [], Some, ap, ◌∙◌, set, rules, FitsSigned, w32, to_z-of_z, variable, is_positive, AreRaised}
use Rattle.sat_solver.proofs.Kept.{kept-count, kept-assigned}
use Rattle.sat_solver.proofs.propagator.Propagator.assign.Goals as goal

pub count-requires : goal.count-requires
count-requires c =
    let fits : FitsSigned w32 c.args.l = search rules in
    rw (to_z-of_z w32 c.args.l fits) (kept-count c.requires.kept.0 c.args.self.now c.args.l c.requires.kept.1 c.requires.within c.requires.open)

pub returns-clause-kept : goal.returns-clause-kept
returns-clause-kept c clauses kept =
    let fits : FitsSigned w32 c.args.l = search rules in
    let values : c.assign.new.self.values.items ≡ set c.args.self.now.trail.values.items (variable c.args.l) (Some (is_positive c.args.l)) = rw (to_z-of_z w32 c.args.l fits) at c.in_ok-assign.ensures.values in
    let literals : c.assign.new.self.literals.items ≡ c.args.self.now.trail.literals.items ++ c.args.l ∷ [] = rw (to_z-of_z w32 c.args.l fits) at c.in_ok-assign.ensures.literals in
    let raised : AreRaised c.args.l c.args.self.now.occurrences c.args.self.now.counts c.count.new.self.counts = rw (to_z-of_z w32 c.args.l fits) at c.count.ensures.counted in
    kept-assigned clauses c.args.self.now c.count.new.self c.args.l c.args.reason kept c.requires.within c.requires.open
    (record { values = ap (λ t. t.values.items) c.count.ensures.trail ∙ values; literals = ap (λ t. t.literals.items) c.count.ensures.trail ∙ literals; reasons = ap (λ t. t.reasons.items) c.count.ensures.trail ∙ c.in_ok-assign.ensures.reasons })
    (ap (λ t. t.starts.items) c.count.ensures.trail ∙ ap (λ v. v.items) c.assign.ensures.starts)
    (record { occurrences = c.count.ensures.steady.occurrences; taken = c.count.ensures.steady.taken; head = c.count.ensures.steady.head; watches = c.count.ensures.steady.watches })
    raised
