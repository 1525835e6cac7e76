use Rattle.lrat_checker.proofs.Common.{◌≡◌, ◌<◌, ℤ, pos, true, false, length, get_or, sym, subst, arith, rules, FitsSigned, Contains, w32, nat_tests, to_z-of_z, Contains-get_or}
use Rattle.lrat_checker.proofs.guards.Guards.add.Goals as goal

pub returns-then-is_empty-clause-ok : goal.returns-then-is_empty-clause-ok
returns-then-is_empty-clause-ok c = λ lemmas count guarded all n h. absurd (let wrong : false ≡ true = all in cc)

pub returns-then-is_empty-clause-kept : goal.returns-then-is_empty-clause-kept
returns-then-is_empty-clause-kept c = λ lemmas guarded all n h. absurd (let wrong : false ≡ true = all in cc)

pub returns-clause-ok : goal.returns-clause-ok
returns-clause-ok c = λ lemmas count guarded.
    let fits : FitsSigned w32 (get_or c.args.lemma.now 0 (pos 0)) = search rules in
    let within : 0 < length c.args.lemma.now = grind (arith, nat_tests) in
    let P : ℤ → Type 0 = Contains c.args.lemma.now in
    c.put.ensures.ok lemmas c.args.lemma.now count (subst P (sym (to_z-of_z w32 (get_or c.args.lemma.now 0 (pos 0)) fits)) (Contains-get_or c.args.lemma.now 0 (pos 0) within)) guarded
