use Rattle.mutation_select.proofs.Common.{◌≤◌, length, min, rules, arith}
use Rattle.mutation_select.proofs.Firsts.{as-many, of-all, of-more}
use Rattle.mutation_select.proofs.first.first.Goals as goal

pub returns-then-size-len-clause-taken : goal.returns-then-size-len-clause-taken
returns-then-size-len-clause-taken c =
    let n = c.select_nth_unstable-first in
    of-more (λ v. v.items) c.args.size c.args.draws.items n.result.0.now n.result.1.now n.result.2.now c.numbers.result (search rules) n.ensures.front_len n.ensures.partitioned c.numbers.ensures.permutation c.numbers.ensures.sorted

pub returns-then-size-len-clause-size : goal.returns-then-size-len-clause-size
returns-then-size-len-clause-size c =
    let n = c.select_nth_unstable-first in
    let more : c.args.size ≤ length c.args.draws.items = search rules in
    as-many (λ v. v.items) (min c.args.size (length c.args.draws.items)) n.result.0.now c.numbers.result (omega (arith, n.ensures.front_len, more)) c.numbers.ensures.permutation

pub returns-clause-taken : goal.returns-clause-taken
returns-clause-taken c =
    of-all (λ v. v.items) c.args.size c.args.draws.items c.numbers-else-size-len.result (search rules) (search rules) c.numbers-else-size-len.ensures.sorted

pub returns-clause-size : goal.returns-clause-size
returns-clause-size c =
    let few : length c.args.draws.items ≤ c.args.size = search rules in
    as-many (λ v. v.items) (min c.args.size (length c.args.draws.items)) c.args.draws.items c.numbers-else-size-len.result (omega (arith, few)) (search rules)
