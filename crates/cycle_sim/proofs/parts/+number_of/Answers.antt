use Rattle.cycle_sim.proofs.Common.{◌≡◌, ℕ, ◌+◌, ◌-◌, ◌*◌, ◌%◌, ◌^◌, ◌<◌, ◌≤◌, false, List, length, take, drop, get_or, sym, ◌∙◌, ap, subst, arith, Constant, Part, part_number, total}
use Rattle.cycle_sim.proofs.PartNumbers.{Stacks, stacks, first-number, first-total}
use Rattle.cycle_sim.proofs.parts.+number_of.Goals as goal

abbrev none : Part
none = record { first = Constant false; width = 0 }

abbrev rest : List Part → List Part
rest parts = take (length parts - 1) (drop 1 parts)

both : (a b : ℕ) (parts : List Part) → 1 ≤ length parts → a < 2 ^ (get_or parts 0 none).width → b < 2 ^ total (rest parts) → total parts ≤ 128 → Stacks a b (get_or parts 0 none).width (total (rest parts))
both a b parts some la lb narrow = (let t = first-total parts none some in stacks a b (get_or parts 0 none).width (total (rest parts)) la lb (omega (arith, t, narrow)))

pub overflow_add-result : goal.overflow_add-result
overflow_add-result t c =
    let parts : List Part = c.args.parts.now in
    let s = both c.number_at-in-len1-up.result c.number_of-above.result parts (omega (arith, c.in-len1-up.len_at_least)) c.number_at-in-len1-up.ensures.fits c.number_of-above.ensures.fits c.requires.narrow in
    omega (arith, s.sum, s.small)

pub returns-in-len1-up-clause-value : goal.returns-in-len1-up-clause-value
returns-in-len1-up-clause-value t c =
    let parts : List Part = c.args.parts.now in
    let s = both c.number_at-in-len1-up.result c.number_of-above.result parts (omega (arith, c.in-len1-up.len_at_least)) c.number_at-in-len1-up.ensures.fits c.number_of-above.ensures.fits c.requires.narrow in
    s.sum
    ∙ ap (λ (x : ℕ). x + 2 ^ (get_or parts 0 none).width * c.number_of-above.result) c.number_at-in-len1-up.ensures.value
    ∙ ap (λ (x : ℕ). part_number c.args.table.now (get_or parts 0 none) + 2 ^ (get_or parts 0 none).width * x) c.number_of-above.ensures.value
    ∙ sym (first-number c.args.table.now parts none (omega (arith, c.in-len1-up.len_at_least)))

pub returns-in-len1-up-clause-fits : goal.returns-in-len1-up-clause-fits
returns-in-len1-up-clause-fits t c =
    let parts : List Part = c.args.parts.now in
    let s = both c.number_at-in-len1-up.result c.number_of-above.result parts (omega (arith, c.in-len1-up.len_at_least)) c.number_at-in-len1-up.ensures.fits c.number_of-above.ensures.fits c.requires.narrow in
    let whole : total parts ≡ (get_or parts 0 none).width + total (rest parts) = first-total parts none (omega (arith, c.in-len1-up.len_at_least)) in
    subst (λ (k : ℕ). c.number_at-in-len1-up.result + c.number_of-above.result * 2 ^ (get_or parts 0 none).width % 340282366920938463463374607431768211456 < 2 ^ k) (sym whole) (omega (arith, s.sum, s.fits))
