use Rattle.cycle_sim.proofs.Common.{◌*◌, ◌/◌, ◌%◌, ◌^◌, ◌+◌, ◌<◌, get_or, refl, inl, inr, arith, cases_lt}
use Rattle.cycle_sim.proofs.Marking.{rest-small, none-in-word, first-before, first-is, first-inside}
use Rattle.cycle_sim.proofs.marks.next_marked.Goals as goal

pub returns-then-rest-ne0-clause-range : goal.returns-then-rest-ne0-clause-range
returns-then-rest-ne0-clause-range c =
    let fits : get_or c.args.marks.now (c.args.from / 64) 0 < 2 ^ 64 = omega (arith, c.type_inv.marks (c.args.from / 64)) in
    let inside = first-inside c.args.marks.now c.args.from (get_or c.args.marks.now (c.args.from / 64) 0 / 2 ^ (c.args.from % 64)) fits refl (omega (arith, c.if-rest-ne0.true)) (rest-small (get_or c.args.marks.now (c.args.from / 64) 0) (c.args.from % 64) fits) (omega (arith, c.if-word-marks.false)) in
    (omega arith, omega (arith, inside))

pub returns-then-rest-ne0-clause-between : goal.returns-then-rest-ne0-clause-between
returns-then-rest-ne0-clause-between c =
    let fits : get_or c.args.marks.now (c.args.from / 64) 0 < 2 ^ 64 = omega (arith, c.type_inv.marks (c.args.from / 64)) in
    first-before c.args.marks.now c.args.from (get_or c.args.marks.now (c.args.from / 64) 0 / 2 ^ (c.args.from % 64)) fits refl (omega (arith, c.if-rest-ne0.true)) (rest-small (get_or c.args.marks.now (c.args.from / 64) 0) (c.args.from % 64) fits)

pub returns-then-rest-ne0-clause-marked : goal.returns-then-rest-ne0-clause-marked
returns-then-rest-ne0-clause-marked c = λ inside.
    let fits : get_or c.args.marks.now (c.args.from / 64) 0 < 2 ^ 64 = omega (arith, c.type_inv.marks (c.args.from / 64)) in
    first-is c.args.marks.now c.args.from (get_or c.args.marks.now (c.args.from / 64) 0 / 2 ^ (c.args.from % 64)) fits refl (omega (arith, c.if-rest-ne0.true)) (rest-small (get_or c.args.marks.now (c.args.from / 64) 0) (c.args.from % 64) fits)

pub returns-clause-between : goal.returns-clause-between
returns-clause-between c = λ k le less. elim (cases_lt k (64 * (c.args.from / 64 + 1))) [
  | inl here ↦
      (let fits : get_or c.args.marks.now (c.args.from / 64) 0 < 2 ^ 64 = omega (arith, c.type_inv.marks (c.args.from / 64)) in
      none-in-word c.args.marks.now c.args.from (get_or c.args.marks.now (c.args.from / 64) 0 / 2 ^ (c.args.from % 64)) fits refl (omega (arith, c.if-rest-ne0.false)) k le (omega (arith, le, here)))
  | inr past ↦ c.first_marked.ensures.between k past less
]
