use Rattle.cycle_sim.proofs.Common.{◌*◌, ◌^◌, ◌<◌, get_or, inl, inr, arith, cases_lt}
use Rattle.cycle_sim.proofs.Marking.{whole-word, first-before, first-is}
use Rattle.cycle_sim.proofs.marks.first_marked.Goals as goal

pub returns-then-marks-at-ne0-clause-between : goal.returns-then-marks-at-ne0-clause-between
returns-then-marks-at-ne0-clause-between c = λ k le less. elim (cases_lt k (64 * c.loop-at.at)) [
  | inl before ↦ c.loop-at.invariant k le before
  | inr past ↦
      (let fits : get_or c.args.marks.now c.loop-at.at 0 < 2 ^ 64 = omega (arith, c.type_inv.marks c.loop-at.at) in
      let word = whole-word c.args.marks.now c.loop-at.at fits in
      first-before c.args.marks.now (64 * c.loop-at.at) (get_or c.args.marks.now c.loop-at.at 0) word.0 word.1 (omega (arith, c.if-marks-at-ne0.true)) fits k past less)
]

pub returns-then-marks-at-ne0-clause-marked : goal.returns-then-marks-at-ne0-clause-marked
returns-then-marks-at-ne0-clause-marked c = λ inside.
    let fits : get_or c.args.marks.now c.loop-at.at 0 < 2 ^ 64 = omega (arith, c.type_inv.marks c.loop-at.at) in
    let word = whole-word c.args.marks.now c.loop-at.at fits in
    first-is c.args.marks.now (64 * c.loop-at.at) (get_or c.args.marks.now c.loop-at.at 0) word.0 word.1 (omega (arith, c.if-marks-at-ne0.true)) fits
