use Rattle.vlog_meaning.proofs.Common.{◌≡◌, ◌-◌, ◌+◌, ◌∙◌, sym, refl, arith, clog2_from}
use Rattle.vlog_meaning.proofs.Powers.{power_fits}
use Rattle.vlog_meaning.proofs.Joins.{clog2_more, clog2_there, clog2_begins}
use Rattle.vlog_meaning.proofs.integer.clog2.Goals as goal
use Rattle.vlog_meaning.proofs.integer.clog2.Goals.{then-loop-places-test+else-value-pow, else-loop-places-test}

pub pow-requires : goal.pow-requires
pow-requires c = power_fits c.loop-places.places (omega arith)

pub loop-places-init : goal.loop-places-init
loop-places-init c = record { small = omega arith; same = clog2_begins c.args.value }

pub loop-places-preserved : goal.loop-places-preserved
loop-places-preserved c = record {
  small = omega arith;
  same = sym (clog2_more (128 - c.loop-places.places) (128 - (c.loop-places.places + 1)) c.loop-places.places c.args.value (omega arith) (omega arith)) ∙ c.loop-places.invariant.same;
}

pub returns-clause-value : goal.returns-clause-value
returns-clause-value c = c.from.ensures ∙ elim c.loop-places-test.branch [
  | then-loop-places-test+else-value-pow w ↦ sym (clog2_there (128 - c.loop-places.places) c.loop-places.places c.args.value (omega arith)) ∙ c.loop-places.invariant.same
  | else-loop-places-test w ↦ (let last : c.loop-places.places ≡ 128 = omega arith in let none : 128 - c.loop-places.places ≡ 0 = omega arith in (let e : clog2_from (128 - c.loop-places.places) c.loop-places.places c.args.value ≡ c.loop-places.places = rw none refl in sym e) ∙ c.loop-places.invariant.same)
]
