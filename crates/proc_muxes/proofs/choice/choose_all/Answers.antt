use Rattle.proc_muxes.proofs.Common.{refl, work}
use Rattle.proc_muxes.proofs.Muxing.{rest-more, count-more}
use Rattle.proc_muxes.proofs.choice.choose_all.Goals as goal

pub loop-rest-preserved : goal.loop-rest-preserved
loop-rest-preserved c = record {
  places = c.in_ok-choose_one.ensures.places;
  count = count-more c.loop-rest.rest.now _ _ _ _ c.in-len1-up.len_at_least refl c.in_ok-choose_one.ensures.cells c.loop-rest.invariant.count;
  left = rest-more c.args.at c.args.test.now c.args.choices.now c.loop-rest.rest.now (work c.args.builder.now c.args.variables.now) (work c.loop-rest.builder c.loop-rest.variables) (work c.choose_one.new.builder c.choose_one.new.variables) c.choice-item.result _ c.in-len1-up.len_at_least c.choice-item.is refl c.loop-rest.invariant.left c.in_ok-choose_one.ensures.chooses;
}
