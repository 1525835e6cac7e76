use Rattle.elab_items.proofs.Common.{List, sym, subst, inr, refl, flat_of, clocks_in, FlatItem, BuildsAll, FailsSome}
use Rattle.elab_items.proofs.Standing.{builds_stand, rest_is}
use Rattle.elab_items.proofs.items.build_items.Goals as goal

pub loop-rest-preserved : goal.loop-rest-preserved
loop-rest-preserved c =
    let split = rest_is c.loop-rest.rest.now c.item-item.result _ c.in-len1-up.len_at_least c.item-item.is refl in
    let flat = flat_of c.args.flat.now in
    let clocks = clocks_in c.args.clocks.now in
    let inputs = c.args.inputs.now in
    let old = c.loop-rest.builder in
    let mid = c.build_timed.new.builder in
    record {
      stands = builds_stand inputs flat.places c.item-item.result old mid c.in_ok-build_timed.ensures.built.builds c.loop-rest.invariant.stands;
      serves = c.in_ok-build_timed.ensures.serves;
      built = λ new h. c.loop-rest.invariant.built new (subst (λ (l : List FlatItem). BuildsAll inputs flat clocks l old new) (sym split) (mid, c.in_ok-build_timed.ensures.built, h));
      fails = λ error h. c.loop-rest.invariant.fails error (subst (λ (l : List FlatItem). FailsSome inputs flat clocks l old error) (sym split) (inr (mid, c.in_ok-build_timed.ensures.built, h)));
    }
