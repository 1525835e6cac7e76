use Rattle.elab_items.proofs.Common.{List, sym, subst, refl, arith, Store, Widths, widths_in, StartsWith, flat_of, FlatItem, AllStart, CanStart, started, starts_from}
use Rattle.elab_items.proofs.Standing.{rest_is}
use Rattle.elab_items.proofs.Starting.{last_started, rest_started, same_starts, same_widths, starts_stand}
use Rattle.elab_items.proofs.start.set_starts.Goals as goal
use Rattle.process_cells.proofs.Starting.{same_others}

pub set_item-requires : goal.set_item-requires
set_item-requires c = starts_stand (flat_of c.args.flat.now).places c.args.builder.now c.loop-rest.builder c.loop-rest.invariant.others c.requires

pub loop-rest-init : goal.loop-rest-init
loop-rest-init c = record { others = same_starts c.args.builder.now; starts = λ new h. h }

pub loop-rest-preserved : goal.loop-rest-preserved
loop-rest-preserved c =
    let split = rest_is c.loop-rest.rest.now c.item-item.result _ c.in-len1-up.len_at_least c.item-item.is refl in
    let places = (flat_of c.args.flat.now).places in
    let first = c.args.builder.now in
    let old = c.loop-rest.builder in
    let mid = c.set_item.new.builder in
    let width = widths_in first in
    let item = c.item-item.result in
    let one = subst (λ (w : Widths). (store : Store) → CanStart w places item → StartsWith old store → StartsWith mid (started w places item store)) (same_widths first old c.loop-rest.invariant.others) c.in_ok-set_item.ensures.starts in
    record {
      others = same_others first old mid c.loop-rest.invariant.others c.in_ok-set_item.ensures.others;
      starts = λ new h. c.loop-rest.invariant.starts new (subst (λ (l : List FlatItem). (store : Store) → AllStart width places l → StartsWith old store → StartsWith new (starts_from width places l store)) (sym split) (rest_started places width item _ old mid new one h));
    }

pub returns-clause-starts : goal.returns-clause-starts
returns-clause-starts c =
    c.loop-rest.invariant.starts c.loop-rest.builder (last_started (flat_of c.args.flat.now).places (widths_in c.args.builder.now) c.loop-rest.rest.now c.loop-rest.builder (omega (arith, c.in_default.len_below)))
