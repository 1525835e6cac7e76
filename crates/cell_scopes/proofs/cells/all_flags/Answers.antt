use Rattle.cell_scopes.proofs.Common.{◌≡◌, length, refl, sym, ap, ◌∙◌, arith, flat_of, widths_in, rest_is, is_within_some}
use Rattle.cell_scopes.proofs.Counted.{flags_first, flags_last, flags_next}
use Rattle.cell_scopes.proofs.cells.all_flags.Goals as goal

pub loop-rest-init : goal.loop-rest-init
loop-rest-init c =
    let none : length c.new-flags.result.items ≡ 0 = ap length c.new-flags.ensures.items in
    record {
      stands = c.requires.stands;
      serves = c.requires.serves;
      widths = c.requires.widths;
      each = none ∙ sym (ap length c.requires.none);
      are = flags_first (is_within_some c.args.instances.now) (flat_of c.args.flat.now) c.items-rest.result.now c.new-flags.result.items c.new-flags.ensures.items c.items-rest.ensures;
    }

pub loop-rest-preserved : goal.loop-rest-preserved
loop-rest-preserved c =
    let split = rest_is c.loop-rest.rest.now c.item-item.result _ c.in-len1-up.len_at_least c.item-item.is refl in
    let flat = flat_of c.args.flat.now in
    let done = c.in_ok-add_next.ensures in
    let old = c.loop-rest.invariant in
    record {
      stands = done.stands;
      serves = done.serves;
      widths = done.widths ∙ old.widths;
      each = done.each;
      are = flags_next c.args.instances.now flat (widths_in c.loop-rest.builder) c.loop-rest.rest.now c.item-item.result _ c.loop-rest.flags.items c.add_next.new.flags.items _ old.widths split done.flags old.are;
    }

pub returns : goal.returns
returns c = flags_last (is_within_some c.args.instances.now) (flat_of c.args.flat.now) c.loop-rest.rest.now c.loop-rest.flags.items _ (omega (arith, c.in_default.len_below)) c.loop-rest.invariant.are
