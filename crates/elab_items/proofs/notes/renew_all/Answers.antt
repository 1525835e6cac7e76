use Rattle.elab_items.proofs.Common.{◌∙◌, get_or, refl, arith}
use Rattle.elab_items.proofs.Renewing.{more_renewed}
use Rattle.elab_items.proofs.notes.renew_all.Goals as goal

pub loop-number-preserved : goal.loop-number-preserved
loop-number-preserved c =
    let numbers = c.args.numbers.now in
    let i = c.loop-number.number-index in
    record {
      count = c.renew.ensures.count ∙ c.loop-number.invariant.count;
      renewed = more_renewed c.args.builder.now c.args.inputs.now numbers i (get_or numbers i 0) 0 c.args.written.now.items c.loop-number.written.items c.renew.new.written.items (omega arith) refl c.loop-number.invariant.renewed c.renew.ensures;
    }
