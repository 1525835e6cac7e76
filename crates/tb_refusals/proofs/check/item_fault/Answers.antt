use Rattle.tb_refusals.proofs.Common.{ap, subst, ◌∙◌, IsFirst, Written, writer_faults, written_of, own_item_faults, written, context_of}
use Rattle.tb_refusals.proofs.Notes.{seen_more}
use Rattle.tb_refusals.proofs.check.item_fault.Goals as goal

pub returns-clause-fault : goal.returns-clause-fault
returns-clause-fault c = λ before has.
    let k = context_of c.args.context in
    let behind = subst (λ (w : Written). IsFirst (writer_faults k.names w c.args.item.now) c.in_ok-written.written) has.writes c.in_ok-written.ensures.fault in
    c.earlier.ensures.joined (own_item_faults k before c.args.item.now) (writer_faults k.names (written k before) c.args.item.now) (c.in_ok-own.ensures before has) behind

pub returns-clause-seen : goal.returns-clause-seen
returns-clause-seen c = λ before has. seen_more (context_of c.args.context) before c.args.item.now c.args.seen.now c.note.new.self has c.note.ensures.generator c.note.ensures.design c.note.ensures.start (ap written_of c.note.ensures.writers ∙ c.in_ok-written.ensures.written)
