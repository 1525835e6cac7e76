use Rattle.process_latches.proofs.Common.{◌∙◌, ap, sym, lesser}
use Rattle.process_latches.proofs.Mixing.{firsts_skip, firsts_more}
use Rattle.process_latches.proofs.mixed.note.Goals as goal

pub returns-then-not-same_kind : goal.returns-then-not-same_kind
returns-then-not-same_kind c = λ ws h. firsts_skip ws c.args.write c.args.is_blocking c.args.firsts.now (sym c.same_kind.ensures ∙ c.if-not-same_kind.true) h

pub returns-in-Ok : goal.returns-in-Ok
returns-in-Ok c = λ ws h. firsts_more ws c.args.write c.args.is_blocking c.args.firsts.now c.insert.new.self c.lesser-place.result (sym c.same_kind.ensures ∙ c.if-not-same_kind.false) (c.lesser-place.ensures ∙ ap (lesser c.args.write.first) (c.copied.ensures ∙ c.get.ensures.value)) c.in-Ok.ensures.updates h
