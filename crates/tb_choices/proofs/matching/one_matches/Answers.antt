use Rattle.tb_choices.proofs.Common.{ℕ, ap, ◌∙◌, arith, names_of, store_of, within_at, Matching, agrees}
use Rattle.tb_choices.proofs.Matches.{label_hit, label_miss, labels_end}
use Rattle.tb_choices.proofs.matching.one_matches.Goals as goal

pub evaluate-requires-clause-context : goal.evaluate-requires-clause-context
evaluate-requires-clause-context c = within_at (names_of c.args.moment.now.scope.now) c.args.size c.args.labels.now c.loop-label.label-index c.label-item.result c.label-item.is c.loop-label-test.true c.requires.within

pub returns-then-agrees : goal.returns-then-agrees
returns-then-agrees c =
    let m : Matching = record { names = names_of c.args.moment.now.scope.now; phase = c.args.moment.now.phase; kind = c.args.kind; store = store_of c.args.moment.now.store.now; size = c.args.size } in
    label_hit m c.args.value c.args.labels.now c.loop-label.label-index c.label-item.result c.bits.result c.agrees.result c.loop-label.words c.evaluate.new.words _ c.label-item.is c.loop-label-test.true
    (ap (λ (n : ℕ). (n, c.evaluate.new.words)) c.bits.ensures.bits ∙ c.in_ok-word.ensures.value)
    (c.agrees.ensures ∙ ap (λ (n : ℕ). agrees n c.args.value c.bits.result) c.dont_care.ensures)
    c.if-agrees.true
    c.loop-label.invariant

pub loop-label-preserved : goal.loop-label-preserved
loop-label-preserved c =
    let m : Matching = record { names = names_of c.args.moment.now.scope.now; phase = c.args.moment.now.phase; kind = c.args.kind; store = store_of c.args.moment.now.store.now; size = c.args.size } in
    label_miss m c.args.value c.args.labels.now c.loop-label.label-index c.label-item.result c.bits.result c.agrees.result c.loop-label.words c.evaluate.new.words _ c.label-item.is c.loop-label-test.true
    (ap (λ (n : ℕ). (n, c.evaluate.new.words)) c.bits.ensures.bits ∙ c.in_ok-word.ensures.value)
    (c.agrees.ensures ∙ ap (λ (n : ℕ). agrees n c.args.value c.bits.result) c.dont_care.ensures)
    c.if-agrees.false
    c.loop-label.invariant

pub returns : goal.returns
returns c =
    let m : Matching = record { names = names_of c.args.moment.now.scope.now; phase = c.args.moment.now.phase; kind = c.args.kind; store = store_of c.args.moment.now.store.now; size = c.args.size } in
    labels_end m c.args.value c.args.labels.now c.loop-label.label-index c.loop-label.words _ (omega arith) c.loop-label.invariant
