use Rattle.proc_muxes.proofs.Common.{arith, names_of, signals_kept, same_err, below_later, grown_nets}
use Rattle.proc_muxes.proofs.Labelling.{clear-at, match-first, match-more, match-end, label-short, lor-short}
use Rattle.proc_muxes.proofs.matching.build_match.Goals as goal

pub loop-place-init : goal.loop-place-init
loop-place-init c = match-first (names_of c.args.scope.now) c.args.selector.now.kind c.args.selector.now.size c.args.selector.now.bits c.args.labels.now c.index-labels-0.result c.args.builder.now c.build_label.new.builder c.in_ok-test.test c.index-labels-0.is c.requires.some c.in_ok-test.ensures.built c.in_ok-test.ensures.grows c.in_ok-test.ensures.one c.in_ok-test.ensures.below

pub build_label-requires-in-loop-place-clause-below : goal.build_label-requires-in-loop-place-clause-below
build_label-requires-in-loop-place-clause-below c = below_later c.args.builder.now.nets c.loop-place.builder.nets c.args.selector.now.bits (grown_nets c.args.builder.now c.loop-place.builder c.loop-place.invariant.grows) c.requires.below

pub build_label-requires-in-loop-place-clause-signals : goal.build_label-requires-in-loop-place-clause-signals
build_label-requires-in-loop-place-clause-signals c = signals_kept (names_of c.args.scope.now) c.args.builder.now c.loop-place.builder c.loop-place.invariant.grows c.requires.signals

pub build_label-requires-in-loop-place-clause-clear : goal.build_label-requires-in-loop-place-clause-clear
build_label-requires-in-loop-place-clause-clear c = clear-at (names_of c.args.scope.now) c.args.selector.now.size c.args.labels.now c.loop-place.place c.index-labels-place.result c.index-labels-place.is (omega arith) c.requires.clear

pub returns-in_err-found-clause-short : goal.returns-in_err-found-clause-short
returns-in_err-found-clause-short c = same_err c.from_residual-in_err-found.result c.in_err-found.field-0.0 _ c.from_residual-in_err-found.ensures.1 (label-short (names_of c.args.scope.now) c.args.selector.now.kind c.args.selector.now.size c.args.selector.now.bits c.args.labels.now c.loop-place.place c.index-labels-place.result c.args.builder.now c.loop-place.builder c.loop-place.test c.in_err-found.field-0.0 c.index-labels-place.is (omega arith) c.loop-place.invariant c.in_err-found.ensures.short)

pub lor_cell-requires-clause-below_a : goal.lor_cell-requires-clause-below_a
lor_cell-requires-clause-below_a c = below_later c.loop-place.builder.nets c.build_label-in-loop-place.new.builder.nets c.loop-place.test (grown_nets c.loop-place.builder c.build_label-in-loop-place.new.builder c.in_ok-found.ensures.grows) c.loop-place.invariant.below

pub returns-in_err-test-2-clause-short : goal.returns-in_err-test-2-clause-short
returns-in_err-test-2-clause-short c = same_err c.from_residual-in_err-test-2.result c.in_err-test-2.field-0.0 _ c.from_residual-in_err-test-2.ensures.1 (lor-short (names_of c.args.scope.now) c.args.selector.now.kind c.args.selector.now.size c.args.selector.now.bits c.args.labels.now c.loop-place.place c.index-labels-place.result c.args.builder.now c.loop-place.builder c.build_label-in-loop-place.new.builder c.loop-place.test c.in_ok-found.found c.in_err-test-2.field-0.0 c.index-labels-place.is (omega arith) c.loop-place.invariant c.in_ok-found.ensures.built c.in_err-test-2.ensures.short)

pub loop-place-preserved : goal.loop-place-preserved
loop-place-preserved c = match-more (names_of c.args.scope.now) c.args.selector.now.kind c.args.selector.now.size c.args.selector.now.bits c.args.labels.now c.loop-place.place c.index-labels-place.result c.args.builder.now c.loop-place.builder c.build_label-in-loop-place.new.builder c.lor_cell.new.builder c.loop-place.test c.in_ok-found.found c.in_ok-test-2.test c.index-labels-place.is (omega arith) c.in_ok-found.ensures.built c.in_ok-found.ensures.grows (rw c.first_token.ensures at c.in_ok-test-2.ensures.adds) c.in_ok-test-2.ensures.y c.loop-place.invariant

pub returns-clause-built : goal.returns-clause-built
returns-clause-built c = match-end (names_of c.args.scope.now) c.args.selector.now.kind c.args.selector.now.size c.args.selector.now.bits c.args.labels.now c.loop-place.place c.args.builder.now c.loop-place.builder c.loop-place.test (omega arith) c.loop-place.invariant

pub returns-clause-grows : goal.returns-clause-grows
returns-clause-grows c = c.loop-place.invariant.grows
