use Rattle.proc_muxes.proofs.Common.{◌∙◌, sym, names_of, same_err, below_later, grown_nets, grows_again}
use Rattle.proc_muxes.proofs.Keeping.{grows-equal}
use Rattle.proc_muxes.proofs.Labelling.{kept-long, kept-stands, label-built, equal-short, equal-test}
use Rattle.proc_muxes.proofs.matching.build_label.Goals as goal

pub build_equal-requires-clause-narrow : goal.build_equal-requires-clause-narrow
build_equal-requires-clause-narrow c = (kept-long (names_of c.args.scope.now) c.args.selector.now.kind c.args.selector.now.size c.args.label.now c.args.selector.now.bits c.in_ok-left.left c.requires.clear c.requires.long (rw c.dont_care-ignored.ensures at c.in_ok-left.ensures)).1

pub build_equal-requires-clause-long : goal.build_equal-requires-clause-long
build_equal-requires-clause-long c =
    (kept-long (names_of c.args.scope.now) c.args.selector.now.kind c.args.selector.now.size c.args.label.now c.in_ok-bits.bits c.in_ok-right.right c.requires.clear c.in_ok-bits.ensures.built.long (rw c.dont_care-ignored.ensures at c.in_ok-right.ensures)).0
    ∙ sym (kept-long (names_of c.args.scope.now) c.args.selector.now.kind c.args.selector.now.size c.args.label.now c.args.selector.now.bits c.in_ok-left.left c.requires.clear c.requires.long (rw c.dont_care-ignored.ensures at c.in_ok-left.ensures)).0

pub build_equal-requires-clause-below_a : goal.build_equal-requires-clause-below_a
build_equal-requires-clause-below_a c = kept-stands c.build_expr.new.builder.nets _ _ c.args.selector.now.bits c.in_ok-left.left c.in_ok-left.ensures (below_later c.args.builder.now.nets c.build_expr.new.builder.nets c.args.selector.now.bits (grown_nets c.args.builder.now c.build_expr.new.builder c.in_ok-bits.ensures.built.grows) c.requires.below)

pub build_equal-requires-clause-below_b : goal.build_equal-requires-clause-below_b
build_equal-requires-clause-below_b c = kept-stands c.build_expr.new.builder.nets _ _ c.in_ok-bits.bits c.in_ok-right.right c.in_ok-right.ensures c.in_ok-bits.ensures.built.below

pub returns-clause-built : goal.returns-clause-built
returns-clause-built c = label-built (names_of c.args.scope.now) c.args.selector.now.kind c.args.selector.now.size c.args.selector.now.bits c.args.label.now c.args.builder.now c.build_expr.new.builder c.build_equal.new.builder c.in_ok-bits.bits c.in_ok-left.left c.in_ok-right.right c.in_ok-build_equal.field-0 c.requires.clear c.requires.long c.in_ok-bits.ensures.built c.in_ok-bits.ensures.laid (rw c.dont_care-ignored.ensures at c.in_ok-left.ensures) (rw c.dont_care-ignored.ensures at c.in_ok-right.ensures) (rw c.first_token.ensures at c.in_ok-build_equal.ensures.built)

pub returns-in_err-build_equal-clause-short : goal.returns-in_err-build_equal-clause-short
returns-in_err-build_equal-clause-short c = same_err c.from_residual-in_err-build_equal.result c.in_err-build_equal.field-0.0 _ c.from_residual-in_err-build_equal.ensures.1 (equal-short (names_of c.args.scope.now) c.args.selector.now.kind c.args.selector.now.size c.args.selector.now.bits c.args.label.now c.args.builder.now c.build_expr.new.builder c.in_ok-bits.bits c.in_ok-left.left c.in_err-build_equal.field-0.0 c.requires.clear c.requires.long c.in_ok-bits.ensures.built (rw c.dont_care-ignored.ensures at c.in_ok-left.ensures) c.in_err-build_equal.ensures.short)

pub returns-clause-grows : goal.returns-clause-grows
returns-clause-grows c = grows_again c.args.builder.now c.build_expr.new.builder c.build_equal.new.builder c.in_ok-bits.ensures.built.grows (grows-equal _ _ _ _ c.build_expr.new.builder c.build_equal.new.builder _ c.in_ok-build_equal.ensures.built)

pub returns-clause-one : goal.returns-clause-one
returns-clause-one c = (equal-test _ _ _ _ c.build_expr.new.builder c.build_equal.new.builder _ c.in_ok-build_equal.ensures.built).0

pub returns-clause-below : goal.returns-clause-below
returns-clause-below c = (equal-test _ _ _ _ c.build_expr.new.builder c.build_equal.new.builder _ c.in_ok-build_equal.ensures.built).1
