use Rattle.proc_muxes.proofs.Common.{◌∙◌, ap, map, take, rules, add-one, the_lemmas, names_of, Whole, Range, parts_of, concatenated, same_err}
use Rattle.vlog_effects.proofs.Folds.{parts-name, parts-range}
use Rattle.proc_muxes.proofs.Piecing.{makes-one, makes-next, makes-signals, can-element, element-short}
use Rattle.proc_muxes.proofs.piece.+pieces.Goals as goal

pub push_all_pieces-push_pieces-requires : goal.push_all_pieces-push_pieces-requires
push_all_pieces-push_pieces-requires t c = (
  search (rules, the_lemmas),
  (
    can-element (names_of c.args.scope.now) c.args.parts.now c.loop-part.part-index c.part-item.result c.part-item.is c.loop-part-test.true c.requires.can,
    makes-signals (names_of c.args.scope.now) (concatenated (map parts_of (take c.loop-part.part-index c.args.parts.now))) c.args.builder.now c.loop-part.builder c.args.pieces.now.items c.loop-part.pieces.items c.loop-part.invariant c.requires.signals,
  ),
)

pub push_all_pieces-returns-in_err-push_pieces-clause-short : goal.push_all_pieces-returns-in_err-push_pieces-clause-short
push_all_pieces-returns-in_err-push_pieces-clause-short t c =
    same_err c.from_residual.result c.in_err-push_pieces.field-0.0 _ c.from_residual.ensures.1
    (element-short (names_of c.args.scope.now) c.args.parts.now c.loop-part.part-index c.part-item.result c.args.builder.now c.loop-part.builder c.args.pieces.now.items c.loop-part.pieces.items c.in_err-push_pieces.field-0.0 c.part-item.is c.loop-part-test.true c.loop-part.invariant c.in_err-push_pieces.ensures.short)

pub push_all_pieces-loop-part-preserved : goal.push_all_pieces-loop-part-preserved
push_all_pieces-loop-part-preserved t c =
    rw add-one (makes-next (names_of c.args.scope.now) c.args.parts.now c.loop-part.part-index c.part-item.result c.args.builder.now c.loop-part.builder c.push_pieces.new.builder c.args.pieces.now.items c.loop-part.pieces.items c.push_pieces.new.pieces.items c.part-item.is c.loop-part-test.true c.loop-part.invariant c.in_ok-push_pieces.ensures.makes)

pub push_pieces-returns-in_ok-push-in-Name-clause-makes : goal.push_pieces-returns-in_ok-push-in-Name-clause-makes
push_pieces-returns-in_ok-push-in-Name-clause-makes t c =
    makes-one (names_of c.args.scope.now) (parts_of c.args.left.now) (record { name = c.in-Name.name; select = Whole }) c.args.builder.now c.args.builder.now c.whole_piece.result c.args.pieces.now.items c.push.new.pieces.items (ap parts_of c.in-Name.is ∙ parts-name c.in-Name.name) (c.whole_piece.ensures c.args.builder.now) c.in_ok-push-in-Name.ensures

pub push_pieces-returns-in_ok-push-in-PartSelect-clause-makes : goal.push_pieces-returns-in_ok-push-in-PartSelect-clause-makes
push_pieces-returns-in_ok-push-in-PartSelect-clause-makes t c =
    makes-one (names_of c.args.scope.now) (parts_of c.args.left.now) (record { name = c.in-PartSelect.name; select = Range c.in-PartSelect.span c.in-PartSelect.msb c.in-PartSelect.lsb }) c.args.builder.now c.args.builder.now c.range_piece.result c.args.pieces.now.items c.push-in-PartSelect.new.pieces.items
    (ap parts_of c.in-PartSelect.is ∙ parts-range c.in-PartSelect.name c.in-PartSelect.span c.in-PartSelect.msb c.in-PartSelect.lsb)
    (rw (c.get-in-PartSelect.ensures, c.get-in-PartSelect-2.ensures) at (c.range_piece.ensures c.args.builder.now))
    c.in_ok-push-in-PartSelect.ensures
