use Rattle.tb_assigns.proofs.Common.{◌∙◌, ap, rules, add-one, the_lemmas, names_of, store_of, Whole, Bit, Range, Indexed, parts_of}
use Rattle.vlog_effects.proofs.Folds.{parts-name, parts-bit, parts-range, parts-indexed}
use Rattle.tb_assigns.proofs.Parts.{parts_element}
use Rattle.tb_assigns.proofs.Drawing.{one_drawn, none_drawn, next_drawn}
use Rattle.tb_assigns.proofs.left_side.+pieces.Goals as goal

pub push_all_pieces-push_pieces-requires : goal.push_all_pieces-push_pieces-requires
push_all_pieces-push_pieces-requires t c = (search (rules, the_lemmas), (parts_element (names_of c.args.moment.now.scope.now) c.args.parts.now c.loop-part.part-index c.part-item.result c.part-item.is c.loop-part-test.true c.requires.parts, c.requires.stored))

pub push_all_pieces-loop-part-init : goal.push_all_pieces-loop-part-init
push_all_pieces-loop-part-init t c = none_drawn (names_of c.args.moment.now.scope.now) c.args.moment.now.phase (store_of c.args.moment.now.store.now) c.args.words.now c.args.pieces.now.items

pub push_all_pieces-loop-part-preserved : goal.push_all_pieces-loop-part-preserved
push_all_pieces-loop-part-preserved t c =
    rw add-one (next_drawn (names_of c.args.moment.now.scope.now) c.args.moment.now.phase (store_of c.args.moment.now.store.now) c.args.parts.now c.loop-part.part-index c.part-item.result c.args.words.now c.loop-part.words c.push_pieces.new.words c.args.pieces.now.items c.loop-part.pieces.items c.push_pieces.new.pieces.items c.part-item.is c.loop-part-test.true c.loop-part.invariant c.in_ok-push_pieces.ensures)

pub push_pieces-returns-in_ok-push-in-Name : goal.push_pieces-returns-in_ok-push-in-Name
push_pieces-returns-in_ok-push-in-Name t c =
    let names = names_of c.args.moment.now.scope.now in
    let store = store_of c.args.moment.now.store.now in
    one_drawn names c.args.moment.now.phase store (parts_of c.args.left.now) (record { name = c.in-Name.name; select = Whole }) c.args.words.now c.args.words.now c.whole_piece.result c.args.pieces.now.items c.push.new.pieces.items (ap parts_of c.in-Name.is ∙ parts-name c.in-Name.name) (c.whole_piece.ensures c.args.moment.now.phase store c.args.words.now) c.in_ok-push-in-Name.ensures

pub push_pieces-returns-in_ok-push-in-BitSelect : goal.push_pieces-returns-in_ok-push-in-BitSelect
push_pieces-returns-in_ok-push-in-BitSelect t c =
    let names = names_of c.args.moment.now.scope.now in
    let store = store_of c.args.moment.now.store.now in
    one_drawn names c.args.moment.now.phase store (parts_of c.args.left.now) (record { name = c.in-BitSelect.name; select = Bit c.in-BitSelect.span c.in-BitSelect.index }) c.args.words.now c.bit_piece.new.words c.in_ok-piece-in-BitSelect.piece c.args.pieces.now.items c.push-in-BitSelect.new.pieces.items (ap parts_of c.in-BitSelect.is ∙ parts-bit c.in-BitSelect.name c.in-BitSelect.span c.in-BitSelect.index) (rw c.get.ensures at c.in_ok-piece-in-BitSelect.ensures) c.in_ok-push-in-BitSelect.ensures

pub push_pieces-returns-in_ok-push-in-PartSelect : goal.push_pieces-returns-in_ok-push-in-PartSelect
push_pieces-returns-in_ok-push-in-PartSelect t c =
    let names = names_of c.args.moment.now.scope.now in
    let store = store_of c.args.moment.now.store.now in
    one_drawn names c.args.moment.now.phase store (parts_of c.args.left.now) (record { name = c.in-PartSelect.name; select = Range c.in-PartSelect.span c.in-PartSelect.msb c.in-PartSelect.lsb }) c.args.words.now c.args.words.now c.range_piece.result c.args.pieces.now.items c.push-in-PartSelect.new.pieces.items (ap parts_of c.in-PartSelect.is ∙ parts-range c.in-PartSelect.name c.in-PartSelect.span c.in-PartSelect.msb c.in-PartSelect.lsb) (rw (c.get-in-PartSelect.ensures, c.get-in-PartSelect-2.ensures) at (c.range_piece.ensures c.args.moment.now.phase store c.args.words.now)) c.in_ok-push-in-PartSelect.ensures

pub push_pieces-returns-in_ok-push-in-IndexedPartSelect : goal.push_pieces-returns-in_ok-push-in-IndexedPartSelect
push_pieces-returns-in_ok-push-in-IndexedPartSelect t c =
    let names = names_of c.args.moment.now.scope.now in
    let store = store_of c.args.moment.now.store.now in
    one_drawn names c.args.moment.now.phase store (parts_of c.args.left.now) (record { name = c.in-IndexedPartSelect.name; select = Indexed c.in-IndexedPartSelect.span c.in-IndexedPartSelect.base c.in-IndexedPartSelect.count }) c.args.words.now c.indexed_piece.new.words c.in_ok-piece-in-IndexedPartSelect.piece c.args.pieces.now.items c.push-in-IndexedPartSelect.new.pieces.items (ap parts_of c.in-IndexedPartSelect.is ∙ parts-indexed c.in-IndexedPartSelect.name c.in-IndexedPartSelect.span c.in-IndexedPartSelect.base c.in-IndexedPartSelect.count) (rw (c.get-in-IndexedPartSelect.ensures, c.get-in-IndexedPartSelect-2.ensures) at c.in_ok-piece-in-IndexedPartSelect.ensures) c.in_ok-push-in-IndexedPartSelect.ensures
