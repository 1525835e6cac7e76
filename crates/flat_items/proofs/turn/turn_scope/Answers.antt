use Rattle.flat_items.proofs.Common.{ap, names_of, opened_of, place_of}
use Rattle.flat_items.proofs.Starting.{turn_starts}
use Rattle.flat_items.proofs.turn.turn_scope.Goals as goal

pub returns : goal.returns
returns c = turn_starts (opened_of c.new-child.result) (opened_of c.constant_name.new.self) (place_of c.args.around.now) c.args.signals.items c.args.turn.now c.get.result.now c.turn_decl.result (names_of c.in_ok-copy.field-0) (ap names_of c.in_ok-copy.ensures) c.new-child.ensures c.get.ensures c.turn_decl.ensures c.in_ok-constant_name.ensures
