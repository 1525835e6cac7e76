use Rattle.process_latches.proofs.Common.{names_of}
use Rattle.process_latches.proofs.Parts.{part_added}
use Rattle.process_latches.proofs.left.mark_part.Goals as goal

pub returns : goal.returns
returns c = part_added (names_of c.args.scope.now) c.args.manner c.args.left.now c.args.name.now c.requires.part.0 _ _ _ c.requires.part.1 (c.in_ok-mark_select.ensures c.requires.part.0 c.requires.part.1) c.in_ok-mark_write.ensures
