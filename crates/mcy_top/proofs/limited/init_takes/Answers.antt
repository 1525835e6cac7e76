use Rattle.mcy_top.proofs.Common.{Init}
use Rattle.mcy_top.proofs.limited.init_takes.Goals as goal

pub returns-then-is_blank-clause-taken : goal.returns-then-is_blank-clause-taken
returns-then-is_blank-clause-taken c = c.is_blank.ensures.0 c.if-is_blank.true

pub returns-then-is_empty-clause-refused : goal.returns-then-is_empty-clause-refused
returns-then-is_empty-clause-refused c aim prepared = c.stray.ensures Init aim prepared
