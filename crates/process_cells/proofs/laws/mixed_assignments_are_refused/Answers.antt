use Rattle.process_cells.proofs.OneKind.{one_kind}
use Rattle.process_cells.proofs.laws.mixed_assignments_are_refused.Goals as goal

pub returns : goal.returns
returns c = one_kind
