use Rattle.mutation_select.proofs.Within.{within_size}
use Rattle.mutation_select.proofs.laws.selections_are_few.Goals as goal

pub returns : goal.returns
returns c = within_size
