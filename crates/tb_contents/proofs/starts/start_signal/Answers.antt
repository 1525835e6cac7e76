use Rattle.std.proofs.Common.{sym}
use Rattle.std.specs.Prelude.{slice_index}
use Rattle.vlog_meaning.specs.Scopes.{names_of}
use Rattle.tb_contents.specs.Starts.{start_value}
use Rattle.std.proofs.lemmas.List.{set_past}
use Rattle.tb_contents.proofs.starts.start_signal.Goals as goal

pub returns-in_default-clause-values : goal.returns-in_default-clause-values
returns-in_default-clause-values c = let t = c.args.signals.now in sym (set_past t.values c.args.number (start_value (names_of t.scope) (slice_index t.widths c.args.number) c.args.value.now) (rw c.in_default.is at c.width.ensures.outside))
