use Rattle.std.proofs.Common.{refl, sym, ◌∙◌}
use Rattle.process_events.proofs.sensitivity.of_pair.Goals as goal

pub returns-then-is_edge-2 : goal.returns-then-is_edge-2
returns-then-is_edge-2 c = rw (sym c.is_edge.ensures ∙ c.if-is_edge.true, sym c.is_edge-then-is_edge.ensures ∙ c.if-is_edge-2.true) (c.of_two.ensures ∙ rw (c.stmt_reads-first_read.ensures, c.as_str.ensures, c.stmt_reads-second_read.ensures, c.as_str-then-is_edge-2.ensures) refl)
