use Rattle.cell_scopes.proofs.Common.{◌≡◌, ◌++◌, [], length, map, widths_in, flat_of, widths_of, Stands, is_within_some, cell_scopes, scopes_from}
use Rattle.elab_items.specs.Desks.{Serves}
use Rattle.cell_scopes.proofs.cells.all_flags.Given as goal

abbrev pub invariant-loop-rest : goal.invariant-loop-rest
invariant-loop-rest l = record {
  stands : Stands (flat_of l.flat).places l.builder;
  serves : Serves [] (flat_of l.flat).places l.builder l.desk;
  widths : widths_in l.builder ≡ widths_of (flat_of l.flat).signals;
  each : length l.flags.items ≡ length l.builder.cells;
  are : l.flags.items ++ map (is_within_some l.instances) (scopes_from (flat_of l.flat) l.rest) ≡ map (is_within_some l.instances) (cell_scopes (flat_of l.flat));
}

abbrev pub decreases-loop-rest : goal.decreases-loop-rest
decreases-loop-rest l = length l.rest
