use Rattle.keeper_sqlite.proofs.Common.{◌≡◌, map, take, AllByRecursion, First, shown_entry, FitsTable}
use Rattle.keeper_sqlite.proofs.upgrade.entries_of.Given as goal

abbrev pub invariant-loop-row : goal.invariant-loop-row
invariant-loop-row l = record { shown : take l.row-index l.rows ≡ map (shown_entry First) l.entries.items; fit : AllByRecursion (FitsTable First) l.entries.items }
