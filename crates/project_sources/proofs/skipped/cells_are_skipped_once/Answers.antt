use Rattle.project_sources.proofs.Skipping.{cells_are_told, skips_once}
use Rattle.project_sources.proofs.skipped.cells_are_skipped_once.Goals as goal

pub returns-clause-once : goal.returns-clause-once
returns-clause-once c = skips_once

pub returns-clause-each : goal.returns-clause-each
returns-clause-each c = cells_are_told
