use Rattle.std.proofs.Common.{arith}
use Rattle.std.proofs.lemmas.Result.{IfOk-weaker}
use Rattle.project_sources.specs.Skipped.{HasSkipped, SkipsCells}
use Rattle.project_sources.proofs.Skipping.{skips_found, skips_none}
use Rattle.project_sources.proofs.skipped.skipped_cells.Goals as goal

pub returns-in-empty : goal.returns-in-empty
returns-in-empty c = skips_none c.args.files.now c.args.top.now c.args.instances.now c.new.result.items (omega (arith, c.in-empty.len_below)) c.new.ensures.items

pub returns-in-len1-up : goal.returns-in-len1-up
returns-in-len1-up c =
    IfOk-weaker c.found_cells.result
    (λ flags. HasSkipped c.args.files.now c.args.top.now c.args.instances.now flags.items)
    (λ flags. SkipsCells c.args.files.now c.args.top.now c.args.instances.now flags.items)
    (λ flags has. skips_found c.args.files.now c.args.top.now c.args.instances.now flags.items (omega (arith, c.in-len1-up.len_at_least)) has)
    c.found_cells.ensures
