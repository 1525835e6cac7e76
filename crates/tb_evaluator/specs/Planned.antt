-- Assignments that are carried out by their plans.
use Rattle.std.specs.Prelude.{ℕ, List}
use Rattle.rand_pcg.specs.Lcg.{Lcg}
use Rattle.vlog_meaning.specs.Scopes.{Store}
use Rattle.tb_machine.specs.declared.update.Update.{Update}
use Rattle.tb_plans.specs.declared.transfer.Writing.{Writing}
use Rattle.tb_plans.specs.declared.transfer.Writing.TheVariants as p
use Rattle.tb_plans.specs.Transfers.{transfer_updates, draw_updates, TransferFits, DrawFits}

-- For proofs alone.

-- its updates, and the generator after them
abbrev pub writing_updates : Writing → Store → Lcg → List Update × Lcg
writing_updates (p.Transfer t) store g = (transfer_updates t store, g)
writing_updates (p.Draw d) store g = draw_updates d store g

-- it speaks of signals of these widths
abbrev pub WritingFits : List ℕ → Writing → Type 0
WritingFits widths (p.Transfer t) = TransferFits widths t
WritingFits widths (p.Draw d) = DrawFits widths d
