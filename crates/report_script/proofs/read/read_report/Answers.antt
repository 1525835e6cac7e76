use Rattle.report_script.proofs.Common.{◌≡◌, ℕ, true, List, IfOk, length, subst}
use Rattle.report_script.specs.Fits.{report_fits}
use Rattle.report_script.proofs.Fitting.{reads_fit}
use Rattle.report_script.proofs.read.read_report.Goals as goal

pub returns-clause-fits : goal.returns-clause-fits
returns-clause-fits c =
    subst (λ (tags : List (List ℕ)). IfOk c.read_rows.result (λ r. report_fits (length tags) r ≡ true)) c.as_slice-2.ensures
    (reads_fit _ _ c.read_rows.result c.read_rows.ensures)
