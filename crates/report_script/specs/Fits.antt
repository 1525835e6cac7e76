-- Reports that name only the tags of a project, of which there are so many.
use Rattle.std.specs.Prelude.{ℕ, Bool, ◌&&◌, map}
use Rattle.std.specs.List.{list_all}
use Rattle.report_lines.specs.Fits.{all_true, expr_fits}
use Rattle.report_script.specs.declared.report.Arm.{Arm}
use Rattle.report_script.specs.declared.report.Report.{Report}
use Rattle.report_script.specs.declared.report.Statement.{Statement}
use Rattle.report_script.specs.declared.report.Statement.TheOpen as s
use Rattle.report_script.specs.declared.report.Statement.TheOpen.{Arm-F, Statement-F}
use Rattle.report_script.specs.declared.report.Statement.TheFolds.{fold-Arm, fold-Statement}

abbrev pub fit_statement : ℕ → Statement-F Bool Bool → Bool
fit_statement tags (s.Print line formats values) = list_all (expr_fits tags) values
fit_statement tags (s.If arms other) = all_true arms && all_true other

abbrev pub fit_arm : ℕ → Arm-F Bool Bool → Bool
fit_arm tags arm = expr_fits tags arm.condition && all_true arm.body

abbrev pub statement_fits : ℕ → Statement → Bool
statement_fits tags = fold-Statement Bool Bool (fit_statement tags) (fit_arm tags)

-- a report names only these tags
abbrev pub report_fits : ℕ → Report → Bool
report_fits tags report = all_true (map (statement_fits tags) report.statements)

-- For proofs alone.

abbrev pub arm_fits : ℕ → Arm → Bool
arm_fits tags = fold-Arm Bool Bool (fit_statement tags) (fit_arm tags)
