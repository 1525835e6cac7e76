-- What is wrong in the expressions of a testbench, or not supported there. `$random` and `$time` are no constants.
use Rattle.std.specs.Prelude.{List}
use Rattle.vlog_syntax.specs.declared.expr.Expr.{Expr}
use Rattle.vlog_meaning.specs.declared.fault.Fault.{Fault}
use Rattle.vlog_meaning.specs.Scopes.{Names}
use Rattle.vlog_meaning.specs.Senses.{sense}
use Rattle.vlog_refusals.specs.Cases.{case_faults as case_faults_by}
use Rattle.vlog_refusals.specs.Expressions.{wrong as wrong_by, own_faults as own_faults_by, sides_faults as sides_faults_by}

abbrev pub not_supported : Names → Expr → List Fault
not_supported names x = (sense names x).features

-- what is wrong in an expression, or not supported in it
abbrev pub wrong : Names → Expr → List Fault
wrong = wrong_by not_supported

-- in one that stands for itself, as a condition does
abbrev pub own_faults : Names → Expr → List Fault
own_faults = own_faults_by not_supported

-- in the selector and labels of a case
abbrev pub case_faults : Names → List Expr → List Fault
case_faults = case_faults_by not_supported

-- in the sides of an assignment
abbrev pub sides_faults : Names → Expr → Expr → List Fault
sides_faults = sides_faults_by not_supported
