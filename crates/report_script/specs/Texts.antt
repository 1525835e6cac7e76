-- The text of a report for counts of tags.
use Rattle.std.specs.Prelude.{◌≡◌, ℕ, Bool, ⊤, List, [], ◌∷◌, ◌++◌, Option, None, Some, Result, Ok, Err, codes, decimal, drop, map, if◌then◌else◌}
use Rattle.report_lines.specs.declared.expr.Expr.{Expr}
use Rattle.report_lines.specs.declared.format.Format.{Format}
use Rattle.report_lines.specs.declared.format.Format.TheVariants as format
use Rattle.report_values.specs.declared.fraction.Fault.{Fault}
use Rattle.report_values.specs.declared.fraction.Fault.TheVariants as fault
use Rattle.report_values.specs.declared.fraction.Fraction.{Fraction}
use Rattle.report_values.specs.Fractions.{is_true, whole}
use Rattle.report_values.specs.Texts.{two_places_text, whole_text}
use Rattle.report_script.specs.declared.line_text.Stop.{Stop}
use Rattle.report_script.specs.declared.line_text.Stop.TheVariants as stop
use Rattle.report_script.specs.declared.report.Arm.{Arm}
use Rattle.report_script.specs.declared.report.Report.{Report}
use Rattle.report_script.specs.declared.report.Statement.{Statement}
use Rattle.report_script.specs.declared.report.Statement.TheOpen as s
use Rattle.report_script.specs.declared.report.Statement.TheOpen.{Arm-F, Statement-F}
use Rattle.report_script.specs.declared.report.Statement.TheFolds.{fold-Arm, fold-Statement}
use Rattle.report_script.specs.declared.running.Stopped.{Stopped}
use Rattle.report_script.specs.Values.{Valuing, on, value_of}

-- Lines.

-- the first of these values; a line that was taken has as many as its formats take
abbrev pub first_value : List Expr → Valuing
first_value [] counts = Ok (whole 0)
first_value (x ∷ more) counts = value_of x counts

abbrev pub format_text : Format → List Expr → List ℕ → Result (List ℕ) Fault
format_text (format.Byte byte) values counts = Ok (byte ∷ [])
format_text format.Whole values counts = on (first_value values counts) (λ value. Ok (whole_text value))
format_text format.TwoPlaces values counts = on (first_value values counts) (λ value. Ok (two_places_text value))

-- the values that a format leaves
abbrev pub left_behind : Format → List Expr → List Expr
left_behind (format.Byte byte) values = values
left_behind format.Whole values = drop 1 values
left_behind format.TwoPlaces values = drop 1 values

abbrev pub extended : List ℕ → Result (List ℕ) Fault → Result (List ℕ) Fault
extended before text = on text (λ t. Ok (before ++ t))

-- what formats print of values
unfoldable pub line_text : List Format → List Expr → List ℕ → Result (List ℕ) Fault
line_text [] values counts = Ok []
line_text (f ∷ fs) values counts = on (format_text f values counts) (λ text. extended text (line_text fs (left_behind f values) counts))

-- Statements.

-- what was printed, and the line where it ended and why, if it ended before its time
pub record Printed : Type 0 where
  pub text : List ℕ
  pub ended : Option Stopped

abbrev pub Printing : Type 0
Printing = List ℕ → Printed

abbrev pub nothing : Printed
nothing = record { text = []; ended = None }

abbrev pub stopped_at : ℕ → Fault → Printed
stopped_at line fault = record { text = []; ended = Some (record { line = line; fault = fault }) }

-- text, and what is printed behind it
abbrev pub after : List ℕ → Printed → Printed
after before p = record { text = before ++ p.text; ended = p.ended }

-- what is printed, and then this
abbrev pub followed : Printed → Printed → Printed
followed p q = elim p.ended [ None ↦ after p.text q | Some s ↦ p ]

-- a line ends in a newline (10)
abbrev pub line_printed : ℕ → Result (List ℕ) Fault → Printed
line_printed line (Ok text) = record { text = text ++ 10 ∷ []; ended = None }
line_printed line (Err fault) = stopped_at line fault

-- an arm: its line, its condition, and what it prints
pub record Choice : Type 0 where
  pub line : ℕ
  pub condition : Valuing
  pub body : Printing

abbrev pub in_turn : List Printing → Printing
in_turn [] counts = nothing
in_turn (s ∷ more) counts = followed (s counts) (in_turn more counts)

abbrev pub by_value : ℕ → Result Fraction Fault → Printed → Printed → Printed
by_value line (Ok value) body other = if is_true value then body else other
by_value line (Err fault) body other = stopped_at line fault

-- the first arm whose condition is true, else the other statements
abbrev pub chosen : List Choice → Printing → Printing
chosen [] other counts = other counts
chosen (arm ∷ more) other counts = by_value arm.line (arm.condition counts) (arm.body counts) (chosen more other counts)

abbrev pub statement_step : Statement-F Printing Choice → Printing
statement_step (s.Print line formats values) counts = line_printed line (line_text formats values counts)
statement_step (s.If arms other) counts = chosen arms (in_turn other) counts

abbrev pub arm_step : Arm-F Printing Choice → Choice
arm_step arm = record { line = arm.line; condition = value_of arm.condition; body = in_turn arm.body }

abbrev pub doing : Statement → Printing
doing = fold-Statement Printing Choice statement_step arm_step

-- The last line, where the report ended before its time.

abbrev pub fault_text : Fault → List ℕ
fault_text fault.OutOfRange = codes ": value out of range"
fault_text fault.DivisionByZero = codes ": division by zero"

unfoldable pub last_line : Option Stopped → List ℕ
last_line None = []
last_line (Some s) = codes "report stopped at line " ++ (decimal s.line ++ (fault_text s.fault ++ 10 ∷ []))

unfoldable pub text_of : Printed → List ℕ
text_of p = p.text ++ last_line p.ended

unfoldable pub report_text : Report → List ℕ → List ℕ
report_text report counts = text_of (in_turn (map doing report.statements) counts)

-- For proofs alone.

-- the text is this one, or there is none for this reason; want of memory may come anywhere
abbrev pub Prints : {A : Type 0} → Result A Stop → Result (List ℕ) Fault → List ℕ → Type 0
Prints (Ok a) printed new = printed ≡ Ok new
Prints (Err (stop.Fault fault)) printed new = printed ≡ Err fault
Prints (Err stop.Memory) printed new = ⊤

abbrev pub choice : Arm → Choice
choice = fold-Arm Printing Choice statement_step arm_step
