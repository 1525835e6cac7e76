-- The faults behind lines and sections, by what these read.
use Rattle.project_file.proofs.Common.{◌≡◌, ℕ, true, false, List, [], Some, None, ap, gather, with_names, Around, Part, lead_fault, part_at, part_fault, part_reads, test_at, test_fault, test_reads}
use Rattle.project_lines.specs.declared.error.ProjectError.TheVariants.{BadLine}
use Rattle.project_lines.specs.Lines.{is_said}
use Rattle.project_lines.proofs.Reading.{none_where, some_where}

pub test_same : (names earlier read : List (List ℕ)) (number : ℕ) (line : List ℕ) → read ≡ with_names names (gather test_reads earlier) → test_at read earlier number line ≡ test_fault names earlier number line
unfolding test_fault
test_same names earlier read number line e = ap (λ r. test_at r earlier number line) e

-- a line in front of the first header
pub lead_bad : (earlier : List (List ℕ)) (number : ℕ) (line : List ℕ) → is_said line ≡ true → lead_fault earlier number line ≡ Some (BadLine number)
unfolding lead_fault
lead_bad earlier number line h = some_where (is_said line) (BadLine number) h

pub lead_good : (earlier : List (List ℕ)) (number : ℕ) (line : List ℕ) → is_said line ≡ false → lead_fault earlier number line ≡ None
unfolding lead_fault
lead_good earlier number line h = none_where (is_said line) (BadLine number) h

-- a section behind others
pub part_same : (around : Around) (earlier : List Part) (read : List (List ℕ)) (number : ℕ) (part : Part) → read ≡ with_names [] (gather (part_reads around.known) earlier) → part_at around read earlier part ≡ part_fault around earlier number part
unfolding part_fault
part_same around earlier read number part e = ap (λ r. part_at around r earlier part) e
