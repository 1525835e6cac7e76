-- The line that tells a person why a call was refused, or what failed.
use Rattle.std.specs.Prelude.{ℕ, List, [], ◌++◌, codes, decimal}
use Rattle.mcy_keeper.specs.declared.book.Entry.{Entry}
use Rattle.result_book.specs.declared.check.RowFault.{RowFault}
use Rattle.result_book.specs.declared.check.RowFault.TheVariants.{Seq}
use Rattle.result_book.specs.declared.check.BookError.{BookError}
use Rattle.result_book.specs.declared.check.BookError.TheVariants.{Meta, Mutation, Row, Stray, Memory as NoMemory}
use Rattle.project_lines.specs.declared.error.ProjectError.{ProjectError}
use Rattle.project_lines.specs.declared.error.ProjectError.TheVariants.{NotUtf8, BadLine, UnknownKey, Repeated, OutOfRange, UnsupportedCommand, Missing as Lacking, Memory as NoMemoryFor}
use Rattle.project_lines.specs.declared.error.What.{What}
use Rattle.project_lines.specs.declared.error.What.TheVariants.{Script, Read, Top, Logic, Kind as TestKind, Pass}
use Rattle.tag_script.specs.declared.script.ScriptError.{ScriptError}
use Rattle.tag_script.specs.declared.script.ScriptError.TheVariants as script
use Rattle.source_faults.specs.Lines.{source_line}
use Rattle.campaign_outcomes.specs.declared.outcome.Outcome.{Outcome}
use Rattle.campaign_outcomes.specs.declared.outcome.Outcome.TheVariants.{Done, Unfinished, Usage, ProjectBad, ScriptBad, SourceBad, Missing, TooLarge, NoCampaign, AlreadyBegun, BookBad, ReadFault, KeeperFault, WriteFault, Memory, BaselineBad, RequirementMissed, NoMutation}

-- a line of these words
abbrev pub told_line : List ℕ → List ℕ
told_line words = codes "mcy: " ++ (words ++ codes "\n")

-- a line on the project file: a line of it, counted from 1, and the name of its fault
abbrev pub at_line : ℕ → List ℕ → List ℕ
at_line number fault = codes "mcy: config.mcy:" ++ (decimal number ++ (codes ": " ++ (fault ++ codes "\n")))

-- the same for what is no line's: the name of the fault, and a number behind it or not
abbrev pub in_project : List ℕ → List ℕ
in_project fault = codes "mcy: config.mcy: " ++ (fault ++ codes "\n")

abbrev pub in_project_at : List ℕ → ℕ → List ℕ
in_project_at fault number = codes "mcy: config.mcy: " ++ (fault ++ (codes " " ++ (decimal number ++ codes "\n")))

abbrev pub missing_line : What → List ℕ
missing_line Script = in_project (codes "Missing Script")
missing_line Read = in_project (codes "Missing Read")
missing_line Top = in_project (codes "Missing Top")
missing_line Logic = in_project (codes "Missing Logic")
missing_line (TestKind test) = in_project_at (codes "Missing Kind") test
missing_line (Pass test) = in_project_at (codes "Missing Pass") test

abbrev pub project_line : ProjectError → List ℕ
project_line (NotUtf8 len) = in_project_at (codes "NotUtf8") len
project_line (BadLine number) = at_line number (codes "BadLine")
project_line (UnknownKey number) = at_line number (codes "UnknownKey")
project_line (Repeated number) = at_line number (codes "Repeated")
project_line (OutOfRange number) = at_line number (codes "OutOfRange")
project_line (UnsupportedCommand number) = at_line number (codes "UnsupportedCommand")
project_line (Lacking what) = missing_line what
project_line NoMemoryFor = told_line (codes "no memory")

abbrev pub script_line : ScriptError → List ℕ
script_line (script.Indent number) = at_line number (codes "Indent")
script_line (script.Bad number) = at_line number (codes "Bad")
script_line (script.UnknownTest number) = at_line number (codes "UnknownTest")
script_line (script.UnknownTag number) = at_line number (codes "UnknownTag")
script_line (script.Unassigned number) = at_line number (codes "Unassigned")
script_line script.Memory = told_line (codes "no memory")

-- a line on a file: its name and what is the matter
abbrev pub file_line : List ℕ → List ℕ → List ℕ
file_line name matter = codes "mcy: " ++ (name ++ (codes ": " ++ (matter ++ codes "\n")))

-- a line on the database: a part of it and the place there, counted from 0
abbrev pub place_line : List ℕ → ℕ → List ℕ
place_line part place = codes "mcy: database: " ++ (part ++ (codes " " ++ (decimal place ++ codes "\n")))

-- where a row stands that has a fault: its number says it, if that is not the fault
abbrev pub row_place : Entry → RowFault → ℕ
row_place row (Seq place) = place
row_place row fault = row.seq

abbrev pub book_line : BookError → List ℕ
book_line (Meta place old new) = place_line (codes "meta") place
book_line (Mutation place old new) = place_line (codes "mutation") place
book_line (Row row fault) = place_line (codes "row") (row_place row fault)
book_line (Stray mutations rows) = told_line (codes "database: stray rows")
book_line NoMemory = told_line (codes "no memory")

-- a line on a number of a mutation
abbrev pub mutation_line : ℕ → List ℕ
mutation_line number = codes "mcy: no mutation " ++ (decimal number ++ codes "\n")

-- the line of each outcome, and no text where the command was carried out
abbrev pub fault_text : Outcome → List ℕ
fault_text Done = []
fault_text (Unfinished left) = []
fault_text Usage = told_line (codes "usage: mcy init | run [-j N] [--stop-after N] [--retry N] | list | status | source")
fault_text (ProjectBad error) = project_line error
fault_text (ScriptBad error) = script_line error
fault_text (SourceBad error) = source_line error
fault_text (Missing name) = file_line name (codes "missing")
fault_text (TooLarge name) = file_line name (codes "too large")
fault_text NoCampaign = told_line (codes "no campaign")
fault_text AlreadyBegun = told_line (codes "campaign already begun")
fault_text (BookBad error) = book_line error
fault_text (ReadFault name) = file_line name (codes "read fault")
fault_text KeeperFault = told_line (codes "database fault")
fault_text WriteFault = told_line (codes "write fault")
fault_text Memory = told_line (codes "no memory")
fault_text BaselineBad = told_line (codes "baseline not passed")
fault_text RequirementMissed = told_line (codes "requirement missed")
fault_text (NoMutation number) = mutation_line number
