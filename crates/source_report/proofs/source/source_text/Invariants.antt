use Rattle.source_report.proofs.Common.{◌≡◌, ◌++◌, drop, groups, file_texts}
use Rattle.source_report.proofs.source.source_text.Given as goal

-- the files so far and those to come are all files
abbrev pub invariant-loop-number : goal.invariant-loop-number
invariant-loop-number l =
    l.text.items ++ file_texts l.campaign (groups l.campaign l.state.rows) l.number (drop l.number l.files)
    ≡ file_texts l.campaign (groups l.campaign l.state.rows) 0 l.files
