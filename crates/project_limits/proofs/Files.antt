-- How many files a project reads for its design.
use Rattle.project_limits.proofs.Common.{◌≡◌, ℕ, ◌+◌, ◌≤◌, true, List, [], length, Option, Some, None, IfSome, bytes_eq, codes, refl, sym, subst, arith, bytes_eq-Decides, lines, Project, Title}
use Rattle.project_limits.proofs.Common.{Script, first_fault, key_of, gather, with_names, Around, around_in, design_files, design_in, lines_fault, part_fault, part_reads, project_of, IsProject}
use Rattle.project_limits.proofs.Common.{script_reads, Part, find_part, lines_in, parts_of, title_of}
use Rattle.project_limits.proofs.Headers.{header_good, header_of_word, lines_good, sections_good}
use Rattle.project_limits.proofs.Lines.{found_good, lines_few}

few_none : (around : Around) → length (with_names [] (gather (script_reads around.known) [])) ≤ 64
unfolding gather with_names
few_none around = omega arith

-- the lines of a script whose section is good
title_few : (around : Around) (names : List (List ℕ)) (title : Option Title) (number : ℕ) (lines : List (List ℕ)) → title ≡ Some Script → lines_fault around names title number lines ≡ None → length (with_names [] (gather (script_reads around.known) lines)) ≤ 64
title_few around names title number lines is good =
    lines_few around.known names [] number lines (subst (λ (t : Option Title). lines_fault around names t number lines ≡ None) is good) (few_none around)

part_few : (around : Around) (earlier : List Part) (number : ℕ) (part : Part) → bytes_eq (key_of part.header) (codes "script") ≡ true → part_fault around earlier number part ≡ None → length (with_names [] (gather (script_reads around.known) part.lines)) ≤ 64
part_few around earlier number part is good =
    let key : key_of part.header ≡ codes "script" = (bytes_eq-Decides (key_of part.header) (codes "script")).0 is in
    title_few around (with_names [] (gather (part_reads around.known) earlier)) (title_of part.header) (part.number + 1) part.lines (header_of_word (codes "script") earlier part.number part.header key refl (header_good around earlier number part good)) (lines_good around earlier number part good)

-- the lines of the section that is found
found_few : (around : Around) (found : Option Part) → IfSome found (λ part. length (with_names [] (gather (script_reads around.known) part.lines)) ≤ 64) → length (with_names [] (gather (script_reads around.known) (elim found [ None ↦ [] | Some part ↦ part.lines ]))) ≤ 64
found_few around None few = few_none around
found_few around (Some part) few = few

design_few : (parts : List Part) → first_fault (part_fault (around_in parts)) [] 0 parts ≡ None → length (with_names [] (design_in parts)) ≤ 64
unfolding design_in lines_in find_part
design_few parts good =
    let around : Around = around_in parts in
    found_few around (find_part (codes "script") parts) (found_good (part_fault around) (λ part. bytes_eq (key_of part.header) (codes "script")) (λ part. length (with_names [] (gather (script_reads around.known) part.lines)) ≤ 64) (part_few around) [] 0 parts good)

files_of : (parts : List Part) → first_fault (part_fault (around_in parts)) [] 0 parts ≡ None → length (design_files (project_of parts)) ≤ 64
unfolding project_of
files_of parts good = design_few parts good

pub files_few : (bytes : List ℕ) (project : Project) → IsProject bytes project → length (design_files project) ≤ 64
files_few bytes project is = subst (λ (p : Project). length (design_files p) ≤ 64) (sym is.says) (files_of (parts_of 1 (lines bytes)) (sections_good (lines bytes) is.faultless))
