-- What the project file of a seed says of the files of the project, and of the limits of its tests.
use Rattle.made_campaign.proofs.Common.{◌≡◌, ℕ, zero, suc, ◌<◌, ◌^◌, ◌==◌, ◌-◌, Bool, true, false, ◌&&◌, List, [], ◌∷◌, ◌++◌, take, Option, None, Some, refl, sym, ap, subst, ◌∙◌, if◌then◌else◌, codes}
use Rattle.made_campaign.proofs.Common.{drop, nat_lt, slice_index, suffix_len, lines, Project, design_in, IsProject, project_of, config_text, settings_text, made_limit}
use Rattle.std.specs.Prelude.{length}
use Rattle.project_lines.specs.Lines.{behind_word, find_line, front_word, from_word, header_of, is_blank, is_said, without_blanks_behind, words, in_brackets}
use Rattle.project_lines.specs.Sections.{find_part, is_test, lead, lines_in, Part, parts_of, section_at, section_by, tests_in}
use Rattle.project_lines.specs.Numbers.{is_digit, is_number, is_within, value, value_within}
use Rattle.project_lines.specs.Paths.{find_path, gather, last_part, path_of, with_name, with_names}
use Rattle.project_lines.specs.Scripts.{command_of, script_reads}
use Rattle.project_file.specs.Values.{args_in, is_auto_in, number_in}
use Rattle.project_file.specs.Tests.{kind_in, plan_of, text_in}
use Rattle.project_limits.specs.Files.{all_files}
use Rattle.made_campaign.proofs.Lines.{config_lines}

-- a text that begins with an `s` stands in no brackets
no_brackets : (b c : Bool) (inner : List ℕ) → (if b && (false && c) then Some inner else None) ≡ None
no_brackets true c inner = refl
no_brackets false c inner = refl

plain_text : (n : ℕ) (text : List ℕ) → in_brackets (take n (115 ∷ text)) ≡ None
plain_text zero text = refl
plain_text (suc n) text =
    let all : List ℕ = take (suc n) (115 ∷ text) in
    no_brackets (nat_lt 1 (length all)) (slice_index all (length all - 1) == 93) (take (length all - 2) (drop 1 all))

-- so the line of the seed is no header
seed_plain : (rest : List ℕ) → header_of (codes "seed " ++ rest) ≡ None
unfolding header_of without_blanks_behind from_word is_blank
seed_plain rest = plain_text (length (codes "seed " ++ rest) - suffix_len is_blank (codes "seed " ++ rest)) (101 ∷ 101 ∷ 100 ∷ 32 ∷ rest)

-- the section of the options with this line of the seed, and those behind it
abbrev options_part : List ℕ → Part
options_part rest = record { number = 1; header = codes "options"; lines = codes "size 100" ∷ (codes "seed " ++ rest) ∷ lead (lines settings_text) }

abbrev made_parts : List ℕ → List Part
made_parts rest = options_part rest ∷ parts_of 4 (lines settings_text)

abbrev all_lines : List ℕ → List (List ℕ)
all_lines line = codes "[options]" ∷ codes "size 100" ∷ line ∷ lines settings_text

-- lines that are no headers belong to the section before them
lead_plain : (line : List ℕ) (rest : List (List ℕ)) → header_of line ≡ None → lead (line ∷ rest) ≡ line ∷ lead rest
unfolding lead
lead_plain line rest plain = by (header_of line) plain
  where
    by : (o : Option (List ℕ)) → o ≡ None → (if (elim o [ None ↦ true | Some header ↦ false ]) then line ∷ lead rest else []) ≡ line ∷ lead rest
    by None none = refl
    by (Some header) none = absurd (let never : Some header ≡ None = none in cc)

section_none : (number : ℕ) (line : List ℕ) (rest : List (List ℕ)) → header_of line ≡ None → section_at number line rest ≡ []
unfolding section_at
section_none number line rest plain = ap (λ (o : Option (List ℕ)). section_by o number rest) plain

section_some : (number : ℕ) (line header : List ℕ) (rest : List (List ℕ)) → header_of line ≡ Some header → section_at number line rest ≡ record { number = number; header = header; lines = lead rest } ∷ []
unfolding section_at
section_some number line header rest is = ap (λ (o : Option (List ℕ)). section_by o number rest) is

-- the first of four lines is a header, and the next two are none
parts_by : (first second third header : List ℕ) (rest : List (List ℕ)) → header_of first ≡ Some header → header_of second ≡ None → header_of third ≡ None
    → parts_of 1 (first ∷ second ∷ third ∷ rest) ≡ record { number = 1; header = header; lines = second ∷ third ∷ lead rest } ∷ parts_of 4 rest
unfolding parts_of
parts_by first second third header rest is plain also =
    let part : Part = record { number = 1; header = header; lines = second ∷ third ∷ lead rest } in
    let inner : lead (second ∷ third ∷ rest) ≡ second ∷ third ∷ lead rest = lead_plain second (third ∷ rest) plain ∙ ap (λ (l : List (List ℕ)). second ∷ l) (lead_plain third rest also) in
    let one : section_at 1 first (second ∷ third ∷ rest) ≡ part ∷ [] = section_some 1 first header (second ∷ third ∷ rest) is ∙ ap (λ (l : List (List ℕ)). record { number = 1; header = header; lines = l } ∷ []) inner in
    let two : section_at 2 second (third ∷ rest) ≡ [] = section_none 2 second (third ∷ rest) plain in
    let three : section_at 3 third rest ≡ [] = section_none 3 third rest also in
    ap (λ (l : List Part). l ++ (section_at 2 second (third ∷ rest) ++ (section_at 3 third rest ++ parts_of 4 rest))) one
    ∙ ap (λ (l : List Part). part ∷ (l ++ (section_at 3 third rest ++ parts_of 4 rest))) two
    ∙ ap (λ (l : List Part). part ∷ (l ++ parts_of 4 rest)) three

options_header : header_of (codes "[options]") ≡ Some (codes "options")
unfolding header_of without_blanks_behind from_word is_blank
options_header = refl

size_plain : header_of (codes "size 100") ≡ None
unfolding header_of without_blanks_behind from_word is_blank
size_plain = refl

parts_are : (rest : List ℕ) → parts_of 1 (all_lines (codes "seed " ++ rest)) ≡ made_parts rest
parts_are rest = parts_by (codes "[options]") (codes "size 100") (codes "seed " ++ rest) (codes "options") (lines settings_text) options_header size_plain (seed_plain rest)

-- What the sections say.
pub record SaysMade (project : Project) : Type 0 where
  pub conflicts : project.conflicts ≡ made_limit
  pub auto : project.auto_cycles ≡ false
  pub files : all_files project ≡ codes "d.v" ∷ codes "d_tb.v" ∷ []

says_made : (rest : List ℕ) → SaysMade (project_of (made_parts rest))
unfolding parts_of section_at lead header_of without_blanks_behind from_word is_blank find_part is_test lines_in tests_in find_line front_word behind_word is_said words is_digit is_number is_within value value_within find_path gather last_part path_of with_name with_names command_of script_reads args_in number_in is_auto_in kind_in plan_of text_in design_in project_of
says_made rest = record { conflicts = refl; auto = refl; files = refl }

pub project_made : (seed : ℕ) (project : Project) → seed < 2 ^ 64 → IsProject (config_text seed) project → SaysMade project
project_made seed project small is =
    let all = config_lines seed small in
    let parts : parts_of 1 (lines (config_text seed)) ≡ made_parts all.0 = ap (parts_of 1) all.1 ∙ parts_are all.0 in
    subst SaysMade (sym (is.says ∙ ap project_of parts)) (says_made all.0)
