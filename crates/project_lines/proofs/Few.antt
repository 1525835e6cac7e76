-- How many lines and sections there are at most.
use Rattle.project_lines.proofs.Common.{◌≡◌, ℕ, ◌+◌, ◌≤◌, ◌==◌, Bool, true, false, Bor, List, [], ◌∷◌, Option, Some, None, length, map, ap, arith, length-append, if◌then◌else◌, slice_split}
use Rattle.project_lines.proofs.Common.{length-map, length-slice_split, count_by-le-length, length-filter, header_of, Part, is_test, parts_of, section_at, section_by, seen, tests_in}
use Rattle.std.specs.Str.Lines.{lines, lines_of_parts}
use Rattle.project_lines.specs.declared.section.Section.{Section}

-- Lines.

last_one : (x : List ℕ) (b : Bool) → length (if b then [] else x ∷ []) ≤ 1
last_one x true = omega arith
last_one x false = omega arith

most_lines : (parts : List (List ℕ)) → length (lines_of_parts parts) ≤ length parts
most_lines [] = omega arith
most_lines (x ∷ []) = last_one x (length x == 0)
most_lines (x ∷ y ∷ more) = omega (arith, most_lines (y ∷ more))

-- a text has at most one line more than bytes
pub few_lines : (all : List (Bor (List ℕ))) (text : List ℕ) → map (λ (line : Bor (List ℕ)). line.now) all ≡ lines text → length all ≤ length text + 1
few_lines all text h =
    let seen_all : length (map (λ (line : Bor (List ℕ)). line.now) all) ≡ length all = length-map all _ in
    let same : length (map (λ (line : Bor (List ℕ)). line.now) all) ≡ length (lines text) = ap length h in
    omega (arith, seen_all, same, most_lines (slice_split (λ b. b == 10) text), length-slice_split (λ b. b == 10) text, count_by-le-length (λ b. b == 10) text)

-- Sections.

one_section : (header : Option (List ℕ)) (number : ℕ) (more : List (List ℕ)) → length (section_by header number more) ≤ 1
one_section None number more = omega arith
one_section (Some header) number more = omega arith

section_few : (number : ℕ) (line : List ℕ) (more : List (List ℕ)) → length (section_at number line more) ≤ 1
unfolding section_at
section_few number line more = one_section (header_of line) number more

most_parts : (number : ℕ) (all : List (List ℕ)) → length (parts_of number all) ≤ length all
unfolding parts_of
most_parts number [] = omega arith
most_parts number (line ∷ more) = omega (arith, length-append (section_at number line more) (parts_of (number + 1) more), section_few number line more, most_parts (number + 1) more)

-- a file has at most as many sections as lines
pub few_sections : (sections : List Section) (all : List (Bor (List ℕ))) → map seen sections ≡ parts_of 1 (map (λ (line : Bor (List ℕ)). line.now) all) → length sections ≤ length all
few_sections sections all h =
    let same : length (map seen sections) ≡ length (parts_of 1 (map (λ (line : Bor (List ℕ)). line.now) all)) = ap length h in
    omega (arith, length-map sections seen, length-map all (λ (line : Bor (List ℕ)). line.now), same, most_parts 1 (map (λ (line : Bor (List ℕ)). line.now) all))

most_tests : (parts : List Part) → length (tests_in parts) ≤ length parts
unfolding tests_in
most_tests parts = omega (arith, length-filter is_test parts, count_by-le-length is_test parts)

-- and at most as many tests as sections
pub few_tests : (tests sections : List Section) → map seen tests ≡ tests_in (map seen sections) → length tests ≤ length sections
few_tests tests sections h =
    let same : length (map seen tests) ≡ length (tests_in (map seen sections)) = ap length h in
    omega (arith, length-map tests seen, length-map sections seen, same, most_tests (map seen sections))
