-- How many tests a project has.
use Rattle.project_limits.proofs.Common.{◌≡◌, ℕ, ◌+◌, ◌≤◌, Bool, true, false, cond, List, [], ◌∷◌, ◌++◌, length, None, codes, nat_lt, refl, sym, subst, ap, ◌∙◌, arith, append_assoc, append-nil}
use Rattle.project_limits.proofs.Common.{length-append, nat_tests, length-map, filter-append, bytes_eq-Decides, lines, Project, first_fault, key_of, Around, around_in, part_fault, project_of, test_of}
use Rattle.project_limits.proofs.Common.{IsProject, Part, is_test, parts_of, tests_in}
use Rattle.project_limits.proofs.Headers.{header_good, room_for_test, sections_good}
use Rattle.project_limits.proofs.Lines.{head_good, tail_good}

one_few : (b : Bool) (part : Part) (count : ℕ) → count ≤ 16 → (b ≡ true → nat_lt 15 count ≡ false) → count + length (cond b (part ∷ []) []) ≤ 16
one_few true part count few room = (let not_many : nat_lt 15 count ≡ false = room refl in grind (arith, nat_tests))
one_few false part count few room = omega (arith, few)

-- with a good section there are still few tests
push_few : (around : Around) (earlier : List Part) (number : ℕ) (part : Part) → part_fault around earlier number part ≡ None → length (tests_in earlier) ≤ 16 → length (tests_in (earlier ++ part ∷ [])) ≤ 16
unfolding tests_in is_test
push_few around earlier number part good few =
    let room : is_test part ≡ true → nat_lt 15 (length (tests_in earlier)) ≡ false = λ is. room_for_test earlier part.number part.header ((bytes_eq-Decides (key_of part.header) (codes "test")).0 is) (header_good around earlier number part good) in
    let all : length (tests_in (earlier ++ part ∷ [])) ≡ length (tests_in earlier) + length (cond (is_test part) (part ∷ []) []) = ap length (filter-append is_test earlier (part ∷ [])) ∙ length-append (tests_in earlier) (cond (is_test part) (part ∷ []) []) in
    subst (λ count. count ≤ 16) (sym all) (one_few (is_test part) part (length (tests_in earlier)) few room)

parts_few : (around : Around) (earlier : List Part) (number : ℕ) (parts : List Part) → first_fault (part_fault around) earlier number parts ≡ None → length (tests_in earlier) ≤ 16 → length (tests_in (earlier ++ parts)) ≤ 16
parts_few around earlier number [] good few = subst (λ (parts : List Part). length (tests_in parts) ≤ 16) (sym (append-nil earlier)) few
parts_few around earlier number (part ∷ more) good few =
    subst (λ (parts : List Part). length (tests_in parts) ≤ 16) (append_assoc earlier (part ∷ []) more)
    (parts_few around (earlier ++ part ∷ []) (number + 1) more (tail_good (part_fault around) earlier number part more good) (push_few around earlier number part (head_good (part_fault around) earlier number part more good) few))

none_few : length (tests_in []) ≤ 16
unfolding tests_in
none_few = omega arith

tests_of : (parts : List Part) → length (tests_in parts) ≤ 16 → length (project_of parts).tests ≤ 16
unfolding project_of
tests_of parts few = subst (λ count. count ≤ 16) (sym (length-map (tests_in parts) test_of)) few

pub tests_few : (bytes : List ℕ) (project : Project) → IsProject bytes project → length project.tests ≤ 16
tests_few bytes project is =
    let parts : List Part = parts_of 1 (lines bytes) in
    subst (λ (p : Project). length p.tests ≤ 16) (sym is.says) (tests_of parts (parts_few (around_in parts) [] 0 parts (sections_good (lines bytes) is.faultless) none_few))
