-- The lines whose sites are taken, and the instances whose sites are left out.
use Rattle.project_limits.proofs.Common.{◌≡◌, ℕ, ◌≤◌, ◌&&◌, Bool, true, if◌then◌else◌, List, [], ◌∷◌, length, map, Option, Some, None, IfSome, codes, nat_le, refl, subst, sym, ap, arith, IsTrue, All}
use Rattle.project_limits.proofs.Common.{list_all, lines, length-map, All-cons, All-nil, args_of, find_line, path_of, Part, lines_in, parts_of, is_among, Only, Skip, Around, is_of_design}
use Rattle.project_limits.proofs.Common.{is_option_known, is_option_range, option_key, Project, args_in, only_in, range_of, around_in, project_of, IsProject, IsOfDesign}
use Rattle.std.proofs.lemmas.Bool.{and_parts, le-leb, leb-true}
use Rattle.project_lines.specs.Numbers.{is_number, is_within, value, value_within}
use Rattle.project_options.specs.Ranges.{file_part, from_part, is_range_within, max_line, to_part}
use Rattle.project_limits.proofs.Headers.{sections_good}
use Rattle.project_limits.proofs.Options.{AreGood, options_good}

only_key : option_key (codes "only") ≡ Some Only
unfolding option_key
only_key = refl

skip_key : option_key (codes "skip") ≡ Some Skip
unfolding option_key
skip_key = refl

-- ---- a word behind `only`

-- a number within limits is the one that its word says
record IsSaid (least most : ℕ) (number : ℕ) (word : List ℕ) : Type 0 where
  same : number ≡ value word
  from : least ≤ value word
  to : value word ≤ most

number_said : (default least most : ℕ) (word : List ℕ) (low high : ℕ) → is_within least most word ≡ true → is_within low high word ≡ true → IsSaid least most (value_within default low high word) word
unfolding is_within value_within
number_said default least most word low high is all =
    let parts = and_parts (is_number word) (nat_le least (value word) && nat_le (value word) most) is in
    let limits = and_parts (nat_le least (value word)) (nat_le (value word) most) parts.1 in
    record { same = ap (λ (b : Bool). if b then value word else default) all; from = leb-true least (value word) limits.0; to = leb-true (value word) most limits.1 }

lower : (least below most : ℕ) (word : List ℕ) → below ≤ least → is_within least most word ≡ true → is_within below most word ≡ true
unfolding is_within
lower least below most word fewer is =
    let parts = and_parts (is_number word) (nat_le least (value word) && nat_le (value word) most) is in
    let limits = and_parts (nat_le least (value word)) (nat_le (value word) most) parts.1 in
    let first : least ≤ value word = leb-true least (value word) limits.0 in
    rw (parts.0, le-leb below (value word) (omega (arith, first)), limits.1) refl

both_within : (word : List ℕ) → is_range_within word ≡ true → (is_within 1 max_line (from_part word) ≡ true) × (is_within (value (from_part word)) max_line (to_part word) ≡ true)
unfolding is_range_within
both_within word is = and_parts (is_within 1 max_line (from_part word)) (is_within (value (from_part word)) max_line (to_part word)) is

place_of : (project : Project) (around : Around) (word : List ℕ) → around.design ≡ project.design → is_of_design around word ≡ true → is_range_within word ≡ true → IsOfDesign project (range_of around.known word)
place_of project around word same of_design within =
    let both = both_within word within in
    let first = number_said 1 1 max_line (from_part word) 1 max_line both.0 both.0 in
    let last = number_said 1 (value (from_part word)) max_line (to_part word) 1 max_line both.1 (lower (value (from_part word)) 1 max_line (to_part word) first.from both.1) in
    record {
      file = subst (λ (all : List (List ℕ)). IsTrue (is_among (path_of around.known (file_part word)) all)) same of_design;
      least = omega (arith, first.same, first.from);
      ordered = omega (arith, first.same, last.same, last.from);
    }

places : (project : Project) (around : Around) (words : List (List ℕ)) → around.design ≡ project.design → list_all (is_of_design around) words ≡ true → list_all is_range_within words ≡ true
    → All (IsOfDesign project) (map (range_of around.known) words)
places project around [] same of_design within = All-nil (IsOfDesign project)
places project around (word ∷ more) same of_design within =
    let file = and_parts (is_of_design around word) (list_all (is_of_design around) more) of_design in
    let numbers = and_parts (is_range_within word) (list_all is_range_within more) within in
    All-cons (IsOfDesign project) (range_of around.known word) (map (range_of around.known) more) (place_of project around word same file.0 numbers.0) (places project around more same file.1 numbers.1)

-- ---- the words behind the keys

only_known : (around : Around) (args : List (List ℕ)) → is_option_known around Only args ≡ true → list_all (is_of_design around) args ≡ true
unfolding is_option_known
only_known around args is = is

only_range : (args : List (List ℕ)) → is_option_range Only args ≡ true → (nat_le (length args) 64 ≡ true) × (list_all is_range_within args ≡ true)
unfolding is_option_range
only_range args is = and_parts (nat_le (length args) 64) (list_all is_range_within args) is

skip_range : (args : List (List ℕ)) → is_option_range Skip args ≡ true → length args ≤ 64
unfolding is_option_range
skip_range args is = leb-true (length args) 64 is

abbrev words_of : Option (List ℕ) → List (List ℕ)
words_of found = elim found [ None ↦ [] | Some line ↦ args_of line ]

found_places : (project : Project) (around : Around) (found : Option (List ℕ)) → around.design ≡ project.design → IfSome found (λ line. AreGood around Only (args_of line)) → All (IsOfDesign project) (map (range_of around.known) (words_of found))
found_places project around None same good = All-nil (IsOfDesign project)
found_places project around (Some line) same good = places project around (args_of line) same (only_known around (args_of line) good.known) (only_range (args_of line) good.range).1

few_places : (around : Around) (found : Option (List ℕ)) → IfSome found (λ line. AreGood around Only (args_of line)) → length (map (range_of around.known) (words_of found)) ≤ 64
few_places around None good = omega arith
few_places around (Some line) good = omega (arith, length-map (args_of line) (range_of around.known), leb-true (length (args_of line)) 64 (only_range (args_of line) good.range).0)

few_skipped : (around : Around) (found : Option (List ℕ)) → IfSome found (λ line. AreGood around Skip (args_of line)) → length (words_of found) ≤ 64
few_skipped around None good = omega arith
few_skipped around (Some line) good = skip_range (args_of line) good.range

-- ---- the project

module _ (parts : List Part) where
  abbrev options : List (List ℕ)
  options = lines_in (codes "options") parts

  design_same : (around_in parts).design ≡ (project_of parts).design
  unfolding project_of
  design_same = refl

  only_of : IfSome (find_line (codes "only") options) (λ line. AreGood (around_in parts) Only (args_of line)) → (project_of parts).design ≡ (around_in parts).design → All (IsOfDesign (project_of parts)) (project_of parts).only
  unfolding project_of only_in args_in
  only_of good same = found_places (project_of parts) (around_in parts) (find_line (codes "only") options) (sym same) good

  few_only : IfSome (find_line (codes "only") options) (λ line. AreGood (around_in parts) Only (args_of line)) → length (project_of parts).only ≤ 64
  unfolding project_of only_in args_in
  few_only good = few_places (around_in parts) (find_line (codes "only") options) good

  few_skip : IfSome (find_line (codes "skip") options) (λ line. AreGood (around_in parts) Skip (args_of line)) → length (project_of parts).skip ≤ 64
  unfolding project_of args_in
  few_skip good = few_skipped (around_in parts) (find_line (codes "skip") options) good

pub places_known : (bytes : List ℕ) (project : Project) → IsProject bytes project → All (IsOfDesign project) project.only
places_known bytes project is =
    let parts : List Part = parts_of 1 (lines bytes) in
    let good = options_good (around_in parts) Only (codes "only") only_key refl parts (sections_good (lines bytes) is.faultless) in
    subst (λ (p : Project). All (IsOfDesign p) p.only) (sym is.says) (only_of parts good (sym (design_same parts)))

pub places_few : (bytes : List ℕ) (project : Project) → IsProject bytes project → (length project.only ≤ 64) × (length project.skip ≤ 64)
places_few bytes project is =
    let parts : List Part = parts_of 1 (lines bytes) in
    let good = sections_good (lines bytes) is.faultless in
    let only = few_only parts (options_good (around_in parts) Only (codes "only") only_key refl parts good) in
    let skip = few_skip parts (options_good (around_in parts) Skip (codes "skip") skip_key refl parts good) in
    subst (λ (p : Project). (length p.only ≤ 64) × (length p.skip ≤ 64)) (sym is.says) (only, skip)
