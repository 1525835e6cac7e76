-- How many tags a project has.
use Rattle.project_limits.proofs.Common.{◌≡◌, ℕ, ◌≤◌, true, List, [], length, Option, Some, None, IfSome, codes, nat_le, refl, sym, subst, arith, nat_tests, lines, args_of, find_line, Part, lines_in}
use Rattle.project_limits.proofs.Common.{parts_of, Tags, Around, is_option_range, option_key, Project, args_in, around_in, project_of, IsProject}
use Rattle.project_limits.proofs.Headers.{sections_good}
use Rattle.project_limits.proofs.Options.{AreGood, options_good}

tags_key : option_key (codes "tags") ≡ Some Tags
unfolding option_key
tags_key = refl

within : (args : List (List ℕ)) → is_option_range Tags args ≡ true → length args ≤ 32
unfolding is_option_range
within args is = (let few : nat_le (length args) 32 ≡ true = is in grind (arith, nat_tests))

found_few : (around : Around) (found : Option (List ℕ)) → IfSome found (λ line. AreGood around Tags (args_of line)) → length {A = List ℕ} (elim found [ None ↦ [] | Some line ↦ args_of line ]) ≤ 32
found_few around None good = omega arith
found_few around (Some line) good = within (args_of line) good.range

tags_of : (around : Around) (parts : List Part) → IfSome (find_line (codes "tags") (lines_in (codes "options") parts)) (λ line. AreGood around Tags (args_of line)) → length (project_of parts).tags ≤ 32
unfolding project_of args_in
tags_of around parts good = found_few around (find_line (codes "tags") (lines_in (codes "options") parts)) good

pub tags_few : (bytes : List ℕ) (project : Project) → IsProject bytes project → length project.tags ≤ 32
tags_few bytes project is =
    let parts : List Part = parts_of 1 (lines bytes) in
    subst (λ (p : Project). length p.tags ≤ 32) (sym is.says)
    (tags_of (around_in parts) parts (options_good (around_in parts) Tags (codes "tags") tags_key refl parts (sections_good (lines bytes) is.faultless)))
