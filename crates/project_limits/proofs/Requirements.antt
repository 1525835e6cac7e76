-- What a project requires of its tags.
use Rattle.project_limits.proofs.Common.{◌≡◌, ℕ, true, List, [], ◌∷◌, Option, Some, None, IfSome, codes, refl, subst, sym, arith, IsTrue, list_all, lines, args_of, find_line, Part, lines_in, parts_of}
use Rattle.project_limits.proofs.Common.{is_among, Require, Around, are_tags, is_option_known, option_key, Project, args_in, requirement_in, requirement_of, around_in, project_of, IsProject, IsOfTags}
use Rattle.std.proofs.lemmas.Bool.{and_parts}
use Rattle.project_limits.proofs.Headers.{sections_good}
use Rattle.project_limits.proofs.Options.{AreGood, options_good}
use Rattle.project_limits.proofs.Sizes.{value_from}

require_key : option_key (codes "require") ≡ Some Require
unfolding option_key
require_key = refl

known_tags : (around : Around) (args : List (List ℕ)) → is_option_known around Require args ≡ true → are_tags around args ≡ true
unfolding is_option_known
known_tags around args is = is

-- what the words behind `require` say, where they speak of the tags
of_tags : (project : Project) (around : Around) (args : List (List ℕ)) → around.tags ≡ project.tags → are_tags around args ≡ true → IfSome (requirement_of args) (IsOfTags project)
of_tags project around [] same is = tt
of_tags project around (percent ∷ []) same is = tt
of_tags project around (percent ∷ tag ∷ []) same is = tt
of_tags project around (percent ∷ tag ∷ of ∷ tags) same is =
    let both = and_parts (is_among tag around.tags) (list_all (λ word. is_among word around.tags) tags) is in
    let within = value_from 100 1 100 percent (omega arith, omega arith) in
    record {
      least = within.0;
      most = within.1;
      counted = subst (λ (all : List (List ℕ)). IsTrue (is_among tag all)) same both.0;
      among = subst (λ (all : List (List ℕ)). IsTrue (list_all (λ word. is_among word all) tags)) same both.1;
    }

found_of_tags : (project : Project) (around : Around) (found : Option (List ℕ)) → around.tags ≡ project.tags → IfSome found (λ line. AreGood around Require (args_of line))
    → IfSome (requirement_of (elim found [ None ↦ [] | Some line ↦ args_of line ])) (IsOfTags project)
found_of_tags project around None same good = tt
found_of_tags project around (Some line) same good = of_tags project around (args_of line) same (known_tags around (args_of line) good.known)

tags_same : (parts : List Part) → (around_in parts).tags ≡ (project_of parts).tags
unfolding project_of
tags_same parts = refl

required : (project : Project) (parts : List Part) → (around_in parts).tags ≡ project.tags → IfSome (find_line (codes "require") (lines_in (codes "options") parts)) (λ line. AreGood (around_in parts) Require (args_of line))
    → IfSome (requirement_in (lines_in (codes "options") parts)) (IsOfTags project)
unfolding requirement_in args_in
required project parts same good = found_of_tags project (around_in parts) (find_line (codes "require") (lines_in (codes "options") parts)) same good

requirement_same : (parts : List Part) → requirement_in (lines_in (codes "options") parts) ≡ (project_of parts).requirement
unfolding project_of
requirement_same parts = refl

pub requirement_known : (bytes : List ℕ) (project : Project) → IsProject bytes project → IfSome project.requirement (IsOfTags project)
requirement_known bytes project is =
    let parts : List Part = parts_of 1 (lines bytes) in
    let good = options_good (around_in parts) Require (codes "require") require_key refl parts (sections_good (lines bytes) is.faultless) in
    let here : IfSome (project_of parts).requirement (IsOfTags (project_of parts)) =
    subst (λ o. IfSome o (IsOfTags (project_of parts))) (requirement_same parts) (required (project_of parts) parts (tags_same parts) good) in
    subst (λ (p : Project). IfSome p.requirement (IsOfTags p)) (sym is.says) here
