-- The number of mutations that a project asks for, and that of the lemmas that it gives an equivalence test.
use Rattle.project_limits.proofs.Common.{◌≡◌, ℕ, ◌≤◌, Bool, true, false, ◌&&◌, if◌then◌else◌, List, nat_le, refl, sym, subst, arith, nat_tests, lines, Project, conflicts_in, number_in, size_in}
use Rattle.project_limits.proofs.Common.{IsProject, project_of, Part, parts_of}
use Rattle.project_lines.specs.Numbers.{is_number, is_within, value, value_within}

-- a number is in a range
abbrev pub IsFrom : (least most number : ℕ) → Type 0
IsFrom least most number = (least ≤ number) × (number ≤ most)

from_both : (a b c : Bool) (v default least most : ℕ) → b ≡ nat_le least v → c ≡ nat_le v most → IsFrom least most default → IsFrom least most (if a && (b && c) then v else default)
from_both true true true v default least most low high is = (grind (arith, nat_tests), grind (arith, nat_tests))
from_both true true false v default least most low high is = is
from_both true false c v default least most low high is = is
from_both false b c v default least most low high is = is

pub value_from : (default least most : ℕ) (word : List ℕ) → IsFrom least most default → IsFrom least most (value_within default least most word)
unfolding value_within is_within
value_from default least most word is = from_both (is_number word) (nat_le least (value word)) (nat_le (value word) most) (value word) default least most refl refl is

size_from : (all : List (List ℕ)) → IsFrom 1 10000 (size_in all)
unfolding number_in
size_from all = value_from 20 1 10000 _ (omega arith, omega arith)

conflicts_from : (all : List (List ℕ)) → IsFrom 1 100000 (conflicts_in all)
unfolding number_in
conflicts_from all = value_from 20000 1 100000 _ (omega arith, omega arith)

project_size : (parts : List Part) → IsFrom 1 10000 (project_of parts).size
unfolding project_of
project_size parts = size_from _

project_conflicts : (parts : List Part) → IsFrom 1 100000 (project_of parts).conflicts
unfolding project_of
project_conflicts parts = conflicts_from _

pub size_within : (bytes : List ℕ) (project : Project) → IsProject bytes project → project.size ≤ 10000
size_within bytes project is = subst (λ (p : Project). p.size ≤ 10000) (sym is.says) (project_size (parts_of 1 (lines bytes))).1

pub conflicts_within : (bytes : List ℕ) (project : Project) → IsProject bytes project → IsFrom 1 100000 project.conflicts
conflicts_within bytes project is = subst (λ (p : Project). IsFrom 1 100000 p.conflicts) (sym is.says) (project_conflicts (parts_of 1 (lines bytes)))
