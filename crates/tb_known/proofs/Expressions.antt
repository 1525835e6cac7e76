-- Expressions, assignments and tasks in which nothing is wrong pass.
use Rattle.tb_known.proofs.Common.{◌≡◌, ℕ, Bool, true, false, not, ◌&&◌, ◌||◌, List, [], ◌∷◌, ◌++◌, map, refl, ap, codes, if◌then◌else◌, Option, None, Some, flat_map, Expr, Argument, Assignment, Decl}
use Rattle.tb_known.proofs.Common.{Signal, Constant, Names, sense, own_zeros, assigned, left_nil, right_nil, width_of, Part, vector_of, part_vector, parts_of, same_form, divisions, BenchFault, Wrong}
use Rattle.tb_known.proofs.Common.{all_of, task_passes, has_shape, is_signal, all_signals, can_assign, arguments_fit, wrong, sides_faults, name_faults, part_faults, argument_passes, bench_tests}
use Rattle.std.specs.Str.{bytes_eq}
use Rattle.vlog_syntax.specs.declared.identifier.Identifier.{Identifier}
use Rattle.vlog_syntax.specs.declared.stmt.Argument.TheVariants as a
use Rattle.tb_checks.specs.Statements.{Rules, is_print, is_dump, other_task, test_faults, assignment_faults, arguments_faults, format_faults, task_faults}
use Rattle.tb_known.proofs.Nothing.{none_before, empty_is, and_true}
use Rattle.vlog_meaning.proofs.Reading.{those_hold}

pub wrong_passes : (names : Names) (x : Expr) → wrong names x ≡ [] → has_shape names x ≡ true
wrong_passes names x e = empty_is (sense names x).faults (left_nil (sense names x).faults (sense names x).features e)

pub test_passes : (names : Names) (x : Expr) → test_faults names x ≡ [] → has_shape names x ≡ true
test_passes names x e = wrong_passes names x (none_before (wrong names x) (divisions (own_zeros (sense names x))) e)

-- Assignments.

named_signal : (clock : Option (List ℕ)) (n : Identifier) (d : Option Decl) → name_faults clock n d ≡ [] → is_signal (vector_of d) ≡ true
named_signal clock n (Some (Signal width low is_signed number)) e = refl
named_signal clock n (Some (Constant value low is_signed)) e = absurd cc
named_signal clock n None e = absurd cc

pub signals_pass : (names : Names) (clock : Option (List ℕ)) (parts : List Part) → flat_map (part_faults names clock) parts ≡ [] → all_signals names parts ≡ true
signals_pass names clock [] e = refl
signals_pass names clock (p ∷ more) e = and_true (is_signal (part_vector names p)) (all_signals names more) (named_signal clock p.name (names p.name.name) (left_nil (part_faults names clock p) (flat_map (part_faults names clock) more) e)) (signals_pass names clock more (right_nil (part_faults names clock p) (flat_map (part_faults names clock) more) e))

-- both sides, and signals on the left
pub sides_pass : (names : Names) (x : Assignment) → map Wrong (sides_faults names (same_form x.left) x.value) ≡ [] → all_signals names (parts_of x.left) ≡ true → can_assign names x ≡ true
sides_pass names x e signals =
    let left = same_form x.left in
    let both : wrong names left ++ wrong names x.value ≡ [] = none_before (wrong names left ++ wrong names x.value) (divisions (own_zeros (sense names left) ++ (sense names x.value).zeros (assigned (sense names x.value) (width_of names left)))) e in
    and_true (has_shape names left) (all_signals names (parts_of x.left) && has_shape names x.value) (wrong_passes names left (left_nil (wrong names left) (wrong names x.value) both))
    (and_true (all_signals names (parts_of x.left)) (has_shape names x.value) signals (wrong_passes names x.value (right_nil (wrong names left) (wrong names x.value) both)))

pub assignment_passes : (r : Rules) (x : Assignment) → assignment_faults r x ≡ [] → can_assign r.names x ≡ true
assignment_passes r x e =
    let sides : List BenchFault = map Wrong (sides_faults r.names (same_form x.left) x.value) in
    let written : List BenchFault = flat_map (part_faults r.names r.clock) (parts_of x.left) in
    sides_pass r.names x (left_nil sides written e) (signals_pass r.names r.clock (parts_of x.left) (right_nil sides written e))

-- Tasks.

pub arguments_pass : (names : Names) (arguments : List Argument) → arguments_faults names arguments ≡ [] → all_of (map (argument_passes names) arguments) ≡ true
arguments_pass names [] e = refl
arguments_pass names (a.String text at ∷ more) e = arguments_pass names more e
arguments_pass names (a.Expr x ∷ more) e = and_true (has_shape names x) (all_of (map (argument_passes names) more)) (test_passes names x (left_nil (test_faults names x) (arguments_faults names more) e)) (arguments_pass names more (right_nil (test_faults names x) (arguments_faults names more) e))

print_passes : (names : Names) (n : Identifier) (arguments : List Argument) (b : Bool) → is_print n.name ≡ b → (if b then format_faults (arguments_fit arguments) arguments ++ arguments_faults names arguments else (if is_dump n.name then [] else other_task n ++ arguments_faults names arguments)) ≡ [] → not (is_print n.name) || all_of (map (argument_passes names) arguments) ≡ true
print_passes names n arguments true is e = those_hold (not (is_print n.name)) (all_of (map (argument_passes names) arguments)) (arguments_pass names arguments (right_nil (format_faults (arguments_fit arguments) arguments) (arguments_faults names arguments) e))
print_passes names n arguments false is e = ap (λ (c : Bool). not c || all_of (map (argument_passes names) arguments)) is

pub task_is_known : (names : Names) (n : Identifier) (arguments : List Argument) → task_faults names n arguments ≡ [] → task_passes (bench_tests names) n.name arguments ≡ true
task_is_known names n arguments e = those_hold (bytes_eq n.name (codes "$finish")) (not (is_print n.name) || all_of (map (argument_passes names) arguments)) (print_passes names n arguments (is_print n.name) refl e)
