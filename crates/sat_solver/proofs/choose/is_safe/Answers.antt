use Rattle.sat_solver.proofs.Common.{◌≡◌, Bool, Some, ap, sym, ◌∙◌, rules, FitsSigned, w32, to_z-of_z, literal, is_some_false, known_of, OnTrue}
use Rattle.sat_solver.proofs.Choosing.{IsRecent, safe-unless, safe-recent, not-false-true, not-false-none}
use Rattle.sat_solver.proofs.choose.is_safe.Goals as goal

pub returns-then-not-second_false : goal.returns-then-not-second_false
returns-then-not-second_false c =
    let fits : FitsSigned w32 c.args.pair.first = search rules in
    let also : FitsSigned w32 c.args.pair.second = search rules in
    let second : c.is_false-second_false.result ≡ is_some_false (literal (known_of c.args.trail.now.values.items) c.args.pair.second) = rw (to_z-of_z w32 c.args.pair.second also, c.deref.ensures.value) at c.is_false-second_false.ensures in
    let first : c.literal_value.result ≡ literal (known_of c.args.trail.now.values.items) c.args.pair.first = rw (to_z-of_z w32 c.args.pair.first fits, c.deref-2.ensures.value) at c.literal_value.ensures in
    safe-unless c.args.trail.now.values.items c.args.trail.now.literals.items c.args.trail.now.starts.items c.args.pair c.is_false-second_false.result c.requires.unwound c.requires.starts second
    (not-false-true (literal (known_of c.args.trail.now.values.items) c.args.pair.first) (sym first ∙ c.in-Some-true.is ∙ ap (λ (b : Bool). Some b) c.in-Some-true.field-0-test))

pub returns-else-not-second_false : goal.returns-else-not-second_false
returns-else-not-second_false c =
    let fits : FitsSigned w32 c.args.pair.first = search rules in
    let also : FitsSigned w32 c.args.pair.second = search rules in
    let first : c.literal_value.result ≡ literal (known_of c.args.trail.now.values.items) c.args.pair.first = rw (to_z-of_z w32 c.args.pair.first fits, c.deref-2.ensures.value) at c.literal_value.ensures in
    let recent : OnTrue c.is_recent.result (IsRecent c.args.trail.now.literals.items c.args.trail.now.starts.items c.args.pair.second) = rw (to_z-of_z w32 c.args.pair.second also) at c.is_recent.ensures in
    safe-recent c.args.trail.now.values.items c.args.trail.now.literals.items c.args.trail.now.starts.items c.args.pair c.is_recent.result c.requires.unwound c.requires.starts (sym first ∙ c.in-Some-true.is ∙ ap (λ (b : Bool). Some b) c.in-Some-true.field-0-test) recent

pub returns-in-None : goal.returns-in-None
returns-in-None c =
    let fits : FitsSigned w32 c.args.pair.first = search rules in
    let also : FitsSigned w32 c.args.pair.second = search rules in
    let second : c.is_false-second_false.result ≡ is_some_false (literal (known_of c.args.trail.now.values.items) c.args.pair.second) = rw (to_z-of_z w32 c.args.pair.second also, c.deref.ensures.value) at c.is_false-second_false.ensures in
    let first : c.literal_value.result ≡ literal (known_of c.args.trail.now.values.items) c.args.pair.first = rw (to_z-of_z w32 c.args.pair.first fits, c.deref-2.ensures.value) at c.literal_value.ensures in
    safe-unless c.args.trail.now.values.items c.args.trail.now.literals.items c.args.trail.now.starts.items c.args.pair c.is_false-second_false.result c.requires.unwound c.requires.starts second
    (not-false-none (literal (known_of c.args.trail.now.values.items) c.args.pair.first) (sym first ∙ c.in-None.is))
