use Rattle.sat_solver.proofs.Common.{◌≡◌, ◌-◌, ◌<◌, ◌≤◌, ℕ, length, get_or, ap, ◌∙◌, rules, arith, OnTrue, FitsSigned, w32, to_z-of_z, variable, literal_at}
use Rattle.sat_solver.proofs.Choosing.{recent-from}
use Rattle.sat_solver.proofs.choose.is_recent.Goals as goal

pub returns : goal.returns
returns c =
    let fits : FitsSigned w32 c.args.l = search rules in
    let len : c.len.result ≡ length c.args.trail.now.starts.items = omega (arith, c.len.ensures, c.args.trail.now.starts.ok.0) in
    let found : OnTrue c.is_from.result ((place : ℕ) × (c.index.result.now ≤ place) × (place < length c.args.trail.now.literals.items) × (variable (literal_at c.args.trail.now.literals.items place) ≡ variable c.args.l)) = rw (to_z-of_z w32 c.args.l fits, c.deref.ensures.value) at c.is_from.ensures in
    recent-from c.args.trail.now.values.items c.args.trail.now.literals.items c.args.trail.now.starts.items c.args.l c.index.result.now c.is_from.result c.requires.unwound c.requires.starts
    (c.index.ensures ∙ ap (λ (n : ℕ). get_or c.args.trail.now.starts.items (n - 1) c.index.result.now) len) found
