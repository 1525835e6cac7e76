use Rattle.sat_solver.proofs.Common.{◌≡◌, ◌-◌, ◌<◌, ℤ, List, length, Some, ap, ◌∙◌, sym, subst, rules, arith, All, FitsSigned, w32, to_z-of_z, variable, Known, with_true, is_positive, clause_at}
use Rattle.sat_solver.proofs.Common.{IsUnit, IsQuiet, known_of, clause-within, clause_at-place, unit_variable, IsAssigned}
use Rattle.sat_solver.proofs.Pushes.{table-with, variable-open}
use Rattle.sat_solver.proofs.Grown.{grown-unit}
use Rattle.sat_solver.proofs.Settled.{quiet-made}
use Rattle.sat_solver.proofs.Kept.{same-clause}
use Rattle.sat_solver.proofs.propagator.Propagator.examine.Goals as goal

pub assign-requires-clause-within : goal.assign-requires-clause-within
assign-requires-clause-within c =
    let fits : FitsSigned w32 c.in-Unit.l = search rules in
    let unit : IsUnit (known_of c.args.self.now.trail.values.items) c.clause.result.now c.in-Unit.l = rw c.deref.ensures.value at c.in-Unit.ensures in
    let within : All (λ m. variable m < length c.args.self.now.trail.values.items) c.clause.result.now = clause-within c.args.store.now (length c.args.self.now.trail.values.items) (c.args.number - 1) c.clause.result.now c.requires.over c.clause.ensures in
    rw (to_z-of_z w32 c.in-Unit.l fits) (unit_variable (known_of c.args.self.now.trail.values.items) c.clause.result.now c.in-Unit.l (length c.args.self.now.trail.values.items) within unit)

pub returns-in_ok-assign-in-Unit-clause-grown : goal.returns-in_ok-assign-in-Unit-clause-grown
returns-in_ok-assign-in-Unit-clause-grown c =
    let fits : FitsSigned w32 c.in-Unit.l = search rules in
    let unit : IsUnit (known_of c.args.self.now.trail.values.items) c.clause.result.now c.in-Unit.l = rw c.deref.ensures.value at c.in-Unit.ensures in
    let all : All (λ m. variable m < length c.args.self.now.trail.values.items) c.clause.result.now = clause-within c.args.store.now (length c.args.self.now.trail.values.items) (c.args.number - 1) c.clause.result.now c.requires.over c.clause.ensures in
    let within : variable c.in-Unit.l < length c.args.self.now.trail.values.items = unit_variable (known_of c.args.self.now.trail.values.items) c.clause.result.now c.in-Unit.l (length c.args.self.now.trail.values.items) all unit in
    let at : clause_at c.args.store.now c.args.number ≡ Some c.clause.result.now = clause_at-place c.args.store.now c.args.number (Some c.clause.result.now) (λ e. omega (arith, e, c.requires.number.0)) c.clause.ensures in
    let made : IsAssigned c.in-Unit.l c.args.number c.args.self.now.trail c.assign.new.self.trail = rw (to_z-of_z w32 c.in-Unit.l fits) at c.in_ok-assign-in-Unit.ensures.assigned in
    (grown-unit c.args.store.now c.args.self.now.trail c.assign.new.self.trail c.in-Unit.l c.args.number c.clause.result.now within at unit made.values made.literals made.reasons (ap (λ v. v.items) c.assign.ensures.starts)).0

pub returns-in_ok-assign-in-Unit-clause-end : goal.returns-in_ok-assign-in-Unit-clause-end
returns-in_ok-assign-in-Unit-clause-end c clause is =
    let fits : FitsSigned w32 c.in-Unit.l = search rules in
    let unit : IsUnit (known_of c.args.self.now.trail.values.items) c.clause.result.now c.in-Unit.l = rw c.deref.ensures.value at c.in-Unit.ensures in
    let all : All (λ m. variable m < length c.args.self.now.trail.values.items) c.clause.result.now = clause-within c.args.store.now (length c.args.self.now.trail.values.items) (c.args.number - 1) c.clause.result.now c.requires.over c.clause.ensures in
    let within : variable c.in-Unit.l < length c.args.self.now.trail.values.items = unit_variable (known_of c.args.self.now.trail.values.items) c.clause.result.now c.in-Unit.l (length c.args.self.now.trail.values.items) all unit in
    let made : IsAssigned c.in-Unit.l c.args.number c.args.self.now.trail c.assign.new.self.trail = rw (to_z-of_z w32 c.in-Unit.l fits) at c.in_ok-assign-in-Unit.ensures.assigned in
    let known : known_of c.assign.new.self.trail.values.items ≡ with_true (known_of c.args.self.now.trail.values.items) c.in-Unit.l = ap known_of made.values ∙ table-with c.args.self.now.trail.values.items (variable c.in-Unit.l) (is_positive c.in-Unit.l) within in
    let P : Known → Type 0 = λ k. IsQuiet k clause in
    let Q : List ℤ → Type 0 = IsQuiet (with_true (known_of c.args.self.now.trail.values.items) c.in-Unit.l) in
    subst P (sym known) (subst Q (same-clause c.args.store.now c.args.number c.clause.result.now clause c.clause.ensures is) (quiet-made (known_of c.args.self.now.trail.values.items) c.in-Unit.l c.clause.result.now unit (variable-open (known_of c.args.self.now.trail.values.items) c.in-Unit.l unit.open_)))
