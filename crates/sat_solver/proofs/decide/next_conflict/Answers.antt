use Rattle.sat_solver.proofs.Common.{◌≡◌, ◌<◌, ◌≤◌, ◌++◌, ◌∷◌, [], ℕ, Bool, Option, None, Some, length, set, ap, ◌∙◌, rules, arith, All, FitsSigned, w32, to_z-of_z, All-contains, variable}
use Rattle.sat_solver.proofs.Common.{is_positive, IsQuiet, known_of, IsReady, IsAssigned}
use Rattle.sat_solver.proofs.Grown.{count-le}
use Rattle.sat_solver.proofs.Ready.{ready-grown, ready-decide, ready-same}
use Rattle.sat_solver.proofs.decide.next_conflict.Goals as goal

pub returns-in_err-conflict-clause-ready : goal.returns-in_err-conflict-clause-ready
returns-in_err-conflict-clause-ready c = ready-grown c.args.store.now c.args.free c.decisions.propagator.trail c.propagate.new.self.trail c.decisions.invariant.0 c.propagate.ensures.grown

pub returns-in-Some-clause-ready : goal.returns-in-Some-clause-ready
returns-in-Some-clause-ready c = ready-grown c.args.store.now c.args.free c.decisions.propagator.trail c.propagate.new.self.trail c.decisions.invariant.0 c.propagate.ensures.grown

pub returns-in-None-clause-ready : goal.returns-in-None-clause-ready
returns-in-None-clause-ready c = ready-grown c.args.store.now c.args.free c.decisions.propagator.trail c.propagate.new.self.trail c.decisions.invariant.0 c.propagate.ensures.grown

pub decide-requires-clause-short : goal.decide-requires-clause-short
decide-requires-clause-short c =
    let ready : IsReady c.args.store.now c.args.free c.propagate.new.self.trail = ready-grown c.args.store.now c.args.free c.decisions.propagator.trail c.propagate.new.self.trail c.decisions.invariant.0 c.propagate.ensures.grown in
    omega (arith, ready.trail.counted, count-le c.propagate.new.self.trail.values.items, c.propagate.ensures.grown.len, c.decisions.invariant.1, c.requires.short)

pub decide-requires-clause-open : goal.decide-requires-clause-open
decide-requires-clause-open c =
    let fits : FitsSigned w32 c.negative.result = search rules in
    let v : variable c.negative.result ≡ c.in-Some-open_bit.v = c.negative.ensures in
    rw (to_z-of_z w32 c.negative.result fits, v, ← c.deref.ensures.value) c.in-Some-open_bit.ensures.open

pub open_bit-requires : goal.open_bit-requires
open_bit-requires c = λ k d h. rw c.deref.ensures.value (omega (arith, (c.requires.bits k d h).1, c.requires.free, c.propagate.ensures.grown.len, c.decisions.invariant.1))

pub decide-requires-clause-within : goal.decide-requires-clause-within
decide-requires-clause-within c =
    let fits : FitsSigned w32 c.negative.result = search rules in
    let v : variable c.negative.result ≡ c.in-Some-open_bit.v = c.negative.ensures in
    let P : ℕ → Type 0 = λ w. (0 < w) × (w ≤ c.args.free) in
    let found : (0 < c.in-Some-open_bit.v) × (c.in-Some-open_bit.v ≤ c.args.free) = All-contains P c.args.bits.now c.in-Some-open_bit.v c.requires.bits c.in-Some-open_bit.ensures.found in
    rw (to_z-of_z w32 c.negative.result fits) (omega (arith, v, found.1, c.requires.free, c.propagate.ensures.grown.len, c.decisions.invariant.1))

pub negative-requires : goal.negative-requires
negative-requires c =
    let P : ℕ → Type 0 = λ w. (0 < w) × (w ≤ c.args.free) in
    let found : (0 < c.in-Some-open_bit.v) × (c.in-Some-open_bit.v ≤ c.args.free) = All-contains P c.args.bits.now c.in-Some-open_bit.v c.requires.bits c.in-Some-open_bit.ensures.found in
    omega (arith, found.1, c.requires.free, c.requires.short)

pub decide-requires-clause-kept : goal.decide-requires-clause-kept
decide-requires-clause-kept c = (c.args.store.now, c.propagate.ensures.kept)

pub decisions-preserved : goal.decisions-preserved
decisions-preserved c =
    let ready : IsReady c.args.store.now c.args.free c.propagate.new.self.trail = ready-grown c.args.store.now c.args.free c.decisions.propagator.trail c.propagate.new.self.trail c.decisions.invariant.0 c.propagate.ensures.grown in
    let quiet : All (IsQuiet (known_of c.propagate.new.self.trail.values.items)) c.args.store.now = rw c.in_default.is at c.in_ok-conflict.ensures.end in
    let fits : FitsSigned w32 c.negative.result = search rules in
    let decided : IsAssigned c.negative.result 0 c.propagate.new.self.trail c.decide.new.self.trail = rw (to_z-of_z w32 c.negative.result fits) at c.in_ok-decide-in-Some-open_bit.ensures.decided in
    let P : ℕ → Type 0 = λ w. (0 < w) × (w ≤ c.args.free) in
    let found : (0 < c.in-Some-open_bit.v) × (c.in-Some-open_bit.v ≤ c.args.free) = All-contains P c.args.bits.now c.in-Some-open_bit.v c.requires.bits c.in-Some-open_bit.ensures.found in
    let v : variable c.negative.result ≡ c.in-Some-open_bit.v = c.negative.ensures in
    let open_ : known_of c.propagate.new.self.trail.values.items (variable c.negative.result) ≡ None = rw (v, ← c.deref.ensures.value) c.in-Some-open_bit.ensures.open in
    let len : length c.propagate.new.self.trail.values.items ≡ length c.args.propagator.now.trail.values.items = c.propagate.ensures.grown.len ∙ c.decisions.invariant.1 in
    let values : c.decide.new.self.trail.values.items ≡ set c.propagate.new.self.trail.values.items (variable c.negative.result) (Some (is_positive c.negative.result)) = decided.values in
    let literals : c.decide.new.self.trail.literals.items ≡ c.propagate.new.self.trail.literals.items ++ c.negative.result ∷ [] = decided.literals in (
      ready-decide c.args.store.now c.args.free c.propagate.new.self.trail c.decide.new.self.trail c.negative.result ready quiet (omega (arith, v, found.1, len, c.requires.free)) open_ (omega (arith, v, found.0)) (omega (arith, v, found.1)) values literals decided.reasons c.in_ok-decide-in-Some-open_bit.ensures.starts,
      ap (length {A = Option Bool}) values ∙ Rattle.std.proofs.lemmas.List.length-set c.propagate.new.self.trail.values.items (variable c.negative.result) (Some (is_positive c.negative.result)) ∙ len,
      c.decide.ensures.kept c.args.store.now c.propagate.ensures.kept,
    )

pub returns-in_err-decide-in-Some-open_bit-clause-ready : goal.returns-in_err-decide-in-Some-open_bit-clause-ready
returns-in_err-decide-in-Some-open_bit-clause-ready c =
    ready-same c.args.store.now c.args.free c.propagate.new.self.trail c.decide.new.self.trail c.in_err-decide-in-Some-open_bit.ensures.err c.in_err-decide-in-Some-open_bit.ensures.err_starts (ready-grown c.args.store.now c.args.free c.decisions.propagator.trail c.propagate.new.self.trail c.decisions.invariant.0 c.propagate.ensures.grown)

pub decide-requires-clause-whole : goal.decide-requires-clause-whole
decide-requires-clause-whole c = rw c.in_default.is at c.in_ok-conflict.ensures.whole
