use Rattle.sat_solver.proofs.Common.{◌≡◌, ◌+◌, ◌<◌, ◌≤◌, ℕ, List, length, take, get_or, neg_ℤ, to_z, of_z, ap, sym, ◌∙◌, subst, rules, arith, All, FitsSigned, w32, to_z-of_z, length-take-le, take_all}
use Rattle.sat_solver.proofs.Common.{All-more, known_of, assigned, IsGrown, list_of, numbered, IsSettled, pair_of}
use Rattle.sat_solver.proofs.Grown.{grown-trans}
use Rattle.sat_solver.proofs.Settled.{settled-more}
use Rattle.sat_solver.proofs.Indexed.{held, held-times}
use Rattle.sat_solver.proofs.Watched.{counted-none}
use Rattle.sat_solver.proofs.Kept.{known-below, examined-quiet, examined-settled, settled-visited}
use Rattle.sat_solver.proofs.propagator.Propagator.visit.Goals as goal

pub examine_counted-requires-clause-number : goal.examine_counted-requires-clause-number
examine_counted-requires-clause-number c =
    let inside : c.loop-place.place < length (list_of c.loop-place.self.occurrences (neg_ℤ (to_z w32 (of_z w32 c.args.l)))) = omega (arith, c.loop-place-test.true, ap (length {A = ℕ}) c.against-place-end.ensures, ap (λ (xs : List (List ℕ)). length (list_of xs (neg_ℤ (to_z w32 (of_z w32 c.args.l))))) c.loop-place.invariant.steady.occurrences) in
    let there = held c.loop-place.invariant.kept.counted c.loop-place.self.occurrences (neg_ℤ (to_z w32 (of_z w32 c.args.l))) c.loop-place.place 0 c.loop-place.invariant.kept.indexed.holders inside in
    let same : get_or c.against.result.now c.loop-place.place 0 ≡ get_or (list_of c.loop-place.self.occurrences (neg_ℤ (to_z w32 (of_z w32 c.args.l)))) c.loop-place.place 0 = ap (λ (xs : List ℕ). get_or xs c.loop-place.place 0) c.against.ensures in
    (omega (arith, there.0, same), omega (arith, there.1, same, c.loop-place.invariant.kept.watched.len, length-take-le c.loop-place.self.taken c.args.store.now c.loop-place.invariant.kept.few))

pub examine_counted-requires-clause-counted : goal.examine_counted-requires-clause-counted
examine_counted-requires-clause-counted c =
    let inside : c.loop-place.place < length (list_of c.loop-place.self.occurrences (neg_ℤ (to_z w32 (of_z w32 c.args.l)))) = omega (arith, c.loop-place-test.true, ap (length {A = ℕ}) c.against-place-end.ensures, ap (λ (xs : List (List ℕ)). length (list_of xs (neg_ℤ (to_z w32 (of_z w32 c.args.l))))) c.loop-place.invariant.steady.occurrences) in
    let same : get_or c.against.result.now c.loop-place.place 0 ≡ get_or (list_of c.loop-place.self.occurrences (neg_ℤ (to_z w32 (of_z w32 c.args.l)))) c.loop-place.place 0 = ap (λ (xs : List ℕ). get_or xs c.loop-place.place 0) c.against.ensures in
    ap (pair_of c.loop-place.self.watches) same ∙ counted-none (take c.loop-place.self.taken c.args.store.now) c.loop-place.invariant.kept.counted c.loop-place.self.watches (neg_ℤ (to_z w32 (of_z w32 c.args.l))) (get_or (list_of c.loop-place.self.occurrences (neg_ℤ (to_z w32 (of_z w32 c.args.l)))) c.loop-place.place 0) c.loop-place.invariant.kept.watched
    (held-times c.loop-place.invariant.kept.counted c.loop-place.self.occurrences (neg_ℤ (to_z w32 (of_z w32 c.args.l))) c.loop-place.place 0 c.loop-place.invariant.kept.indexed.holders inside)

pub returns-in_err-examine_counted-clause-grown : goal.returns-in_err-examine_counted-clause-grown
returns-in_err-examine_counted-clause-grown c = grown-trans c.args.store.now c.args.self.now.trail c.loop-place.self.trail c.examine_counted.new.self.trail c.loop-place.invariant.grown c.examine_counted.ensures.grown

pub returns-then-branch-clause-grown : goal.returns-then-branch-clause-grown
returns-then-branch-clause-grown c = grown-trans c.args.store.now c.args.self.now.trail c.loop-place.self.trail c.examine_counted.new.self.trail c.loop-place.invariant.grown c.examine_counted.ensures.grown

pub loop-place-preserved : goal.loop-place-preserved
loop-place-preserved c =
    let list : List ℕ = list_of c.args.self.now.occurrences (neg_ℤ (to_z w32 (of_z w32 c.args.l))) in
    let inside : c.loop-place.place < length (list_of c.args.self.now.occurrences (neg_ℤ (to_z w32 (of_z w32 c.args.l)))) = omega (arith, c.loop-place-test.true, ap (length {A = ℕ}) c.against-place-end.ensures) in
    let within : c.loop-place.place < length (list_of c.loop-place.self.occurrences (neg_ℤ (to_z w32 (of_z w32 c.args.l)))) = omega (arith, inside, ap (λ (xs : List (List ℕ)). length (list_of xs (neg_ℤ (to_z w32 (of_z w32 c.args.l))))) c.loop-place.invariant.steady.occurrences) in
    let there = held c.loop-place.invariant.kept.counted c.loop-place.self.occurrences (neg_ℤ (to_z w32 (of_z w32 c.args.l))) c.loop-place.place 0 c.loop-place.invariant.kept.indexed.holders within in
    let number : ℕ = get_or c.against.result.now c.loop-place.place 0 in
    let same : get_or c.against.result.now c.loop-place.place 0 ≡ get_or (list_of c.loop-place.self.occurrences (neg_ℤ (to_z w32 (of_z w32 c.args.l)))) c.loop-place.place 0 = ap (λ (xs : List ℕ). get_or xs c.loop-place.place 0) c.against.ensures in
    let of_initial : get_or c.against.result.now c.loop-place.place 0 ≡ get_or (list_of c.args.self.now.occurrences (neg_ℤ (to_z w32 (of_z w32 c.args.l)))) c.loop-place.place 0 = same ∙ ap (λ (xs : List (List ℕ)). get_or (list_of xs (neg_ℤ (to_z w32 (of_z w32 c.args.l)))) c.loop-place.place 0) c.loop-place.invariant.steady.occurrences in
    let few : get_or c.against.result.now c.loop-place.place 0 ≤ c.loop-place.self.taken = omega (arith, there.1, same, c.loop-place.invariant.kept.watched.len, length-take-le c.loop-place.self.taken c.args.store.now c.loop-place.invariant.kept.few) in
    let grown : IsGrown c.args.store.now c.args.self.now.trail c.examine_counted.new.self.trail = grown-trans c.args.store.now c.args.self.now.trail c.loop-place.self.trail c.examine_counted.new.self.trail c.loop-place.invariant.grown c.examine_counted.ensures.grown in
    let quiet = examined-quiet c.args.store.now (known_of c.examine_counted.new.self.trail.values.items) (get_or c.against.result.now c.loop-place.place 0) c.in_ok-examine_counted.field-0 (omega (arith, there.0, same)) (omega (arith, few, c.loop-place.invariant.kept.few)) c.if-branch.false c.in_ok-examine_counted.ensures.end in
    let here = examined-settled c.args.store.now c.args.self.now c.examine_counted.new.self (get_or c.against.result.now c.loop-place.place 0) c.examine_counted.ensures.kept grown c.requires.next.0 (omega (arith, few, c.loop-place.invariant.steady.taken)) quiet in
    let below = known-below c.args.store.now c.loop-place.self.trail c.examine_counted.new.self.trail c.loop-place.invariant.kept.unwound c.examine_counted.ensures.kept.unwound c.examine_counted.ensures.grown in
    let P : ℕ → Type 0 = λ n. IsSettled (assigned (take (c.args.self.now.head + 1) c.args.self.now.trail.literals.items)) (known_of c.examine_counted.new.self.trail.values.items) (numbered (take c.args.self.now.taken c.args.store.now) n) in
    record {
      kept = c.examine_counted.ensures.kept;
      grown = grown;
      steady = record {
        occurrences = c.examine_counted.ensures.steady.occurrences ∙ c.loop-place.invariant.steady.occurrences;
        taken = c.examine_counted.ensures.steady.taken ∙ c.loop-place.invariant.steady.taken;
        head = c.examine_counted.ensures.steady.head ∙ c.loop-place.invariant.steady.head;
        watches = c.examine_counted.ensures.steady.watches ∙ c.loop-place.invariant.steady.watches;
      };
      visited = All-more P (list_of c.args.self.now.occurrences (neg_ℤ (to_z w32 (of_z w32 c.args.l)))) c.loop-place.place 0 inside
          (λ k d h. settled-more (assigned (take (c.args.self.now.head + 1) c.args.self.now.trail.literals.items)) (known_of c.loop-place.self.trail.values.items) (known_of c.examine_counted.new.self.trail.values.items) (numbered (take c.args.self.now.taken c.args.store.now) (get_or (take c.loop-place.place (list_of c.args.self.now.occurrences (neg_ℤ (to_z w32 (of_z w32 c.args.l))))) k d)) below (c.loop-place.invariant.visited k d h))
          (subst P of_initial here);
    }

pub returns-clause-end : goal.returns-clause-end
returns-clause-end c =
    let fits : FitsSigned w32 c.args.l = search rules in
    let P : ℕ → Type 0 = λ n. IsSettled (assigned (take (c.args.self.now.head + 1) c.args.self.now.trail.literals.items)) (known_of c.loop-place.self.trail.values.items) (numbered (take c.args.self.now.taken c.args.store.now) n) in
    let list : length (list_of c.args.self.now.occurrences (neg_ℤ (to_z w32 (of_z w32 c.args.l)))) ≤ c.loop-place.place = omega (arith, c.loop-place-test.false, ap (length {A = ℕ}) c.against-place-end.ensures) in
    let whole : take c.loop-place.place (list_of c.args.self.now.occurrences (neg_ℤ (to_z w32 (of_z w32 c.args.l)))) ≡ list_of c.loop-place.self.occurrences (neg_ℤ (to_z w32 (of_z w32 c.args.l))) = take_all c.loop-place.place (list_of c.args.self.now.occurrences (neg_ℤ (to_z w32 (of_z w32 c.args.l)))) list ∙ ap (λ (xs : List (List ℕ)). list_of xs (neg_ℤ (to_z w32 (of_z w32 c.args.l)))) (sym c.loop-place.invariant.steady.occurrences) in
    let Q : List ℕ → Type 0 = All P in
    settled-visited c.args.store.now c.args.self.now c.loop-place.self (to_z w32 (of_z w32 c.args.l)) c.loop-place.invariant.kept
    (record { occurrences = c.loop-place.invariant.steady.occurrences; taken = c.loop-place.invariant.steady.taken; head = c.loop-place.invariant.steady.head; watches = c.loop-place.invariant.steady.watches })
    c.loop-place.invariant.grown c.requires.next.0 (c.requires.next.1 ∙ sym (to_z-of_z w32 c.args.l fits)) c.requires.kept.unwound (subst Q whole c.loop-place.invariant.visited)
