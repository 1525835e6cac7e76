use Rattle.sat_solver.proofs.Common.{◌≡◌, ◌+◌, ◌-◌, ◌<◌, ℕ, List, pos, length, take, get_or, nat_eq, to_z, of_z, ap, sym, ◌∙◌, subst, rules, arith, FitsSigned, count_by, w32, to_z-of_z}
use Rattle.sat_solver.proofs.Common.{get_or_default, Counts, assigned, literal_at, IsIndexed, AreRaised}
use Rattle.sat_solver.proofs.Indexed.{can-lower, indexed-lowered}
use Rattle.sat_solver.proofs.Undone.{kept-lower}
use Rattle.sat_solver.proofs.propagator.Propagator.uncount.Goals as goal

pub lower-requires : goal.lower-requires
lower-requires c =
    let fits : FitsSigned w32 c.index-l.result.now = search rules in
    let place : c.places.place - 1 < length c.args.self.now.trail.literals.items = omega (arith, c.places-test.true, c.places.invariant.within) in
    let at : literal_at c.args.self.now.trail.literals.items (c.places.place - 1) ≡ to_z w32 (of_z w32 c.index-l.result.now) = get_or_default c.args.self.now.trail.literals.items (c.places.place - 1) (pos 0) c.index-l.result.now place ∙ ap (λ t. get_or t.literals.items (c.places.place - 1) c.index-l.result.now) (sym c.places.invariant.trail) ∙ sym c.index-l.ensures ∙ sym (to_z-of_z w32 c.index-l.result.now fits) in
    let step = kept-lower c.requires.kept.0 c.requires.kept.1.counted c.args.self.now c.places.place (to_z w32 (of_z w32 c.index-l.result.now)) c.places.self.occurrences c.places.self.counts.falses.items c.places.self.counts.trues.items c.requires.kept.1 (omega (arith, c.places-test.true)) c.places.invariant.within at (c.places.invariant.indexed c.requires.kept.0 c.requires.kept.1) in
    rw c.against.ensures (can-lower c.requires.kept.1.counted (assigned (take (c.places.place - 1) c.args.self.now.trail.literals.items)) (to_z w32 (of_z w32 c.index-l.result.now)) step.1 c.places.self.occurrences c.places.self.counts step.0).0

pub lower-requires-in-places : goal.lower-requires-in-places
lower-requires-in-places c =
    let fits : FitsSigned w32 c.index-l.result.now = search rules in
    let place : c.places.place - 1 < length c.args.self.now.trail.literals.items = omega (arith, c.places-test.true, c.places.invariant.within) in
    let at : literal_at c.args.self.now.trail.literals.items (c.places.place - 1) ≡ to_z w32 (of_z w32 c.index-l.result.now) = get_or_default c.args.self.now.trail.literals.items (c.places.place - 1) (pos 0) c.index-l.result.now place ∙ ap (λ t. get_or t.literals.items (c.places.place - 1) c.index-l.result.now) (sym c.places.invariant.trail) ∙ sym c.index-l.ensures ∙ sym (to_z-of_z w32 c.index-l.result.now fits) in
    let step = kept-lower c.requires.kept.0 c.requires.kept.1.counted c.args.self.now c.places.place (to_z w32 (of_z w32 c.index-l.result.now)) c.places.self.occurrences c.places.self.counts.falses.items c.places.self.counts.trues.items c.requires.kept.1 (omega (arith, c.places-test.true)) c.places.invariant.within at (c.places.invariant.indexed c.requires.kept.0 c.requires.kept.1) in
    rw c.of.ensures (can-lower c.requires.kept.1.counted (assigned (take (c.places.place - 1) c.args.self.now.trail.literals.items)) (to_z w32 (of_z w32 c.index-l.result.now)) step.1 c.places.self.occurrences c.places.self.counts step.0).1

pub places-preserved : goal.places-preserved
places-preserved c =
    let fits : FitsSigned w32 c.index-l.result.now = search rules in
    let place : c.places.place - 1 < length c.args.self.now.trail.literals.items = omega (arith, c.places-test.true, c.places.invariant.within) in
    let at : literal_at c.args.self.now.trail.literals.items (c.places.place - 1) ≡ to_z w32 (of_z w32 c.index-l.result.now) = get_or_default c.args.self.now.trail.literals.items (c.places.place - 1) (pos 0) c.index-l.result.now place ∙ ap (λ t. get_or t.literals.items (c.places.place - 1) c.index-l.result.now) (sym c.places.invariant.trail) ∙ sym c.index-l.ensures ∙ sym (to_z-of_z w32 c.index-l.result.now fits) in
    let after : Counts = record { falses = c.lower.new.table; trues = c.lower-in-places.new.table } in
    let raised : AreRaised (to_z w32 (of_z w32 c.index-l.result.now)) c.places.self.occurrences (record { falses = c.lower.new.table; trues = c.lower-in-places.new.table }) c.places.self.counts = record {
      falses_len = sym c.lower.ensures.len;
      falses = λ n. sym (c.lower.ensures.entries n) ∙ ap (λ (xs : List ℕ). get_or c.lower.new.table.items n 0 + count_by (nat_eq n) xs) c.against.ensures;
      trues_len = sym c.lower-in-places.ensures.len;
      trues = λ n. sym (c.lower-in-places.ensures.entries n) ∙ ap (λ (xs : List ℕ). get_or c.lower-in-places.new.table.items n 0 + count_by (nat_eq n) xs) c.of.ensures;
    } in
    record {
      from = omega (arith, c.places-test.true);
      within = omega (arith, c.places.invariant.within);
      trail = c.places.invariant.trail;
      steady = record { occurrences = c.places.invariant.steady.occurrences; taken = c.places.invariant.steady.taken; head = c.places.invariant.steady.head; watches = c.places.invariant.steady.watches };
      indexed = λ clauses kept.
          let step = kept-lower clauses kept.counted c.args.self.now c.places.place (to_z w32 (of_z w32 c.index-l.result.now)) c.places.self.occurrences c.places.self.counts.falses.items c.places.self.counts.trues.items kept (omega (arith, c.places-test.true)) c.places.invariant.within at (c.places.invariant.indexed clauses kept) in
          indexed-lowered kept.counted (assigned (take (c.places.place - 1) c.args.self.now.trail.literals.items)) (to_z w32 (of_z w32 c.index-l.result.now)) step.1 c.places.self.occurrences c.places.self.counts (record { falses = c.lower.new.table; trues = c.lower-in-places.new.table }) step.0 raised;
    }

pub returns-clause-indexed : goal.returns-clause-indexed
returns-clause-indexed c clauses kept =
    let end : c.places.place ≡ c.args.start = omega (arith, c.places-test.false, c.places.invariant.from) in
    let P : ℕ → Type 0 = λ n. IsIndexed kept.counted (assigned (take n c.args.self.now.trail.literals.items)) c.places.self.occurrences c.places.self.counts.falses.items c.places.self.counts.trues.items in
    subst P end (c.places.invariant.indexed clauses kept)
