use Rattle.sat_solver.proofs.Common.{◌≡◌, ◌≢◌, ◌+◌, ◌-◌, ◌<◌, ℕ, List, Some, length, get_or, to_z, of_z, ap, sym, ◌∙◌, refl, subst, rules, arith, FitsSigned, swap_remove, w32, to_z-of_z, Known}
use Rattle.sat_solver.proofs.Common.{known_of, Pair, list_of, pair_of, IsGuard, IsNext, propagated, HasGuard}
use Rattle.sat_solver.proofs.Grown.{grown-refl, grown-trans}
use Rattle.sat_solver.proofs.Kept.{known-below}
use Rattle.sat_solver.proofs.Looking.{propagated-same, next-same, kept-removed}
use Rattle.sat_solver.proofs.Due.{AreDue, due-begin, due-stays, due-leaves}
use Rattle.sat_solver.proofs.propagator.Propagator.visit_watched.Goals as goal

pub watchers-init : goal.watchers-init
watchers-init c =
    let fits : FitsSigned w32 c.args.l = search rules in
    let next : IsNext (to_z w32 (of_z w32 c.args.l)) c.args.self.now = rw (to_z-of_z w32 c.args.l fits) c.requires.next in
    record {
      kept = c.requires.kept;
      grown = grown-refl c.args.store.now c.args.self.now.trail;
      taken = refl;
      head = refl;
      counted = λ n e. e;
      due = due-begin (length c.args.self.now.trail.values.items - 1) c.args.store.now c.args.self.now (to_z w32 (of_z w32 c.args.l)) c.requires.over c.requires.kept next;
    }

pub look-requires-clause-next : goal.look-requires-clause-next
look-requires-clause-next c =
    let fits : FitsSigned w32 c.args.l = search rules in
    let first : IsNext (to_z w32 (of_z w32 c.args.l)) c.args.self.now = rw (to_z-of_z w32 c.args.l fits) c.requires.next in
    let next : IsNext (to_z w32 (of_z w32 c.args.l)) c.watchers.self = next-same c.args.store.now (to_z w32 (of_z w32 c.args.l)) c.args.self.now c.watchers.self c.watchers.invariant.grown c.watchers.invariant.head first in
    record { within = next.within; is = next.is }

pub returns-in_err-look-clause-grown : goal.returns-in_err-look-clause-grown
returns-in_err-look-clause-grown c = grown-trans c.args.store.now c.args.self.now.trail c.watchers.self.trail c.look.new.self.trail c.watchers.invariant.grown c.look.ensures.moved.grown

pub returns-in-False-clause-grown : goal.returns-in-False-clause-grown
returns-in-False-clause-grown c = grown-trans c.args.store.now c.args.self.now.trail c.watchers.self.trail c.look.new.self.trail c.watchers.invariant.grown c.look.ensures.moved.grown

pub watchers-preserved-in-Stays : goal.watchers-preserved-in-Stays
watchers-preserved-in-Stays c =
    let moved = c.look.ensures.moved in
    let inside : c.watchers.place < length (list_of c.watchers.self.watches.lists (to_z w32 (of_z w32 c.args.l))) = omega (arith, c.watchers-test.true, ap (length {A = ℕ}) c.of.ensures) in
    let at : get_or (list_of c.watchers.self.watches.lists (to_z w32 (of_z w32 c.args.l))) c.watchers.place 0 ≡ get_or c.of-in-watchers.result.now c.watchers.place 0 = ap (λ (xs : List ℕ). get_or xs c.watchers.place 0) (sym c.of-in-watchers.ensures) in
    let same : propagated c.watchers.self ≡ propagated c.args.self.now = propagated-same c.args.store.now c.args.self.now c.watchers.self c.watchers.invariant.grown c.watchers.invariant.head c.requires.next.within in
    let below = known-below c.args.store.now c.watchers.self.trail c.look.new.self.trail c.watchers.invariant.kept.unwound c.look.ensures.kept.unwound moved.grown in
    let P : Known → Type 0 = λ k. (pair : Pair) → pair_of c.look.new.self.watches (get_or c.of-in-watchers.result.now c.watchers.place 0) ≡ Some pair → IsGuard k (known_of c.look.new.self.trail.values.items) pair in
    let here : HasGuard (get_or c.of-in-watchers.result.now c.watchers.place 0) c.watchers.self c.look.new.self = rw c.in-Stays.is at c.in_ok-look.ensures.end in
    let Q : List ℕ → Type 0 = λ xs. AreDue (propagated c.args.self.now) (known_of c.look.new.self.trail.values.items) c.look.new.self.watches (c.watchers.place + 1) xs in
    record {
      kept = c.look.ensures.kept;
      grown = grown-trans c.args.store.now c.args.self.now.trail c.watchers.self.trail c.look.new.self.trail c.watchers.invariant.grown moved.grown;
      taken = moved.taken ∙ c.watchers.invariant.taken;
      head = moved.head ∙ c.watchers.invariant.head;
      counted = λ n e. c.watchers.invariant.counted n (moved.counted n e);
      due = subst Q (sym moved.list) (due-stays (propagated c.args.self.now) (known_of c.watchers.self.trail.values.items) (known_of c.look.new.self.trail.values.items) c.watchers.self.watches c.look.new.self.watches c.watchers.place (get_or c.of-in-watchers.result.now c.watchers.place 0) (list_of c.watchers.self.watches.lists (to_z w32 (of_z w32 c.args.l))) inside at below moved.others (subst P same here) c.watchers.invariant.due);
    }

pub watchers-preserved : goal.watchers-preserved
watchers-preserved c =
    let moved = c.look.ensures.moved in
    let inside : c.watchers.place < length (list_of c.watchers.self.watches.lists (to_z w32 (of_z w32 c.args.l))) = omega (arith, c.watchers-test.true, ap (length {A = ℕ}) c.of.ensures) in
    let at : get_or (list_of c.watchers.self.watches.lists (to_z w32 (of_z w32 c.args.l))) c.watchers.place 0 ≡ get_or c.of-in-watchers.result.now c.watchers.place 0 = ap (λ (xs : List ℕ). get_or xs c.watchers.place 0) (sym c.of-in-watchers.ensures) in
    let same : propagated c.watchers.self ≡ propagated c.args.self.now = propagated-same c.args.store.now c.args.self.now c.watchers.self c.watchers.invariant.grown c.watchers.invariant.head c.requires.next.within in
    let below = known-below c.args.store.now c.watchers.self.trail c.look.new.self.trail c.watchers.invariant.kept.unwound c.look.ensures.kept.unwound moved.grown in
    let P : Known → Type 0 = λ k. (pair : Pair) → pair_of c.look.new.self.watches (get_or c.of-in-watchers.result.now c.watchers.place 0) ≡ Some pair → IsGuard k (known_of c.look.new.self.trail.values.items) pair in
    let end : HasGuard (get_or c.of-in-watchers.result.now c.watchers.place 0) c.watchers.self c.look.new.self × ((pair : Pair) → pair_of c.look.new.self.watches (get_or c.of-in-watchers.result.now c.watchers.place 0) ≡ Some pair → (pair.first ≢ (to_z w32 (of_z w32 c.args.l))) × (pair.second ≢ (to_z w32 (of_z w32 c.args.l)))) = rw c.in-Leaves.is at c.in_ok-look.ensures.end in
    let here : HasGuard (get_or c.of-in-watchers.result.now c.watchers.place 0) c.watchers.self c.look.new.self = end.0 in
    let place : get_or (list_of c.look.new.self.watches.lists (to_z w32 (of_z w32 c.args.l))) c.watchers.place 0 ≡ get_or c.of-in-watchers.result.now c.watchers.place 0 = ap (λ (xs : List ℕ). get_or xs c.watchers.place 0) moved.list ∙ at in
    let list : list_of c.remove.new.self (to_z w32 (of_z w32 c.args.l)) ≡ swap_remove (list_of c.watchers.self.watches.lists (to_z w32 (of_z w32 c.args.l))) c.watchers.place 0 = c.remove.ensures.list ∙ ap (λ (xs : List ℕ). swap_remove xs c.watchers.place 0) moved.list in
    let Q : List ℕ → Type 0 = λ xs. AreDue (propagated c.args.self.now) (known_of c.look.new.self.trail.values.items) c.look.new.self.watches c.watchers.place xs in
    record {
      kept = kept-removed c.args.store.now c.look.new.self (record { pairs = c.look.new.self.watches.pairs; lists = c.remove.new.self }) (to_z w32 (of_z w32 c.args.l)) c.watchers.place c.look.ensures.kept refl
          (omega (arith, inside, ap (length {A = ℕ}) moved.list)) c.remove.ensures.len c.remove.ensures.list c.remove.ensures.others
          (λ pair e. end.1 pair (ap (pair_of c.look.new.self.watches) (sym place) ∙ e));
      grown = grown-trans c.args.store.now c.args.self.now.trail c.watchers.self.trail c.look.new.self.trail c.watchers.invariant.grown moved.grown;
      taken = moved.taken ∙ c.watchers.invariant.taken;
      head = moved.head ∙ c.watchers.invariant.head;
      counted = λ n e. c.watchers.invariant.counted n (moved.counted n e);
      due = subst Q (sym list) (due-leaves (propagated c.args.self.now) (known_of c.watchers.self.trail.values.items) (known_of c.look.new.self.trail.values.items) c.watchers.self.watches c.look.new.self.watches c.watchers.place (get_or c.of-in-watchers.result.now c.watchers.place 0) (list_of c.watchers.self.watches.lists (to_z w32 (of_z w32 c.args.l))) inside at below moved.others (subst P same here) c.watchers.invariant.due);
    }
