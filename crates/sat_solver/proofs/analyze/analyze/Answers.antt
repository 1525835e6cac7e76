use Rattle.sat_solver.proofs.Common.{◌≡◌, ◌<◌, ◌≤◌, ◌-◌, ◌+◌, ◌||◌, ◌∷◌, [], ◌≢◌, ℕ, true, false, pos, neg_ℤ, get_or, length, reverse, sym, ap, ◌∙◌, subst, rules, arith, All, FitsSigned, w32}
use Rattle.sat_solver.proofs.Common.{to_z-of_z, get_or_read, variable, Known, IsFalsified, is_named, clause-within, literal_at, is_needed, IsWalked, NoneNeeded, last_start}
use Rattle.sat_solver.proofs.Steps.{walked-init, walked-skip, walked-expand, walked-stop, walked-end, clause-read, reason-clause}
use Rattle.smallvec.proofs.SmallVecLemmas.{items-with_items}
use Rattle.sat_solver.proofs.analyze.analyze.Goals as goal
use Rattle.sat_solver.proofs.analyze.analyze.Goals.{then-len-eq1, else-len-eq1}
use Rattle.sat_solver.proofs.Picking.{at-within}

pub clause-requires : goal.clause-requires
clause-requires c = at-within c.args.store.now c.args.conflict c.requires.conflict.clause c.requires.conflict.there

pub mark-requires : goal.mark-requires
mark-requires c =
    let count : length c.in_ok-needed.needed.items ≡ (length c.args.trail.now.values.items) = omega (arith, c.in_ok-needed.needed.ok.0, c.in_ok-needed.ensures.len) in
    let within : All (λ m. variable m < (length c.args.trail.now.values.items)) c.clause.result.now = clause-within c.args.store.now (length c.args.trail.now.values.items) (c.args.conflict - 1) c.clause.result.now c.requires.over c.clause.ensures in
    rw count within

pub loop-place-init : goal.loop-place-init
loop-place-init c =
    let count : length c.in_ok-needed.needed.items ≡ (length c.args.trail.now.values.items) = omega (arith, c.in_ok-needed.needed.ok.0, c.in_ok-needed.ensures.len) in
    let same : c.requires.conflict.clause ≡ c.clause.result.now = clause-read c.args.store.now c.args.conflict c.requires.conflict.clause c.clause.result.now c.requires.conflict.there c.clause.ensures in
    let marks : (v : ℕ) → is_needed c.mark.new.needed.items v ≡ (is_needed c.in_ok-needed.needed.items v || is_named c.requires.conflict.clause v) = rw same c.mark.ensures.marks in
    let start : IsWalked c.args.store.now c.args.free c.args.trail.now.literals.items c.args.trail.now.starts.items c.mark.new.needed.items [] (c.args.conflict ∷ []) 0 (length c.args.trail.now.literals.items) =
    walked-init c.args.store.now c.args.free c.args.trail.now.literals.items c.args.trail.now.starts.items c.in_ok-needed.needed.items c.mark.new.needed.items c.args.conflict c.requires.conflict.clause c.requires.conflict.there (let P : Known → Type 0 = λ k. IsFalsified k c.requires.conflict.clause in subst P c.requires.ready.trail.known c.requires.conflict.falsified) marks in
    let whole : c.len-place.result ≡ length c.args.trail.now.literals.items = omega (arith, c.len-place.ensures, c.args.trail.now.literals.ok.0) in
    (rw (c.in_ok-push.ensures.ok, c.new-hints.ensures.items, c.new-lemma.ensures.items, whole) start, c.mark.ensures.len ∙ count, omega (arith, whole))

pub loop-place-preserved-then-not-needs : goal.loop-place-preserved-then-not-needs
loop-place-preserved-then-not-needs c =
    let next : c.loop-place.place ≡ c.loop-place.place - 1 + 1 = omega (arith, c.loop-place-test.true) in
    let inside : c.loop-place.place - 1 < length c.args.trail.now.literals.items = omega (arith, c.loop-place-test.true, c.loop-place.invariant.2) in
    let here : c.index-l.result.now ≡ literal_at c.args.trail.now.literals.items (c.loop-place.place - 1) = get_or_read c.args.trail.now.literals.items (c.loop-place.place - 1) c.index-l.result.now inside c.index-l.ensures (pos 0) in
    let fits : FitsSigned w32 c.index-l.result.now = search rules in
    let skip : is_needed c.loop-place.needed.items (variable (literal_at c.args.trail.now.literals.items (c.loop-place.place - 1))) ≡ false = rw (c.deref.ensures.value, to_z-of_z w32 c.index-l.result.now fits, here) at (sym c.if-not-needs.ensures) in
    (walked-skip c.args.store.now c.args.free c.args.trail.now.literals.items c.args.trail.now.starts.items c.loop-place.needed.items c.loop-place.lemma.items c.loop-place.hints.items c.loop-place.back (c.loop-place.place - 1) skip (rw next at c.loop-place.invariant.0), c.loop-place.invariant.1, omega (arith, c.loop-place.invariant.2))

pub loop-place-preserved-in-Continue-branch-3 : goal.loop-place-preserved-in-Continue-branch-3
loop-place-preserved-in-Continue-branch-3 c =
    let next : c.loop-place.place ≡ c.loop-place.place - 1 + 1 = omega (arith, c.loop-place-test.true) in
    let inside : c.loop-place.place - 1 < length c.args.trail.now.literals.items = omega (arith, c.loop-place-test.true, c.loop-place.invariant.2) in
    let here : c.index-l.result.now ≡ literal_at c.args.trail.now.literals.items (c.loop-place.place - 1) = get_or_read c.args.trail.now.literals.items (c.loop-place.place - 1) c.index-l.result.now inside c.index-l.ensures (pos 0) in
    let fits : FitsSigned w32 c.index-l.result.now = search rules in
    let need : is_needed c.loop-place.needed.items (variable (literal_at c.args.trail.now.literals.items (c.loop-place.place - 1))) ≡ true = rw (c.deref.ensures.value, to_z-of_z w32 c.index-l.result.now fits, here) at (sym c.if-not-needs.ensures) in
    let good = c.if-stops.ensures.yes in
    let last_within : last_start c.args.trail.now.starts.items < length c.args.trail.now.literals.items = c.requires.ready.trail.starts_.within (length c.args.trail.now.starts.items - 1) (omega (arith, good.2)) in
    let none_ : NoneNeeded c.args.trail.now.literals.items c.loop-place.needed.items (last_start c.args.trail.now.starts.items) (c.loop-place.place - 1) = rw c.deref-in-loop-place.ensures.value at good.3 in
    let second : length c.loop-place.lemma.items ≡ 1 → ((j : ℕ) → j < c.if-len-eq1.back → get_or c.args.trail.now.starts.items j 0 ≤ c.loop-place.place - 1) × (c.if-len-eq1.back ≤ length c.args.trail.now.starts.items) = λ one. elim c.if-len-eq1.branch [
      | then-len-eq1 w ↦ rw (w.back-is, ← w.deref-then-len-eq1.ensures.value) (w.level_of-back.ensures.begun, w.level_of-back.ensures.within)
      | else-len-eq1 w ↦ absurd (omega (arith, one, w.if-len-eq1.false, c.len.ensures, c.loop-place.lemma.ok.0))
    ] in
    let same : length c.loop-place.lemma.items ≢ 1 → c.if-len-eq1.back ≡ c.loop-place.back = λ other. elim c.if-len-eq1.branch [
      | then-len-eq1 w ↦ absurd (other (omega (arith, w.if-len-eq1.true, c.len.ensures, c.loop-place.lemma.ok.0)))
      | else-len-eq1 w ↦ w.back-is
    ] in
    let step = walked-stop c.args.store.now (length c.args.trail.now.values.items) c.args.free c.args.trail.now.literals.items c.args.trail.now.starts.items c.loop-place.needed.items c.loop-place.lemma.items c.loop-place.hints.items c.loop-place.back c.if-len-eq1.back (c.loop-place.place - 1) c.requires.ready.trail.apart inside (omega (arith, last_within)) need good.0 good.1 good.2 none_ second same (rw next at c.loop-place.invariant.0) in
    let negation : c.negated.result ≡ neg_ℤ (literal_at c.args.trail.now.literals.items (c.loop-place.place - 1)) = rw (to_z-of_z w32 c.index-l.result.now fits, here) at c.negated.ensures in
    let negation_fits : FitsSigned w32 c.negated.result = search rules in
    (rw (c.in_ok-push-2.ensures.items, to_z-of_z w32 c.negated.result negation_fits, negation) step, c.loop-place.invariant.1, omega (arith, inside))

pub clause-requires-else-stops : goal.clause-requires-else-stops
clause-requires-else-stops c =
    let inside : c.loop-place.place - 1 < length c.args.trail.now.literals.items = omega (arith, c.loop-place-test.true, c.loop-place.invariant.2) in
    let reason : c.index-reason.result.now ≡ get_or c.args.trail.now.reasons.items (c.loop-place.place - 1) 0 = get_or_read c.args.trail.now.reasons.items (c.loop-place.place - 1) c.index-reason.result.now (omega (arith, inside, c.requires.ready.trail.reasoned.paired)) c.index-reason.ensures 0 in
    let found = reason-clause c.args.store.now c.args.free c.args.trail.now.starts.items c.args.trail.now.literals.items (c.loop-place.place - 1) (get_or c.args.trail.now.reasons.items (c.loop-place.place - 1) 0) c.if-stops.ensures.no (c.requires.ready.trail.reasoned.each (c.loop-place.place - 1) inside) in
    rw reason (at-within c.args.store.now (get_or c.args.trail.now.reasons.items (c.loop-place.place - 1) 0) found.0 found.1)

pub mark-requires-else-stops : goal.mark-requires-else-stops
mark-requires-else-stops c =
    rw c.loop-place.invariant.1 (clause-within c.args.store.now (length c.args.trail.now.values.items) (c.index-reason.result.now - 1) c.clause-else-stops.result.now c.requires.over c.clause-else-stops.ensures)

pub loop-place-preserved : goal.loop-place-preserved
loop-place-preserved c =
    let next : c.loop-place.place ≡ c.loop-place.place - 1 + 1 = omega (arith, c.loop-place-test.true) in
    let inside : c.loop-place.place - 1 < length c.args.trail.now.literals.items = omega (arith, c.loop-place-test.true, c.loop-place.invariant.2) in
    let here : c.index-l.result.now ≡ literal_at c.args.trail.now.literals.items (c.loop-place.place - 1) = get_or_read c.args.trail.now.literals.items (c.loop-place.place - 1) c.index-l.result.now inside c.index-l.ensures (pos 0) in
    let fits : FitsSigned w32 c.index-l.result.now = search rules in
    let need : is_needed c.loop-place.needed.items (variable (literal_at c.args.trail.now.literals.items (c.loop-place.place - 1))) ≡ true = rw (c.deref.ensures.value, to_z-of_z w32 c.index-l.result.now fits, here) at (sym c.if-not-needs.ensures) in
    let reason : c.index-reason.result.now ≡ get_or c.args.trail.now.reasons.items (c.loop-place.place - 1) 0 = get_or_read c.args.trail.now.reasons.items (c.loop-place.place - 1) c.index-reason.result.now (omega (arith, inside, c.requires.ready.trail.reasoned.paired)) c.index-reason.ensures 0 in
    let found = reason-clause c.args.store.now c.args.free c.args.trail.now.starts.items c.args.trail.now.literals.items (c.loop-place.place - 1) (get_or c.args.trail.now.reasons.items (c.loop-place.place - 1) 0) c.if-stops.ensures.no (c.requires.ready.trail.reasoned.each (c.loop-place.place - 1) inside) in
    let is : found.0 ≡ c.clause-else-stops.result.now = clause-read c.args.store.now (get_or c.args.trail.now.reasons.items (c.loop-place.place - 1) 0) found.0 c.clause-else-stops.result.now found.1 (rw reason at c.clause-else-stops.ensures) in
    let marks : (v : ℕ) → is_needed c.mark-else-stops.new.needed.items v ≡ (is_needed c.loop-place.needed.items v || is_named found.0 v) = rw is c.mark-else-stops.ensures.marks in
    (rw (c.in_ok-push-3.ensures.ok, reason) (walked-expand c.args.store.now (length c.args.trail.now.values.items) c.args.free c.args.trail.now.literals.items c.args.trail.now.starts.items c.loop-place.needed.items c.mark-else-stops.new.needed.items c.loop-place.lemma.items c.loop-place.hints.items c.loop-place.back (c.loop-place.place - 1) (get_or c.args.trail.now.reasons.items (c.loop-place.place - 1) 0) found.0 c.requires.ready.trail.apart inside need found.1 found.2 marks (rw next at c.loop-place.invariant.0)), c.mark-else-stops.ensures.len ∙ c.loop-place.invariant.1, omega (arith, inside))

pub returns : goal.returns
returns c =
    let end : c.loop-place.place ≡ 0 = omega (arith, c.loop-place-test.false) in
    let len : length c.reverse.new.self ≡ length c.loop-place.hints.items = c.reverse.ensures.len ∙ ap length c.deref_mut.ensures.value in
    let turned : c.reverse.new.self ≡ reverse c.loop-place.hints.items = c.reverse.ensures.after ∙ ap reverse c.deref_mut.ensures.value in
    rw (items-with_items c.loop-place.hints c.reverse.new.self len, turned) (walked-end c.args.store.now c.args.free c.args.trail.now.literals.items c.args.trail.now.starts.items c.loop-place.needed.items c.loop-place.lemma.items c.loop-place.hints.items c.loop-place.back (rw end at c.loop-place.invariant.0))
