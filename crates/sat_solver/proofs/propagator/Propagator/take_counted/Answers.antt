use Rattle.sat_solver.proofs.Common.{◌≡◌, ◌+◌, ◌-◌, ◌++◌, ◌∷◌, [], ℕ, ℤ, List, Bool, true, false, Option, None, length, get_or, ap, sym, ◌∙◌, refl, subst, arith, IsQuiet, known_of, clause-within}
use Rattle.sat_solver.proofs.Common.{Pair, IsAdded, valued}
use Rattle.sat_solver.proofs.Listed.{place-within}
use Rattle.sat_solver.proofs.Kept.{clause-is, clause-short, clause-positive, numbered-is}
use Rattle.sat_solver.proofs.Taken.{kept-taken, taken-counted, safe-none}
use Rattle.sat_solver.proofs.propagator.Propagator.take_counted.Goals as goal

pub add-requires : goal.add-requires
add-requires c = λ k d h. place-within (get_or c.clause-clause.result.now k d) (length c.args.self.now.trail.values.items) (length c.args.self.now.occurrences) (clause-within c.args.store.now (length c.args.self.now.trail.values.items) (c.args.number - 1) c.clause-clause.result.now c.requires.over c.clause-clause.ensures k d h) c.requires.kept.wide

pub count-falses-requires-clause-over : goal.count-falses-requires-clause-over
count-falses-requires-clause-over c = rw c.deref.ensures.value (clause-within c.args.store.now (length c.args.self.now.trail.values.items) (c.args.number - 1) c.clause-clause.result.now c.requires.over c.clause-clause.ensures)

pub count-falses-requires-clause-short : goal.count-falses-requires-clause-short
count-falses-requires-clause-short c = clause-short c.args.store.now (c.args.number - 1) c.clause-clause.result.now c.clause-clause.ensures c.literals-literals.ensures.small

pub count-trues-requires-clause-over : goal.count-trues-requires-clause-over
count-trues-requires-clause-over c = rw c.deref-2.ensures.value (clause-within c.args.store.now (length c.args.self.now.trail.values.items) (c.args.number - 1) c.clause-clause.result.now c.requires.over c.clause-clause.ensures)

pub count-trues-requires-clause-short : goal.count-trues-requires-clause-short
count-trues-requires-clause-short c = clause-short c.args.store.now (c.args.number - 1) c.clause-clause.result.now c.clause-clause.ensures c.literals-literals.ensures.small

pub returns-clause-kept : goal.returns-clause-kept
returns-clause-kept c =
    let place : c.args.number - 1 ≡ c.args.self.now.taken = omega (arith, c.requires.number.0) in
    let at : get_or c.args.store.now c.args.self.now.taken [] ≡ c.clause-clause.result.now = ap (λ (n : ℕ). get_or c.args.store.now n []) (sym place) ∙ clause-is c.args.store.now (c.args.number - 1) c.clause-clause.result.now c.clause-clause.ensures in
    let P : List ℤ → Type 0 = IsQuiet (known_of c.args.self.now.trail.values.items) in
    let quiet : IsQuiet (known_of c.args.self.now.trail.values.items) c.clause-clause.result.now = subst P (numbered-is c.args.store.now c.args.number c.clause-clause.result.now (omega (arith, c.requires.number.0)) c.clause-clause.ensures) c.requires.quiet in
    let A : ℕ → Type 0 = λ n. IsAdded n c.clause-clause.result.now c.args.self.now.occurrences c.add.new.self in
    let falses : c.push.new.self.items ≡ c.args.self.now.counts.falses.items ++ valued (known_of c.args.self.now.trail.values.items) false c.clause-clause.result.now ∷ [] =
    c.in_ok-push.ensures.items ∙ ap (λ (xs : List ℕ). xs ++ c.count-falses.result ∷ []) c.in_ok-reserve.ensures.items ∙ ap (λ (n : ℕ). c.args.self.now.counts.falses.items ++ n ∷ []) (c.count-falses.ensures ∙ ap (λ (vs : List (Option Bool)). valued (known_of vs) false c.clause-clause.result.now) c.deref.ensures.value) in
    let trues : c.push-2.new.self.items ≡ c.args.self.now.counts.trues.items ++ valued (known_of c.args.self.now.trail.values.items) true c.clause-clause.result.now ∷ [] =
    c.in_ok-push-2.ensures.items ∙ ap (λ (xs : List ℕ). xs ++ c.count-trues.result ∷ []) c.in_ok-reserve-2.ensures.items ∙ ap (λ (n : ℕ). c.args.self.now.counts.trues.items ++ n ∷ []) (c.count-trues.ensures ∙ ap (λ (vs : List (Option Bool)). valued (known_of vs) true c.clause-clause.result.now) c.deref-2.ensures.value) in
    let pairs : c.push-3.new.self.items ≡ c.args.self.now.watches.pairs.items ++ None ∷ [] = c.in_ok-push-3.ensures.items ∙ ap (λ (xs : List (Option Pair)). xs ++ None ∷ []) c.in_ok-reserve-3.ensures.items in
    kept-taken c.args.store.now c.args.self.now _ c.clause-clause.result.now c.clause-clause.result.now None c.requires.kept refl refl c.requires.number.0 c.requires.number.1 at
    (clause-positive c.args.store.now (length c.args.self.now.trail.values.items - 1) (c.args.number - 1) c.clause-clause.result.now c.requires.over c.clause-clause.ensures)
    (clause-short c.args.store.now (c.args.number - 1) c.clause-clause.result.now c.clause-clause.ensures c.literals-literals.ensures.small)
    quiet (subst A c.requires.number.0 c.in_ok-add.ensures.ok) falses trues pairs refl (λ l n has. has)
    (taken-counted c.clause-clause.result.now (c.args.self.now.taken + 1) c.args.self.now.watches.lists)
    (safe-none c.args.self.now.trail.literals.items c.args.self.now.trail.starts.items)
