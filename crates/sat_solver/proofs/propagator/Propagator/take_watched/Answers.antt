use Rattle.sat_solver.proofs.Common.{◌≡◌, ◌-◌, ◌<◌, ◌++◌, ◌∷◌, [], ℕ, List, Option, Some, length, to_z, of_z, ap, sym, ◌∙◌, refl, subst, rules, arith, FitsSigned, w32, to_z-of_z, append-nil, Pair}
use Rattle.sat_solver.proofs.Common.{place_of, numbered, list_of, IsAdded}
use Rattle.sat_solver.proofs.Listed.{place-within}
use Rattle.sat_solver.proofs.Watched.{IsTaken, more-added, two-places}
use Rattle.sat_solver.proofs.Kept.{numbered-at, literal-over}
use Rattle.sat_solver.proofs.Taken.{kept-roomy, kept-taken, taken-watched, safe-some}
use Rattle.sat_solver.proofs.propagator.Propagator.take_watched.Goals as goal

pub returns-in_err-reserve-clause-kept : goal.returns-in_err-reserve-clause-kept
returns-in_err-reserve-clause-kept c = kept-roomy c.args.store.now c.args.self.now _ c.requires.kept refl refl refl refl c.reserve.ensures.items refl refl refl (λ l n has. has)

pub returns-in_err-reserve-2-clause-kept : goal.returns-in_err-reserve-2-clause-kept
returns-in_err-reserve-2-clause-kept c = kept-roomy c.args.store.now c.args.self.now _ c.requires.kept refl refl refl refl c.reserve.ensures.items c.reserve-2.ensures.items refl refl (λ l n has. has)

pub returns-in_err-reserve-3-clause-kept : goal.returns-in_err-reserve-3-clause-kept
returns-in_err-reserve-3-clause-kept c = kept-roomy c.args.store.now c.args.self.now _ c.requires.kept refl refl refl refl c.reserve.ensures.items c.reserve-2.ensures.items c.reserve-3.ensures.items refl (λ l n has. has)

pub add-requires : goal.add-requires
add-requires c =
    let fits : FitsSigned w32 c.args.pair.first = search rules in
    let also : FitsSigned w32 c.args.pair.second = search rules in
    let first = literal-over (length c.args.self.now.trail.values.items - 1) c.args.store.now c.args.number c.args.pair.first c.requires.over c.requires.pair.first_in in
    let second = literal-over (length c.args.self.now.trail.values.items - 1) c.args.store.now c.args.number c.args.pair.second c.requires.over c.requires.pair.second_in in
    let first_place : place_of (to_z w32 (of_z w32 c.args.pair.first)) < length c.args.self.now.watches.lists = rw (to_z-of_z w32 c.args.pair.first fits) (place-within c.args.pair.first (length c.args.self.now.trail.values.items) (length c.args.self.now.watches.lists) (omega (arith, first.0, first.1)) c.requires.kept.lists_wide) in
    let second_place : place_of (to_z w32 (of_z w32 c.args.pair.second)) < length c.args.self.now.watches.lists = rw (to_z-of_z w32 c.args.pair.second also) (place-within c.args.pair.second (length c.args.self.now.trail.values.items) (length c.args.self.now.watches.lists) (omega (arith, second.0, second.1)) c.requires.kept.lists_wide) in
    λ k d h. two-places (to_z w32 (of_z w32 c.args.pair.first)) (to_z w32 (of_z w32 c.args.pair.second)) (length c.args.self.now.watches.lists) first_place second_place k d h

pub returns-in_err-add-clause-kept : goal.returns-in_err-add-clause-kept
returns-in_err-add-clause-kept c =
    kept-roomy c.args.store.now c.args.self.now _ c.requires.kept refl refl refl refl c.reserve.ensures.items c.reserve-2.ensures.items c.reserve-3.ensures.items c.in_err-add.ensures.err.len
    (more-added c.args.number [] c.args.self.now.watches.lists c.add.new.self c.in_err-add.ensures.err)

pub returns-clause-kept : goal.returns-clause-kept
returns-clause-kept c =
    let fits : FitsSigned w32 c.args.pair.first = search rules in
    let also : FitsSigned w32 c.args.pair.second = search rules in
    let added : IsAdded c.args.number (c.args.pair.first ∷ c.args.pair.second ∷ []) c.args.self.now.watches.lists c.add.new.self = rw (to_z-of_z w32 c.args.pair.first fits, to_z-of_z w32 c.args.pair.second also) at c.in_ok-add.ensures.ok in
    let falses : c.push.new.self.items ≡ c.args.self.now.counts.falses.items ++ 0 ∷ [] = c.in_ok-push.ensures.items ∙ ap (λ (xs : List ℕ). xs ++ 0 ∷ []) c.reserve.ensures.items in
    let trues : c.push-2.new.self.items ≡ c.args.self.now.counts.trues.items ++ 0 ∷ [] = c.in_ok-push-2.ensures.items ∙ ap (λ (xs : List ℕ). xs ++ 0 ∷ []) c.reserve-2.ensures.items in
    let pairs : c.push-3.new.self.items ≡ c.args.self.now.watches.pairs.items ++ Some c.args.pair ∷ [] = c.in_ok-push-3.ensures.items ∙ ap (λ (xs : List (Option Pair)). xs ++ Some c.args.pair ∷ []) c.reserve-3.ensures.items in
    let T : ℕ → Type 0 = λ n. IsTaken (numbered c.args.store.now c.args.number) [] n c.add.new.self (Some c.args.pair) in
    kept-taken c.args.store.now c.args.self.now _ (numbered c.args.store.now c.args.number) [] (Some c.args.pair) c.requires.kept refl refl c.requires.number.0 c.requires.number.1
    (sym (numbered-at c.args.store.now c.args.number c.args.self.now.taken c.requires.number.0)) (λ k d h. absurd (omega (arith, h))) (omega arith) c.requires.quiet
    (record { len = refl; lists = λ l. sym (append-nil (list_of c.args.self.now.occurrences l)) })
    falses trues pairs added.len (more-added c.args.number (c.args.pair.first ∷ c.args.pair.second ∷ []) c.args.self.now.watches.lists c.add.new.self added)
    (subst T c.requires.number.0 (taken-watched (numbered c.args.store.now c.args.number) c.args.number c.args.self.now.watches.lists c.add.new.self c.args.pair c.requires.pair added))
    (λ p e. safe-some c.args.self.now.trail.literals.items c.args.self.now.trail.starts.items c.args.pair p c.requires.safe e)
