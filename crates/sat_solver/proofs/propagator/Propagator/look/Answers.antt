use Rattle.sat_solver.proofs.Common.{◌≡◌, ◌≢◌, ◌-◌, ◌∷◌, [], ℤ, List, true, false, Some, length, set, sym, refl, subst, rules, arith, All, Contains, FitsSigned, w32, to_z-of_z, literal, known_of}
use Rattle.sat_solver.proofs.Common.{clause-within, Pair, numbered, IsAdded, pair_of, IsOther}
use Rattle.sat_solver.proofs.Listed.{place-within}
use Rattle.sat_solver.proofs.Watched.{more-added}
use Rattle.sat_solver.proofs.Kept.{numbered-is, literal-over}
use Rattle.sat_solver.proofs.Taken.{kept-roomy}
use Rattle.sat_solver.proofs.Looking.{propagated-below, pair-clause, other-in, look-apart, look-true, look-last, moved-same, moved-steady, moved-listed, kept-changed, moved-changed, look-changed}
use Rattle.sat_solver.proofs.Looking.{examined-conflict}
use Rattle.sat_solver.proofs.propagator.Propagator.look.Goals as goal

pub returns-in_default-clause-kept : goal.returns-in_default-clause-kept
returns-in_default-clause-kept c =
    c.requires.kept

pub returns-in_default-clause-moved : goal.returns-in_default-clause-moved
returns-in_default-clause-moved c =
    moved-same c.args.store.now c.args.l c.args.number c.args.self.now

pub returns-in_default-clause-end : goal.returns-in_default-clause-end
returns-in_default-clause-end c =
    let fits : FitsSigned w32 c.args.l = search rules in
    let none_ : (pair : Pair) → pair_of c.args.self.now.watches c.args.number ≡ Some pair → (pair.first ≢ c.args.l) × (pair.second ≢ c.args.l) = rw (to_z-of_z w32 c.args.l fits, c.in_default.is) at c.other.ensures.none in
    (look-apart (length c.args.self.now.trail.values.items - 1) c.args.store.now c.args.self.now c.args.l c.args.number c.requires.over c.requires.kept c.requires.next none_, none_)

pub is_true-requires : goal.is_true-requires
is_true-requires c =
    let fits : FitsSigned w32 c.args.l = search rules in
    let other : FitsSigned w32 c.in-Some.other = search rules in
    let some : (pair : Pair) × (pair_of c.args.self.now.watches c.args.number ≡ Some pair) × IsOther pair c.args.l c.in-Some.other = rw (to_z-of_z w32 c.args.l fits) at c.in-Some.ensures.some in
    let found = pair-clause c.args.store.now c.args.self.now c.args.number some.0 c.requires.kept some.1 in
    let in_ = other-in (numbered c.args.store.now c.args.number) some.0 c.args.l c.in-Some.other found.2 some.2 in
    let bound = literal-over (length c.args.self.now.trail.values.items - 1) c.args.store.now c.args.number c.in-Some.other c.requires.over in_.1 in
    rw (to_z-of_z w32 c.in-Some.other other, c.deref.ensures.value) (omega (arith, bound.0, bound.1))

pub returns-then-is_true-clause-kept : goal.returns-then-is_true-clause-kept
returns-then-is_true-clause-kept c =
    c.requires.kept

pub returns-then-is_true-clause-moved : goal.returns-then-is_true-clause-moved
returns-then-is_true-clause-moved c =
    moved-same c.args.store.now c.args.l c.args.number c.args.self.now

pub returns-then-is_true-clause-end : goal.returns-then-is_true-clause-end
returns-then-is_true-clause-end c =
    let fits : FitsSigned w32 c.args.l = search rules in
    let other : FitsSigned w32 c.in-Some.other = search rules in
    let some : (pair : Pair) × (pair_of c.args.self.now.watches c.args.number ≡ Some pair) × IsOther pair c.args.l c.in-Some.other = rw (to_z-of_z w32 c.args.l fits) at c.in-Some.ensures.some in
    let true_ : literal (known_of c.args.self.now.trail.values.items) c.in-Some.other ≡ Some true = rw (to_z-of_z w32 c.in-Some.other other, c.deref.ensures.value) at c.if-is_true.ensures in
    look-true c.args.store.now c.args.self.now c.args.self.now c.args.l c.in-Some.other c.args.number some.0 some.1 some.2 refl
    (propagated-below c.args.store.now c.args.self.now c.requires.kept c.requires.next.within) true_

pub clause-requires : goal.clause-requires
clause-requires c =
    let fits : FitsSigned w32 c.args.l = search rules in
    let other : FitsSigned w32 c.in-Some.other = search rules in
    let some : (pair : Pair) × (pair_of c.args.self.now.watches c.args.number ≡ Some pair) × IsOther pair c.args.l c.in-Some.other = rw (to_z-of_z w32 c.args.l fits) at c.in-Some.ensures.some in
    let found = pair-clause c.args.store.now c.args.self.now c.args.number some.0 c.requires.kept some.1 in
    let in_ = other-in (numbered c.args.store.now c.args.number) some.0 c.args.l c.in-Some.other found.2 some.2 in
    (found.0, found.1)

pub replacement-requires : goal.replacement-requires
replacement-requires c =
    rw c.deref-2.ensures.value (clause-within c.args.store.now (length c.args.self.now.trail.values.items) (c.args.number - 1) c.clause.result.now c.requires.over c.clause.ensures)

pub change-requires-clause-number : goal.change-requires-clause-number
change-requires-clause-number c =
    let fits : FitsSigned w32 c.args.l = search rules in
    let other : FitsSigned w32 c.in-Some.other = search rules in
    let some : (pair : Pair) × (pair_of c.args.self.now.watches c.args.number ≡ Some pair) × IsOther pair c.args.l c.in-Some.other = rw (to_z-of_z w32 c.args.l fits) at c.in-Some.ensures.some in
    let was = c.requires.kept.watched.watched c.args.number some.0 some.1 in
    omega (arith, was.high, c.requires.kept.watched.pairs)

pub change-requires-clause-place : goal.change-requires-clause-place
change-requires-clause-place c =
    let fits : FitsSigned w32 c.args.l = search rules in
    let other : FitsSigned w32 c.in-Some.other = search rules in
    let some : (pair : Pair) × (pair_of c.args.self.now.watches c.args.number ≡ Some pair) × IsOther pair c.args.l c.in-Some.other = rw (to_z-of_z w32 c.args.l fits) at c.in-Some.ensures.some in
    let found = pair-clause c.args.store.now c.args.self.now c.args.number some.0 c.requires.kept some.1 in
    let in_ = other-in (numbered c.args.store.now c.args.number) some.0 c.args.l c.in-Some.other found.2 some.2 in
    let is : numbered c.args.store.now c.args.number ≡ c.clause.result.now = numbered-is c.args.store.now c.args.number c.clause.result.now found.0 c.clause.ensures in
    let next : FitsSigned w32 c.in-Some-replacement.next = search rules in
    let P : List ℤ → Type 0 = λ clause. Contains clause c.in-Some-replacement.next in
    let has : Contains (numbered c.args.store.now c.args.number) c.in-Some-replacement.next = subst P (sym is) c.in-Some-replacement.ensures.there in
    let bound = literal-over (length c.args.self.now.trail.values.items - 1) c.args.store.now c.args.number c.in-Some-replacement.next c.requires.over has in
    rw (to_z-of_z w32 c.in-Some-replacement.next next) (place-within c.in-Some-replacement.next (length c.args.self.now.trail.values.items) (length c.args.self.now.watches.lists) (omega (arith, bound.0, bound.1)) c.requires.kept.lists_wide)

pub returns-in_err-change-in-Some-replacement-clause-kept : goal.returns-in_err-change-in-Some-replacement-clause-kept
returns-in_err-change-in-Some-replacement-clause-kept c =
    kept-roomy c.args.store.now c.args.self.now _ c.requires.kept refl refl refl refl refl refl c.in_err-change-in-Some-replacement.ensures.err_pairs c.in_err-change-in-Some-replacement.ensures.err.len
    (more-added c.args.number [] c.args.self.now.watches.lists c.change.new.self.lists c.in_err-change-in-Some-replacement.ensures.err)

pub returns-in_err-change-in-Some-replacement-clause-moved : goal.returns-in_err-change-in-Some-replacement-clause-moved
returns-in_err-change-in-Some-replacement-clause-moved c =
    moved-listed c.args.store.now c.args.l c.args.number c.args.self.now c.change.new.self c.in_err-change-in-Some-replacement.ensures.err_pairs c.in_err-change-in-Some-replacement.ensures.err

pub examine-requires-clause-over : goal.examine-requires-clause-over
examine-requires-clause-over c =
    c.requires.over

pub examine-requires-clause-number : goal.examine-requires-clause-number
examine-requires-clause-number c =
    let fits : FitsSigned w32 c.args.l = search rules in
    let other : FitsSigned w32 c.in-Some.other = search rules in
    let some : (pair : Pair) × (pair_of c.args.self.now.watches c.args.number ≡ Some pair) × IsOther pair c.args.l c.in-Some.other = rw (to_z-of_z w32 c.args.l fits) at c.in-Some.ensures.some in
    let found = pair-clause c.args.store.now c.args.self.now c.args.number some.0 c.requires.kept some.1 in
    let in_ = other-in (numbered c.args.store.now c.args.number) some.0 c.args.l c.in-Some.other found.2 some.2 in
    (found.0, found.1)

pub examine-requires-clause-kept : goal.examine-requires-clause-kept
examine-requires-clause-kept c =
    c.requires.kept

pub returns-in_err-examine-in-None-clause-kept : goal.returns-in_err-examine-in-None-clause-kept
returns-in_err-examine-in-None-clause-kept c =
    c.examine.ensures.kept

pub returns-in_err-examine-in-None-clause-moved : goal.returns-in_err-examine-in-None-clause-moved
returns-in_err-examine-in-None-clause-moved c =
    moved-steady c.args.store.now c.args.l c.args.number c.args.self.now c.examine.new.self c.examine.ensures.grown c.examine.ensures.steady

pub returns-in_ok-change-in-Some-replacement-clause-kept : goal.returns-in_ok-change-in-Some-replacement-clause-kept
returns-in_ok-change-in-Some-replacement-clause-kept c =
    let fits : FitsSigned w32 c.args.l = search rules in
    let other : FitsSigned w32 c.in-Some.other = search rules in
    let some : (pair : Pair) × (pair_of c.args.self.now.watches c.args.number ≡ Some pair) × IsOther pair c.args.l c.in-Some.other = rw (to_z-of_z w32 c.args.l fits) at c.in-Some.ensures.some in
    let found = pair-clause c.args.store.now c.args.self.now c.args.number some.0 c.requires.kept some.1 in
    let in_ = other-in (numbered c.args.store.now c.args.number) some.0 c.args.l c.in-Some.other found.2 some.2 in
    let is : numbered c.args.store.now c.args.number ≡ c.clause.result.now = numbered-is c.args.store.now c.args.number c.clause.result.now found.0 c.clause.ensures in
    let next : FitsSigned w32 c.in-Some-replacement.next = search rules in
    let P : List ℤ → Type 0 = λ clause. Contains clause c.in-Some-replacement.next in
    let has : Contains (numbered c.args.store.now c.args.number) c.in-Some-replacement.next = subst P (sym is) c.in-Some-replacement.ensures.there in
    let apart : c.in-Some-replacement.next ≢ c.in-Some.other = rw (to_z-of_z w32 c.in-Some.other other) at c.in-Some-replacement.ensures.apart in
    let open_ : literal (known_of c.args.self.now.trail.values.items) c.in-Some-replacement.next ≢ Some false = rw c.deref-2.ensures.value at c.in-Some-replacement.ensures.open in
    let changed : c.change.new.self.pairs.items ≡ set c.args.self.now.watches.pairs.items c.args.number (Some (record { first = c.in-Some.other; second = c.in-Some-replacement.next })) = rw (to_z-of_z w32 c.in-Some.other other, to_z-of_z w32 c.in-Some-replacement.next next) at c.in_ok-change-in-Some-replacement.ensures.pairs in
    let added : IsAdded c.args.number (c.in-Some-replacement.next ∷ []) c.args.self.now.watches.lists c.change.new.self.lists = rw (to_z-of_z w32 c.in-Some-replacement.next next) at c.in_ok-change-in-Some-replacement.ensures.lists in
    kept-changed (length c.args.self.now.trail.values.items - 1) c.args.store.now c.args.self.now c.change.new.self c.args.l c.in-Some.other c.in-Some-replacement.next c.args.number some.0 c.requires.over c.requires.kept c.requires.next some.1 some.2 has apart open_ changed added

pub returns-in_ok-change-in-Some-replacement-clause-moved : goal.returns-in_ok-change-in-Some-replacement-clause-moved
returns-in_ok-change-in-Some-replacement-clause-moved c =
    let fits : FitsSigned w32 c.args.l = search rules in
    let other : FitsSigned w32 c.in-Some.other = search rules in
    let some : (pair : Pair) × (pair_of c.args.self.now.watches c.args.number ≡ Some pair) × IsOther pair c.args.l c.in-Some.other = rw (to_z-of_z w32 c.args.l fits) at c.in-Some.ensures.some in
    let found = pair-clause c.args.store.now c.args.self.now c.args.number some.0 c.requires.kept some.1 in
    let in_ = other-in (numbered c.args.store.now c.args.number) some.0 c.args.l c.in-Some.other found.2 some.2 in
    let is : numbered c.args.store.now c.args.number ≡ c.clause.result.now = numbered-is c.args.store.now c.args.number c.clause.result.now found.0 c.clause.ensures in
    let next : FitsSigned w32 c.in-Some-replacement.next = search rules in
    let P : List ℤ → Type 0 = λ clause. Contains clause c.in-Some-replacement.next in
    let has : Contains (numbered c.args.store.now c.args.number) c.in-Some-replacement.next = subst P (sym is) c.in-Some-replacement.ensures.there in
    let apart : c.in-Some-replacement.next ≢ c.in-Some.other = rw (to_z-of_z w32 c.in-Some.other other) at c.in-Some-replacement.ensures.apart in
    let open_ : literal (known_of c.args.self.now.trail.values.items) c.in-Some-replacement.next ≢ Some false = rw c.deref-2.ensures.value at c.in-Some-replacement.ensures.open in
    let changed : c.change.new.self.pairs.items ≡ set c.args.self.now.watches.pairs.items c.args.number (Some (record { first = c.in-Some.other; second = c.in-Some-replacement.next })) = rw (to_z-of_z w32 c.in-Some.other other, to_z-of_z w32 c.in-Some-replacement.next next) at c.in_ok-change-in-Some-replacement.ensures.pairs in
    let added : IsAdded c.args.number (c.in-Some-replacement.next ∷ []) c.args.self.now.watches.lists c.change.new.self.lists = rw (to_z-of_z w32 c.in-Some-replacement.next next) at c.in_ok-change-in-Some-replacement.ensures.lists in
    moved-changed (length c.args.self.now.trail.values.items - 1) c.args.store.now c.args.self.now c.change.new.self c.args.l c.in-Some.other c.in-Some-replacement.next c.args.number some.0 c.requires.over c.requires.kept c.requires.next some.1 some.2 has apart open_ changed added

pub returns-in_ok-change-in-Some-replacement-clause-end : goal.returns-in_ok-change-in-Some-replacement-clause-end
returns-in_ok-change-in-Some-replacement-clause-end c =
    let fits : FitsSigned w32 c.args.l = search rules in
    let other : FitsSigned w32 c.in-Some.other = search rules in
    let some : (pair : Pair) × (pair_of c.args.self.now.watches c.args.number ≡ Some pair) × IsOther pair c.args.l c.in-Some.other = rw (to_z-of_z w32 c.args.l fits) at c.in-Some.ensures.some in
    let found = pair-clause c.args.store.now c.args.self.now c.args.number some.0 c.requires.kept some.1 in
    let in_ = other-in (numbered c.args.store.now c.args.number) some.0 c.args.l c.in-Some.other found.2 some.2 in
    let is : numbered c.args.store.now c.args.number ≡ c.clause.result.now = numbered-is c.args.store.now c.args.number c.clause.result.now found.0 c.clause.ensures in
    let next : FitsSigned w32 c.in-Some-replacement.next = search rules in
    let P : List ℤ → Type 0 = λ clause. Contains clause c.in-Some-replacement.next in
    let has : Contains (numbered c.args.store.now c.args.number) c.in-Some-replacement.next = subst P (sym is) c.in-Some-replacement.ensures.there in
    let apart : c.in-Some-replacement.next ≢ c.in-Some.other = rw (to_z-of_z w32 c.in-Some.other other) at c.in-Some-replacement.ensures.apart in
    let open_ : literal (known_of c.args.self.now.trail.values.items) c.in-Some-replacement.next ≢ Some false = rw c.deref-2.ensures.value at c.in-Some-replacement.ensures.open in
    let changed : c.change.new.self.pairs.items ≡ set c.args.self.now.watches.pairs.items c.args.number (Some (record { first = c.in-Some.other; second = c.in-Some-replacement.next })) = rw (to_z-of_z w32 c.in-Some.other other, to_z-of_z w32 c.in-Some-replacement.next next) at c.in_ok-change-in-Some-replacement.ensures.pairs in
    let added : IsAdded c.args.number (c.in-Some-replacement.next ∷ []) c.args.self.now.watches.lists c.change.new.self.lists = rw (to_z-of_z w32 c.in-Some-replacement.next next) at c.in_ok-change-in-Some-replacement.ensures.lists in
    look-changed (length c.args.self.now.trail.values.items - 1) c.args.store.now c.args.self.now c.change.new.self c.args.l c.in-Some.other c.in-Some-replacement.next c.args.number some.0 c.requires.over c.requires.kept c.requires.next some.1 some.2 has apart open_ changed added

pub returns-then-branch-clause-kept : goal.returns-then-branch-clause-kept
returns-then-branch-clause-kept c =
    c.examine.ensures.kept

pub returns-then-branch-clause-moved : goal.returns-then-branch-clause-moved
returns-then-branch-clause-moved c =
    moved-steady c.args.store.now c.args.l c.args.number c.args.self.now c.examine.new.self c.examine.ensures.grown c.examine.ensures.steady

pub returns-else-branch-clause-kept : goal.returns-else-branch-clause-kept
returns-else-branch-clause-kept c =
    c.examine.ensures.kept

pub returns-else-branch-clause-moved : goal.returns-else-branch-clause-moved
returns-else-branch-clause-moved c =
    moved-steady c.args.store.now c.args.l c.args.number c.args.self.now c.examine.new.self c.examine.ensures.grown c.examine.ensures.steady

pub returns-then-branch-clause-end : goal.returns-then-branch-clause-end
returns-then-branch-clause-end c =
    examined-conflict c.args.store.now (known_of c.examine.new.self.trail.values.items) c.args.number c.in_ok-examine-in-None.field-0 c.if-branch.true c.in_ok-examine-in-None.ensures.end

pub returns-else-branch-clause-end : goal.returns-else-branch-clause-end
returns-else-branch-clause-end c =
    let fits : FitsSigned w32 c.args.l = search rules in
    let other : FitsSigned w32 c.in-Some.other = search rules in
    let some : (pair : Pair) × (pair_of c.args.self.now.watches c.args.number ≡ Some pair) × IsOther pair c.args.l c.in-Some.other = rw (to_z-of_z w32 c.args.l fits) at c.in-Some.ensures.some in
    let found = pair-clause c.args.store.now c.args.self.now c.args.number some.0 c.requires.kept some.1 in
    let in_ = other-in (numbered c.args.store.now c.args.number) some.0 c.args.l c.in-Some.other found.2 some.2 in
    let is : numbered c.args.store.now c.args.number ≡ c.clause.result.now = numbered-is c.args.store.now c.args.number c.clause.result.now found.0 c.clause.ensures in
    let Q : List ℤ → Type 0 = All (λ m. m ≢ c.in-Some.other → literal (known_of c.args.self.now.trail.values.items) m ≡ Some false) in
    let all : All (λ m. m ≢ c.in-Some.other → literal (known_of c.args.self.now.trail.values.items) m ≡ Some false) (numbered c.args.store.now c.args.number) = subst Q (sym is) (rw (to_z-of_z w32 c.in-Some.other other, c.deref-2.ensures.value) at c.in-None.ensures.none) in
    look-last c.args.store.now c.args.self.now c.examine.new.self c.args.l c.in-Some.other c.args.number some.0 c.in_ok-examine-in-None.field-0 c.requires.kept c.requires.next some.1 some.2 all c.examine.ensures.kept c.examine.ensures.grown c.examine.ensures.steady.watches c.if-branch.false c.in_ok-examine-in-None.ensures.end
