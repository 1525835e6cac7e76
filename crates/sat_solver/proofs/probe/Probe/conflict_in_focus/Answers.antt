use Rattle.sat_solver.proofs.Common.{◌≡◌, ◌++◌, ℕ, ℤ, List, length, subst, IfOk, MatchOption, known_of, IsDecided, IsConflict, IsPart, in_use}
use Rattle.sat_solver.proofs.Probing.{part-whole, probing-searched, on-ok}
use Rattle.sat_solver.proofs.probe.Probe.conflict_in_focus.Goals as goal

pub next_conflict-requires-clause-ready : goal.next_conflict-requires-clause-ready
next_conflict-requires-clause-ready c =
    let part : IsPart c.args.self.now.focus.left_out.items (c.args.checker.now.clauses ++ c.args.checker.now.lemmas) c.update.new.self = rw (c.deref.ensures.value, c.store.ensures.clauses) at c.update.ensures.part in
    let seen : c.update.new.self.seen ≡ length (c.args.checker.now.clauses ++ c.args.checker.now.lemmas) = rw c.store.ensures.clauses at c.in_ok-update.ensures.whole in
    let store : c.update.new.self.store ≡ in_use c.args.checker.now c.args.self.now = part-whole c.args.checker.now (record c.args.self.now { part = c.update.new.self }) c.requires.probing.focus part seen in
    rw (store, c.requires.free) c.requires.probing.ready

pub next_conflict-requires-clause-kept : goal.next_conflict-requires-clause-kept
next_conflict-requires-clause-kept c =
    let part : IsPart c.args.self.now.focus.left_out.items (c.args.checker.now.clauses ++ c.args.checker.now.lemmas) c.update.new.self = rw (c.deref.ensures.value, c.store.ensures.clauses) at c.update.ensures.part in
    let seen : c.update.new.self.seen ≡ length (c.args.checker.now.clauses ++ c.args.checker.now.lemmas) = rw c.store.ensures.clauses at c.in_ok-update.ensures.whole in
    let store : c.update.new.self.store ≡ in_use c.args.checker.now c.args.self.now = part-whole c.args.checker.now (record c.args.self.now { part = c.update.new.self }) c.requires.probing.focus part seen in
    rw store c.requires.probing.kept

pub returns-clause-probing : goal.returns-clause-probing
returns-clause-probing c =
    let part : IsPart c.args.self.now.focus.left_out.items (c.args.checker.now.clauses ++ c.args.checker.now.lemmas) c.update.new.self = rw (c.deref.ensures.value, c.store.ensures.clauses) at c.update.ensures.part in
    let seen : c.update.new.self.seen ≡ length (c.args.checker.now.clauses ++ c.args.checker.now.lemmas) = rw c.store.ensures.clauses at c.in_ok-update.ensures.whole in
    let store : c.update.new.self.store ≡ in_use c.args.checker.now c.args.self.now = part-whole c.args.checker.now (record c.args.self.now { part = c.update.new.self }) c.requires.probing.focus part seen in
    probing-searched c.args.checker.now c.args.self.now c.update.new.self c.next_conflict.new.propagator c.args.free c.requires.probing part c.requires.free store c.next_conflict.ensures.ready c.next_conflict.ensures.kept

pub returns-clause-store : goal.returns-clause-store
returns-clause-store c =
    let part : IsPart c.args.self.now.focus.left_out.items (c.args.checker.now.clauses ++ c.args.checker.now.lemmas) c.update.new.self = rw (c.deref.ensures.value, c.store.ensures.clauses) at c.update.ensures.part in
    let seen : c.update.new.self.seen ≡ length (c.args.checker.now.clauses ++ c.args.checker.now.lemmas) = rw c.store.ensures.clauses at c.in_ok-update.ensures.whole in
    let store : c.update.new.self.store ≡ in_use c.args.checker.now c.args.self.now = part-whole c.args.checker.now (record c.args.self.now { part = c.update.new.self }) c.requires.probing.focus part seen in
    on-ok c.next_conflict.result store

pub returns-clause-end : goal.returns-clause-end
returns-clause-end c =
    let part : IsPart c.args.self.now.focus.left_out.items (c.args.checker.now.clauses ++ c.args.checker.now.lemmas) c.update.new.self = rw (c.deref.ensures.value, c.store.ensures.clauses) at c.update.ensures.part in
    let seen : c.update.new.self.seen ≡ length (c.args.checker.now.clauses ++ c.args.checker.now.lemmas) = rw c.store.ensures.clauses at c.in_ok-update.ensures.whole in
    let store : c.update.new.self.store ≡ in_use c.args.checker.now c.args.self.now = part-whole c.args.checker.now (record c.args.self.now { part = c.update.new.self }) c.requires.probing.focus part seen in
    let P : List ℕ → Type 0 = λ bits. IfOk c.next_conflict.result (λ found. MatchOption found (IsDecided c.update.new.self.store bits c.next_conflict.new.propagator.trail.values.items) (IsConflict c.update.new.self.store (known_of c.next_conflict.new.propagator.trail.values.items))) in
    let Q : List (List ℤ) → Type 0 = λ clauses. IfOk c.next_conflict.result (λ found. MatchOption found (IsDecided clauses c.args.self.now.focus.bits.items c.next_conflict.new.propagator.trail.values.items) (IsConflict clauses (known_of c.next_conflict.new.propagator.trail.values.items))) in
    subst Q store (subst P c.deref-2.ensures.value c.next_conflict.ensures.end)
