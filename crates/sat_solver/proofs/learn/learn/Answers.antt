use Rattle.sat_solver.proofs.Common.{◌≡◌, ◌<◌, ◌≤◌, ◌++◌, ◌∷◌, [], ℕ, true, false, length, map, sym, ap, ◌∙◌, subst, arith, All, length-map, none, with_false, EndsInConflict, Log, GoesOnBy, Probe}
use Rattle.sat_solver.proofs.Common.{IsLearned, number_of, in_use, IsProbing}
use Rattle.sat_solver.proofs.Counting.{length-free}
use Rattle.sat_solver.proofs.Grown.{count-le}
use Rattle.sat_solver.proofs.Ready.{learned-new, legal-free, ready-undone, ready-kept}
use Rattle.sat_solver.proofs.Kept.{kept-more}
use Rattle.sat_solver.proofs.Picking.{conflict-named, conflict-within}
use Rattle.sat_solver.proofs.Probing.{probing-added}
use Rattle.sat_solver.proofs.learn.learn.Goals as goal
use Rattle.sat_solver.proofs.learn.learn.Goals.{then-learned-len, else-learned-len, in-Memory, in_default}

pub numbers_of-requires : goal.numbers_of-requires
numbers_of-requires c =
    let within : All (λ hint. (1 ≤ hint) × (hint ≤ length c.args.probe.now.part.store)) c.in_ok-learned.learned.hints.items = conflict-within c.args.probe.now.part.store (with_false none c.in_ok-learned.learned.lemma.items) c.in_ok-learned.learned.hints.items c.in_ok-learned.ensures.follows in
    rw (c.deref.ensures.value, c.as_slice.ensures, c.requires.probing.part.numbers.paired) within

pub add-requires-clause-room : goal.add-requires-clause-room
add-requires-clause-room c =
    let learned = c.in_ok-learned.ensures in
    let few : length c.in_ok-learned.learned.lemma.items ≤ c.args.free = length-free c.args.free c.in_ok-learned.learned.lemma.items learned.over_free in
    rw c.deref-2.ensures.value (omega (arith, few, c.requires.free, c.requires.room.few_free, c.requires.room.room))

pub add-requires-clause-short : goal.add-requires-clause-short
add-requires-clause-short c =
    let named : length c.in_ok-hints.hints.items ≡ length c.in_ok-learned.learned.hints.items = ap (length {A = ℕ}) (rw (c.deref.ensures.value, c.as_slice.ensures) at c.in_ok-hints.ensures) ∙ length-map c.in_ok-learned.learned.hints.items (number_of c.args.probe.now.part.numbers.items) in
    rw c.deref-3.ensures.value (omega (arith, named, c.in_ok-learned.ensures.few, c.requires.probing.ready.trail.counted, count-le c.args.probe.now.propagator.trail.values.items, c.requires.len, c.requires.room.few_variables))

pub returns-in-Ok-clause-ok : goal.returns-in-Ok-clause-ok
returns-in-Ok-clause-ok c =
    let learned = c.in_ok-learned.ensures in
    record {
      lemma = c.in_ok-learned.learned.lemma.items;
      few = (let few : length c.in_ok-learned.learned.lemma.items ≤ c.args.free = length-free c.args.free c.in_ok-learned.learned.lemma.items learned.over_free in omega (arith, few, c.requires.free, c.requires.room.few_free));
      added = rw c.deref-2.ensures.value at c.in-Ok.ensures.ok;
    }

pub undo-requires-clause-kept : goal.undo-requires-clause-kept
undo-requires-clause-kept c = (in_use c.args.checker.now c.args.probe.now, c.requires.probing.kept)

pub returns-in-Ok-clause-probing : goal.returns-in-Ok-clause-probing
returns-in-Ok-clause-probing c =
    let learned : IsLearned (in_use c.args.checker.now c.args.probe.now) c.args.checker.now.free c.args.probe.now.propagator.trail.literals.items c.args.probe.now.propagator.trail.starts.items c.in_ok-learned.learned.lemma.items c.in_ok-learned.learned.hints.items c.in_ok-learned.learned.back = rw (c.requires.store, c.requires.free) at c.in_ok-learned.ensures in
    let added : c.add.new.self ≡ record c.args.checker.now { lemmas = c.args.checker.now.lemmas ++ c.in_ok-learned.learned.lemma.items ∷ [] } = rw c.deref-2.ensures.value at c.in-Ok.ensures.ok in
    let P : Log → Type 0 = λ log. IsProbing log c.if-learned-len.probe in
    let R : Probe → Type 0 = λ p. IsProbing (record c.args.checker.now { lemmas = c.args.checker.now.lemmas ++ c.in_ok-learned.learned.lemma.items ∷ [] }) p in
    subst P (sym added) (elim c.if-learned-len.branch [
      | then-learned-len w ↦
          let less : c.in_ok-learned.learned.back < length c.args.probe.now.propagator.trail.starts.items = omega (arith, w.if-learned-len.true, c.len.ensures, c.args.probe.now.propagator.trail.starts.ok.0) in
          subst R (sym w.probe-is) (probing-added c.args.checker.now c.args.probe.now w.undo.new.self c.in_ok-learned.learned.lemma.items c.requires.probing
          (ready-undone (in_use c.args.checker.now c.args.probe.now) c.args.checker.now.free c.args.probe.now.propagator.trail w.undo.new.self.trail c.in_ok-learned.learned.lemma.items c.in_ok-learned.learned.hints.items c.in_ok-learned.learned.back c.requires.probing.ready learned less w.undo.ensures.unwound w.undo.ensures.literals w.undo.ensures.reasons w.undo.ensures.starts w.undo.ensures.len)
          (kept-more (in_use c.args.checker.now c.args.probe.now) (c.in_ok-learned.learned.lemma.items ∷ []) w.undo.new.self (w.undo.ensures.kept (in_use c.args.checker.now c.args.probe.now) c.requires.probing.kept (c.requires.probing.ready.quiet c.in_ok-learned.learned.back less))))
      | else-learned-len w ↦
          subst R (sym w.probe-is) (probing-added c.args.checker.now c.args.probe.now c.args.probe.now.propagator c.in_ok-learned.learned.lemma.items c.requires.probing
          (ready-kept (in_use c.args.checker.now c.args.probe.now) c.args.checker.now.free c.args.probe.now.propagator.trail c.in_ok-learned.learned.lemma.items c.in_ok-learned.learned.hints.items c.in_ok-learned.learned.back c.requires.probing.ready learned (omega (arith, w.if-learned-len.false, c.len.ensures, c.args.probe.now.propagator.trail.starts.ok.0)))
          (kept-more (in_use c.args.checker.now c.args.probe.now) (c.in_ok-learned.learned.lemma.items ∷ []) c.args.probe.now.propagator c.requires.probing.kept))
    ])

pub prove-unreachable-requires : goal.prove-unreachable-requires
prove-unreachable-requires c =
    let learned : IsLearned (in_use c.args.checker.now c.args.probe.now) c.args.checker.now.free c.args.probe.now.propagator.trail.literals.items c.args.probe.now.propagator.trail.starts.items c.in_ok-learned.learned.lemma.items c.in_ok-learned.learned.hints.items c.in_ok-learned.learned.back = rw (c.requires.store, c.requires.free) at c.in_ok-learned.ensures in
    let named : c.in_ok-hints.hints.items ≡ map (number_of c.args.probe.now.part.numbers.items) c.in_ok-learned.learned.hints.items = rw (c.deref.ensures.value, c.as_slice.ensures) at c.in_ok-hints.ensures in
    let follows : EndsInConflict (c.args.checker.now.clauses ++ c.args.checker.now.lemmas) (with_false none c.in_ok-learned.learned.lemma.items) c.in_ok-hints.hints.items = rw named (conflict-named (c.args.checker.now.clauses ++ c.args.checker.now.lemmas) c.args.probe.now.part.store c.args.probe.now.part.numbers.items c.requires.probing.part.numbers (with_false none c.in_ok-learned.learned.lemma.items) c.in_ok-learned.learned.hints.items c.in_ok-learned.ensures.follows) in
    let on : GoesOnBy c.args.checker.now.clauses c.args.checker.now.free c.args.checker.now.lemmas c.in_ok-learned.learned.lemma.items c.in_ok-hints.hints.items = record {
      over_free = learned.over_free;
      new = learned-new (Rattle.sat_solver.specs.Parts.picked c.args.probe.now.focus.left_out.items c.args.checker.now.clauses) c.args.checker.now.lemmas c.args.checker.now.free c.args.probe.now.propagator.trail c.in_ok-learned.learned.lemma.items c.in_ok-learned.learned.hints.items c.in_ok-learned.learned.back c.requires.probing.ready (legal-free c.args.checker.now.clauses c.args.checker.now.free [] c.args.checker.now.lemmas c.store-store.ensures.legal) c.requires.some learned;
      follows = follows;
    } in
    let memory = c.in-Err.ensures.exact (rw (c.deref-2.ensures.value, c.deref-3.ensures.value) on) in
    elim c.match-matches.branch [
      | in-Memory w ↦ (let wrong : true ≡ false = sym w.matches-is ∙ c.if-prove.true in cc)
      | in_default w ↦ w.in_default.not-Memory memory
    ]
