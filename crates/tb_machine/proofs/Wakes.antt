-- Processes that go on one after the other, over plain variables.
use Rattle.tb_machine.proofs.Common.{◌≡◌, ℕ, suc, zero, ◌+◌, ◌<◌, ◌≤◌, List, [], ◌∷◌, ◌++◌, length, take, drop, drop-cons, set, get_or, refl, ap, ◌∙◌, arith, add-one, Event, Node, World, Meaning, Ran}
use Rattle.tb_machine.proofs.Common.{Pauses, Finished, TooLong, Suspended, woken, before, all_woken, Tree, IsRan, suspended, all_suspended}
use Rattle.tb_machine.specs.declared.machine.Ended.TheVariants as e
use Rattle.tb_machine.specs.declared.node.Process.{Process}

pub ran_pauses : (nodes : List Node) (tree : Tree) (n : ℕ) (p : Process) (v : World) (r : Ran Suspended) → IsRan nodes tree e.Pauses n p v r → r ≡ Pauses n (suspended nodes tree p) v
ran_pauses nodes tree n p v (Pauses left q w) h = rw (h.0, h.1, h.2) refl
ran_pauses nodes tree n p v (Finished w) h = absurd h
ran_pauses nodes tree n p v (TooLong w) h = absurd h

pub ran_finished : (nodes : List Node) (tree : Tree) (n : ℕ) (p : Process) (v : World) (r : Ran Suspended) → IsRan nodes tree e.Finished n p v r → r ≡ Finished v
ran_finished nodes tree n p v (Pauses left q w) h = absurd h
ran_finished nodes tree n p v (Finished w) h = rw h refl
ran_finished nodes tree n p v (TooLong w) h = absurd h

pub ran_too_long : (nodes : List Node) (tree : Tree) (n : ℕ) (p : Process) (v : World) (r : Ran Suspended) → IsRan nodes tree e.TooLong n p v r → r ≡ TooLong v
ran_too_long nodes tree n p v (Pauses left q w) h = absurd h
ran_too_long nodes tree n p v (Finished w) h = absurd h
ran_too_long nodes tree n p v (TooLong w) h = rw h refl

-- processes that have gone on, before those that are to go on
abbrev pub with_first : List Suspended → Ran (List Suspended) → Ran (List Suspended)
with_first [] r = r
with_first (p ∷ ps) r = before p (with_first ps r)

pub with_first-last : (ps : List Suspended) (p : Suspended) (r : Ran (List Suspended)) → with_first (ps ++ p ∷ []) r ≡ with_first ps (before p r)
with_first-last [] p r = refl
with_first-last (q ∷ ps) p r = ap (before q) (with_first-last ps p r)

pub with_first-all : (ps : List Suspended) (left : ℕ) (w : World) → with_first ps (Pauses left [] w) ≡ Pauses left ps w
with_first-all [] left w = refl
with_first-all (p ∷ ps) left w = ap (before p) (with_first-all ps left w)

pub with_first-finished : (ps : List Suspended) (w : World) → with_first ps (Finished w) ≡ Finished w
with_first-finished [] w = refl
with_first-finished (p ∷ ps) w = ap (before p) (with_first-finished ps w)

pub with_first-too_long : (ps : List Suspended) (w : World) → with_first ps (TooLong w) ≡ TooLong w
with_first-too_long [] w = refl
with_first-too_long (p ∷ ps) w = ap (before p) (with_first-too_long ps w)

pub take-next : (ss : List Suspended) (i : ℕ) (q : Suspended) → i < length ss → take (suc i) (set ss i q) ≡ take i ss ++ q ∷ []
take-next [] i q h = absurd (omega arith)
take-next (s ∷ ss) zero q h = refl
take-next (s ∷ ss) (suc i) q h = ap (λ (l : List Suspended). s ∷ l) (take-next ss i q (omega arith))

pub drop-next : (ss : List Suspended) (i : ℕ) (q : Suspended) → drop (suc i) (set ss i q) ≡ drop (suc i) ss
drop-next [] i q = refl
drop-next (s ∷ ss) zero q = refl
drop-next (s ∷ ss) (suc i) q = drop-next ss i q

abbrev after_woken : Meaning → Event → List Suspended → Ran Suspended → Ran (List Suspended)
after_woken m event more (Pauses n q v) = before q (all_woken m event n more v)
after_woken m event more (Finished v) = Finished v
after_woken m event more (TooLong v) = TooLong v

woken-then : (m : Meaning) (event : Event) (left : ℕ) (p : Suspended) (more : List Suspended) (w : World) → all_woken m event left (p ∷ more) w ≡ after_woken m event more (woken m event left p w)
woken-then m event left p more w = refl

-- the process at i pauses
pub next_pauses : (m : Meaning) (event : Event) (left n : ℕ) (ss : List Suspended) (i : ℕ) (p q : Suspended) (w v : World) → i < length ss → p ≡ get_or ss i p → woken m event left p w ≡ Pauses n q v → with_first (take i ss) (all_woken m event left (drop i ss) w) ≡ with_first (take (i + 1) (set ss i q)) (all_woken m event n (drop (i + 1) (set ss i q)) v)
next_pauses m event left n ss i p q w v h is comes =
    let e : all_woken m event left (p ∷ drop (suc i) ss) w ≡ before q (all_woken m event n (drop (suc i) ss) v) = woken-then m event left p (drop (suc i) ss) w ∙ ap (after_woken m event (drop (suc i) ss)) comes in
    rw (add-one, take-next ss i q h, drop-next ss i q, with_first-last (take i ss) q (all_woken m event n (drop (suc i) ss) v), drop-cons ss i p, ← is) (ap (with_first (take i ss)) e)

pub next_finished : (m : Meaning) (event : Event) (left : ℕ) (ss : List Suspended) (i : ℕ) (p : Suspended) (w v : World) → i < length ss → p ≡ get_or ss i p → woken m event left p w ≡ Finished v → with_first (take i ss) (all_woken m event left (drop i ss) w) ≡ Finished v
next_finished m event left ss i p w v h is comes =
    let e : all_woken m event left (p ∷ drop (suc i) ss) w ≡ Finished v = woken-then m event left p (drop (suc i) ss) w ∙ ap (after_woken m event (drop (suc i) ss)) comes in
    rw (drop-cons ss i p, ← is) (ap (with_first (take i ss)) e ∙ with_first-finished (take i ss) v)

pub next_too_long : (m : Meaning) (event : Event) (left : ℕ) (ss : List Suspended) (i : ℕ) (p : Suspended) (w v : World) → i < length ss → p ≡ get_or ss i p → woken m event left p w ≡ TooLong v → with_first (take i ss) (all_woken m event left (drop i ss) w) ≡ TooLong v
next_too_long m event left ss i p w v h is comes =
    let e : all_woken m event left (p ∷ drop (suc i) ss) w ≡ TooLong v = woken-then m event left p (drop (suc i) ss) w ∙ ap (after_woken m event (drop (suc i) ss)) comes in
    rw (drop-cons ss i p, ← is) (ap (with_first (take i ss)) e ∙ with_first-too_long (take i ss) v)

pub suspended-at : (nodes : List Node) (tree : Tree) (ps : List Process) (i : ℕ) (p : Process) → i < length ps → p ≡ get_or ps i p → suspended nodes tree p ≡ get_or (all_suspended nodes tree ps) i (suspended nodes tree p)
suspended-at nodes tree [] i p h is = absurd (omega arith)
suspended-at nodes tree (x ∷ ps) zero p h is = ap (suspended nodes tree) is
suspended-at nodes tree (x ∷ ps) (suc i) p h is = suspended-at nodes tree ps i p (omega arith) is

pub suspended-length : (nodes : List Node) (tree : Tree) (ps : List Process) → length (all_suspended nodes tree ps) ≡ length ps
suspended-length nodes tree [] = refl
suspended-length nodes tree (x ∷ ps) = ap suc (suspended-length nodes tree ps)

pub suspended-set : (nodes : List Node) (tree : Tree) (ps : List Process) (i : ℕ) (q : Process) → all_suspended nodes tree (set ps i q) ≡ set (all_suspended nodes tree ps) i (suspended nodes tree q)
suspended-set nodes tree [] i q = refl
suspended-set nodes tree (x ∷ ps) zero q = refl
suspended-set nodes tree (x ∷ ps) (suc i) q = ap (λ (l : List Suspended). suspended nodes tree x ∷ l) (suspended-set nodes tree ps i q)

take-whole : (ss : List Suspended) (i : ℕ) → length ss ≤ i → take i ss ≡ ss
take-whole [] zero h = refl
take-whole [] (suc i) h = refl
take-whole (s ∷ ss) zero h = absurd (omega arith)
take-whole (s ∷ ss) (suc i) h = ap (λ (l : List Suspended). s ∷ l) (take-whole ss i (omega arith))

drop-whole : (ss : List Suspended) (i : ℕ) → length ss ≤ i → drop i ss ≡ []
drop-whole [] zero h = refl
drop-whole [] (suc i) h = refl
drop-whole (s ∷ ss) zero h = absurd (omega arith)
drop-whole (s ∷ ss) (suc i) h = drop-whole ss i (omega arith)

pub all_gone : (m : Meaning) (event : Event) (left : ℕ) (ss : List Suspended) (i : ℕ) (w : World) → length ss ≤ i → with_first (take i ss) (all_woken m event left (drop i ss) w) ≡ Pauses left ss w
all_gone m event left ss i w h = rw (take-whole ss i h, drop-whole ss i h) (with_first-all ss left w)
