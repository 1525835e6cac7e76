-- A process goes on by one step.
use Rattle.tb_machine.proofs.Common.{◌≡◌, ℕ, suc, zero, ◌-◌, ◌<◌, List, [], ◌∷◌, ◌++◌, refl, ap, sym, ◌∙◌, arith, Event, Node, Frame, World, Meaning, Work, Step, Goes, Waits, Finishes, step, goes_on}
use Rattle.tb_machine.proofs.Common.{Ran, Pauses, Finished, Suspended, Tree, works, work_of, IsStep}
use Rattle.tb_machine.specs.declared.machine.Stepped.TheVariants as d
use Rattle.tb_machine.proofs.Stacks.{works-push}

pub step_goes : (nodes : List Node) (tree : Tree) (stack : List Frame) (v : World) (r : Step) → IsStep nodes tree d.Goes stack v r → r ≡ Goes (works nodes tree stack) v
step_goes nodes tree stack v (Goes work w) h = rw (h.0, h.1) refl
step_goes nodes tree stack v (Waits e work w) h = absurd h
step_goes nodes tree stack v (Finishes w) h = absurd h

pub step_waits : (nodes : List Node) (tree : Tree) (event : Event) (stack : List Frame) (v : World) (r : Step) → IsStep nodes tree (d.Waits event) stack v r → r ≡ Waits event (works nodes tree stack) v
step_waits nodes tree event stack v (Goes work w) h = absurd h
step_waits nodes tree event stack v (Waits e work w) h = rw (h.0, h.1, h.2) refl
step_waits nodes tree event stack v (Finishes w) h = absurd h

pub step_finishes : (nodes : List Node) (tree : Tree) (stack : List Frame) (v : World) (r : Step) → IsStep nodes tree d.Finishes stack v r → r ≡ Finishes v
step_finishes nodes tree stack v (Goes work w) h = absurd h
step_finishes nodes tree stack v (Waits e work w) h = absurd h
step_finishes nodes tree stack v (Finishes w) h = rw h refl

-- what a step comes to, with the statements that are left
abbrev after : Meaning → Event → ℕ → Step → Ran Suspended
after m e left (Goes work v) = goes_on m e left work v
after m e left (Waits x work v) = Pauses left (record { event = x; work = work }) v
after m e left (Finishes v) = Finished v

one_more : (m : Meaning) (e : Event) (left : ℕ) (x : Work) (rest : List Work) (w : World) → goes_on m e (suc left) (x ∷ rest) w ≡ after m e left (step m x rest w)
one_more m e left x rest w = refl

next : (nodes : List Node) (tree : Tree) (m : Meaning) (e : Event) (left : ℕ) (items rest : List Frame) (frame : Frame) (w : World) (r : Step) → items ≡ rest ++ frame ∷ [] → step m (work_of nodes tree frame) (works nodes tree rest) w ≡ r → goes_on m e (suc left) (works nodes tree items) w ≡ after m e left r
next nodes tree m e left items rest frame w r popped steps = rw (popped, works-push nodes tree rest frame) (one_more m e left (work_of nodes tree frame) (works nodes tree rest) w ∙ ap (after m e left) steps)

pub next_goes : (nodes : List Node) (tree : Tree) (m : Meaning) (e : Event) (left : ℕ) (items rest stack : List Frame) (frame : Frame) (w v : World) → items ≡ rest ++ frame ∷ [] → 0 < left → IsStep nodes tree d.Goes stack v (step m (work_of nodes tree frame) (works nodes tree rest) w) → goes_on m e (left - 1) (works nodes tree stack) v ≡ goes_on m e left (works nodes tree items) w
next_goes nodes tree m e zero items rest stack frame w v popped some steps = absurd (omega arith)
next_goes nodes tree m e (suc left) items rest stack frame w v popped some steps =
    let same : suc left - 1 ≡ left = omega arith in
    rw same (sym (next nodes tree m e left items rest frame w (Goes (works nodes tree stack) v) popped (step_goes nodes tree stack v (step m (work_of nodes tree frame) (works nodes tree rest) w) steps)))

pub next_waits : (nodes : List Node) (tree : Tree) (m : Meaning) (e event : Event) (left : ℕ) (items rest stack : List Frame) (frame : Frame) (w v : World) → items ≡ rest ++ frame ∷ [] → 0 < left → IsStep nodes tree (d.Waits event) stack v (step m (work_of nodes tree frame) (works nodes tree rest) w) → goes_on m e left (works nodes tree items) w ≡ Pauses (left - 1) (record { event = event; work = works nodes tree stack }) v
next_waits nodes tree m e event zero items rest stack frame w v popped some steps = absurd (omega arith)
next_waits nodes tree m e event (suc left) items rest stack frame w v popped some steps =
    let same : suc left - 1 ≡ left = omega arith in
    rw same (next nodes tree m e left items rest frame w (Waits event (works nodes tree stack) v) popped (step_waits nodes tree event stack v (step m (work_of nodes tree frame) (works nodes tree rest) w) steps))

pub next_finishes : (nodes : List Node) (tree : Tree) (m : Meaning) (e : Event) (left : ℕ) (items rest stack : List Frame) (frame : Frame) (w v : World) → items ≡ rest ++ frame ∷ [] → 0 < left → IsStep nodes tree d.Finishes stack v (step m (work_of nodes tree frame) (works nodes tree rest) w) → goes_on m e left (works nodes tree items) w ≡ Finished v
next_finishes nodes tree m e zero items rest stack frame w v popped some steps = absurd (omega arith)
next_finishes nodes tree m e (suc left) items rest stack frame w v popped some steps = next nodes tree m e left items rest frame w (Finishes v) popped (step_finishes nodes tree stack v (step m (work_of nodes tree frame) (works nodes tree rest) w) steps)
