-- What the machine does at the test of a loop, over plain variables.
use Rattle.tb_machine.proofs.Common.{◌≡◌, ℕ, suc, zero, ◌-◌, ◌<◌, Bool, true, false, List, [], ◌∷◌, ◌++◌, Some, slice_get, refl, ◌∙◌, arith, if◌then◌else◌, Expr, Assignment, Node, Frame, World}
use Rattle.tb_machine.proofs.Common.{Meaning, Turns, assign, step, Tree, works, work_of, loop_work, IsStep}
use Rattle.tb_machine.specs.declared.machine.Stepped.TheVariants as d
use Rattle.tb_machine.specs.declared.node.Node.TheVariants as n
use Rattle.tb_machine.specs.declared.node.Frame.TheVariants as f
use Rattle.tb_machine.proofs.Stacks.{works-push}

pub works-push-two : (nodes : List Node) (tree : Tree) (stack one two : List Frame) (x y : Frame) → one ≡ stack ++ x ∷ [] → two ≡ one ++ y ∷ [] → works nodes tree two ≡ work_of nodes tree y ∷ work_of nodes tree x ∷ works nodes tree stack
works-push-two nodes tree stack one two x y e h = rw (h, works-push nodes tree one y, e, works-push nodes tree stack x) refl

pub for_turn : (nodes : List Node) (tree : Tree) (m : Meaning) (first : Bool) (number : ℕ) (stack : List Frame) (w : World) {node : Node} {start after : Assignment} {x : Expr} {body : ℕ} {u v : World} {taken : Bool} {one two : List Frame} → node ≡ n.For start x after body → slice_get nodes number ≡ Some node → u ≡ assign m (if first then start else after) w → (taken, v) ≡ m.holds x u → taken ≡ true → one ≡ stack ++ f.Next number ∷ [] → two ≡ one ++ f.Do body ∷ [] → IsStep nodes tree d.Goes two v (step m (loop_work tree first (Some node)) (works nodes tree stack) w)
for_turn nodes tree m first number stack w {start = start} {after = after} {x = x} {body = body} {one = one} {two = two} is at run drawn here pushed again = rw (is, ← run, ← drawn, here) (works-push-two nodes tree stack one two (f.Next number) (f.Do body) pushed again ∙ rw (at, is) refl, refl)

pub for_end : (nodes : List Node) (tree : Tree) (m : Meaning) (first : Bool) (stack : List Frame) (w : World) {node : Node} {start after : Assignment} {x : Expr} {body : ℕ} {u v : World} {taken : Bool} → node ≡ n.For start x after body → u ≡ assign m (if first then start else after) w → (taken, v) ≡ m.holds x u → taken ≡ false → IsStep nodes tree d.Goes stack v (step m (loop_work tree first (Some node)) (works nodes tree stack) w)
for_end nodes tree m first stack w {start = start} {after = after} {x = x} {body = body} is run drawn here = rw (is, ← run, ← drawn, here) (refl, refl)

pub while_turn : (nodes : List Node) (tree : Tree) (m : Meaning) (first : Bool) (number : ℕ) (stack : List Frame) (w : World) {node : Node} {x : Expr} {body : ℕ} {v : World} {taken : Bool} {one two : List Frame} → node ≡ n.While x body → slice_get nodes number ≡ Some node → (taken, v) ≡ m.holds x w → taken ≡ true → one ≡ stack ++ f.Next number ∷ [] → two ≡ one ++ f.Do body ∷ [] → IsStep nodes tree d.Goes two v (step m (loop_work tree first (Some node)) (works nodes tree stack) w)
while_turn nodes tree m first number stack w {x = x} {body = body} {one = one} {two = two} is at drawn here pushed again = rw (is, ← drawn, here) (works-push-two nodes tree stack one two (f.Next number) (f.Do body) pushed again ∙ rw (at, is) refl, refl)

pub while_end : (nodes : List Node) (tree : Tree) (m : Meaning) (first : Bool) (stack : List Frame) (w : World) {node : Node} {x : Expr} {body : ℕ} {v : World} {taken : Bool} → node ≡ n.While x body → (taken, v) ≡ m.holds x w → taken ≡ false → IsStep nodes tree d.Goes stack v (step m (loop_work tree first (Some node)) (works nodes tree stack) w)
while_end nodes tree m first stack w {x = x} {body = body} is drawn here = rw (is, ← drawn, here) (refl, refl)

pub turns_turn : (nodes : List Node) (tree : Tree) (m : Meaning) (stack : List Frame) (w : World) (count body : ℕ) {one two : List Frame} → 0 < count → one ≡ stack ++ f.Turns (count - 1) body ∷ [] → two ≡ one ++ f.Do body ∷ [] → IsStep nodes tree d.Goes two w (step m (Turns count (tree body)) (works nodes tree stack) w)
turns_turn nodes tree m stack w zero body h e g = absurd (omega arith)
turns_turn nodes tree m stack w (suc k) body {one = one} {two = two} h e g = let same : suc k - 1 ≡ k = omega arith in (works-push-two nodes tree stack one two (f.Turns (suc k - 1) body) (f.Do body) e g ∙ rw same refl, refl)

pub no_loop : (tree : Tree) (first : Bool) (node : Node) → ((start : Assignment) (x : Expr) (after : Assignment) (body : ℕ) → node ≡ n.For start x after body → ⊥) → ((x : Expr) (body : ℕ) → node ≡ n.While x body → ⊥) → loop_work tree first (Some node) ≡ Turns zero (tree 0)
no_loop tree first n.Null h k = refl
no_loop tree first (n.SeqBlock a) h k = refl
no_loop tree first (n.Conditional a b e) h k = refl
no_loop tree first (n.Case a b e) h k = refl
no_loop tree first (n.Repeat a b) h k = refl
no_loop tree first (n.Forever a) h k = refl
no_loop tree first (n.EventControl a b) h k = refl
no_loop tree first n.Finish h k = refl
no_loop tree first (n.SystemTaskEnable a b) h k = refl
no_loop tree first (n.Blocking a) h k = refl
no_loop tree first (n.Nonblocking a) h k = refl
no_loop tree first (n.For start x after body) h k = absurd (h start x after body refl)
no_loop tree first (n.While x body) h k = absurd (k x body refl)
