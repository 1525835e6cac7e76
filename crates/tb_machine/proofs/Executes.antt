-- What the machine does for each kind of statement, over plain variables.
use Rattle.tb_machine.proofs.Common.{◌≡◌, ℕ, Bool, List, [], ◌∷◌, ◌++◌, map, Option, Some, slice_get, if◌then◌else◌, refl, ap, ◌∙◌, Expr, Assignment, Event, Node, Frame, World, Meaning, Do, Goes}
use Rattle.tb_machine.proofs.Common.{Tree, works, work_of, node_step, optional_do, choice_labels, choice_at, choice_do, IsStep}
use Rattle.vlog_syntax.specs.declared.stmt.CaseKind.{CaseKind}
use Rattle.tb_machine.specs.declared.machine.Stepped.{Stepped}
use Rattle.tb_machine.specs.declared.machine.Stepped.TheVariants as d
use Rattle.tb_machine.specs.declared.node.Choice.{Choice}
use Rattle.tb_machine.specs.declared.node.Node.TheVariants as n
use Rattle.tb_machine.specs.declared.node.Frame.TheVariants as f
use Rattle.tb_machine.proofs.Stacks.{works-push}

-- a stack on which one frame was pushed
pushed_step : (nodes : List Node) (tree : Tree) (stack pushed : List Frame) (frame : Frame) (v : World) (answer : Stepped) → answer ≡ d.Goes → pushed ≡ stack ++ frame ∷ [] → IsStep nodes tree answer pushed v (Goes (work_of nodes tree frame ∷ works nodes tree stack) v)
pushed_step nodes tree stack pushed frame v answer goes is = rw (goes, is) (works-push nodes tree stack frame, refl)

pub conditional_step : (nodes : List Node) (tree : Tree) (m : Meaning) (stack pushed : List Frame) (next : Option ℕ) (answer : Stepped) {node : Node} {x : Expr} {a : ℕ} {b : Option ℕ} {w v : World} {taken : Bool} → node ≡ n.Conditional x a b → (taken, v) ≡ m.holds x w → optional_do tree next ≡ (if taken then Do (tree a) ∷ [] else optional_do tree b) → (answer ≡ d.Goes) × (works nodes tree pushed ≡ optional_do tree next ++ works nodes tree stack) → IsStep nodes tree answer pushed v (node_step m tree node (works nodes tree stack) w)
conditional_step nodes tree m stack pushed next answer is drawn part goes = rw (is, ← drawn, goes.0) (goes.1 ∙ ap (λ l. l ++ works nodes tree stack) part, refl)

pub case_step : (nodes : List Node) (tree : Tree) (m : Meaning) (stack pushed : List Frame) (next : Option ℕ) (answer : Stepped) {node : Node} {kind : CaseKind} {x : Expr} {items : List Choice} {w v : World} {taken : Option ℕ} → node ≡ n.Case kind x items → (taken, v) ≡ m.choice kind x (map choice_labels items) w → optional_do tree next ≡ choice_do tree (choice_at items taken) → (answer ≡ d.Goes) × (works nodes tree pushed ≡ optional_do tree next ++ works nodes tree stack) → IsStep nodes tree answer pushed v (node_step m tree node (works nodes tree stack) w)
case_step nodes tree m stack pushed next answer is drawn part goes = rw (is, ← drawn, goes.0) (goes.1 ∙ ap (λ l. l ++ works nodes tree stack) part, refl)

pub repeat_step : (nodes : List Node) (tree : Tree) (m : Meaning) (stack pushed : List Frame) (answer : Stepped) {node : Node} {x : Expr} {body count : ℕ} {w v : World} → node ≡ n.Repeat x body → (count, v) ≡ m.count x w → (answer ≡ d.Goes) × (pushed ≡ stack ++ f.Turns count body ∷ []) → IsStep nodes tree answer pushed v (node_step m tree node (works nodes tree stack) w)
repeat_step nodes tree m stack pushed answer {body = body} {count = count} {v = v} is drawn goes = rw (is, ← drawn) (pushed_step nodes tree stack pushed (f.Turns count body) v answer goes.0 goes.1)

pub forever_step : (nodes : List Node) (tree : Tree) (m : Meaning) (stack pushed : List Frame) (answer : Stepped) (w : World) {node : Node} {body : ℕ} → node ≡ n.Forever body → (answer ≡ d.Goes) × (pushed ≡ stack ++ f.Again body ∷ []) → IsStep nodes tree answer pushed w (node_step m tree node (works nodes tree stack) w)
forever_step nodes tree m stack pushed answer w {body = body} is goes = rw is (pushed_step nodes tree stack pushed (f.Again body) w answer goes.0 goes.1)

pub event_step : (nodes : List Node) (tree : Tree) (m : Meaning) (stack : List Frame) {node : Node} {event : Event} {body : ℕ} (w : World) {pushed : List Frame} → node ≡ n.EventControl event body → pushed ≡ stack ++ f.Do body ∷ [] → IsStep nodes tree (d.Waits event) pushed w (node_step m tree node (works nodes tree stack) w)
event_step nodes tree m stack {body = body} w is pushed = rw (is, pushed) (refl, works-push nodes tree stack (f.Do body), refl)

pub for_step : (nodes : List Node) (tree : Tree) (m : Meaning) (stack pushed : List Frame) (answer : Stepped) (number : ℕ) (w : World) {node : Node} {start step : Assignment} {x : Expr} {body : ℕ} → node ≡ n.For start x step body → slice_get nodes number ≡ Some node → (answer ≡ d.Goes) × (pushed ≡ stack ++ f.First number ∷ []) → IsStep nodes tree answer pushed w (node_step m tree node (works nodes tree stack) w)
for_step nodes tree m stack pushed answer number w is at goes = rw (is, goes.0, goes.1) (works-push nodes tree stack (f.First number) ∙ rw (at, is) refl, refl)

pub while_step : (nodes : List Node) (tree : Tree) (m : Meaning) (stack pushed : List Frame) (answer : Stepped) (number : ℕ) (w : World) {node : Node} {x : Expr} {body : ℕ} → node ≡ n.While x body → slice_get nodes number ≡ Some node → (answer ≡ d.Goes) × (pushed ≡ stack ++ f.First number ∷ []) → IsStep nodes tree answer pushed w (node_step m tree node (works nodes tree stack) w)
while_step nodes tree m stack pushed answer number w is at goes = rw (is, goes.0, goes.1) (works-push nodes tree stack (f.First number) ∙ rw (at, is) refl, refl)
