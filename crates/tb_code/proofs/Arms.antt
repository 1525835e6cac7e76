-- The node of each kind of statement, behind those of its parts.
use Rattle.tb_code.proofs.Common.{◌≡◌, ℕ, zero, suc, ◌<◌, Bool, true, false, ◌&&◌, List, [], ◌∷◌, ◌++◌, map, drop, get_or, Option, Some, None, All, codes, refl, sym, ap, ◌∙◌, if◌then◌else◌, All-head}
use Rattle.tb_code.proofs.Common.{All-tail, All-nil, All-cons, Identifier, Argument, CaseItem, Stmt, out-Stmt, roll-Stmt, out-roll-Stmt, Stmt-F, Choice, Node, World, Meaning, Work, Do, Goes, execute}
use Rattle.tb_code.proofs.Common.{item_at, body_of, labels_of, event_of, Tree, node_step, choice_at, choice_do, choice_labels, PartsBelow, Adds, Pushed, part_of, part_number, Tests, all_of}
use Rattle.tb_code.proofs.Common.{passes_step, passes, item_passes, Passes, all_labels_pass, NodePasses}
use Rattle.std.specs.Str.{bytes_eq}
use Rattle.mcy_base.specs.declared.span.Span.{Span}
use Rattle.vlog_syntax.specs.declared.expr.Expr.{Expr}
use Rattle.vlog_syntax.specs.declared.stmt.Assignment.{Assignment}
use Rattle.vlog_syntax.specs.declared.stmt.CaseKind.{CaseKind}
use Rattle.vlog_syntax.specs.declared.stmt.EventControl.{EventControl}
use Rattle.vlog_syntax.specs.declared.stmt.Stmt.TheOpen as s
use Rattle.vlog_syntax.specs.declared.stmt.Stmt.TheVariants as t
use Rattle.tb_machine.specs.declared.node.Node.TheVariants as n
use Rattle.tb_code.proofs.Passing.{inside, passes-layer, both, loop-passes, task-passes, block-passes, items-pass}
use Rattle.tb_code.proofs.Adding.{adds_none, adds_both}
use Rattle.tb_code.proofs.Pushing.{IsNodeOf, adds_push}

-- what a statement is, by its layer
layer : (x : Stmt) (o : Stmt-F Stmt CaseItem) → x ≡ roll-Stmt o → out-Stmt x ≡ o
layer x o is = ap out-Stmt is ∙ out-roll-Stmt o

-- a node of no part, of one, and of others
leaf_of : (x : Stmt) (o : Stmt-F Stmt CaseItem) (node : Node) → x ≡ roll-Stmt o → ((tree : Tree) (m : Meaning) (rest : List Work) (w : World) → execute m o rest w ≡ node_step m tree node rest w) → ((limit : ℕ) → PartsBelow limit node) → ((q : Tests) → passes_step q (inside q o) ≡ true → NodePasses q node) → IsNodeOf x node [] []
leaf_of x o node is does below own = record {
  does = λ tree same m rest w. rw (layer x o is) (does tree m rest w);
  below = λ limit h. below limit;
  own = λ q h. own q (sym (passes-layer q x o is) ∙ h);
  inner = λ q h. All-nil (Passes q);
}

first : {x y : Stmt} {xs ys : List Stmt} → x ∷ xs ≡ y ∷ ys → x ≡ y
first {x = x} e = ap (λ (l : List Stmt). get_or l 0 x) e

rest_of : {x y : Stmt} {xs ys : List Stmt} → x ∷ xs ≡ y ∷ ys → xs ≡ ys
rest_of e = ap (drop 1) e

body_of_one : (x body : Stmt) (o : Stmt-F Stmt CaseItem) (node : Node) (number : ℕ) → x ≡ roll-Stmt o → ((tree : Tree) → tree number ≡ body → (m : Meaning) (rest : List Work) (w : World) → execute m o rest w ≡ node_step m tree node rest w) → ((limit : ℕ) → number < limit → PartsBelow limit node) → ((q : Tests) → passes_step q (inside q o) ≡ true → NodePasses q node × Passes q body) → IsNodeOf x node (number ∷ []) (body ∷ [])
body_of_one x body o node number is does below own = record {
  does = λ tree same m rest w. rw (layer x o is) (does tree (first same) m rest w);
  below = λ limit h. below limit (All-head (λ j. j < limit) number [] h);
  own = λ q h. (own q (sym (passes-layer q x o is) ∙ h)).0;
  inner = λ q h. All-cons (Passes q) body [] (own q (sym (passes-layer q x o is) ∙ h)).1 (All-nil (Passes q));
}

pub add_null : (a after : List Node) (x : Stmt) (at : Span) (number : ℕ) → x ≡ t.Null at → Pushed a n.Null after number → Adds a after (number ∷ []) (x ∷ [])
add_null a after x at number is pushed = adds_push a a after x n.Null number [] [] (adds_none a) (leaf_of x (s.Null at) n.Null (is ∙ sym (t.rolls-Null at)) (λ tree m rest w. refl) (λ limit. tt) (λ q h. refl)) pushed

pub add_blocking : (a after : List Node) (x : Stmt) (y : Assignment) (number : ℕ) → x ≡ t.BlockingAssignment y → Pushed a (n.Blocking y) after number → Adds a after (number ∷ []) (x ∷ [])
add_blocking a after x y number is pushed = adds_push a a after x (n.Blocking y) number [] [] (adds_none a) (leaf_of x (s.BlockingAssignment y) (n.Blocking y) (is ∙ sym (t.rolls-BlockingAssignment y)) (λ tree m rest w. refl) (λ limit. tt) (λ q h. h)) pushed

pub add_nonblocking : (a after : List Node) (x : Stmt) (y : Assignment) (number : ℕ) → x ≡ t.NonblockingAssignment y → Pushed a (n.Nonblocking y) after number → Adds a after (number ∷ []) (x ∷ [])
add_nonblocking a after x y number is pushed = adds_push a a after x (n.Nonblocking y) number [] [] (adds_none a) (leaf_of x (s.NonblockingAssignment y) (n.Nonblocking y) (is ∙ sym (t.rolls-NonblockingAssignment y)) (λ tree m rest w. refl) (λ limit. tt) (λ q h. h)) pushed

-- a system task, or the end of the simulation

task-does : (name : Identifier) (arguments : List Argument) (b : Bool) → bytes_eq name.name (codes "$finish") ≡ b → (tree : Tree) (m : Meaning) (rest : List Work) (w : World) → execute m (s.SystemTaskEnable name arguments) rest w ≡ node_step m tree (if b then n.Finish else n.SystemTaskEnable name arguments) rest w
task-does name arguments true e tree m rest w = rw e refl
task-does name arguments false e tree m rest w = rw e refl

task-below : (name : Identifier) (arguments : List Argument) (b : Bool) (limit : ℕ) → PartsBelow limit (if b then n.Finish else n.SystemTaskEnable name arguments)
task-below name arguments true limit = tt
task-below name arguments false limit = tt

pub add_task : (a after : List Node) (x : Stmt) (name : Identifier) (arguments : List Argument) (number : ℕ) → x ≡ t.SystemTaskEnable name arguments → Pushed a (if bytes_eq name.name (codes "$finish") then n.Finish else n.SystemTaskEnable name arguments) after number → Adds a after (number ∷ []) (x ∷ [])
add_task a after x name arguments number is pushed =
    let b = bytes_eq name.name (codes "$finish") in
    adds_push a a after x (if b then n.Finish else n.SystemTaskEnable name arguments) number [] [] (adds_none a) (leaf_of x (s.SystemTaskEnable name arguments) (if b then n.Finish else n.SystemTaskEnable name arguments) (is ∙ sym (t.rolls-SystemTaskEnable name arguments)) (task-does name arguments b refl) (task-below name arguments b) (λ q h. task-passes q name arguments b refl h)) pushed

-- statements of one part

pub add_for : (a b after : List Node) (x body : Stmt) (at : Span) (start step : Assignment) (c : Expr) (k number : ℕ) → x ≡ t.For at start c step body → Adds a b (k ∷ []) (body ∷ []) → Pushed b (n.For start c step k) after number → Adds a after (number ∷ []) (x ∷ [])
add_for a b after x body at start step c k number is adds pushed = adds_push a b after x (n.For start c step k) number (k ∷ []) (body ∷ []) adds (body_of_one x body (s.For at start c step body) (n.For start c step k) k (is ∙ sym (t.rolls-For at start c step body)) (λ tree same m rest w. rw same refl) (λ limit h. h) (λ q h. loop-passes (q.assigns start) (q.evaluates c) (q.assigns step) (passes q body) h)) pushed

pub add_while : (a b after : List Node) (x body : Stmt) (at : Span) (c : Expr) (k number : ℕ) → x ≡ t.While at c body → Adds a b (k ∷ []) (body ∷ []) → Pushed b (n.While c k) after number → Adds a after (number ∷ []) (x ∷ [])
add_while a b after x body at c k number is adds pushed = adds_push a b after x (n.While c k) number (k ∷ []) (body ∷ []) adds (body_of_one x body (s.While at c body) (n.While c k) k (is ∙ sym (t.rolls-While at c body)) (λ tree same m rest w. rw same refl) (λ limit h. h) (λ q h. both (q.evaluates c) (passes q body) h)) pushed

pub add_repeat : (a b after : List Node) (x body : Stmt) (at : Span) (c : Expr) (k number : ℕ) → x ≡ t.Repeat at c body → Adds a b (k ∷ []) (body ∷ []) → Pushed b (n.Repeat c k) after number → Adds a after (number ∷ []) (x ∷ [])
add_repeat a b after x body at c k number is adds pushed = adds_push a b after x (n.Repeat c k) number (k ∷ []) (body ∷ []) adds (body_of_one x body (s.Repeat at c body) (n.Repeat c k) k (is ∙ sym (t.rolls-Repeat at c body)) (λ tree same m rest w. rw same refl) (λ limit h. h) (λ q h. both (q.evaluates c) (passes q body) h)) pushed

pub add_forever : (a b after : List Node) (x body : Stmt) (at : Span) (k number : ℕ) → x ≡ t.Forever at body → Adds a b (k ∷ []) (body ∷ []) → Pushed b (n.Forever k) after number → Adds a after (number ∷ []) (x ∷ [])
add_forever a b after x body at k number is adds pushed = adds_push a b after x (n.Forever k) number (k ∷ []) (body ∷ []) adds (body_of_one x body (s.Forever at body) (n.Forever k) k (is ∙ sym (t.rolls-Forever at body)) (λ tree same m rest w. rw same refl) (λ limit h. h) (λ q h. (refl, h))) pushed

pub add_event : (a b after : List Node) (x body : Stmt) (at : Span) (control : EventControl) (k number : ℕ) → x ≡ t.EventControl at control body → Adds a b (k ∷ []) (body ∷ []) → Pushed b (n.EventControl (event_of control) k) after number → Adds a after (number ∷ []) (x ∷ [])
add_event a b after x body at control k number is adds pushed = adds_push a b after x (n.EventControl (event_of control) k) number (k ∷ []) (body ∷ []) adds (body_of_one x body (s.EventControl at control body) (n.EventControl (event_of control) k) k (is ∙ sym (t.rolls-EventControl at control body)) (λ tree same m rest w. rw same refl) (λ limit h. h) (λ q h. (refl, h))) pushed

pub add_delay : (a b after : List Node) (x body : Stmt) (at : Span) (c : Expr) (k number : ℕ) (numbers : List ℕ) → x ≡ t.DelayControl at c body → numbers ≡ k ∷ [] → Adds a b (k ∷ []) (body ∷ []) → Pushed b (n.SeqBlock numbers) after number → Adds a after (number ∷ []) (x ∷ [])
add_delay a b after x body at c k number numbers is one adds pushed =
    let node_is : Pushed b (n.SeqBlock (k ∷ [])) after number = rw one at pushed in
    adds_push a b after x (n.SeqBlock (k ∷ [])) number (k ∷ []) (body ∷ []) adds (body_of_one x body (s.DelayControl at c body) (n.SeqBlock (k ∷ [])) k (is ∙ sym (t.rolls-DelayControl at c body)) (λ tree same m rest w. ap (λ (y : Stmt). Goes (Do y ∷ rest) w) (sym same)) (λ limit h. All-cons (λ j. j < limit) k [] h (All-nil (λ j. j < limit))) (λ q h. (refl, h))) node_is

-- a block

map-do : (tree : Tree) (ks : List ℕ) → map Do (map tree ks) ≡ map (λ k. Do (tree k)) ks
map-do tree [] = refl
map-do tree (k ∷ ks) = ap (λ (l : List Work). Do (tree k) ∷ l) (map-do tree ks)

block-node : (x : Stmt) (at : Span) (label : Option Identifier) (body : List Stmt) (ks : List ℕ) → x ≡ t.SeqBlock at label body → IsNodeOf x (n.SeqBlock ks) ks body
block-node x at label body ks is = record {
  does = λ tree same m rest w. rw (layer x (s.SeqBlock at label body) (is ∙ sym (t.rolls-SeqBlock at label body))) (ap (λ (l : List Work). Goes (l ++ rest) w) (ap (map Do) (sym same) ∙ map-do tree ks));
  below = λ limit h. h;
  own = λ q h. refl;
  inner = λ q h. block-passes q body (sym (passes-layer q x (s.SeqBlock at label body) (is ∙ sym (t.rolls-SeqBlock at label body))) ∙ h);
}

pub add_block : (a b after : List Node) (x : Stmt) (at : Span) (label : Option Identifier) (body : List Stmt) (ks : List ℕ) (number : ℕ) → x ≡ t.SeqBlock at label body → Adds a b ks body → Pushed b (n.SeqBlock ks) after number → Adds a after (number ∷ []) (x ∷ [])
add_block a b after x at label body ks number is adds pushed = adds_push a b after x (n.SeqBlock ks) number ks body adds (block-node x at label body ks is) pushed

-- an `if`

if-node : (x taken : Stmt) (at : Span) (c : Expr) (k : ℕ) → x ≡ t.Conditional at c taken None → IsNodeOf x (n.Conditional c k None) (k ∷ []) (taken ∷ [])
if-node x taken at c k is = body_of_one x taken (s.Conditional at c taken None) (n.Conditional c k None) k (is ∙ sym (t.rolls-Conditional at c taken None)) (λ tree same m rest w. rw same refl) (λ limit h. (h, tt)) (λ q h. let e : (q.evaluates c ≡ true) × (passes q taken && true ≡ true) = both (q.evaluates c) (passes q taken && true) h in (e.0, (both (passes q taken) true e.1).0))

pub add_if : (a b after : List Node) (x taken : Stmt) (at : Span) (c : Expr) (otherwise : Option Stmt) (k number : ℕ) → x ≡ t.Conditional at c taken otherwise → otherwise ≡ None → Adds a b (k ∷ []) (taken ∷ []) → Pushed b (n.Conditional c k None) after number → Adds a after (number ∷ []) (x ∷ [])
add_if a b after x taken at c otherwise k number is none adds pushed = adds_push a b after x (n.Conditional c k None) number (k ∷ []) (taken ∷ []) adds (if-node x taken at c k (is ∙ ap (λ (o : Option Stmt). t.Conditional at c taken o) none)) pushed

else-node : (x taken otherwise : Stmt) (at : Span) (c : Expr) (k j : ℕ) → x ≡ t.Conditional at c taken (Some otherwise) → IsNodeOf x (n.Conditional c k (Some j)) (k ∷ j ∷ []) (taken ∷ otherwise ∷ [])
else-node x taken otherwise at c k j is = record {
  does = λ tree same m rest w. rw (layer x (s.Conditional at c taken (Some otherwise)) (is ∙ sym (t.rolls-Conditional at c taken (Some otherwise)))) (rw (first same, first (rest_of same)) refl);
  below = λ limit h. (All-head (λ i. i < limit) k (j ∷ []) h, All-head (λ i. i < limit) j [] (All-tail (λ i. i < limit) k (j ∷ []) h));
  own = λ q h. (both (q.evaluates c) (passes q taken && passes q otherwise) (sym (passes-layer q x (s.Conditional at c taken (Some otherwise)) (is ∙ sym (t.rolls-Conditional at c taken (Some otherwise)))) ∙ h)).0;
  inner = λ q h.
      let rest : (q.evaluates c ≡ true) × (passes q taken && passes q otherwise ≡ true) = both (q.evaluates c) (passes q taken && passes q otherwise) (sym (passes-layer q x (s.Conditional at c taken (Some otherwise)) (is ∙ sym (t.rolls-Conditional at c taken (Some otherwise)))) ∙ h) in
      let two : (passes q taken ≡ true) × (passes q otherwise ≡ true) = both (passes q taken) (passes q otherwise) rest.1 in
      All-cons (Passes q) taken (otherwise ∷ []) two.0 (All-cons (Passes q) otherwise [] two.1 (All-nil (Passes q)));
}

pub add_if_else : (a b d after : List Node) (x taken other : Stmt) (at : Span) (c : Expr) (otherwise : Option Stmt) (k j number : ℕ) → x ≡ t.Conditional at c taken otherwise → otherwise ≡ Some other → Adds a b (k ∷ []) (taken ∷ []) → Adds b d (j ∷ []) (other ∷ []) → Pushed d (n.Conditional c k (Some j)) after number → Adds a after (number ∷ []) (x ∷ [])
add_if_else a b d after x taken other at c otherwise k j number is some one two pushed = adds_push a d after x (n.Conditional c k (Some j)) number (k ∷ j ∷ []) (taken ∷ other ∷ []) (adds_both a b d (k ∷ []) (j ∷ []) (taken ∷ []) (other ∷ []) one two) (else-node x taken other at c k j (is ∙ ap (λ (o : Option Stmt). t.Conditional at c taken o) some)) pushed

-- a case statement

chosen : (tree : Tree) (items : List CaseItem) (choices : List Choice) → map tree (map part_number choices) ≡ map part_of items → (o : Option ℕ) → body_of (item_at items o) ≡ choice_do tree (choice_at choices o)
chosen tree items choices same None = refl
chosen tree [] [] same (Some i) = refl
chosen tree [] (y ∷ ys) same (Some i) = absurd cc
chosen tree (x ∷ xs) [] same (Some i) = absurd cc
chosen tree (x ∷ xs) (y ∷ ys) same (Some zero) = rw (first same) refl
chosen tree (x ∷ xs) (y ∷ ys) same (Some (suc i)) = chosen tree xs ys (rest_of same) (Some i)

bodies-below : (limit : ℕ) (choices : List Choice) → All (λ k. k < limit) (map part_number choices) → All (λ i. i.body < limit) choices
bodies-below limit [] h = All-nil (λ (i : Choice). i.body < limit)
bodies-below limit (x ∷ more) h = All-cons (λ (i : Choice). i.body < limit) x more (All-head (λ k. k < limit) x.body (map part_number more) h) (bodies-below limit more (All-tail (λ k. k < limit) x.body (map part_number more) h))

case-both : (q : Tests) (x : Stmt) (at : Span) (kind : CaseKind) (c : Expr) (items : List CaseItem) → x ≡ t.Case at kind c items → Passes q x → (q.evaluates c ≡ true) × (all_of (map (item_passes q) items) ≡ true)
case-both q x at kind c items is h = both (q.evaluates c) (all_of (map (item_passes q) items)) (sym (passes-layer q x (s.Case at kind c items) (is ∙ sym (t.rolls-Case at kind c items))) ∙ h)

selector-passes : (a b : Bool) → a ≡ true → b ≡ true → a && b ≡ true
selector-passes true b a_is b_is = b_is
selector-passes false b a_is b_is = a_is

case-node : (x : Stmt) (at : Span) (kind : CaseKind) (c : Expr) (items : List CaseItem) (choices : List Choice) → x ≡ t.Case at kind c items → map choice_labels choices ≡ map labels_of items → IsNodeOf x (n.Case kind c choices) (map part_number choices) (map part_of items)
case-node x at kind c items choices is labels = record {
  does = λ tree same m rest w. rw (layer x (s.Case at kind c items) (is ∙ sym (t.rolls-Case at kind c items))) (rw (labels, chosen tree items choices same (m.choice kind c (map labels_of items) w).0) refl);
  below = λ limit h. bodies-below limit choices h;
  own = λ q h. let e : (q.evaluates c ≡ true) × (all_of (map (item_passes q) items) ≡ true) = case-both q x at kind c items is h in selector-passes (q.evaluates c) (all_labels_pass q (map choice_labels choices)) e.0 (ap (all_labels_pass q) labels ∙ (items-pass q items e.1).0);
  inner = λ q h. (items-pass q items (case-both q x at kind c items is h).1).1;
}

pub add_case : (a b after : List Node) (x : Stmt) (at : Span) (kind : CaseKind) (c : Expr) (items : List CaseItem) (choices : List Choice) (number : ℕ) → x ≡ t.Case at kind c items → map choice_labels choices ≡ map labels_of items → Adds a b (map part_number choices) (map part_of items) → Pushed b (n.Case kind c choices) after number → Adds a after (number ∷ []) (x ∷ [])
add_case a b after x at kind c items choices number is labels adds pushed = adds_push a b after x (n.Case kind c choices) number (map part_number choices) (map part_of items) adds (case-node x at kind c items choices is labels) pushed
