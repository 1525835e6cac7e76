-- Where all in a statement passes tests: what it holds itself does, and all in its parts.
use Rattle.tb_code.proofs.Common.{◌≡◌, Bool, true, false, ◌&&◌, ◌||◌, List, [], ◌∷◌, map, All, codes, refl, sym, ap, ◌∙◌, if◌then◌else◌, All-nil, All-cons, Identifier, Argument, CaseItem, Stmt}
use Rattle.tb_code.proofs.Common.{roll-Stmt, Stmt-F, labels_of, part_of, Tests, all_of, labels_pass, task_passes, passes_step, item_step, passes, item_passes, Passes, all_labels_pass, NodePasses}
use Rattle.std.specs.Str.{bytes_eq}
use Rattle.vlog_syntax.specs.declared.stmt.Stmt.TheFolds.{fold-roll-Stmt, fold_out-CaseItem, map-Stmt}
use Rattle.tb_machine.specs.declared.node.Node.TheVariants as n

-- a layer, with the answers for its parts
abbrev pub inside : Tests → Stmt-F Stmt CaseItem → Stmt-F Bool Bool
inside q o = map-Stmt Stmt CaseItem Bool Bool (passes q) (item_passes q) o

pub passes-layer : (q : Tests) (x : Stmt) (o : Stmt-F Stmt CaseItem) → x ≡ roll-Stmt o → passes q x ≡ passes_step q (inside q o)
passes-layer q x o is = ap (passes q) is ∙ fold-roll-Stmt Bool Bool (passes_step q) (item_step q) o

pub both : (a b : Bool) → a && b ≡ true → (a ≡ true) × (b ≡ true)
both true true e = (refl, refl)
both true false e = absurd cc
both false b e = absurd cc

-- the assignments and the condition of a loop, and its body
pub loop-passes : (a b c d : Bool) → a && (b && (c && d)) ≡ true → ((a && (b && c)) ≡ true) × (d ≡ true)
loop-passes true true true true e = (refl, refl)
loop-passes true true true false e = absurd cc
loop-passes true true false d e = absurd cc
loop-passes true false c d e = absurd cc
loop-passes false b c d e = absurd cc

pub task-passes : (q : Tests) (name : Identifier) (arguments : List Argument) (b : Bool) → bytes_eq name.name (codes "$finish") ≡ b → task_passes q name.name arguments ≡ true → NodePasses q (if b then n.Finish else n.SystemTaskEnable name arguments)
task-passes q name arguments true e h = refl
task-passes q name arguments false e h = ap (λ (c : Bool). c || q.performs name.name arguments) (sym e) ∙ h

-- all of several statements
pub block-passes : (q : Tests) (body : List Stmt) → all_of (map (passes q) body) ≡ true → All (Passes q) body
block-passes q [] h = All-nil (Passes q)
block-passes q (x ∷ xs) h =
    let e : (passes q x ≡ true) × (all_of (map (passes q) xs) ≡ true) = both (passes q x) (all_of (map (passes q) xs)) h in
    All-cons (Passes q) x xs e.0 (block-passes q xs e.1)

-- all of the items of a case: their labels, and their statements

item-is : (q : Tests) (x : CaseItem) → item_passes q x ≡ labels_pass q (labels_of x) && passes q (part_of x)
item-is q x = fold_out-CaseItem Bool Bool (passes_step q) (item_step q) x

pub items-pass : (q : Tests) (items : List CaseItem) → all_of (map (item_passes q) items) ≡ true → (all_labels_pass q (map labels_of items) ≡ true) × All (Passes q) (map part_of items)
items-pass q [] h = (refl, All-nil (Passes q))
items-pass q (x ∷ xs) h =
    let e : (item_passes q x ≡ true) × (all_of (map (item_passes q) xs) ≡ true) = both (item_passes q x) (all_of (map (item_passes q) xs)) h in
    let here : (labels_pass q (labels_of x) ≡ true) × (passes q (part_of x) ≡ true) = both (labels_pass q (labels_of x)) (passes q (part_of x)) (sym (item-is q x) ∙ e.0) in
    let there = items-pass q xs e.1 in
    (joined (labels_pass q (labels_of x)) (all_labels_pass q (map labels_of xs)) here.0 there.0, All-cons (Passes q) (part_of x) (map part_of xs) here.1 there.1)
  where
    joined : (a b : Bool) → a ≡ true → b ≡ true → a && b ≡ true
    joined true b a_is b_is = b_is
    joined false b a_is b_is = a_is
