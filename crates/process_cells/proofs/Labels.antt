-- The labels of the arms of a case are its labels: where nothing is wrong in these, nothing is wrong in those.
use Rattle.process_cells.proofs.Common.{◌≡◌, ℕ, zero, suc, Bool, true, false, List, [], ◌∷◌, ◌++◌, map, Option, Some, None, refl, sym, ap, ◌∙◌, subst, if◌then◌else◌, flat_map, Span, Expr, Identifier}
use Rattle.process_cells.proofs.Common.{out-LeftSide, Assignment, CaseItem, Stmt, Stmt-F, CaseItem-F, fold-roll-Stmt, fold-roll-CaseItem, ind-Stmt, map-Stmt, Fault, Decl, Signal, Constant, is_empty}
use Rattle.process_cells.proofs.Common.{Names, left_nil, right_nil, constant_of, constant_faults, Flaw, Turns, Selection, Steps, Done, Assign, Choose, Case, Refuse, Arms, Otherwise, Arm, InNames}
use Rattle.process_cells.proofs.Common.{Item, Loop, followed, in_turn, refused, turn_names, flaws_of, step_flaws, tested, stepped, turns, max_turns, all_turns, looped, loop_steps, name_alone, done_by}
use Rattle.process_cells.proofs.Common.{default_of, labelled, labels_of, front, last_body, always, arms_of, names_all, chosen_arms, selection_of, step_of, item_of, steps_of, wrong}
use Rattle.vlog_syntax.specs.declared.stmt.Stmt.TheOpen as t
use Rattle.vlog_effects.specs.Laws.{item_steps}

-- nothing is wrong in expressions
abbrev pub AreRight : Names → List Expr → Type 0
AreRight names xs = flat_map (wrong names) xs ≡ []

abbrev pub ArmsRight : Names → Arms → Type 0
ArmsRight names (Otherwise body) = Unit {0}
ArmsRight names (Arm at labels body others) = AreRight names labels × ArmsRight names others

-- each case in the steps has arms with labels of its own
abbrev mutual
  pub HasOwnLabels : Steps → Type 0
  HasOwnLabels Done = Unit {0}
  HasOwnLabels (Assign a more) = HasOwnLabels more
  HasOwnLabels (Choose at c then_part else_part more) = HasOwnLabels then_part × HasOwnLabels else_part × HasOwnLabels more
  HasOwnLabels (Case c arms bodies more) = (AreRight c.names c.labels → ArmsRight c.names arms) × ArmsOwnLabels arms × HasOwnLabels more
  HasOwnLabels (Refuse x more) = HasOwnLabels more

  pub ArmsOwnLabels : Arms → Type 0
  ArmsOwnLabels (Otherwise body) = HasOwnLabels body
  ArmsOwnLabels (Arm at labels body others) = HasOwnLabels body × ArmsOwnLabels others

-- a statement, in any names
abbrev OwnLabelsIn : InNames → Type 0
OwnLabelsIn s = (names : Names) → HasOwnLabels (s names)

own-followed : (a b : Steps) → HasOwnLabels a → HasOwnLabels b → HasOwnLabels (followed a b)
own-followed Done b k l = l
own-followed (Assign a more) b k l = own-followed more b k l
own-followed (Choose at c then_part else_part more) b k l = (k.0, k.1, own-followed more b k.2 l)
own-followed (Case c arms bodies more) b k l = (k.0, k.1, own-followed more b k.2 l)
own-followed (Refuse x more) b k l = own-followed more b k l

own-refused : (xs : List Flaw) → HasOwnLabels (refused xs)
own-refused [] = tt
own-refused (x ∷ more) = own-refused more

-- Loops.

own-tested : (o : Option ℕ) (flaws : List Flaw) (turn : Steps) → HasOwnLabels turn → HasOwnLabels (tested o flaws turn)
own-tested None flaws turn k = own-refused flaws
own-tested (Some zero) flaws turn k = tt
own-tested (Some (suc n)) flaws turn k = k

own-stepped : (xs : List Flaw) (o : Option ℕ) (flaws : List Flaw) (later : ℕ → Steps) → ((n : ℕ) → HasOwnLabels (later n)) → HasOwnLabels (stepped xs o flaws later)
own-stepped (x ∷ more) o flaws later k = own-refused (x ∷ more)
own-stepped [] None flaws later k = own-refused flaws
own-stepped [] (Some v) flaws later k = k v

own-turns : (most : ℕ) (loop : Loop) (body : InNames) (names : Names) (v : ℕ) → OwnLabelsIn body → HasOwnLabels (turns most loop body names v)
unfolding turns
own-turns zero loop body names v b =
    let here : Names = turn_names loop names v in
    own-tested (constant_of here 1 loop.condition) (flaws_of (constant_faults here 1 loop.condition)) (Refuse (Turns loop.place) Done) tt
own-turns (suc most) loop body names v b =
    let here : Names = turn_names loop names v in
    let flaws : List Flaw = step_flaws loop here (name_alone (out-LeftSide loop.step.left)) in
    let next : Option ℕ = constant_of here loop.width loop.step.value in
    let next_flaws : List Flaw = flaws_of (constant_faults here loop.width loop.step.value) in
    let later : ℕ → Steps = λ w. turns most loop body names w in
    own-tested (constant_of here 1 loop.condition) (flaws_of (constant_faults here 1 loop.condition)) (followed (body here) (stepped flaws next next_flaws later))
    (own-followed (body here) (stepped flaws next next_flaws later) (b here) (own-stepped flaws next next_flaws later (λ w. own-turns most loop body names w b)))

own-all_turns : (loop : Loop) (body : InNames) (names : Names) (o : Option ℕ) (flaws : List Flaw) → OwnLabelsIn body → HasOwnLabels (all_turns loop body names o flaws)
own-all_turns loop body names None flaws b = own-refused flaws
own-all_turns loop body names (Some v) flaws b = own-turns max_turns loop body names v b

own-looped : (at : Span) (start : Assignment) (condition : Expr) (step : Assignment) (body : InNames) (names : Names) (n : Identifier) (d : Option Decl) → OwnLabelsIn body → HasOwnLabels (looped at start condition step body names n d)
own-looped at start condition step body names n (Some (Signal width low is_signed number)) b = own-all_turns (record { place = at; name = n; width = width; is_signed = is_signed; condition = condition; step = step }) body names (constant_of names width start.value) (flaws_of (constant_faults names width start.value)) b
own-looped at start condition step body names n (Some (Constant value low is_signed)) b = tt
own-looped at start condition step body names n None b = tt

own-loop : (at : Span) (start : Assignment) (condition : Expr) (step : Assignment) (body : InNames) (names : Names) (o : Option Identifier) → OwnLabelsIn body → HasOwnLabels (loop_steps at start condition step body names o)
own-loop at start condition step body names None b = tt
own-loop at start condition step body names (Some n) b = own-looped at start condition step body names n (names n.name) b

-- The labels of items.

abbrev ItemsRight : Names → List Item → Type 0
ItemsRight names [] = Unit {0}
ItemsRight names (i ∷ more) = AreRight names i.labels × ItemsRight names more

right-first : (names : Names) (xs ys : List Expr) → AreRight names (xs ++ ys) → AreRight names xs
right-first names [] ys e = refl
right-first names (x ∷ xs) ys e =
    let here : wrong names x ≡ [] = left_nil (wrong names x) (flat_map (wrong names) (xs ++ ys)) e in
    ap (λ (l : List Fault). l ++ flat_map (wrong names) xs) here ∙ right-first names xs ys (right_nil (wrong names x) (flat_map (wrong names) (xs ++ ys)) e)

right-next : (names : Names) (xs ys : List Expr) → AreRight names (xs ++ ys) → AreRight names ys
right-next names [] ys e = e
right-next names (x ∷ xs) ys e = right-next names xs ys (right_nil (wrong names x) (flat_map (wrong names) (xs ++ ys)) e)

right-items : (names : Names) (items : List Item) → AreRight names (labels_of items) → ItemsRight names items
right-items names [] e = tt
right-items names (i ∷ more) e = (right-first names i.labels (labels_of more) e, right-items names more (right-next names i.labels (labels_of more) e))

right-labelled : (names : Names) (items : List Item) → ItemsRight names items → ItemsRight names (labelled items)
right-labelled names [] r = tt
right-labelled names (i ∷ more) r = go (is_empty i.labels) (right-labelled names more r.1) where
  go : (e : Bool) → ItemsRight names (labelled more) → ItemsRight names (if e then labelled more else i ∷ labelled more)
  go true rest = rest
  go false rest = (r.0, rest)

right-front : (names : Names) (items : List Item) → ItemsRight names items → ItemsRight names (front items)
right-front names [] r = tt
right-front names (i ∷ []) r = tt
right-front names (i ∷ j ∷ more) r = (r.0, right-front names (j ∷ more) r.1)

right-arms : (c : Selection) (items : List Item) (o : Option InNames) → ItemsRight c.names items → ArmsRight c.names (arms_of c items o)
right-arms c [] o r = tt
right-arms c (i ∷ more) o r = go (always c i.labels) (right-arms c more o r.1) where
  go : (e : Bool) → ArmsRight c.names (arms_of c more o) → ArmsRight c.names (if e then Otherwise (i.body c.names) else Arm i.place i.labels (i.body c.names) (arms_of c more o))
  go true rest = tt
  go false rest = (r.0, rest)

right-chosen : (c : Selection) (items : List Item) (o : Option InNames) → ItemsRight c.names items → ArmsRight c.names (chosen_arms c items o)
right-chosen c items (Some body) r = right-arms c items (Some body) r
right-chosen c items None r = go (names_all c) where
  go : (e : Bool) → ArmsRight c.names (if e then arms_of c (front items) (last_body items) else arms_of c items None)
  go true = right-arms c (front items) (last_body items) (right-front c.names items r)
  go false = right-arms c items None r

-- Cases.

abbrev OwnItems : List Item → Type 0
OwnItems [] = Unit {0}
OwnItems (i ∷ more) = OwnLabelsIn i.body × OwnItems more

abbrev OwnOption : Option InNames → Type 0
OwnOption None = Unit {0}
OwnOption (Some body) = OwnLabelsIn body

own-done : (o : Option InNames) (names : Names) → OwnOption o → HasOwnLabels (done_by o names)
own-done None names b = tt
own-done (Some body) names b = b names

own-default : (items : List Item) → OwnItems items → OwnOption (default_of items)
own-default [] b = tt
own-default (i ∷ more) b = go (is_empty i.labels) (own-default more b.1) where
  go : (e : Bool) → OwnOption (default_of more) → OwnOption (if e then Some i.body else default_of more)
  go true rest = b.0
  go false rest = rest

own-labelled : (items : List Item) → OwnItems items → OwnItems (labelled items)
own-labelled [] b = tt
own-labelled (i ∷ more) b = go (is_empty i.labels) (own-labelled more b.1) where
  go : (e : Bool) → OwnItems (labelled more) → OwnItems (if e then labelled more else i ∷ labelled more)
  go true rest = rest
  go false rest = (b.0, rest)

own-front : (items : List Item) → OwnItems items → OwnItems (front items)
own-front [] b = tt
own-front (i ∷ []) b = tt
own-front (i ∷ j ∷ more) b = (b.0, own-front (j ∷ more) b.1)

own-last : (items : List Item) → OwnItems items → OwnOption (last_body items)
own-last [] b = tt
own-last (i ∷ []) b = b.0
own-last (i ∷ j ∷ more) b = own-last (j ∷ more) b.1

own-arms : (c : Selection) (items : List Item) (o : Option InNames) → OwnItems items → OwnOption o → ArmsOwnLabels (arms_of c items o)
own-arms c [] o b d = own-done o c.names d
own-arms c (i ∷ more) o b d = go (always c i.labels) (own-arms c more o b.1 d) where
  go : (e : Bool) → ArmsOwnLabels (arms_of c more o) → ArmsOwnLabels (if e then Otherwise (i.body c.names) else Arm i.place i.labels (i.body c.names) (arms_of c more o))
  go true rest = b.0 c.names
  go false rest = (b.0 c.names, rest)

own-chosen : (c : Selection) (items : List Item) (o : Option InNames) → OwnItems items → OwnOption o → ArmsOwnLabels (chosen_arms c items o)
own-chosen c items (Some body) b d = own-arms c items (Some body) b d
own-chosen c items None b d = go (names_all c) where
  go : (e : Bool) → ArmsOwnLabels (if e then arms_of c (front items) (last_body items) else arms_of c items None)
  go true = own-arms c (front items) (last_body items) (own-front items b) (own-last items b)
  go false = own-arms c items None b tt

-- Each statement.

abbrev OwnStmt : Type 0
OwnStmt = (s : Stmt) × OwnLabelsIn (steps_of s)

abbrev OwnItem : Type 0
OwnItem = (i : CaseItem) × OwnLabelsIn (item_steps i).body

own-turn : (body : List OwnStmt) → OwnLabelsIn (in_turn (map steps_of (map (λ (w : OwnStmt). w.0) body)))
own-turn [] names = tt
own-turn (w ∷ more) names = own-followed (steps_of w.0 names) _ (w.1 names) (own-turn more names)

own-items : (items : List OwnItem) → OwnItems (map item_steps (map (λ (w : OwnItem). w.0) items))
own-items [] = tt
own-items (w ∷ more) = (w.1, own-items more)

own-step : (y : Stmt-F OwnStmt OwnItem) → OwnLabelsIn (step_of (map-Stmt Stmt CaseItem InNames Item steps_of item_steps (map-Stmt OwnStmt OwnItem Stmt CaseItem (λ (w : OwnStmt). w.0) (λ (w : OwnItem). w.0) y)))
own-step (t.Null at) names = tt
own-step (t.SeqBlock at label body) names = own-turn body names
own-step (t.Conditional at c first None) names = (first.1 names, tt, tt)
own-step (t.Conditional at c first (Some second)) names = (first.1 names, second.1 names, tt)
own-step (t.Case at kind selector items) names =
    let is : List Item = map item_steps (map (λ (w : OwnItem). w.0) items) in
    let c : Selection = selection_of names kind selector is in
    (λ e. right-chosen c (labelled is) (default_of is) (right-labelled names is (right-items names is e)), own-chosen c (labelled is) (default_of is) (own-labelled is (own-items items)) (own-default is (own-items items)), tt)
own-step (t.For at start condition step body) names = own-loop at start condition step (steps_of body.0) names (name_alone (out-LeftSide start.left)) body.1
own-step (t.While at condition body) names = tt
own-step (t.Repeat at count body) names = tt
own-step (t.Forever at body) names = tt
own-step (t.EventControl at control body) names = tt
own-step (t.DelayControl at delay body) names = tt
own-step (t.SystemTaskEnable n arguments) names = tt
own-step (t.BlockingAssignment a) names = tt
own-step (t.NonblockingAssignment a) names = tt

pub own-steps : (s : Stmt) → OwnLabelsIn (steps_of s)
own-steps =
    ind-Stmt (λ s. OwnLabelsIn (steps_of s)) (λ i. OwnLabelsIn (item_steps i).body)
    (λ x y is. subst (λ (f : InNames). OwnLabelsIn f) (sym (fold-roll-Stmt InNames Item step_of item_of x)) (subst (λ (z : Stmt-F Stmt CaseItem). OwnLabelsIn (step_of (map-Stmt Stmt CaseItem InNames Item steps_of item_steps z))) is (own-step y)))
    (λ x y is. subst (λ (j : Item). OwnLabelsIn j.body) (sym (fold-roll-CaseItem InNames Item step_of item_of x)) (subst (λ (z : CaseItem-F Stmt CaseItem). OwnLabelsIn (steps_of z.body)) is y.body.1))
