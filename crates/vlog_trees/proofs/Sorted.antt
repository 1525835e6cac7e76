-- Each part of a text is of its kind's sort.
use Rattle.vlog_trees.proofs.Common.{◌≡◌, ℕ, zero, suc, ◌+◌, ◌<◌, true, List, [], ◌∷◌, ◌++◌, Option, Some, None, length, take, drop, refl, sym, ap, subst, ◌∙◌, append_assoc, append-nil, Token}
use Rattle.vlog_trees.proofs.Common.{Classed, Step, Take, Begin, Symbol, production, kind_of, parts_of, AreStepsOf, AreTreesOf, none_refused, start, Trees, Nil, Leaf, Node, Derives, tokens_of}
use Rattle.vlog_trees.proofs.Common.{refusals_of, steps_of, Value, first, rest, second, made_expression, made, means, run}
use Rattle.vlog_syntax.specs.declared.feature.Feature.{Feature}
use Rattle.vlog_grammar.specs.declared.rule.Kind.{Kind}
use Rattle.vlog_grammar.specs.declared.rule.Rule.{Rule}
use Rattle.vlog_grammar.specs.declared.rule.Rule.TheVariants as r
use Rattle.vlog_grammar.specs.declared.table.Symbol.TheVariants.{Is, Refused, Of}
use Rattle.vlog_parts.specs.declared.value.Value.TheVariants as v
use Rattle.vlog_parts.specs.Sorts.{is_expr, is_option_expr, is_stmt, is_option_stmt, is_item, is_option_item, is_identifier, is_label}
use Rattle.vlog_parts.specs.Kinds.{is_of, is_of_kind, are_of, sorted}
use Rattle.vlog_declarations.specs.Modules.{made_module}
use Rattle.vlog_items.specs.Items.{made_item}
use Rattle.vlog_declarations.specs.Declarations.{made_declaration}
use Rattle.vlog_statements.specs.Events.{made_event}
use Rattle.vlog_statements.specs.Statements.{made_statement}
use Rattle.vlog_trees.specs.Passed.{made_passed}
use Rattle.vlog_trees.specs.OfKinds.{AreOfKinds}
use Rattle.vlog_grammar.proofs.Passes.{and_left, and_right}
use Rattle.std.proofs.lemmas.Bool.{and_from}

some_expr : (x : Value) → is_expr x ≡ true → is_option_expr x ≡ true
some_expr (v.Expr x) h = refl
some_expr _ h = absurd cc

some_stmt : (x : Value) → is_stmt x ≡ true → is_option_stmt x ≡ true
some_stmt (v.Stmt x) h = refl
some_stmt _ h = absurd cc

some_item : (x : Value) → is_item x ≡ true → is_option_item x ≡ true
some_item (v.Item x) h = refl
some_item _ h = absurd cc

some_label : (x : Value) → is_identifier x ≡ true → is_label x ≡ true
some_label (v.Identifier x) h = refl
some_label _ h = absurd cc

-- what a production means is of its kind's sort
pub made_sorted : (rule : Rule) (ms : List Value) → sorted rule ms ≡ true → is_of_kind (kind_of rule) (made rule ms) ≡ true
unfolding made made_expression made_passed made_statement made_event made_declaration made_item made_module production is_of_kind
made_sorted r.PrimitiveDescription ms h = absurd cc
made_sorted r.GateDescription ms h = absurd cc
made_sorted r.SystemVerilogDescription ms h = absurd cc
made_sorted r.PrimitiveItem ms h = absurd cc
made_sorted r.GateItem ms h = absurd cc
made_sorted r.CaseGenerate ms h = absurd cc
made_sorted r.SystemVerilogItem ms h = absurd cc
made_sorted r.SomeExpression ms h = some_expr (first ms) (and_left (is_expr (first ms)) true h)
made_sorted r.StatementWithAttributes ms h = and_left _ _ h
made_sorted r.SomeElse ms h = some_stmt (second ms) (and_left (is_stmt (second ms)) true h)
made_sorted r.EventInParens ms h = and_left _ _ h
made_sorted r.SomeTaskArguments ms h = and_left _ _ h
made_sorted r.ImplicitNet ms h = and_left _ _ h
made_sorted r.ExplicitNet ms h = and_left _ _ h
made_sorted r.SomeInitialValue ms h = some_expr (second ms) (and_left (is_expr (second ms)) true h)
made_sorted r.ModuleOrGenerateItem ms h = and_left _ _ h
made_sorted r.SomeGenerate ms h = and_left _ _ h
made_sorted r.GenerateOneItem ms h = and_left _ _ h
made_sorted r.SomeGenerateElse ms h = some_item (second ms) (and_left (is_item (second ms)) true h)
made_sorted r.SomeBlockName ms h = some_label (second ms) (and_left (is_identifier (second ms)) true h)
made_sorted r.SomeParameterValues ms h = and_left _ _ h
made_sorted r.SomePortList ms h = and_left _ _ h
made_sorted r.AnsiPortDeclaration ms h = and_left _ _ h
made_sorted r.NextNetPort ms h = and_left _ _ h
made_sorted r.NextVariablePort ms h = and_left _ _ h
made_sorted _ ms h = refl

-- The steps are those of a row of trees for the symbols, and nothing is refused in them.
abbrev Follow : List Symbol → List Step → Type 0
Follow [] [] = Unit {0}
Follow (Is c ∷ ss) (Take t ∷ steps) = Follow ss steps
Follow (Of k ∷ ss) (Begin rule ∷ steps) = (k ≡ kind_of rule) × Follow (parts_of rule ++ ss) steps
Follow _ _ = ⊥

-- so it is of each of these
abbrev pub Each : {A : Type 0} → (A → Type 0) → List A → Type 0
Each P [] = Unit {0}
Each P (x ∷ xs) = P x × Each P xs

each_left : {A : Type 0} (P : A → Type 0) (xs ys : List A) → Each P (xs ++ ys) → Each P xs
each_left P [] ys h = tt
each_left P (x ∷ xs) ys h = (h.0, each_left P xs ys h.1)

each_right : {A : Type 0} (P : A → Type 0) (xs ys : List A) → Each P (xs ++ ys) → Each P ys
each_right P [] ys h = h
each_right P (x ∷ xs) ys h = each_right P xs ys h.1

abbrev IsNone : Option Feature → Type 0
IsNone x = x ≡ None

all_none : (ts : List Classed) → Each IsNone (none_refused ts)
all_none [] = tt
all_none (t ∷ ts) = (refl, all_none ts)

follow_row : (ss : List Symbol) (f : Trees) (after : List Classed) (others : List Symbol) (more : List Step) → Derives ss f after → Each IsNone (refusals_of f) → Follow others more → Follow (ss ++ others) (steps_of f ++ more)
follow_row [] Nil after others more d n w = w
follow_row [] (Leaf t x f) after others more d n w = absurd d
follow_row [] (Node rule parts f) after others more d n w = absurd d
follow_row (s ∷ ss) Nil after others more d n w = absurd d
follow_row (Is c ∷ ss) (Leaf t x f) after others more d n w = follow_row ss f after others more d.1 n.1 w
follow_row (Refused c y ∷ ss) (Leaf t x f) after others more d n w =
    let some : x ≡ Some y = d.0.1 in
    let none : x ≡ None = n.0 in
    absurd cc
follow_row (Of k ∷ ss) (Leaf t x f) after others more d n w = absurd d.0
follow_row (Is c ∷ ss) (Node rule parts f) after others more d n w =
    let is : Is c ≡ Of (kind_of rule) = d.0 in
    absurd cc
follow_row (Refused c y ∷ ss) (Node rule parts f) after others more d n w =
    let is : Refused c y ≡ Of (kind_of rule) = d.0 in
    absurd cc
follow_row (Of k ∷ ss) (Node rule parts f) after others more d n w =
    let is : Of k ≡ Of (kind_of rule) = d.0 in
    let same : k ≡ kind_of rule = cc in
    let behind = follow_row ss f after others more d.3 (each_right IsNone (refusals_of parts) (refusals_of f) n) w in
    let inner = follow_row (parts_of rule) parts (tokens_of f ++ after) (ss ++ others) (steps_of f ++ more) d.2 (each_left IsNone (refusals_of parts) (refusals_of f) n) behind in
    (same, subst (Follow (parts_of rule ++ (ss ++ others))) (sym (append_assoc (steps_of parts) (steps_of f) more)) inner)

follow_text : (steps : List Step) (read : List Classed) → AreStepsOf steps read → Follow start steps
follow_text steps read is =
    let none : Each IsNone (refusals_of is.text) = subst (Each IsNone) (sym is.trees.none_is_refused) (all_none read) in
    let whole : Follow start (steps_of is.text ++ []) = follow_row start is.text [] [] [] is.trees.is_text none tt in
    subst (Follow start) (append-nil (steps_of is.text) ∙ is.are) whole

-- the steps from number i on
record FollowOn (steps : List Step) : Type 0 where
  pub symbols : List Symbol
  pub follow : Follow symbols steps

follow_drop : (i : ℕ) (ss : List Symbol) (steps : List Step) → Follow ss steps → FollowOn (drop i steps)
follow_drop zero ss steps w = record { symbols = ss; follow = w }
follow_drop (suc i) [] [] w = record { symbols = []; follow = tt }
follow_drop (suc i) (Is c ∷ ss) [] w = absurd w
follow_drop (suc i) (Refused c y ∷ ss) [] w = absurd w
follow_drop (suc i) (Of k ∷ ss) [] w = absurd w
follow_drop (suc i) [] (step ∷ steps) w = absurd w
follow_drop (suc i) (Is c ∷ ss) (Take t ∷ steps) w = follow_drop i ss steps w
follow_drop (suc i) (Is c ∷ ss) (Begin rule ∷ steps) w = absurd w
follow_drop (suc i) (Refused c y ∷ ss) (step ∷ steps) w = absurd w
follow_drop (suc i) (Of k ∷ ss) (Take t ∷ steps) w = absurd w
follow_drop (suc i) (Of k ∷ ss) (Begin rule ∷ steps) w = follow_drop i (parts_of rule ++ ss) steps w.1

take_nothing : (n : ℕ) (xs : List Value) → xs ≡ [] → take n xs ≡ xs
take_nothing zero xs e = sym e
take_nothing (suc n) [] e = refl
take_nothing (suc n) (x ∷ xs) e = absurd cc

drop_nothing : (n : ℕ) (xs : List Value) → xs ≡ [] → drop n xs ≡ xs
drop_nothing zero xs e = refl
drop_nothing (suc n) [] e = refl
drop_nothing (suc n) (x ∷ xs) e = absurd cc

front_of : (ps ss : List Symbol) (ms : List Value) → are_of (ps ++ ss) ms ≡ true → are_of ps (take (length ps) ms) ≡ true
unfolding first rest
front_of [] ss ms h = refl
front_of (p ∷ ps) ss [] h = and_from _ _ (and_left _ _ h) (sym (ap (are_of ps) (take_nothing (length ps) [] refl)) ∙ front_of ps ss [] (and_right _ _ h))
front_of (p ∷ ps) ss (m ∷ ms) h = and_from _ _ (and_left _ _ h) (front_of ps ss ms (and_right _ _ h))

behind_of : (ps ss : List Symbol) (ms : List Value) → are_of (ps ++ ss) ms ≡ true → are_of ss (drop (length ps) ms) ≡ true
unfolding first rest
behind_of [] ss ms h = h
behind_of (p ∷ ps) ss [] h = sym (ap (are_of ss) (drop_nothing (length ps) [] refl)) ∙ behind_of ps ss [] (and_right _ _ h)
behind_of (p ∷ ps) ss (m ∷ ms) h = behind_of ps ss ms (and_right _ _ h)

run_sorted : (ts : List Token) (ss : List Symbol) (steps : List Step) → Follow ss steps → are_of ss (run ts steps) ≡ true
unfolding first rest
run_sorted ts [] [] w = refl
run_sorted ts [] (step ∷ steps) w = absurd w
run_sorted ts (Is c ∷ ss) [] w = absurd w
run_sorted ts (Refused c y ∷ ss) [] w = absurd w
run_sorted ts (Of k ∷ ss) [] w = absurd w
run_sorted ts (Is c ∷ ss) (Take t ∷ steps) w = run_sorted ts ss steps w
run_sorted ts (Is c ∷ ss) (Begin rule ∷ steps) w = absurd w
run_sorted ts (Refused c y ∷ ss) (step ∷ steps) w = absurd w
run_sorted ts (Of k ∷ ss) (Take t ∷ steps) w = absurd w
run_sorted ts (Of k ∷ ss) (Begin rule ∷ steps) w =
    let all = run_sorted ts (parts_of rule ++ ss) steps w.1 in
    let here = made_sorted rule (take (length (parts_of rule)) (run ts steps)) (front_of (parts_of rule) ss (run ts steps) all) in
    and_from _ _ (ap (λ (j : Kind). is_of_kind j (made rule (take (length (parts_of rule)) (run ts steps)))) w.0 ∙ here) (behind_of (parts_of rule) ss (run ts steps) all)

begun : (ts : List Token) (rule : Rule) (ss : List Symbol) (steps : List Step) → Follow ss (Begin rule ∷ steps) → sorted rule (take (length (parts_of rule)) (run ts steps)) ≡ true
begun ts rule [] steps w = absurd w
begun ts rule (Is c ∷ ss) steps w = absurd w
begun ts rule (Refused c y ∷ ss) steps w = absurd w
begun ts rule (Of k ∷ ss) steps w = front_of (parts_of rule) ss (run ts steps) (run_sorted ts (parts_of rule ++ ss) steps w.1)

-- the parts of a production that is begun at number i
pub parts_sorted : (ts : List Token) (steps : List Step) (read : List Classed) (i : ℕ) (rule : Rule) (ms : List Value) → AreStepsOf steps read → drop i steps ≡ Begin rule ∷ drop (i + 1) steps → ms ≡ run ts (drop (i + 1) steps) → sorted rule (take (length (parts_of rule)) ms) ≡ true
parts_sorted ts steps read i rule ms is here are =
    let on = follow_drop i start steps (follow_text steps read is) in
    let follow : Follow on.symbols (Begin rule ∷ drop (i + 1) steps) = subst (Follow on.symbols) here on.follow in
    ap (λ (xs : List Value). sorted rule (take (length (parts_of rule)) xs)) are ∙ begun ts rule on.symbols (drop (i + 1) steps) follow

-- The same of the trees themselves.

-- the token stands in a text of so many
abbrev pub StandsIn : ℕ → Classed → Type 0
StandsIn size t = t.at < size

row_of_kinds : (ts : List Token) (ss : List Symbol) (f : Trees) (after : List Classed) → Derives ss f after → Each IsNone (refusals_of f) → Each (StandsIn (length ts)) (tokens_of f) → (are_of ss (means ts f) ≡ true) × AreOfKinds ts f
unfolding first rest
row_of_kinds ts [] Nil after d n w = (refl, tt)
row_of_kinds ts [] (Leaf t x f) after d n w = absurd d
row_of_kinds ts [] (Node rule parts f) after d n w = absurd d
row_of_kinds ts (s ∷ ss) Nil after d n w = absurd d
row_of_kinds ts (Is c ∷ ss) (Leaf t x f) after d n w =
    let behind = row_of_kinds ts ss f after d.1 n.1 w.1 in
    (behind.0, (w.0, behind.1))
row_of_kinds ts (Refused c y ∷ ss) (Leaf t x f) after d n w =
    let some : x ≡ Some y = d.0.1 in
    let none : x ≡ None = n.0 in
    absurd cc
row_of_kinds ts (Of k ∷ ss) (Leaf t x f) after d n w = absurd d.0
row_of_kinds ts (s ∷ ss) (Node rule parts f) after d n w =
    let inner = row_of_kinds ts (parts_of rule) parts (tokens_of f ++ after) d.2 (each_left IsNone (refusals_of parts) (refusals_of f) n) (each_left (StandsIn (length ts)) (tokens_of parts) (tokens_of f) w) in
    let behind = row_of_kinds ts ss f after d.3 (each_right IsNone (refusals_of parts) (refusals_of f) n) (each_right (StandsIn (length ts)) (tokens_of parts) (tokens_of f) w) in
    let here : is_of s (made rule (means ts parts)) ≡ true = subst (λ (q : Symbol). is_of q (made rule (means ts parts)) ≡ true) (sym d.0) (made_sorted rule (means ts parts) inner.0) in
    (and_from _ _ here behind.0, (inner.0, inner.1, behind.1))

-- what is asked of each part of a text is there, where its tokens are
pub text_of_kinds : (ts : List Token) (text : Trees) (read : List Classed) → AreTreesOf text read → Each (StandsIn (length ts)) read → AreOfKinds ts text
text_of_kinds ts text read trees stand =
    let none : Each IsNone (refusals_of text) = subst (Each IsNone) (sym trees.none_is_refused) (all_none read) in
    (row_of_kinds ts start text [] trees.is_text none (subst (Each (StandsIn (length ts))) (sym trees.derives) stand)).1
