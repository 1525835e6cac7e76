-- What the steps of a row of trees mean is what the trees mean.
use Rattle.vlog_trees.proofs.Common.{◌≡◌, suc, List, [], ◌∷◌, ◌++◌, length, take, drop, refl, sym, ap, ◌∙◌, append_assoc, append-nil, take_at, drop_at, Token, Classed, Step, Symbol, parts_of, Trees}
use Rattle.vlog_trees.proofs.Common.{Nil, Leaf, Node, tokens_of, steps_of, Derives, IsText, start, Value, first, modules_of, leaf, made, means, modules, run}

one_each : (ts : List Token) (ss : List Symbol) (f : Trees) (after : List Classed) → Derives ss f after → length (means ts f) ≡ length ss
one_each ts [] Nil after d = refl
one_each ts [] (Leaf t y f) after d = absurd d
one_each ts [] (Node r parts f) after d = absurd d
one_each ts (s ∷ ss) Nil after d = absurd d
one_each ts (s ∷ ss) (Leaf t y f) after d = ap suc (one_each ts ss f after d.1)
one_each ts (s ∷ ss) (Node r parts f) after d = ap suc (one_each ts ss f after d.3)

run-steps : (ts : List Token) (ss : List Symbol) (f : Trees) (after : List Classed) (more : List Step) → Derives ss f after → run ts (steps_of f ++ more) ≡ means ts f ++ run ts more
run-steps ts [] Nil after more d = refl
run-steps ts [] (Leaf t y f) after more d = absurd d
run-steps ts [] (Node r parts f) after more d = absurd d
run-steps ts (s ∷ ss) Nil after more d = absurd d
run-steps ts (s ∷ ss) (Leaf t y f) after more d = ap (λ (ms : List Value). leaf ts t ∷ ms) (run-steps ts ss f after more d.1)
run-steps ts (s ∷ ss) (Node r parts f) after more d =
    let arity = length (parts_of r) in
    let inner : run ts ((steps_of parts ++ steps_of f) ++ more) ≡ means ts parts ++ (means ts f ++ run ts more) =
    ap (run ts) (append_assoc (steps_of parts) (steps_of f) more) ∙ run-steps ts (parts_of r) parts (tokens_of f ++ after) (steps_of f ++ more) d.2 ∙ ap (λ (ms : List Value). means ts parts ++ ms) (run-steps ts ss f after more d.3) in
    let size : length (means ts parts) ≡ arity = one_each ts (parts_of r) parts (tokens_of f ++ after) d.2 in
    ap (λ (ms : List Value). made r (take arity ms) ∷ drop arity ms) inner
    ∙ ap (λ (ms : List Value). made r ms ∷ drop arity (means ts parts ++ (means ts f ++ run ts more))) (take_at (means ts parts) (means ts f ++ run ts more) arity size)
    ∙ ap (λ (ms : List Value). made r (means ts parts) ∷ ms) (drop_at (means ts parts) (means ts f ++ run ts more) arity size)

run-text : (ts : List Token) (text : Trees) → IsText text → run ts (steps_of text) ≡ means ts text
run-text ts text d = ap (run ts) (sym (append-nil (steps_of text))) ∙ run-steps ts start text [] [] d ∙ append-nil (means ts text)

-- the modules of a text from its steps
pub modules_run : (ts : List Token) (steps : List Step) (text : Trees) → IsText text → steps_of text ≡ steps → modules_of (first (run ts steps)) ≡ modules ts text
modules_run ts steps text d are = ap (λ (ms : List Value). modules_of (first ms)) (ap (run ts) (sym are) ∙ run-text ts text d)

-- texts that are read by the same steps have the same modules
pub modules_by_steps : (ts : List Token) (f g : Trees) → IsText f → IsText g → steps_of f ≡ steps_of g → modules ts f ≡ modules ts g
modules_by_steps ts f g d e same = sym (modules_run ts (steps_of f) f d refl) ∙ modules_run ts (steps_of f) g e (sym same)
