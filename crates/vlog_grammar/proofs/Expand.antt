-- One step of the reader: a production in the place of a kind.
use Rattle.vlog_grammar.proofs.Common.{◌≡◌, true, false, List, [], ◌∷◌, ◌++◌, Option, Some, refl, sym, ap, subst, ◌∙◌, append_assoc, append-nil, Token, Step, Begin, Feature, Class, Kind, Rule, Symbol}
use Rattle.vlog_grammar.proofs.Common.{Is, Refused, Of, choice, kind_of, parts_of, is_avoided, Trees, Nil, Leaf, Node, tokens_of, refusals_of, steps_of, next_of, Fits, Derives, is_safe, all_safe}
use Rattle.vlog_grammar.proofs.Common.{rest_of, AllFollowed, Widens, Narrows, Expands, false_from_ne_true, and_from}
use Rattle.vlog_grammar.proofs.Passes.{chosen, avoided_is_empty, is_empty, and_left, and_right, rest_is_safe}
use Rattle.vlog_grammar.proofs.Rows.{◌⊕◌, split, joined, tokens-join, refusals-join, steps-join}
use Rattle.vlog_grammar.proofs.Begins.{front_is_chosen, expanded_followed}

pub expands_none : (y : Class) (old : List Symbol) → AllFollowed old → all_safe (rest_of old) ≡ true → Expands y old old []
expands_none y old followed safe = record {
  back = λ g d e. record { row = g; derives = d; tokens = refl; refusals = refl; steps = refl };
  forth = λ f d e. record { row = f; derives = d; tokens = refl; refusals = refl; steps = refl };
  followed = followed;
  safe = safe;
}

nothing_derives : (ss : List Symbol) (f : Trees) (after : List Token) → is_empty ss ≡ true → Derives ss f after → f ≡ Nil
nothing_derives [] Nil after e d = refl
nothing_derives [] (Leaf t x f) after e d = absurd d
nothing_derives [] (Node r parts f) after e d = absurd d
nothing_derives (s ∷ ss) f after e d = absurd cc

unavoided : (r : Rule) (y : Class) (parts back : Trees) (after : List Token) → is_avoided r y ≡ false → Derives (parts_of r) parts after → next_of (tokens_of (parts ⊕ back)) ≡ y → is_avoided r (next_of (tokens_of back ++ [])) ≡ false
unavoided r y parts back after well d e =
    false_from_ne_true _ (λ h.
    let nil : parts ≡ Nil = nothing_derives (parts_of r) parts after (and_left _ _ (avoided_is_empty r _ h)) d in
    let same : next_of (tokens_of back ++ []) ≡ y = ap next_of (append-nil (tokens_of back)) ∙ ap (λ (p : Trees). next_of (tokens_of (p ⊕ back))) (sym nil) ∙ e in
    let avoided : is_avoided r y ≡ true = ap (is_avoided r) (sym same) ∙ h in
    let wrong : true ≡ false = sym avoided ∙ well in
    cc)

-- the tree that the production makes of a row for its parts and what is behind
tree_back : (old gs : List Symbol) (g : Symbol) (added : List Step) (k : Kind) (r : Rule) (y : Class) → ((h : Trees) → Derives (g ∷ gs) h [] → next_of (tokens_of h) ≡ y → Widens old added h) → g ≡ Of k → choice k y ≡ Some r → (h : Trees) → Derives (parts_of r ++ gs) h [] → next_of (tokens_of h) ≡ y → Widens old (added ++ Begin r ∷ []) h
tree_back old gs g added k r y up is_kind choose h d e =
    let well = chosen k y r choose in
    let p = split (parts_of r) gs h [] d in
    let e' : next_of (tokens_of (p.front ⊕ p.back)) ≡ y = ap (λ (w : Trees). next_of (tokens_of w)) (sym p.are) ∙ e in
    let same : tokens_of p.front ++ tokens_of p.back ≡ tokens_of h = sym (tokens-join p.front p.back) ∙ ap tokens_of (sym p.are) in
    let w = up (Node r p.front p.back) (is_kind ∙ ap Of (sym well.0), unavoided r y p.front p.back (tokens_of p.back ++ []) well.1 p.front_derives e', p.front_derives, p.back_derives) (ap next_of same ∙ e) in
    record {
      row = w.row;
      derives = w.derives;
      tokens = w.tokens ∙ same;
      refusals = w.refusals ∙ sym (refusals-join p.front p.back) ∙ ap refusals_of (sym p.are);
      steps = w.steps ∙ ap (λ (s : List Step). added ++ Begin r ∷ s) (sym (steps-join p.front p.back) ∙ ap steps_of (sym p.are)) ∙ sym (append_assoc added (Begin r ∷ []) (steps_of h));
    }

pub leaf_of_kind : (s : Symbol) (k : Kind) (t : Token) (x : Option Feature) → s ≡ Of k → Fits s t x → ⊥
leaf_of_kind (Is c) k t x e h = cc
leaf_of_kind (Refused c f) k t x e h = cc
leaf_of_kind (Of j) k t x e h = h

-- a row whose first goal is a kind begins with a tree of the production that is chosen
pub front_is : (g : Symbol) (gs : List Symbol) (k : Kind) (y : Class) (h : Trees) → AllFollowed ((g ∷ gs)) → g ≡ Of k → Derives (g ∷ gs) h [] → next_of (tokens_of h) ≡ y
    → (r : Rule) × (parts : Trees) × (f : Trees) × (h ≡ Node r parts f) × (choice k y ≡ Some r)
front_is g gs k y Nil followed is_kind d e = absurd d
front_is g gs k y (Leaf t x f) followed is_kind d e = absurd (leaf_of_kind g k t x is_kind d.0)
front_is g gs k y (Node q parts f) followed is_kind d e =
    let c = front_is_chosen g gs q parts f d followed in
    let same : next_of ((tokens_of parts ++ tokens_of f) ++ []) ≡ y = ap next_of (append-nil (tokens_of parts ++ tokens_of f)) ∙ e in
    let kind : kind_of q ≡ k = cc (d.0, is_kind) in
    (q, parts, f, refl, ap (λ (j : Kind). choice j y) (sym kind) ∙ ap (choice (kind_of q)) (sym same) ∙ c)

tree_forth : (gs : List Symbol) (g : Symbol) (added : List Step) (k : Kind) (r : Rule) (y : Class) (f : Trees) → AllFollowed ((g ∷ gs)) → g ≡ Of k → choice k y ≡ Some r → next_of (tokens_of f) ≡ y → Narrows (g ∷ gs) added f → Narrows (parts_of r ++ gs) (added ++ Begin r ∷ []) f
tree_forth gs g added k r y f followed is_kind choose e n =
    let a = front_is g gs k y n.row followed is_kind n.derives (ap next_of n.tokens ∙ e) in
    let same : a.0 ≡ r = cc (a.4, choose) in
    let is_node : n.row ≡ Node r a.1 a.2 = a.3 ∙ ap (λ (q : Rule). Node q a.1 a.2) same in
    let d = subst (λ (h : Trees). Derives (g ∷ gs) h []) is_node n.derives in
    record {
      row = a.1 ⊕ a.2;
      derives = joined (parts_of r) gs a.1 a.2 [] d.2 d.3;
      tokens = tokens-join a.1 a.2 ∙ ap tokens_of (sym is_node) ∙ n.tokens;
      refusals = refusals-join a.1 a.2 ∙ ap refusals_of (sym is_node) ∙ n.refusals;
      steps = n.steps ∙ ap (λ (h : Trees). added ++ steps_of h) is_node ∙ ap (λ (s : List Step). added ++ Begin r ∷ s) (sym (steps-join a.1 a.2)) ∙ sym (append_assoc added (Begin r ∷ []) (steps_of (a.1 ⊕ a.2)));
    }

safe_append : (a b : List Symbol) → all_safe (rest_of a) ≡ true → all_safe b ≡ true → all_safe (rest_of (a ++ b)) ≡ true
safe_append [] [] h k = refl
safe_append [] (s ∷ ss) h k = and_right (is_safe s) _ k
safe_append (s ∷ ss) b h k = all_append ss b h k
  where
    all_append : (a b : List Symbol) → all_safe a ≡ true → all_safe b ≡ true → all_safe (a ++ b) ≡ true
    all_append [] b h k = k
    all_append (s ∷ ss) b h k = and_from _ _ (and_left _ _ h) (all_append ss b (and_right (is_safe s) _ h) k)

pub expands_more : (y : Class) (old gs : List Symbol) (g : Symbol) (added : List Step) (k : Kind) (r : Rule) → Expands y old (g ∷ gs) added → g ≡ Of k → choice k y ≡ Some r → Expands y old (parts_of r ++ gs) (added ++ Begin r ∷ [])
expands_more y old gs g added k r x is_kind choose =
    let well = chosen k y r choose in
    record {
      back = tree_back old gs g added k r y x.back is_kind choose;
      forth = λ f d e. tree_forth gs g added k r y f x.followed is_kind choose e (x.forth f d e);
      followed = expanded_followed r gs (subst (λ (s : Symbol). AllFollowed (s ∷ gs)) (is_kind ∙ ap Of (sym well.0)) x.followed);
      safe = safe_append (parts_of r) gs (rest_is_safe r) x.safe;
    }
