-- Where the reader stands after some tokens, and what it may answer there.
use Rattle.vlog_grammar.proofs.Common.{◌≡◌, ℕ, zero, suc, ◌<◌, ◌≤◌, true, false, ◌&&◌, ltb, List, [], ◌∷◌, ◌++◌, Option, Some, None, refl, sym, ap, subst, ◌∙◌, append_assoc, arith, append-nil}
use Rattle.vlog_grammar.proofs.Common.{ltb-true, lt-ltb, and_from, false_from_ne_true, Token, Step, Take, Feature, Class, Kind, Rule, Symbol, Is, Refused, Of, kind_of, parts_of, is_avoided, Trees}
use Rattle.vlog_grammar.proofs.Common.{Nil, Leaf, Node, tokens_of, refusals_of, steps_of, next_of, Fits, Derives, start, IsText, none_refused, BeginText, IsUnexpected, IsRefused, height_of}
use Rattle.vlog_grammar.proofs.Common.{cheapest_of, is_plain, is_safe, all_safe, all_below, Expands, Text, Rest, Reaches}
use Rattle.vlog_grammar.proofs.Passes.{and_left, and_right, cheapest, finish_is_plain, start_follow, avoided_is_not_plain}
use Rattle.vlog_grammar.proofs.Expand.{leaf_of_kind}

pub reaches_start : Reaches [] [] start
reaches_start = record {
  back = λ g d. record { row = g; is_text = d; tokens = refl; refusals = refl; steps = refl };
  forth = λ f more d e. record { row = f; derives = d; tokens = e; refusals = refl; steps = refl };
  followed = (start_follow, tt);
  safe = refl;
}

none_refused-more : (done : List Token) (t : Token) → none_refused (done ++ t ∷ []) ≡ none_refused done ++ None ∷ []
none_refused-more [] t = refl
none_refused-more (d ∷ done) t = ap (λ (xs : List (Option Feature)). None ∷ xs) (none_refused-more done t)

one_refusal : (s : Symbol) (t : Token) (x y : Option Feature) → Fits s t x → Fits s t y → x ≡ y
one_refusal (Is c) t x y h k = h.1 ∙ sym k.1
one_refusal (Refused c f) t x y h k = h.1 ∙ sym k.1
one_refusal (Of k) t x y h k' = absurd h

-- the first tree of a row whose first symbol the token fits
pub front_leaf : (g : Symbol) (gs : List Symbol) (t : Token) (x : Option Feature) (h : Trees) (more : List Token) → Fits g t x → Derives (g ∷ gs) h [] → tokens_of h ≡ t ∷ more
    → (f : Trees) × (h ≡ Leaf t x f) × Derives gs f [] × (tokens_of f ≡ more)
front_leaf g gs t x Nil more fits d e = absurd d
front_leaf g gs t x (Leaf u y f) more fits d e =
    let same : u ≡ t = cc in
    let refusal : y ≡ x = one_refusal g t y x (subst (λ (w : Token). Fits g w y) same d.0) fits in
    (f, ap (λ (w : Token). Leaf w y f) same ∙ ap (λ (w : Option Feature). Leaf t w f) refusal, d.1, cc)
front_leaf g gs t x (Node r parts f) more fits d e = absurd (leaf_of_kind g (kind_of r) t x d.0 fits)

-- the token is taken
take_back : (done : List Token) (steps added : List Step) (old gs : List Symbol) (g : Symbol) (t : Token) → Reaches done steps old → Expands t.class old (g ∷ gs) added → Fits g t None → (f : Trees) → Derives gs f [] → Text (done ++ t ∷ []) (steps ++ (added ++ Take t ∷ [])) f
take_back done steps added old gs g t at x fits f d =
    let w = x.back (Leaf t None f) (fits, d) refl in
    let u = at.back w.row w.derives in
    record {
      row = u.row;
      is_text = u.is_text;
      tokens = u.tokens ∙ ap (λ (ts : List Token). done ++ ts) w.tokens ∙ sym (append_assoc done (t ∷ []) (tokens_of f));
      refusals = u.refusals ∙ ap (λ (xs : List (Option Feature)). none_refused done ++ xs) w.refusals ∙ sym (append_assoc (none_refused done) (None ∷ []) (refusals_of f)) ∙ ap (λ (xs : List (Option Feature)). xs ++ refusals_of f) (sym (none_refused-more done t));
      steps = u.steps ∙ ap (λ (ss : List Step). steps ++ ss) (w.steps ∙ sym (append_assoc added (Take t ∷ []) (steps_of f))) ∙ sym (append_assoc steps (added ++ Take t ∷ []) (steps_of f));
    }

take_forth : (done : List Token) (steps added : List Step) (old gs : List Symbol) (g : Symbol) (t : Token) → Reaches done steps old → Expands t.class old (g ∷ gs) added → Fits g t None → (f : Trees) (more : List Token) → IsText f → tokens_of f ≡ (done ++ t ∷ []) ++ more → Rest (done ++ t ∷ []) (steps ++ (added ++ Take t ∷ [])) gs f more
take_forth done steps added old gs g t at x fits f more d e =
    let u = at.forth f (t ∷ more) d (e ∙ append_assoc done (t ∷ []) more) in
    let w = x.forth u.row u.derives (ap next_of u.tokens) in
    let a = front_leaf g gs t None w.row more fits w.derives (w.tokens ∙ u.tokens) in
    record {
      row = a.0;
      derives = a.2;
      tokens = a.3;
      refusals = u.refusals ∙ ap (λ (xs : List (Option Feature)). none_refused done ++ xs) (sym w.refusals ∙ ap refusals_of a.1) ∙ sym (append_assoc (none_refused done) (None ∷ []) (refusals_of a.0)) ∙ ap (λ (xs : List (Option Feature)). xs ++ refusals_of a.0) (sym (none_refused-more done t));
      steps = u.steps ∙ ap (λ (ss : List Step). steps ++ ss) (w.steps ∙ ap (λ (h : Trees). added ++ steps_of h) a.1 ∙ sym (append_assoc added (Take t ∷ []) (steps_of a.0))) ∙ sym (append_assoc steps (added ++ Take t ∷ []) (steps_of a.0));
    }

pub reaches_more : (done : List Token) (steps added : List Step) (old gs : List Symbol) (g : Symbol) (t : Token) → Reaches done steps old → Expands t.class old (g ∷ gs) added → Fits g t None → Reaches (done ++ t ∷ []) (steps ++ (added ++ Take t ∷ [])) gs
reaches_more done steps added old gs g t at x fits = record {
  back = take_back done steps added old gs g t at x fits;
  forth = take_forth done steps added old gs g t at x fits;
  followed = x.followed.1;
  safe = x.safe;
}

-- each row of symbols has trees
pub record Finishes (gs : List Symbol) (after : List Token) : Type 0 where
  pub row : Trees
  pub derives : Derives gs row after
  pub plain : is_plain (next_of (tokens_of row ++ after)) ≡ true
  pub supported : refusals_of row ≡ none_refused (tokens_of row)

pub none_refused-append : (a b : List Token) → none_refused (a ++ b) ≡ none_refused a ++ none_refused b
none_refused-append [] b = refl
none_refused-append (t ∷ a) b = ap (λ (xs : List (Option Feature)). None ∷ xs) (none_refused-append a b)

supported_append : (f g : Trees) → refusals_of f ≡ none_refused (tokens_of f) → refusals_of g ≡ none_refused (tokens_of g) → refusals_of f ++ refusals_of g ≡ none_refused (tokens_of f ++ tokens_of g)
supported_append f g h k =
    ap (λ (xs : List (Option Feature)). xs ++ refusals_of g) h ∙ ap (λ (xs : List (Option Feature)). none_refused (tokens_of f) ++ xs) k ∙ sym (none_refused-append (tokens_of f) (tokens_of g))

not_avoided : (r : Rule) (ts : List Token) → is_plain (next_of ts) ≡ true → is_avoided r (next_of ts) ≡ false
not_avoided r ts h = false_from_ne_true _ (λ k. let wrong : true ≡ false = sym h ∙ avoided_is_not_plain r _ k in cc)

all_below_more : (m n : ℕ) → m ≤ n → (ss : List Symbol) → all_below m ss ≡ true → all_below n ss ≡ true
all_below_more m n le [] h = refl
all_below_more m n le (Is c ∷ ss) h = all_below_more m n le ss h
all_below_more m n le (Refused c f ∷ ss) h = h
all_below_more m n le (Of k ∷ ss) h =
    let lt : height_of k < m = ltb-true _ _ (and_left _ _ h) in
    and_from _ _ (lt-ltb (height_of k) n (omega arith)) (all_below_more m n le ss (and_right (ltb (height_of k) m) _ h))

abbrev FinishesKind : ℕ → Type 0
FinishesKind n = (k : Kind) (after : List Token) → height_of k < n → is_plain (next_of after) ≡ true → Finishes (Of k ∷ []) after

leaf_finishes : (s : Symbol) (gs : List Symbol) (after : List Token) → is_safe s ≡ true → Finishes gs after → (c : Class) → s ≡ Is c → Finishes (s ∷ gs) after
leaf_finishes s gs after safe f c e =
    let token : Token = record { class = c; at = 0 } in
    record {
      row = Leaf token None f.row;
      derives = (subst (λ (w : Symbol). Fits w token None) (sym e) (refl, refl), f.derives);
      plain = ap is_safe (sym e) ∙ safe;
      supported = ap (λ (xs : List (Option Feature)). None ∷ xs) f.supported;
    }

front_finishes : (k : Kind) (gs : List Symbol) (after : List Token) (f : Finishes gs after) → Finishes (Of k ∷ []) (tokens_of f.row ++ after) → Finishes (Of k ∷ gs) after
front_finishes k gs after f one = go one.row one.derives one.plain one.supported
  where
    go : (h : Trees) → Derives (Of k ∷ []) h (tokens_of f.row ++ after) → is_plain (next_of (tokens_of h ++ (tokens_of f.row ++ after))) ≡ true → refusals_of h ≡ none_refused (tokens_of h) → Finishes (Of k ∷ gs) after
    go Nil d e s = absurd d
    go (Leaf t x h) d e s = absurd d.0
    go (Node r parts Nil) d e s = record {
      row = Node r parts f.row;
      derives = (d.0, d.1, d.2, f.derives);
      plain = ap (λ (w : List Token). is_plain (next_of w)) (append_assoc (tokens_of parts) (tokens_of f.row) after ∙ ap (λ (w : List Token). w ++ (tokens_of f.row ++ after)) (sym (append-nil (tokens_of parts)))) ∙ e;
      supported = supported_append parts f.row (sym (append-nil (refusals_of parts)) ∙ s ∙ ap none_refused (append-nil (tokens_of parts))) f.supported;
    }
    go (Node r parts (Leaf t x h)) d e s = absurd d.3
    go (Node r parts (Node q ps h)) d e s = absurd d.3

row_finishes : (n : ℕ) → FinishesKind n → (ss : List Symbol) (after : List Token) → all_safe ss ≡ true → all_below n ss ≡ true → is_plain (next_of after) ≡ true → Finishes ss after
row_finishes n one [] after safe below plain = record { row = Nil; derives = tt; plain = plain; supported = refl }
row_finishes n one (Is c ∷ ss) after safe below plain =
    leaf_finishes (Is c) ss after (and_left _ _ safe) (row_finishes n one ss after (and_right (is_plain c) _ safe) below plain) c refl
row_finishes n one (Refused c f ∷ ss) after safe below plain = absurd cc
row_finishes n one (Of k ∷ ss) after safe below plain =
    let f = row_finishes n one ss after safe (and_right (ltb (height_of k) n) _ below) plain in
    front_finishes k ss after f (one k (tokens_of f.row ++ after) (ltb-true _ _ (and_left _ _ below)) f.plain)

kind_finishes : (n : ℕ) → FinishesKind n
kind_finishes zero k after below plain = absurd (omega arith)
kind_finishes (suc n) k after below plain =
    let ch = cheapest k in
    let r = cheapest_of k in
    let f = row_finishes n (kind_finishes n) (parts_of r) after ch.safe (all_below_more (height_of k) n (omega arith) (parts_of r) ch.below) plain in
    record {
      row = Node r f.row Nil;
      derives = (ap Of (sym ch.of_kind), not_avoided r after plain, f.derives, tt);
      plain = ap (λ (w : List Token). is_plain (next_of (w ++ after))) (append-nil (tokens_of f.row)) ∙ f.plain;
      supported = append-nil (refusals_of f.row) ∙ f.supported ∙ ap none_refused (sym (append-nil (tokens_of f.row)));
    }

pub stack_finishes : (gs : List Symbol) → all_safe gs ≡ true → Finishes gs []
stack_finishes [] safe = record { row = Nil; derives = tt; plain = finish_is_plain; supported = refl }
stack_finishes (g ∷ gs) safe = go g safe (stack_finishes gs (and_right (is_safe g) _ safe))
  where
    go : (s : Symbol) → (is_safe s && all_safe gs) ≡ true → Finishes gs [] → Finishes (s ∷ gs) []
    go (Is c) safe f = leaf_finishes (Is c) gs [] (and_left _ _ safe) f c refl
    go (Refused c y) safe f = absurd cc
    go (Of k) safe f = front_finishes k gs [] f (kind_finishes (suc (height_of k)) k (tokens_of f.row ++ []) (omega arith) f.plain)

-- what is done begins a text
pub begins_text : (done : List Token) (steps : List Step) (stack : List Symbol) → Reaches done steps stack → BeginText done
begins_text done steps stack at =
    let f = stack_finishes stack at.safe in
    let u = at.back f.row f.derives in
    record {
      text = u.row;
      more = tokens_of f.row;
      trees = record {
        is_text = u.is_text;
        derives = u.tokens;
        none_is_refused = u.refusals ∙ ap (λ (xs : List (Option Feature)). none_refused done ++ xs) f.supported ∙ sym (none_refused-append done (tokens_of f.row));
      };
    }

-- no row for the stack begins as the rest does
abbrev pub NoRow : List Symbol → List Token → Type 0
NoRow stack [] = (f : Trees) → Derives stack f [] → tokens_of f ≡ [] → ⊥
NoRow stack (t ∷ rest) = (f : Trees) (more : List Token) → Derives stack f [] → tokens_of f ≡ t ∷ more → ⊥

pub is_unexpected : (done : List Token) (steps : List Step) (stack : List Symbol) (rest : List Token) → Reaches done steps stack → NoRow stack rest → IsUnexpected done rest
is_unexpected done steps stack [] at none = record {
  before = begins_text done steps stack at;
  none_goes_on = λ text d e.
      let u = at.forth text [] d (e ∙ sym (append-nil done)) in
      none u.row u.derives u.tokens;
}
is_unexpected done steps stack (t ∷ rest) at none = record {
  before = begins_text done steps stack at;
  none_goes_on = λ text more d e.
      let u = at.forth text (t ∷ more) d e in
      none u.row more u.derives u.tokens;
}

-- the token fits, and is refused
pub is_refused : (done : List Token) (steps added : List Step) (old gs : List Symbol) (g : Symbol) (t : Token) (rest : List Token) (x : Feature) → Reaches done steps old → Expands t.class old (g ∷ gs) added → Fits g t (Some x) → IsRefused x done (t ∷ rest)
is_refused done steps added old gs g t rest x at ex fits =
    let f = stack_finishes gs ex.safe in
    let w = ex.back (Leaf t (Some x) f.row) (fits, f.derives) refl in
    let u = at.back w.row w.derives in
    record {
      token = t;
      behind = rest;
      is_rest = refl;
      text = u.row;
      is_text = u.is_text;
      more = tokens_of f.row;
      begins = u.tokens ∙ ap (λ (ts : List Token). done ++ ts) w.tokens;
      refusals = refusals_of f.row;
      first_refused = u.refusals ∙ ap (λ (xs : List (Option Feature)). none_refused done ++ xs) w.refusals;
    }
