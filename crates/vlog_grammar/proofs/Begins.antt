-- What the tokens of a row begin with.
use Rattle.vlog_grammar.proofs.Common.{◌≡◌, Bool, true, false, ◌&&◌, ◌||◌, not, List, [], ◌∷◌, ◌++◌, Option, Some, ◌⊎◌, inl, inr, refl, sym, ap, subst, ◌∙◌, append_assoc, Token, Feature, Class}
use Rattle.vlog_grammar.proofs.Common.{Finish, Kind, Rule, Symbol, Is, Refused, Of, choice, kind_of, parts_of, is_avoided, Trees, Nil, Leaf, Node, tokens_of, next_of, Fits, Derives, IsFollowed}
use Rattle.vlog_grammar.proofs.Common.{AllFollowed, is_null, is_same, is_first, is_follow, is_finish, can_vanish, can_begin, can_come, or_left, or_right, and_from}
use Rattle.vlog_grammar.proofs.Passes.{first_closed, null_closed, follow_closed, follows_within, implies, implied, and_left, and_right, calls_for, is_chosen, finish_is_finish, is_same-refl}

-- the tokens p of a row for ss, with `after` behind: what they begin with
abbrev pub Begins : List Symbol → List Token → List Token → Type 0
Begins ss p after = (can_begin ss (next_of (p ++ after)) ≡ true) ⊎ ((p ≡ []) × (can_vanish ss ≡ true))

leaf_begins : (s : Symbol) (t : Token) (x : Option Feature) (ss : List Symbol) → Fits s t x → can_begin (s ∷ ss) t.class ≡ true
leaf_begins (Is c) t x ss h = subst (λ w. is_same c w ≡ true) (sym h.0) (is_same-refl c)
leaf_begins (Refused c y) t x ss h = subst (λ w. is_same c w ≡ true) (sym h.0) (is_same-refl c)
leaf_begins (Of k) t x ss h = absurd h

node_begins : (r : Rule) (ss : List Symbol) (p q after : List Token) → Begins (parts_of r) p (q ++ after) → Begins ss q after → Begins (Of (kind_of r) ∷ ss) (p ++ q) after
node_begins r ss p q after (inl h) second =
    let e : next_of (p ++ (q ++ after)) ≡ next_of ((p ++ q) ++ after) = ap next_of (sym (append_assoc p q after)) in
    inl (or_left _ _ (first_closed r _ (subst (λ w. can_begin (parts_of r) w ≡ true) e h)))
node_begins r ss p q after (inr h) (inl k) =
    let e : next_of (q ++ after) ≡ next_of ((p ++ q) ++ after) = ap (λ (w : List Token). next_of ((w ++ q) ++ after)) (sym h.0) in
    inl (or_right (is_first (kind_of r) _) _ (and_from _ _ (null_closed r h.1) (subst (λ w. can_begin ss w ≡ true) e k)))
node_begins r ss p q after (inr h) (inr k) =
    inr (ap (λ (w : List Token). w ++ q) h.0 ∙ k.0, and_from _ _ (null_closed r h.1) k.1)

pub begins : (gs : List Symbol) (f : Trees) (after : List Token) → Derives gs f after → Begins gs (tokens_of f) after
begins [] Nil after d = inr (refl, refl)
begins [] (Leaf t x f) after d = absurd d
begins [] (Node r parts f) after d = absurd d
begins (g ∷ gs) Nil after d = absurd d
begins (g ∷ gs) (Leaf t x f) after d = inl (leaf_begins g t x gs d.0)
begins (g ∷ gs) (Node r parts f) after d =
    let first : Begins (parts_of r) (tokens_of parts) (tokens_of f ++ after) =
    begins (parts_of r) parts (tokens_of f ++ after) d.2 in
    let both : Begins (Of (kind_of r) ∷ gs) (tokens_of parts ++ tokens_of f) after =
    node_begins r gs (tokens_of parts) (tokens_of f) after first (begins gs f after d.3) in
    subst (λ (s : Symbol). Begins (s ∷ gs) (tokens_of parts ++ tokens_of f) after) (sym d.0) both

begins_come : (ss : List Symbol) (p : List Token) → Begins ss p [] → can_come ss (is_finish (next_of (p ++ []))) (next_of (p ++ [])) ≡ true
begins_come ss p (inl h) = or_left _ _ h
begins_come ss p (inr h) =
    let e : Finish ≡ next_of (p ++ []) = ap (λ (w : List Token). next_of (w ++ [])) (sym h.0) in
    or_right (can_begin ss _) _ (and_from _ _ h.1 (subst (λ w. is_finish w ≡ true) e finish_is_finish))

-- which production a tree at the front has
calls : (r : Rule) (ss : List Symbol) (p q : List Token) → Begins (parts_of r) p (q ++ []) → Begins ss q [] → is_avoided r (next_of (q ++ [])) ≡ false → IsFollowed (Of (kind_of r)) ss → calls_for r (next_of ((p ++ q) ++ [])) ≡ true
calls r ss p q (inl h) second avoided followed =
    let e : next_of (p ++ (q ++ [])) ≡ next_of ((p ++ q) ++ []) = ap next_of (sym (append_assoc p q [])) in
    or_left _ _ (subst (λ w. can_begin (parts_of r) w ≡ true) e h)
calls r ss p q (inr h) second avoided followed =
    let e : next_of (q ++ []) ≡ next_of ((p ++ q) ++ []) = ap (λ (w : List Token). next_of ((w ++ q) ++ [])) (sym h.0) in
    let come = begins_come ss q second in
    let unavoided : not (is_avoided r (next_of (q ++ []))) ≡ true = ap not avoided in
    subst (λ w. calls_for r w ≡ true) e
    (or_right (can_begin (parts_of r) _) _ (and_from _ _ h.1 (and_from _ _ (followed _ come) unavoided)))

pub front_is_chosen : (g : Symbol) (gs : List Symbol) (r : Rule) (parts f : Trees) → Derives (g ∷ gs) (Node r parts f) [] → AllFollowed (g ∷ gs) → choice (kind_of r) (next_of ((tokens_of parts ++ tokens_of f) ++ [])) ≡ Some r
front_is_chosen g gs r parts f d followed =
    let first : Begins (parts_of r) (tokens_of parts) (tokens_of f ++ []) =
    begins (parts_of r) parts (tokens_of f ++ []) d.2 in
    is_chosen r _ (calls r gs (tokens_of parts) (tokens_of f) first (begins gs f [] d.3) d.1 (subst (λ (s : Symbol). IsFollowed s gs) d.0 followed.0))

-- the symbols that a production puts in the place of its kind are followed too
come_more : (ss more : List Symbol) (y : Class) (o : Bool) → can_come (ss ++ more) o y ≡ can_come ss (can_come more o y) y
come_more [] more y o = refl
come_more (Is c ∷ ss) more y o = refl
come_more (Refused c f ∷ ss) more y o = refl
come_more (Of k ∷ ss) more y o = come_of (is_first k y) (is_null k) _ _ _ _ _ (come_more ss more y o)
  where
    come_of : (f n b v b' v' t : Bool) → (b || (v && o)) ≡ (b' || (v' && t)) → ((f || (n && b)) || ((n && v) && o)) ≡ ((f || (n && b')) || ((n && v') && t))
    come_of true n b v b' v' t h = refl
    come_of false true b v b' v' t h = h
    come_of false false b v b' v' t h = refl

parts_followed : (o : Kind) (ss more : List Symbol) → ((y : Class) → follows_within o ss y ≡ true) → IsFollowed (Of o) more → AllFollowed more → AllFollowed (ss ++ more)
parts_followed o [] more within behind followed = followed
parts_followed o (Is c ∷ ss) more within behind followed = (tt, parts_followed o ss more within behind followed)
parts_followed o (Refused c f ∷ ss) more within behind followed = (tt, parts_followed o ss more within behind followed)
parts_followed o (Of k ∷ ss) more within behind followed = (
  λ y h. implied (can_come ss (is_follow o y) y) (is_follow k y) (and_left _ _ (within y)) (come_up (can_begin ss y) (can_vanish ss) (can_come more (is_finish y) y) (is_follow o y) (sym (come_more ss more y (is_finish y)) ∙ h) (behind y)),
  parts_followed o ss more (λ y. and_right (implies (can_come ss (is_follow o y) y) (is_follow k y)) _ (within y)) behind followed,
)
  where
    come_up : (b v s t : Bool) → (b || (v && s)) ≡ true → (s ≡ true → t ≡ true) → (b || (v && t)) ≡ true
    come_up true v s t h up = refl
    come_up false true s t h up = up h
    come_up false false s t h up = h

pub expanded_followed : (r : Rule) (more : List Symbol) → AllFollowed (Of (kind_of r) ∷ more) → AllFollowed (parts_of r ++ more)
expanded_followed r more h = parts_followed (kind_of r) (parts_of r) more (follow_closed r) h.0 h.1
