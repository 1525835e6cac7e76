-- Rows for the same symbols that derive the same tokens are read by the same steps, so a text has one meaning.
use Rattle.vlog_grammar.proofs.Common.{◌≡◌, ℕ, zero, suc, ◌+◌, ◌<◌, List, [], ◌∷◌, ◌++◌, length, take, Option, Some, refl, sym, ap, subst, ◌∙◌, arith, append-nil, Token, Step, Take, Begin, Feature}
use Rattle.vlog_grammar.proofs.Common.{Rule, Symbol, Of, choice, kind_of, parts_of, Trees, Nil, Leaf, Node, tokens_of, refusals_of, steps_of, next_of, Derives, start, IsText, steps_for, AreAlikeFor}
use Rattle.vlog_grammar.proofs.Common.{AllFollowed}
use Rattle.vlog_grammar.proofs.Passes.{start_follow}
use Rattle.vlog_grammar.proofs.Rows.{◌⊕◌, joined, tokens-join, refusals-join, steps-join}
use Rattle.vlog_grammar.proofs.Begins.{expanded_followed, front_is_chosen}
use Rattle.vlog_grammar.proofs.Expand.{front_is}
use Rattle.vlog_grammar.proofs.Reach.{front_leaf}

size_of : Trees → ℕ
size_of Nil = 0
size_of (Leaf t x f) = suc (size_of f)
size_of (Node r parts f) = suc (size_of parts + size_of f)

size-join : (f g : Trees) → size_of (f ⊕ g) ≡ size_of f + size_of g
unfolding size_of
size-join Nil g = omega arith
size-join (Leaf t x f) g = omega (arith, size-join f g)
size-join (Node r parts f) g = omega (arith, size-join f g)

size-leaf : (t : Token) (x : Option Feature) (f : Trees) → size_of (Leaf t x f) ≡ suc (size_of f)
unfolding size_of
size-leaf t x f = refl

size-node : (r : Rule) (parts f : Trees) → size_of (Node r parts f) ≡ suc (size_of (parts ⊕ f))
unfolding size_of
size-node r parts f = ap suc (sym (size-join parts f))

pub record ReadAlike (f g : Trees) : Type 0 where
  pub steps : steps_of f ≡ steps_of g
  pub refusals : refusals_of f ≡ refusals_of g

alike_node : (r : Rule) (a b c d : Trees) → ReadAlike (a ⊕ b) (c ⊕ d) → ReadAlike (Node r a b) (Node r c d)
alike_node r a b c d h = record {
  steps = ap (λ (s : List Step). Begin r ∷ s) (sym (steps-join a b) ∙ h.steps ∙ steps-join c d);
  refusals = sym (refusals-join a b) ∙ h.refusals ∙ refusals-join c d;
}

more_followed : (g : Symbol) (gs : List Symbol) (r : Rule) → g ≡ Of (kind_of r) → AllFollowed (g ∷ gs) → AllFollowed (parts_of r ++ gs)
more_followed g gs r is h = expanded_followed r gs (subst (λ (s : Symbol). AllFollowed (s ∷ gs)) is h)

alike : (m : ℕ) (gs : List Symbol) (f g : Trees) → size_of f < m → AllFollowed gs → Derives gs f [] → Derives gs g [] → tokens_of f ≡ tokens_of g → ReadAlike f g
alike zero gs f g small followed d e same = absurd (omega arith)
alike (suc m) [] Nil Nil small followed d e same = record { steps = refl; refusals = refl }
alike (suc m) [] Nil (Leaf t x g) small followed d e same = absurd e
alike (suc m) [] Nil (Node r parts g) small followed d e same = absurd e
alike (suc m) [] (Leaf t x f) g small followed d e same = absurd d
alike (suc m) [] (Node r parts f) g small followed d e same = absurd d
alike (suc m) (h ∷ gs) Nil g small followed d e same = absurd d
alike (suc m) (h ∷ gs) (Leaf t x f) g small followed d e same =
    let a = front_leaf h gs t x g (tokens_of f) d.0 e (sym same) in
    let r = alike m gs f a.0 (omega (arith, size-leaf t x f)) followed.1 d.1 a.2 (sym a.3) in
    subst (λ (w : Trees). ReadAlike (Leaf t x f) w) (sym a.1) (record { steps = ap (λ (s : List Step). Take t ∷ s) r.steps; refusals = ap (λ (s : List (Option Feature)). x ∷ s) r.refusals })
alike (suc m) (h ∷ gs) (Node r parts f) g small followed d e same =
    let chosen : choice (kind_of r) (next_of (tokens_of g)) ≡ Some r =
    ap (λ (ts : List Token). choice (kind_of r) (next_of ts)) (sym same ∙ sym (append-nil (tokens_of parts ++ tokens_of f))) ∙ front_is_chosen h gs r parts f d followed in
    let a = front_is h gs (kind_of r) (next_of (tokens_of g)) g followed d.0 e refl in
    let rule : a.0 ≡ r = cc (a.4, chosen) in
    let node : g ≡ Node r a.1 a.2 = a.3 ∙ ap (λ (q : Rule). Node q a.1 a.2) rule in
    let e' = subst (λ (w : Trees). Derives (h ∷ gs) w []) node e in
    let tokens : tokens_of (parts ⊕ f) ≡ tokens_of (a.1 ⊕ a.2) = tokens-join parts f ∙ same ∙ ap tokens_of node ∙ sym (tokens-join a.1 a.2) in
    let row = parts_of r in
    let inner = alike m (row ++ gs) (parts ⊕ f) (a.1 ⊕ a.2) (omega (arith, size-node r parts f)) (more_followed h gs r d.0 followed) (joined row gs parts f [] d.2 d.3) (joined row gs a.1 a.2 [] e'.2 e'.3) tokens in
    subst (λ (w : Trees). ReadAlike (Node r parts f) w) (sym node) (alike_node r parts f a.1 a.2 inner)

-- texts with the same tokens are read by the same steps, and the same is refused in them
pub texts_alike : (f g : Trees) → IsText f → IsText g → tokens_of f ≡ tokens_of g → ReadAlike f g
texts_alike f g d e same = alike (suc (size_of f)) start f g (omega arith) (start_follow, tt) d e same

-- rows for the same symbols that begin with the same tokens are refused the same of these
front_alike : (m : ℕ) (gs : List Symbol) (f g : Trees) (p x y : List Token) → size_of f < m → AllFollowed gs → Derives gs f [] → Derives gs g [] → tokens_of f ≡ p ++ x → tokens_of g ≡ p ++ y → take (length p) (refusals_of f) ≡ take (length p) (refusals_of g)
front_alike zero gs f g p x y small followed d e first second = absurd (omega arith)
front_alike (suc m) gs f g [] x y small followed d e first second = refl
front_alike (suc m) [] Nil g (t ∷ p) x y small followed d e first second = absurd cc
front_alike (suc m) [] (Leaf u z f) g (t ∷ p) x y small followed d e first second = absurd d
front_alike (suc m) [] (Node r parts f) g (t ∷ p) x y small followed d e first second = absurd d
front_alike (suc m) (h ∷ gs) Nil g (t ∷ p) x y small followed d e first second = absurd d
front_alike (suc m) (h ∷ gs) (Leaf u z f) g (t ∷ p) x y small followed d e first second =
    let token : u ≡ t = cc in
    let a = front_leaf h gs u z g (p ++ y) d.0 e (second ∙ ap (λ (w : Token). w ∷ (p ++ y)) (sym token)) in
    let r = front_alike m gs f a.0 p x y (omega (arith, size-leaf u z f)) followed.1 d.1 a.2 (cc) a.3 in
    ap (λ (w : List (Option Feature)). z ∷ w) r ∙ ap (λ (w : Trees). take (suc (length p)) (refusals_of w)) (sym a.1)
front_alike (suc m) (h ∷ gs) (Node r parts f) g (t ∷ p) x y small followed d e first second =
    let next : next_of (tokens_of g) ≡ t.class = ap next_of second in
    let chosen : choice (kind_of r) t.class ≡ Some r =
    ap (λ (ts : List Token). choice (kind_of r) (next_of ts)) (sym first ∙ sym (append-nil (tokens_of parts ++ tokens_of f))) ∙ front_is_chosen h gs r parts f d followed in
    let a = front_is h gs (kind_of r) t.class g followed d.0 e next in
    let rule : a.0 ≡ r = cc (a.4, chosen) in
    let node : g ≡ Node r a.1 a.2 = a.3 ∙ ap (λ (q : Rule). Node q a.1 a.2) rule in
    let e' = subst (λ (w : Trees). Derives (h ∷ gs) w []) node e in
    let row = parts_of r in
    let inner = front_alike m (row ++ gs) (parts ⊕ f) (a.1 ⊕ a.2) (t ∷ p) x y (omega (arith, size-node r parts f)) (more_followed h gs r d.0 followed) (joined row gs parts f [] d.2 d.3) (joined row gs a.1 a.2 [] e'.2 e'.3) (tokens-join parts f ∙ first) (tokens-join a.1 a.2 ∙ ap tokens_of (sym node) ∙ second) in
    ap (λ (w : List (Option Feature)). take (suc (length p)) w) (sym (refusals-join parts f)) ∙ inner ∙ ap (λ (w : List (Option Feature)). take (suc (length p)) w) (refusals-join a.1 a.2) ∙ ap (λ (w : Trees). take (suc (length p)) (refusals_of w)) (sym node)

-- texts that begin with the same tokens are refused the same of these
pub texts_refused_alike : (f g : Trees) (p x y : List Token) → IsText f → IsText g → tokens_of f ≡ p ++ x → tokens_of g ≡ p ++ y → take (length p) (refusals_of f) ≡ take (length p) (refusals_of g)
texts_refused_alike f g p x y d e first second = front_alike (suc (size_of f)) start f g p x y (omega arith) (start_follow, tt) d e first second

-- rows for the same symbols that begin with the same tokens are read by the same steps up to the last of these
front_steps : (m : ℕ) (gs : List Symbol) (f g : Trees) (p x y : List Token) → size_of f < m → AllFollowed gs → Derives gs f [] → Derives gs g [] → tokens_of f ≡ p ++ x → tokens_of g ≡ p ++ y → steps_for (length p) (steps_of f) ≡ steps_for (length p) (steps_of g)
front_steps zero gs f g p x y small followed d e first second = absurd (omega arith)
front_steps (suc m) gs f g [] x y small followed d e first second = refl
front_steps (suc m) [] Nil g (t ∷ p) x y small followed d e first second = absurd cc
front_steps (suc m) [] (Leaf u z f) g (t ∷ p) x y small followed d e first second = absurd d
front_steps (suc m) [] (Node r parts f) g (t ∷ p) x y small followed d e first second = absurd d
front_steps (suc m) (h ∷ gs) Nil g (t ∷ p) x y small followed d e first second = absurd d
front_steps (suc m) (h ∷ gs) (Leaf u z f) g (t ∷ p) x y small followed d e first second =
    let token : u ≡ t = cc in
    let a = front_leaf h gs u z g (p ++ y) d.0 e (second ∙ ap (λ (w : Token). w ∷ (p ++ y)) (sym token)) in
    let r = front_steps m gs f a.0 p x y (omega (arith, size-leaf u z f)) followed.1 d.1 a.2 (cc) a.3 in
    ap (λ (w : List Step). Take u ∷ w) r ∙ ap (λ (w : Trees). steps_for (suc (length p)) (steps_of w)) (sym a.1)
front_steps (suc m) (h ∷ gs) (Node r parts f) g (t ∷ p) x y small followed d e first second =
    let next : next_of (tokens_of g) ≡ t.class = ap next_of second in
    let chosen : choice (kind_of r) t.class ≡ Some r =
    ap (λ (ts : List Token). choice (kind_of r) (next_of ts)) (sym first ∙ sym (append-nil (tokens_of parts ++ tokens_of f))) ∙ front_is_chosen h gs r parts f d followed in
    let a = front_is h gs (kind_of r) t.class g followed d.0 e next in
    let rule : a.0 ≡ r = cc (a.4, chosen) in
    let node : g ≡ Node r a.1 a.2 = a.3 ∙ ap (λ (q : Rule). Node q a.1 a.2) rule in
    let e' = subst (λ (w : Trees). Derives (h ∷ gs) w []) node e in
    let row = parts_of r in
    let inner = front_steps m (row ++ gs) (parts ⊕ f) (a.1 ⊕ a.2) (t ∷ p) x y (omega (arith, size-node r parts f)) (more_followed h gs r d.0 followed) (joined row gs parts f [] d.2 d.3) (joined row gs a.1 a.2 [] e'.2 e'.3) (tokens-join parts f ∙ first) (tokens-join a.1 a.2 ∙ ap tokens_of (sym node) ∙ second) in
    let up_to : List Step → List Step = λ w. Begin r ∷ steps_for (suc (length p)) w in
    ap up_to (sym (steps-join parts f)) ∙ ap (λ (w : List Step). Begin r ∷ w) inner ∙ ap up_to (steps-join a.1 a.2) ∙ ap (λ (w : Trees). steps_for (suc (length p)) (steps_of w)) (sym node)

-- texts that begin with the same tokens are alike up to the last of these
pub texts_alike_for : (f g : Trees) (p x y : List Token) → IsText f → IsText g → tokens_of f ≡ p ++ x → tokens_of g ≡ p ++ y → AreAlikeFor (length p) f g
texts_alike_for f g p x y d e first second = record {
  steps = front_steps (suc (size_of f)) start f g p x y (omega arith) (start_follow, tt) d e first second;
  refusals = texts_refused_alike f g p x y d e first second;
}

pub same_steps : (f g : Trees) → IsText f → IsText g → tokens_of f ≡ tokens_of g → steps_of f ≡ steps_of g
same_steps f g d e same = (texts_alike f g d e same).steps
