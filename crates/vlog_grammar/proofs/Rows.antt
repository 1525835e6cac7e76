-- Rows of trees side by side.
use Rattle.vlog_grammar.proofs.Common.{◌≡◌, false, List, [], ◌∷◌, ◌++◌, Option, refl, sym, ap, subst, ◌∙◌, append_assoc, Token, Step, Take, Begin, Feature, Symbol, parts_of, is_avoided, Trees, Nil}
use Rattle.vlog_grammar.proofs.Common.{Leaf, Node, tokens_of, refusals_of, steps_of, next_of, Derives}

infixl 10 ◌⊕◌
abbrev pub ◌⊕◌ : Trees → Trees → Trees
Nil ⊕ g = g
(Leaf t x f) ⊕ g = Leaf t x (f ⊕ g)
(Node r parts f) ⊕ g = Node r parts (f ⊕ g)

pub tokens-join : (f g : Trees) → tokens_of (f ⊕ g) ≡ tokens_of f ++ tokens_of g
tokens-join Nil g = refl
tokens-join (Leaf t x f) g = ap (λ (ts : List Token). t ∷ ts) (tokens-join f g)
tokens-join (Node r parts f) g =
    ap (λ (ts : List Token). tokens_of parts ++ ts) (tokens-join f g) ∙ sym (append_assoc (tokens_of parts) (tokens_of f) (tokens_of g))

pub refusals-join : (f g : Trees) → refusals_of (f ⊕ g) ≡ refusals_of f ++ refusals_of g
refusals-join Nil g = refl
refusals-join (Leaf t x f) g = ap (λ (ts : List (Option Feature)). x ∷ ts) (refusals-join f g)
refusals-join (Node r parts f) g =
    ap (λ (ts : List (Option Feature)). refusals_of parts ++ ts) (refusals-join f g) ∙ sym (append_assoc (refusals_of parts) (refusals_of f) (refusals_of g))

pub steps-join : (f g : Trees) → steps_of (f ⊕ g) ≡ steps_of f ++ steps_of g
steps-join Nil g = refl
steps-join (Leaf t x f) g = ap (λ (ts : List Step). Take t ∷ ts) (steps-join f g)
steps-join (Node r parts f) g =
    ap (λ (ts : List Step). Begin r ∷ (steps_of parts ++ ts)) (steps-join f g) ∙ ap (λ (ts : List Step). Begin r ∷ ts) (sym (append_assoc (steps_of parts) (steps_of f) (steps_of g)))

-- a row for two rows of symbols is a row for each
pub record Parts (a b : List Symbol) (f : Trees) (after : List Token) : Type 0 where
  pub front : Trees
  pub back : Trees
  pub are : f ≡ front ⊕ back
  pub front_derives : Derives a front (tokens_of back ++ after)
  pub back_derives : Derives b back after

tokens_behind : (f g : Trees) (after : List Token) → tokens_of (f ⊕ g) ++ after ≡ tokens_of f ++ (tokens_of g ++ after)
tokens_behind f g after = ap (λ (ts : List Token). ts ++ after) (tokens-join f g) ∙ append_assoc (tokens_of f) (tokens_of g) after

pub split : (a b : List Symbol) (f : Trees) (after : List Token) → Derives (a ++ b) f after → Parts a b f after
split [] b f after d = record { front = Nil; back = f; are = refl; front_derives = tt; back_derives = d }
split (g ∷ gs) b Nil after d = absurd d
split (g ∷ gs) b (Leaf t x f) after d =
    let p = split gs b f after d.1 in
    record { front = Leaf t x p.front; back = p.back; are = ap (λ (h : Trees). Leaf t x h) p.are; front_derives = (d.0, p.front_derives); back_derives = p.back_derives }
split (g ∷ gs) b (Node r parts f) after d =
    let p = split gs b f after d.3 in
    let e : tokens_of f ++ after ≡ tokens_of p.front ++ (tokens_of p.back ++ after) =
    ap (λ (h : Trees). tokens_of h ++ after) p.are ∙ tokens_behind p.front p.back after in
    record {
      front = Node r parts p.front;
      back = p.back;
      are = ap (λ (h : Trees). Node r parts h) p.are;
      front_derives = (
        d.0,
        subst (λ (ts : List Token). is_avoided r (next_of ts) ≡ false) e d.1,
        subst (λ (ts : List Token). Derives (parts_of r) parts ts) e d.2,
        p.front_derives,
      );
      back_derives = p.back_derives;
    }

pub joined : (a b : List Symbol) (f g : Trees) (after : List Token) → Derives a f (tokens_of g ++ after) → Derives b g after → Derives (a ++ b) (f ⊕ g) after
joined [] b Nil g after d e = e
joined [] b (Leaf t x f) g after d e = absurd d
joined [] b (Node r parts f) g after d e = absurd d
joined (h ∷ hs) b Nil g after d e = absurd d
joined (h ∷ hs) b (Leaf t x f) g after d e = (d.0, joined hs b f g after d.1 e)
joined (h ∷ hs) b (Node r parts f) g after d e =
    let q : tokens_of f ++ (tokens_of g ++ after) ≡ tokens_of (f ⊕ g) ++ after = sym (tokens_behind f g after) in (
      d.0,
      subst (λ (ts : List Token). is_avoided r (next_of ts) ≡ false) q d.1,
      subst (λ (ts : List Token). Derives (parts_of r) parts ts) q d.2,
      joined hs b f g after d.3 e,
    )
