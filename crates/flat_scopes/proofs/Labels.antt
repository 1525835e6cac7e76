-- Labels that are merged one list after the other, and whether a name is one of them.
use Rattle.flat_scopes.proofs.Common.{◌≡◌, ℕ, Bool, true, false, ◌||◌, List, [], ◌∷◌, ◌++◌, Option, Some, refl, sym, ap, ◌∙◌, bytes_eq, Span, Expr, Identifier, Item, is_among, labels_step, merged}
use Rattle.flat_scopes.proofs.Common.{with_label, labels_of}
use Rattle.vlog_syntax.specs.declared.item.Item.TheVariants as i
use Rattle.vlog_syntax.specs.declared.item.Item.TheOpen as t
use Rattle.vlog_syntax.specs.declared.item.Item.TheFolds.{fold-roll-Item}
use Rattle.vlog_syntax.specs.declared.item.Item.TheViews.{rolls-IfGenerate}

pub merged_twice : (xs ys zs : List Identifier) → merged (merged xs ys) zs ≡ merged xs (ys ++ zs)
merged_twice xs [] zs = refl
merged_twice xs (y ∷ ys) zs = merged_twice (with_label xs y) ys zs

-- the labels of a condition with two parts
labels_both : (at : Span) (condition : Expr) (c d : Item) → labels_of (i.IfGenerate at condition c (Some d)) ≡ labels_of c ++ labels_of d
labels_both at condition c d = ap labels_of (sym (rolls-IfGenerate at condition c (Some d))) ∙ fold-roll-Item (List Identifier) labels_step (t.IfGenerate at condition c (Some d))

-- the labels of both parts of a condition
pub both_merged : (xs ys zs : List Identifier) (item a b c d : Item) (second : Option Item) (at : Span) (condition : Expr) → item ≡ i.IfGenerate at condition a second → second ≡ Some b → c ≡ a → d ≡ b → ys ≡ merged xs (labels_of c) → zs ≡ merged ys (labels_of d) → zs ≡ merged xs (labels_of item)
both_merged xs ys zs item a b c d second at condition e f p q g h =
    let there : item ≡ i.IfGenerate at condition c (Some d) = e ∙ ap (λ (s : Option Item). i.IfGenerate at condition a s) f ∙ ap (λ (x : Item). i.IfGenerate at condition x (Some b)) (sym p) ∙ ap (λ (x : Item). i.IfGenerate at condition c (Some x)) (sym q) in
    h ∙ ap (λ (l : List Identifier). merged l (labels_of d)) g ∙ merged_twice xs (labels_of c) (labels_of d) ∙ ap (merged xs) (sym (labels_both at condition c d)) ∙ ap (λ (x : Item). merged xs (labels_of x)) (sym there)

pub or_more : (a b c : Bool) → (a || (b || c)) ≡ ((a || b) || c)
or_more true b c = refl
or_more false b c = refl

among_both : (xs ys : List Identifier) (name : List ℕ) → is_among (xs ++ ys) name ≡ (is_among xs name || is_among ys name)
among_both [] ys name = refl
among_both (x ∷ xs) ys name = ap (λ (b : Bool). bytes_eq x.name name || b) (among_both xs ys name) ∙ or_more (bytes_eq x.name name) (is_among xs name) (is_among ys name)

-- a label of both parts of a condition
module _ (item a b c d : Item) (second : Option Item) (at : Span) (condition : Expr) (name : List ℕ) (e : item ≡ i.IfGenerate at condition a second) (f : second ≡ Some b) (p : c ≡ a) (q : d ≡ b) where
  either_part : is_among (labels_of item) name ≡ (is_among (labels_of c) name || is_among (labels_of d) name)
  either_part =
      let there : item ≡ i.IfGenerate at condition c (Some d) = e ∙ ap (λ (s : Option Item). i.IfGenerate at condition a s) f ∙ ap (λ (x : Item). i.IfGenerate at condition x (Some b)) (sym p) ∙ ap (λ (x : Item). i.IfGenerate at condition c (Some x)) (sym q) in
      ap (λ (x : Item). is_among (labels_of x) name) there ∙ ap (λ (l : List Identifier). is_among l name) (labels_both at condition c d) ∙ among_both (labels_of c) (labels_of d) name

  pub either_label : (found later all : Bool) → found ≡ is_among (labels_of c) name → later ≡ is_among (labels_of d) name → all ≡ (found || later) → all ≡ is_among (labels_of item) name
  either_label found later all h l r = r ∙ ap (λ (x : Bool). x || later) h ∙ ap (λ (x : Bool). is_among (labels_of c) name || x) l ∙ sym either_part
