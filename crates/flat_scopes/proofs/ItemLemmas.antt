-- One item more.
use Rattle.flat_scopes.proofs.Common.{◌≡◌, ◌≤◌, ℕ, zero, suc, List, [], ◌∷◌, length, drop, Option, refl, sym, subst, arith, Span, Expr, Identifier, Item, out-Item, PlainItem, Names, Opened, declared}
use Rattle.flat_scopes.proofs.Common.{labels_of, body_labels, merged, construct, Opens, opened, open_plain, open_region, open_loop, open_if, open_block, open_null}
use Rattle.vlog_syntax.specs.declared.item.GenerateLoop.{GenerateLoop}
use Rattle.vlog_syntax.specs.declared.item.Item.TheVariants as i
use Rattle.flat_scopes.specs.declared.opening.Head.{Head}

module _ (h : Head) (outside : Names) (o n : Opened) (item : Item) where
  -- what is left of the items from here gives the same end
  abbrev pub Goes : Type 0
  Goes = (more : List Item) (last : Opened) → Opens h outside n more last → Opens h outside o (item ∷ more) last

  pub plain_opens : (x : PlainItem) → item ≡ i.Plain x → n ≡ declared h outside o x → Goes
  plain_opens x e f more last d = subst (λ (y : Item). Opens h outside o (y ∷ more) last) (sym e) (open_plain o last x more (subst (λ (y : Opened). Opens h outside y more last) f d))

  pub region_opens : (at : Span) (items : List Item) → item ≡ i.GenerateRegion at items → Opens h outside o items n → Goes
  region_opens at items e f more last d = subst (λ (y : Item). Opens h outside o (y ∷ more) last) (sym e) (open_region o n last at items more f d)

  pub loop_opens : (loop : GenerateLoop) (body : Item) → item ≡ i.LoopGenerate loop body → n ≡ construct o item (body_labels (out-Item body)) → Goes
  loop_opens loop body e f more last d = subst (λ (y : Item). Opens h outside o (y ∷ more) last) (sym e) (open_loop o last loop body more (subst (λ (y : Item). Opens h outside (construct o y (body_labels (out-Item body))) more last) e (subst (λ (y : Opened). Opens h outside y more last) f d)))

  pub condition_opens : (at : Span) (condition : Expr) (first : Item) (second : Option Item) → item ≡ i.IfGenerate at condition first second → n ≡ construct o item (merged [] (labels_of item)) → Goes
  condition_opens at condition first second e f more last d = subst (λ (y : Item). Opens h outside o (y ∷ more) last) (sym e) (open_if o last at condition first second more (subst (λ (y : Item). Opens h outside (construct o y (merged [] (labels_of y))) more last) e (subst (λ (y : Opened). Opens h outside y more last) f d)))

  pub block_opens : (at : Span) (name : Option Identifier) (items : List Item) → item ≡ i.GenerateBlock at name items → n ≡ o → Goes
  block_opens at name items e f more last d = subst (λ (y : Item). Opens h outside o (y ∷ more) last) (sym e) (open_block o last at name items more (subst (λ (y : Opened). Opens h outside y more last) f d))

  pub null_opens : (at : Span) → item ≡ i.NullGenerate at → n ≡ o → Goes
  null_opens at e f more last d = subst (λ (y : Item). Opens h outside o (y ∷ more) last) (sym e) (open_null o last at more (subst (λ (y : Opened). Opens h outside y more last) f d))

-- at the end no items are left
none_left : (items : List Item) (k : ℕ) → length items ≤ k → drop k items ≡ []
none_left [] zero h = refl
none_left [] (suc k) h = refl
none_left (x ∷ more) zero h = absurd (omega arith)
none_left (x ∷ more) (suc k) h = none_left more k (omega arith)

pub items_open : (h : Head) (outside : Names) (first last : Opened) (items : List Item) (k : ℕ) → length items ≤ k → ((o : Opened) → Opens h outside last (drop k items) o → Opens h outside first items o) → Opens h outside first items last
items_open h outside first last items k past goes = goes last (subst (λ (l : List Item). Opens h outside last l last) (sym (none_left items k past)) (opened last))
