-- The items of a scope are opened in one way, and so is a module.
use Rattle.flat_once.proofs.Common.{◌≡◌, List, [], ◌∷◌, refl, sym, ap, ◌∙◌, subst, Item, out-Item, Item-F, Module, Opened}
use Rattle.vlog_syntax.specs.declared.item.Item.TheVariants as i
use Rattle.vlog_syntax.specs.declared.item.Item.TheOpen as t
use Rattle.vlog_meaning.specs.Scopes.{Names}
use Rattle.flat_scopes.specs.declared.opening.Head.{Head}
use Rattle.flat_scopes.specs.Opens.{declared, construct, labels_of, body_labels, merged, Opens, opened, open_plain, open_region, open_loop, open_if, open_block, open_null, footer, OpensModule}
use Rattle.flat_once.proofs.Forms.{out-plain, out-region, out-loop, out-if, out-block, out-null}

-- what an item of this form stands for, with those behind it
abbrev AsForm : Head → Names → Opened → Item → Item-F Item → List Item → Opened → Type 0
AsForm h outside o x (t.Plain y) more last = Opens h outside (declared h outside o y) more last
AsForm h outside o x (t.GenerateRegion at items) more last = (mid : Opened) × Opens h outside o items mid × Opens h outside mid more last
AsForm h outside o x (t.LoopGenerate loop body) more last = Opens h outside (construct o x (body_labels (out-Item body))) more last
AsForm h outside o x (t.IfGenerate at c first second) more last = Opens h outside (construct o x (merged [] (labels_of x))) more last
AsForm h outside o x (t.GenerateBlock at name items) more last = Opens h outside o more last
AsForm h outside o x (t.NullGenerate at) more last = Opens h outside o more last

abbrev AsItems : Head → Names → Opened → List Item → Opened → Type 0
AsItems h outside o [] last = last ≡ o
AsItems h outside o (x ∷ more) last = AsForm h outside o x (out-Item x) more last

as_items : (h : Head) (outside : Names) (o : Opened) (items : List Item) (last : Opened) → Opens h outside o items last → AsItems h outside o items last
as_items h outside o items last (opened x) = refl
as_items h outside o items last (open_plain x end item more d) = subst (λ (f : Item-F Item). AsForm h outside x (i.Plain item) f more end) (sym (out-plain item)) d
as_items h outside o items last (open_region x mid end at inner more d e) = subst (λ (f : Item-F Item). AsForm h outside x (i.GenerateRegion at inner) f more end) (sym (out-region at inner)) (mid, d, e)
as_items h outside o items last (open_loop x end loop body more d) = subst (λ (f : Item-F Item). AsForm h outside x (i.LoopGenerate loop body) f more end) (sym (out-loop loop body)) d
as_items h outside o items last (open_if x end at c first second more d) = subst (λ (f : Item-F Item). AsForm h outside x (i.IfGenerate at c first second) f more end) (sym (out-if at c first second)) d
as_items h outside o items last (open_block x end at name inner more d) = subst (λ (f : Item-F Item). AsForm h outside x (i.GenerateBlock at name inner) f more end) (sym (out-block at name inner)) d
as_items h outside o items last (open_null x end at more d) = subst (λ (f : Item-F Item). AsForm h outside x (i.NullGenerate at) f more end) (sym (out-null at)) d

-- what the first item stands for, where its form is known
as_form : (h : Head) (outside : Names) (o : Opened) (x : Item) (f : Item-F Item) (more : List Item) (last : Opened) → out-Item x ≡ f → Opens h outside o (x ∷ more) last → AsForm h outside o x f more last
as_form h outside o x f more last is d = subst (λ (g : Item-F Item). AsForm h outside o x g more last) is (as_items h outside o (x ∷ more) last d)

pub opens_once : (h : Head) (outside : Names) (o : Opened) (items : List Item) (last other : Opened) → Opens h outside o items last → Opens h outside o items other → last ≡ other
opens_once h outside o items last other (opened x) e = sym (as_items h outside x [] other e)
opens_once h outside o items last other (open_plain x end item more d) e = opens_once h outside (declared h outside x item) more end other d (as_form h outside x (i.Plain item) (t.Plain item) more other (out-plain item) e)
opens_once h outside o items last other (open_region x mid end at inner more d f) e =
    let got = as_form h outside x (i.GenerateRegion at inner) (t.GenerateRegion at inner) more other (out-region at inner) e in
    let same : mid ≡ got.0 = opens_once h outside x inner mid got.0 d got.1 in
    opens_once h outside mid more end other f (subst (λ (m : Opened). Opens h outside m more other) (sym same) got.2)
opens_once h outside o items last other (open_loop x end loop body more d) e =
    opens_once h outside (construct x (i.LoopGenerate loop body) (body_labels (out-Item body))) more end other d (as_form h outside x (i.LoopGenerate loop body) (t.LoopGenerate loop body) more other (out-loop loop body) e)
opens_once h outside o items last other (open_if x end at c first second more d) e =
    opens_once h outside (construct x (i.IfGenerate at c first second) (merged [] (labels_of (i.IfGenerate at c first second)))) more end other d (as_form h outside x (i.IfGenerate at c first second) (t.IfGenerate at c first second) more other (out-if at c first second) e)
opens_once h outside o items last other (open_block x end at name inner more d) e = opens_once h outside x more end other d (as_form h outside x (i.GenerateBlock at name inner) (t.GenerateBlock at name inner) more other (out-block at name inner) e)
opens_once h outside o items last other (open_null x end at more d) e = opens_once h outside x more end other d (as_form h outside x (i.NullGenerate at) (t.NullGenerate at) more other (out-null at) e)

pub module_once : (h : Head) (outside : Names) (m : Module) (first last other : Opened) → OpensModule h outside m first last → OpensModule h outside m first other → last ≡ other
module_once h outside m first last other d e =
    let same : d.body ≡ e.body = opens_once h outside _ m.items d.body e.body d.items e.items in
    d.end ∙ ap (λ (o : Opened). footer o m.ports) same ∙ sym e.end
