-- The forms of items.
use Rattle.flat_once.proofs.Common.{◌≡◌, List, Option, sym, ap, ◌∙◌, Identifier, GenerateLoop, Item, out-Item, out-roll-Item}
use Rattle.mcy_base.specs.declared.span.Span.{Span}
use Rattle.vlog_syntax.specs.declared.expr.Expr.{Expr}
use Rattle.vlog_syntax.specs.declared.item.Item.TheVariants as i
use Rattle.vlog_syntax.specs.declared.item.Item.TheOpen as t
use Rattle.vlog_syntax.specs.declared.item.PlainItem.{PlainItem}

pub out-plain : (x : PlainItem) → out-Item (i.Plain x) ≡ t.Plain x
out-plain x = ap out-Item (sym (i.rolls-Plain x)) ∙ out-roll-Item (t.Plain x)

pub out-region : (at : Span) (items : List Item) → out-Item (i.GenerateRegion at items) ≡ t.GenerateRegion at items
out-region at items = ap out-Item (sym (i.rolls-GenerateRegion at items)) ∙ out-roll-Item (t.GenerateRegion at items)

pub out-loop : (loop : GenerateLoop) (body : Item) → out-Item (i.LoopGenerate loop body) ≡ t.LoopGenerate loop body
out-loop loop body = ap out-Item (sym (i.rolls-LoopGenerate loop body)) ∙ out-roll-Item (t.LoopGenerate loop body)

pub out-if : (at : Span) (c : Expr) (first : Item) (second : Option Item) → out-Item (i.IfGenerate at c first second) ≡ t.IfGenerate at c first second
out-if at c first second = ap out-Item (sym (i.rolls-IfGenerate at c first second)) ∙ out-roll-Item (t.IfGenerate at c first second)

pub out-block : (at : Span) (name : Option Identifier) (items : List Item) → out-Item (i.GenerateBlock at name items) ≡ t.GenerateBlock at name items
out-block at name items = ap out-Item (sym (i.rolls-GenerateBlock at name items)) ∙ out-roll-Item (t.GenerateBlock at name items)

pub out-null : (at : Span) → out-Item (i.NullGenerate at) ≡ t.NullGenerate at
out-null at = ap out-Item (sym (i.rolls-NullGenerate at)) ∙ out-roll-Item (t.NullGenerate at)
