-- Left sides, items of cases, the bits of labels that are no matter, and selectors that keep their width, by their variants.
use Rattle.vlog_effects.proofs.Common.{◌≡◌, ℕ, Bool, true, ◌&&◌, ◌||◌, List, [], ◌∷◌, map, sym, ◌∙◌, ap, rules, Span, Identifier, UnaryOperator, BinaryOperator, Expr, fold-roll-Expr, LeftSide}
use Rattle.vlog_effects.proofs.Common.{out-LeftSide, CaseKind, CaseItem, roll-CaseItem, Stmt, CaseItem-F, fold-roll-CaseItem, sizing, is_reduction, is_test, is_bitwise, keeps_step, keeps_width, Whole}
use Rattle.vlog_effects.proofs.Common.{Bit, Range, Indexed, Part, concatenated, parts_step, parts_of, InNames, Item, ignored, ignored_step, dont_care, step_of, item_of, steps_of, item_steps}
use Rattle.vlog_syntax.specs.declared.identifier.Number.{Number}
use Rattle.vlog_syntax.specs.declared.expr.Expr.TheVariants as ev
use Rattle.vlog_syntax.specs.declared.expr.Expr.TheOpen as e
use Rattle.vlog_syntax.specs.declared.left_side.LeftSide.TheViews.{the_lemmas}
use Rattle.vlog_syntax.specs.declared.left_side.LeftSide.TheVariants as lv
use Rattle.vlog_syntax.specs.declared.left_side.LeftSide.TheOpen as l
use Rattle.vlog_syntax.specs.declared.left_side.LeftSide.TheFolds.{fold-roll-LeftSide}

pub parts-name : (n : Identifier) → parts_of (lv.Name n) ≡ record { name = n; select = Whole } ∷ []
parts-name n = ap parts_of (sym (lv.rolls-Name n)) ∙ fold-roll-LeftSide (List Part) parts_step (l.Name n)

pub parts-bit : (n : Identifier) (at : Span) (i : Expr) → parts_of (lv.BitSelect n at i) ≡ record { name = n; select = Bit at i } ∷ []
parts-bit n at i = ap parts_of (sym (lv.rolls-BitSelect n at i)) ∙ fold-roll-LeftSide (List Part) parts_step (l.BitSelect n at i)

pub parts-range : (n : Identifier) (at : Span) (msb lsb : Expr) → parts_of (lv.PartSelect n at msb lsb) ≡ record { name = n; select = Range at msb lsb } ∷ []
parts-range n at msb lsb = ap parts_of (sym (lv.rolls-PartSelect n at msb lsb)) ∙ fold-roll-LeftSide (List Part) parts_step (l.PartSelect n at msb lsb)

pub parts-indexed : (n : Identifier) (at : Span) (base count : Expr) → parts_of (lv.IndexedPartSelect n at base count) ≡ record { name = n; select = Indexed at base count } ∷ []
parts-indexed n at base count = ap parts_of (sym (lv.rolls-IndexedPartSelect n at base count)) ∙ fold-roll-LeftSide (List Part) parts_step (l.IndexedPartSelect n at base count)

pub parts-concatenation : (at : Span) (parts : List LeftSide) → parts_of (lv.Concatenation at parts) ≡ concatenated (map parts_of parts)
parts-concatenation at parts = ap parts_of (sym (lv.rolls-Concatenation at parts)) ∙ fold-roll-LeftSide (List Part) parts_step (l.Concatenation at parts)

pub dont_care-number : (kind : CaseKind) (n : Number) → dont_care kind (ev.Number n) ≡ ignored kind n
dont_care-number kind n = ap (dont_care kind) (sym (ev.rolls-Number n)) ∙ fold-roll-Expr ℕ (ignored_step kind) (e.Number n)

pub keeps-name : (n : Identifier) → keeps_width (ev.Name n) ≡ true
keeps-name n = ap keeps_width (sym (ev.rolls-Name n)) ∙ fold-roll-Expr Bool keeps_step (e.Name n)

pub keeps-part : (n : Identifier) (at : Span) (msb lsb : Expr) → keeps_width (ev.PartSelect n at msb lsb) ≡ true
keeps-part n at msb lsb = ap keeps_width (sym (ev.rolls-PartSelect n at msb lsb)) ∙ fold-roll-Expr Bool keeps_step (e.PartSelect n at msb lsb)

pub keeps-unary : (at : Span) (op : UnaryOperator) (i : Expr) → keeps_width (ev.Unary at op i) ≡ is_reduction op
keeps-unary at op i = ap keeps_width (sym (ev.rolls-Unary at op i)) ∙ fold-roll-Expr Bool keeps_step (e.Unary at op i)

pub keeps-binary : (at : Span) (op : BinaryOperator) (i j : Expr) → keeps_width (ev.Binary at op i j) ≡ (is_test (sizing op) || is_bitwise op && (keeps_width i && keeps_width j))
keeps-binary at op i j = ap keeps_width (sym (ev.rolls-Binary at op i j)) ∙ fold-roll-Expr Bool keeps_step (e.Binary at op i j)

pub out-name : (n : Identifier) → out-LeftSide (lv.Name n) ≡ l.Name n
out-name n = ap out-LeftSide (sym (lv.rolls-Name n)) ∙ search (rules, the_lemmas)

pub steps-item : (x : CaseItem-F Stmt CaseItem) → item_steps (roll-CaseItem x) ≡ record { place = x.span; labels = x.labels; body = steps_of x.body }
steps-item x = fold-roll-CaseItem InNames Item step_of item_of x
