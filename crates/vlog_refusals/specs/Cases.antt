-- The selector and labels of a case, which are brought to one size (IEEE 1364-2005, 9.5), and what is wrong in them.
use Rattle.std.specs.Prelude.{max, ◌&&◌, List, [], ◌∷◌}
use Rattle.std.specs.List.{flat_map}
use Rattle.mcy_base.specs.declared.span.Span.{Span}
use Rattle.vlog_syntax.specs.declared.expr.Expr.{Expr}
use Rattle.vlog_syntax.specs.declared.stmt.CaseItem.{CaseItem, out-CaseItem}
use Rattle.vlog_meaning.specs.declared.fault.Fault.{Fault}
use Rattle.vlog_meaning.specs.declared.shapes.Shape.{Shape}
use Rattle.vlog_meaning.specs.Scopes.{Names}
use Rattle.vlog_meaning.specs.Senses.{sense, or_else, IsContext}
use Rattle.vlog_effects.specs.Steps.{greatest, all_signed}
use Rattle.vlog_refusals.specs.Expressions.{wrong, divisions}

-- the labels of an item
abbrev pub labels_in : CaseItem → List Expr
labels_in i = (out-CaseItem i).labels

-- the size to which expressions are brought together
abbrev pub common_size : Names → List Expr → Shape
common_size names xs = record { width = greatest names xs; is_signed = all_signed names xs }

-- a size, together with those of expressions
abbrev pub widened : Names → Shape → List Expr → Shape
widened names size xs = record { width = max size.width (greatest names xs); is_signed = size.is_signed && all_signed names xs }

-- divisions of constants by 0 in expressions that are evaluated at one size
abbrev pub zeros_at : Names → Shape → Expr → List Span
zeros_at names size x = (sense names x).zeros size

-- A division by 0 is looked for where all of them have their sizes.
abbrev pub case_faults : (unsupported : Names → Expr → List Fault) → Names → List Expr → List Fault
case_faults unsupported names xs = or_else (flat_map (wrong unsupported names) xs) (divisions (flat_map (zeros_at names (common_size names xs)) xs))

-- For proofs alone.

-- each of them can be evaluated at the size
abbrev pub AllWithin : Names → Shape → List Expr → Type 0
AllWithin names size [] = Unit {0}
AllWithin names size (x ∷ xs) = IsContext (sense names x).shape size × AllWithin names size xs

-- the same of the labels of items
abbrev pub LabelsWithin : Names → Shape → List CaseItem → Type 0
LabelsWithin names size [] = Unit {0}
LabelsWithin names size (i ∷ is) = AllWithin names size (labels_in i) × LabelsWithin names size is
