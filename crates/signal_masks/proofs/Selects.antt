-- The names of selects are signals of 1 to 128 bits, and what reads no signal is a constant.
use Rattle.signal_masks.proofs.Common.{◌≡◌, Bool, false, List, [], ◌∷◌, sym, ap, ◌∙◌, Option, Some, None, Span, Identifier, Expr, IsSized, Names, decl_shape, sense, is_empty, IsWhole}
use Rattle.std.specs.Option.{is_none}
use Rattle.vlog_syntax.specs.declared.expr.Expr.TheVariants as v
use Rattle.vlog_meaning.specs.declared.fault.Fault.{Fault}
use Rattle.vlog_meaning.specs.Answers.{least}
use Rattle.vlog_meaning.proofs.Blanks.{left_nil}
use Rattle.vlog_meaning.proofs.Firsts.{least_none}
use Rattle.vlog_meaning.proofs.Refusals.{least_empty}
use Rattle.vlog_meaning.proofs.Whole.{name_sized, says}
use Rattle.vlog_meaning.proofs.Steps as step

pub bit_sized : (names : Names) (x : Expr) (n : Identifier) (at : Span) (index : Expr) → x ≡ v.BitSelect n at index → IsWhole names x → IsSized (decl_shape (names n.name))
bit_sized names x n at index is whole = name_sized n.span (names n.name) (left_nil _ _ (says names x _ (ap (sense names) is ∙ step.sense_bit_select names n at index) whole))

pub part_sized : (names : Names) (x : Expr) (n : Identifier) (at : Span) (msb lsb : Expr) → x ≡ v.PartSelect n at msb lsb → IsWhole names x → IsSized (decl_shape (names n.name))
part_sized names x n at msb lsb is whole = name_sized n.span (names n.name) (left_nil _ _ (says names x _ (ap (sense names) is ∙ step.sense_part_select names n at msb lsb) whole))

pub indexed_sized : (names : Names) (x : Expr) (n : Identifier) (at : Span) (base count : Expr) → x ≡ v.IndexedPartSelect n at base count → IsWhole names x → IsSized (decl_shape (names n.name))
indexed_sized names x n at base count is whole = name_sized n.span (names n.name) (left_nil _ _ (says names x _ (ap (sense names) is ∙ step.sense_indexed_part_select names n at base count) whole))

pub none_read : (xs : List Fault) (o : Option Fault) (b : Bool) → o ≡ least xs → b ≡ is_none o → b ≡ is_empty xs
none_read [] o b is test = test ∙ ap is_none (is ∙ sym least_empty)
none_read (x ∷ xs) o b is test = go o is test
  where
    go : (o : Option Fault) → o ≡ least (x ∷ xs) → b ≡ is_none o → b ≡ false
    go (Some f) is test = test
    go None is test = let none = least_none _ (sym is) in cc
