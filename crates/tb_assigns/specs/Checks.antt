-- Which assignments of a testbench can be carried out: both sides have shapes, and the left one names signals.
use Rattle.std.specs.Prelude.{Bool, true, false, ◌&&◌, List, [], ◌∷◌, Option, Some, None}
use Rattle.vlog_syntax.specs.declared.expr.Expr.{Expr}
use Rattle.vlog_syntax.specs.declared.stmt.Assignment.{Assignment}
use Rattle.vlog_meaning.specs.Scopes.{Names}
use Rattle.vlog_meaning.specs.Senses.{sense, is_empty}
use Rattle.vlog_effects.specs.LeftSides.{Part, Vector, part_vector, parts_of}
use Rattle.elab_proc.specs.Refusals.{same_form}

abbrev pub has_shape : Names → Expr → Bool
has_shape names x = is_empty (sense names x).faults

abbrev pub is_signal : Option Vector → Bool
is_signal (Some v) = true
is_signal None = false

abbrev pub all_signals : Names → List Part → Bool
all_signals names [] = true
all_signals names (p ∷ more) = is_signal (part_vector names p) && all_signals names more

abbrev pub can_assign : Names → Assignment → Bool
can_assign names a = has_shape names (same_form a.left) && (all_signals names (parts_of a.left) && has_shape names a.value)
