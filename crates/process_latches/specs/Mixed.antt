-- A variable has one kind of assignment in a process (IEEE 1364-2005, 9.2): one of the other kind is refused where all of this kind
-- do not stand after it in the source.
use Rattle.std.specs.Prelude.{◌≡◌, ℕ, Bool, true, false, not, ◌&&◌, List, [], ◌∷◌, Option, None, Some, nat_eq, if◌then◌else◌}
use Rattle.std.specs.BTreeMap.{BTreeMap, get}
use Rattle.std.specs.List.{flat_map}
use Rattle.std.specs.Ordering.{nat_cmp}
use Rattle.mcy_base.specs.declared.span.Span.{Span}
use Rattle.mcy_base.specs.Places.{stands_before}
use Rattle.vlog_syntax.specs.declared.feature.Feature.TheVariants.{MixedAssign}
use Rattle.elab_proc.specs.declared.refusal.Refusal.{Refusal}
use Rattle.elab_proc.specs.declared.refusal.Refusal.TheVariants.{Unsupported}
use Rattle.process_latches.specs.declared.marks.Write.{Write}

abbrev pub same_kind : Bool → Bool → Bool
same_kind true b = b
same_kind false b = not b

-- the lesser of two places
abbrev pub lesser : Span → Option Span → Option Span
lesser p None = Some p
lesser p (Some q) = Some (if stands_before q p then q else p)

-- the least place of the assignments of a variable that are of one kind
abbrev pub first_place : List Write → ℕ → Bool → Option Span
first_place [] number is_blocking = None
first_place (w ∷ more) number is_blocking = if nat_eq w.number number && same_kind w.is_blocking is_blocking then lesser w.first (first_place more number is_blocking) else first_place more number is_blocking

abbrev pub mixed_after : Option Span → Span → List Refusal
mixed_after None at = []
mixed_after (Some p) at = if stands_before at p then [] else Unsupported at MixedAssign ∷ []

-- what is refused in one of several assignments
abbrev pub mixed_at : List Write → Write → List Refusal
mixed_at ws w = mixed_after (first_place ws w.number (not w.is_blocking)) w.first

abbrev pub mixed_refusals : List Write → List Refusal
mixed_refusals ws = flat_map (mixed_at ws) ws

-- For proofs alone.

-- a map has the least places of the assignments of one kind
abbrev pub HasFirsts : List Write → Bool → BTreeMap ℕ Span → Type 0
HasFirsts ws is_blocking m = (number : ℕ) → get nat_cmp m number ≡ first_place ws number is_blocking
