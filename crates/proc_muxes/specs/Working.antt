-- What the code has while it builds statements.
use Rattle.std.specs.Prelude.{◌≡◌, ℕ, ◌<◌, ◌≤◌, Bool, false, ◌&&◌, ◌||◌, List, [], ◌∷◌, ◌++◌, map, drop, length, nat_eq, nat_lt, ◌+◌, slice_index_or, if◌then◌else◌}
use Rattle.mcy_base.specs.declared.span.Span.{Span}
use Rattle.netlist_core.specs.declared.bit.Bit.{Bit}
use Rattle.netlist_core.specs.declared.cell.CellKind.TheVariants.{Put}
use Rattle.vlog_syntax.specs.declared.expr.Expr.{Expr}
use Rattle.vlog_meaning.specs.Scopes.{Names}
use Rattle.vlog_meaning.specs.Senses.{sense}
use Rattle.vlog_effects.specs.Effects.{bit_same}
use Rattle.vlog_effects.specs.Steps.{Steps}
use Rattle.vlog_effects.specs.Latches.{Target, targets}
use Rattle.net_builder.specs.Building.{fresh_bits, Building, AllBelow}
use Rattle.expr_plans.specs.Made.{made}
use Rattle.proc_muxes.specs.declared.change.Change.{Change}
use Rattle.proc_muxes.specs.declared.choice.Choice.{Choice}
use Rattle.proc_muxes.specs.Builds.{AddsCell, Work, held, with_held, distinct, Builds}

-- the bits that wait for variables, by their numbers
abbrev pub pending_of : List (List Bit) → ℕ → List Bit
pending_of waiting n = slice_index_or waiting n []

abbrev pub work : Building → List (List Bit) → Work
work building waiting = record { building = building; pending = pending_of waiting }

-- a target with the bits that it had
abbrev pub change_of : Work → Target → Change
change_of a x = record { number = x.number; is_blocking = x.is_blocking; before = held a x.is_blocking x.number }

abbrev pub changes_of : Work → List Target → List Change
changes_of a xs = map (change_of a) xs

-- the variable has a change of this kind
abbrev pub is_changed : Bool → List Change → ℕ → Bool
is_changed is_blocking [] n = false
is_changed is_blocking (c ∷ more) n = (nat_eq c.number n && bit_same c.is_blocking is_blocking) || is_changed is_blocking more n

-- changes, and later ones of other variables
abbrev pub joined : List Change → List Change → List Change
joined cs [] = cs
joined cs (d ∷ more) = if is_changed d.is_blocking cs d.number then joined cs more else joined (cs ++ d ∷ []) more

-- what a changed variable has now, and what it had before
abbrev pub now_has : Work → Change → Choice
now_has a c = record { number = c.number; is_blocking = c.is_blocking; bits = held a c.is_blocking c.number }

abbrev pub had_before : Change → Choice
had_before c = record { number = c.number; is_blocking = c.is_blocking; bits = c.before }

abbrev pub all_have : Work → List Change → List Choice
all_have a cs = map (now_has a) cs

abbrev pub all_had : List Change → List Choice
all_had cs = map had_before cs

-- bits that a variable can have: as many as it has, from 1 to 128, which stand there
pub record CanHave (a : Work) (is_blocking : Bool) (number : ℕ) (bits : List Bit) : Type 0 where
  pub known : number < length a.building.signals
  pub long : length bits ≡ length (held a is_blocking number)
  pub some : 1 ≤ length bits
  pub narrow : length bits ≤ 128
  pub below : AllBelow a.building.nets bits

abbrev pub FitsChange : Work → Change → Type 0
FitsChange a c = CanHave a c.is_blocking c.number c.before

abbrev pub AllFit : Work → List Change → Type 0
AllFit a [] = Unit {0}
AllFit a (c ∷ more) = FitsChange a c × AllFit a more

abbrev pub FitsChoice : Work → Choice → Type 0
FitsChoice a x = CanHave a x.is_blocking x.number x.bits

abbrev pub AllChoicesFit : Work → List Choice → Type 0
AllChoicesFit a [] = Unit {0}
AllChoicesFit a (x ∷ more) = FitsChoice a x × AllChoicesFit a more

-- each target has from 1 to 128 bits
abbrev pub AreWide : Work → List Target → Type 0
AreWide a [] = Unit {0}
AreWide a (x ∷ more) = (1 ≤ length (held a x.is_blocking x.number)) × (length (held a x.is_blocking x.number) ≤ 128) × AreWide a more

-- changed variables have what they had before
abbrev pub given_back : List Change → Work → Work
given_back [] a = a
given_back (c ∷ more) a = given_back more (with_held c.is_blocking c.number c.before a)

-- the choices of two parts: what the first left, and for those that the second alone changed what they had before
abbrev pub chosen : List Choice → List Change → List Change → List Choice
chosen first cs ds = first ++ all_had (drop (length cs) (joined cs ds))

-- how many cells a condition makes
abbrev pub test_cells : Names → Expr → ℕ
test_cells names x = length (made names x (sense names x).shape) + (if nat_lt 1 (sense names x).shape.width then 1 else 0)

-- What a statement's code has done: these steps were added, and these are their changes.
pub record Built (steps : Steps) (a b : Work) (changes : List Change) : Type 0 where
  pub builds : Builds steps a b
  pub changes_are : changes ≡ changes_of a (distinct (targets steps))

-- For proofs alone.

-- the bits of a port: from 1 to 128, which stand below this net
abbrev pub AreBits : ℕ → List Bit → Type 0
AreBits nets bits = (1 ≤ length bits) × (length bits ≤ 128) × AllBelow nets bits

-- bits were laid over those of a variable by a `put`, at an index
abbrev pub PutsAt : Span → Bool → ℕ → List Bit → List Bit → Work → Work → Type 0
PutsAt at is_blocking n index bits a b =
    let width = length (held a is_blocking n) in
    (mid : Building) × AddsCell Put (held a is_blocking n ∷ index ∷ bits ∷ []) width at a.building mid × (b ≡ with_held is_blocking n (fresh_bits a.building.nets width) (record a { building = mid }))
