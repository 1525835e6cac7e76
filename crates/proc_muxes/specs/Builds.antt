-- What a process adds to a builder, in the order in which it is added (IEEE 1364-2005, 9.2 to 9.5).
use Rattle.std.specs.Prelude.{◌≡◌, ◌⊎◌, ℕ, zero, suc, ◌+◌, ◌<◌, ◌≤◌, Bool, true, false, ◌&&◌, ◌||◌, List, [], ◌∷◌, ◌++◌, map, take, drop, length, Option, Some, None, nat_eq, if◌then◌else◌}
use Rattle.mcy_base.specs.declared.span.Span.{Span}
use Rattle.netlist_core.specs.declared.bit.Bit.{Bit}
use Rattle.netlist_core.specs.declared.bit.Bit.TheVariants.{Fixed}
use Rattle.netlist_core.specs.declared.cell.CellKind.{CellKind}
use Rattle.netlist_core.specs.declared.cell.CellKind.TheVariants.{Mux, Put, Ror, Eq, Lor}
use Rattle.vlog_syntax.specs.Places.{first_token}
use Rattle.vlog_syntax.specs.declared.expr.Expr.{Expr}
use Rattle.vlog_meaning.specs.declared.shapes.Shape.{Shape}
use Rattle.vlog_meaning.specs.Scopes.{Names, nothing}
use Rattle.vlog_meaning.specs.Senses.{sense, assigned}
use Rattle.vlog_effects.specs.Expressions.{bits_of, is_constant}
use Rattle.vlog_effects.specs.LeftSides.{Select, Whole, Bit as BitOf, Range, Indexed, Part, Vector, parts_of, part_vector, parts_width, places, written}
use Rattle.vlog_effects.specs.Steps.{Assigning, Test, Selection, Steps, Done, Assign, Choose, Case, Refuse, Arms, Otherwise, Arm, dont_care}
use Rattle.vlog_effects.specs.Effects.{bit_same}
use Rattle.vlog_effects.specs.Latches.{Target, targets, arms_targets}
use Rattle.net_builder.specs.Building.{Building, Grows, fresh_bits, signal, with_signal, with_cell}
use Rattle.elab_expr.specs.Evaluates.{Evaluates}
use Rattle.elab_expr.specs.Laid.{lay, showing, index_bits}
use Rattle.proc_muxes.specs.declared.choice.Choice.{Choice}

-- A builder with the bits that variables with nonblocking assignments will have at the end. The builder's own signals
-- have the bits that later statements see.
pub record Work : Type 0 where
  pub building : Building
  pub pending : ℕ → List Bit

-- the bits that an assignment of this kind changes
abbrev pub held : Work → Bool → ℕ → List Bit
held a true n = signal a.building n
held a false n = a.pending n

abbrev pub with_held : Bool → ℕ → List Bit → Work → Work
with_held true n bits a = record a { building = with_signal n bits a.building }
with_held false n bits a = record a { pending = λ m. if nat_eq m n then bits else a.pending m }

-- the next cell: it has ports of its kind, and reads what stands there before
abbrev pub AddsCell : CellKind → List (List Bit) → ℕ → Span → Building → Building → Type 0
AddsCell kind inputs width at a b = Grows a b × (b ≡ with_cell a kind false inputs width at)

-- an expression's cells are wired as its tree says, and so are its bits
abbrev pub IsLaid : Names → Expr → Shape → Building → Building → List Bit → Type 0
IsLaid names x c a b bits = showing b bits ≡ lay names x c a

-- Assignments.

-- the index of a select, and the place of its `[`
pub record Index : Type 0 where
  pub place : Span
  pub expr : Expr

-- the index of a select, where it is no constant
abbrev pub variable_index : Names → Select → Option Index
variable_index names Whole = None
variable_index names (BitOf at i) = if is_constant names i then None else Some (record { place = at; expr = i })
variable_index names (Range at msb lsb) = None
variable_index names (Indexed at base count) = if is_constant names base then None else Some (record { place = at; expr = base })

-- the cells of an index, which is evaluated at its own width and sign, and its bits as a `put` has them
abbrev pub BuildsIndex : Names → Option Index → Building → Building → List Bit → Type 0
BuildsIndex names None a b index = (b ≡ a) × (index ≡ [])
BuildsIndex names (Some i) a b index =
    let s = (sense names i.expr).shape in
    (bits : List Bit) × Evaluates names i.expr s a b bits × IsLaid names i.expr s a b bits × (index ≡ index_bits s bits) × (1 ≤ s.width)

-- the cells of the indices of a left side, from the left; for a part without a variable index there are no bits
abbrev pub BuildsIndices : Names → List Part → Building → Building → List (List Bit) → Type 0
BuildsIndices names [] a b indices = (b ≡ a) × (indices ≡ [])
BuildsIndices names (p ∷ ps) a b indices =
    (mid : Building) × (index : List Bit) × (more : List (List Bit)) × BuildsIndex names (variable_index names p.select) a mid index ×
    BuildsIndices names ps mid b more × (indices ≡ index ∷ more)

-- bits at places that are known
abbrev pub put_fixed : Bool → Names → Vector → Select → List Bit → Work → Work
put_fixed is_blocking names v s bits a = with_held is_blocking v.number (written (held a is_blocking v.number) (places names nothing v s) bits) a

-- a base of `+:` that is no constant is unsigned
abbrev pub HasPlainBase : Names → Select → Expr → Type 0
HasPlainBase names Whole i = Unit {0}
HasPlainBase names (BitOf at x) i = Unit {0}
HasPlainBase names (Range at msb lsb) i = Unit {0}
HasPlainBase names (Indexed at base count) i = (sense names i).shape.is_signed ≡ false

-- what a `put` can write at this index: bits of a vector whose bit 0 is declared as 0
pub record CanPut (names : Names) (v : Vector) (s : Select) (i : Expr) : Type 0 where
  pub low : v.low ≡ 0
  pub narrow : v.width ≤ 128
  pub plain : HasPlainBase names s i

-- Bits of a vector are written: at places that are known, or by a `put` at an index.
abbrev pub PutsBits : Bool → Names → Vector → Select → List Bit → List Bit → Option Index → Work → Work → Type 0
PutsBits is_blocking names v s bits index None a b = b ≡ put_fixed is_blocking names v s bits a
PutsBits is_blocking names v s bits index (Some i) a b =
    CanPut names v s i.expr × (mid : Building) × AddsCell Put (held a is_blocking v.number ∷ index ∷ bits ∷ []) v.width i.place a.building mid ×
    (b ≡ with_held is_blocking v.number (fresh_bits a.building.nets v.width) (record a { building = mid }))

abbrev pub PutsPart : Bool → Names → Part → Option Vector → List Bit → List Bit → Work → Work → Type 0
PutsPart is_blocking names p None bits index a b = ⊥
PutsPart is_blocking names p (Some v) bits index a b =
    (v.number < length a.building.signals) × (length (held a is_blocking v.number) ≡ v.width) ×
    PutsBits is_blocking names v p.select bits index (variable_index names p.select) a b

-- the parts of a left side are written from the right, so from the lowest bits on
abbrev pub PutsParts : Bool → Names → List Part → List Bit → List (List Bit) → Work → Work → Type 0
PutsParts is_blocking names [] bits indices a b = b ≡ a
PutsParts is_blocking names (p ∷ ps) bits [] a b = ⊥
PutsParts is_blocking names (p ∷ ps) bits (index ∷ indices) a b =
    let rest = parts_width names ps in
    (m : Work) × PutsParts is_blocking names ps (take rest bits) indices a m × PutsPart is_blocking names p (part_vector names p) (drop rest bits) index m b

-- the right side's cells, those of all indices, and then what is written
abbrev pub AssignsBits : Assigning → List Part → ℕ → Work → Work → Type 0
AssignsBits s ps width a b =
    (mid : Building) × (last : Building) × (right : List Bit) × (indices : List (List Bit)) × Evaluates s.names s.right (assigned (sense s.names s.right) width) a.building mid right ×
    BuildsIndices s.names ps mid last indices × PutsParts s.is_blocking s.names ps (take width right) indices (record a { building = last }) b ×
    IsLaid s.names s.right (assigned (sense s.names s.right) width) a.building mid right

abbrev pub BuildsAssign : Assigning → Work → Work → Type 0
BuildsAssign s a b = let ps = parts_of s.left in AssignsBits s ps (parts_width s.names ps) a b

-- Choices.

-- one bit: the condition's own, or a `ror` of a wider one
abbrev pub BuildsBit : Span → List Bit → Building → Building → List Bit → Type 0
BuildsBit at bits a b test = ((length bits ≡ 1) × (b ≡ a) × (test ≡ bits)) ⊎ ((1 < length bits) × AddsCell Ror (bits ∷ []) 1 at a b × (test ≡ fresh_bits a.nets 1))

abbrev pub BuildsTest : Test → Work → Work → List Bit → Type 0
BuildsTest c a b test =
    (mid : Building) × (last : Building) × (bits : List Bit) × Evaluates c.names c.condition (sense c.names c.condition).shape a.building mid bits ×
    BuildsBit (first_token c.condition) bits mid last test × (b ≡ record a { building = last }) ×
    IsLaid c.names c.condition (sense c.names c.condition).shape a.building mid bits

-- the signal is a target with assignments of this kind
abbrev pub stands : Bool → List Target → ℕ → Bool
stands is_blocking [] n = false
stands is_blocking (x ∷ more) n = (nat_eq x.number n && bit_same is_blocking x.is_blocking) || stands is_blocking more n

-- the targets without repetition, in order of first assignment
abbrev pub distinct_after : List Target → List Target → List Target
distinct_after seen [] = []
distinct_after seen (x ∷ more) = if stands x.is_blocking seen x.number then distinct_after seen more else x ∷ distinct_after (x ∷ seen) more

abbrev pub distinct : List Target → List Target
distinct xs = distinct_after [] xs

-- a variable that one of two parts assigns, with the bits that it has after the first
abbrev pub choice_of : Work → Target → Choice
choice_of y x = record { number = x.number; is_blocking = x.is_blocking; bits = held y x.is_blocking x.number }

abbrev pub choices : Work → List Target → List Choice
choices y xs = map (choice_of y) xs

-- a mux of what a variable has, where the test is 0, and of the choice's bits, where it is 1
abbrev pub Chooses : Span → List Bit → Choice → Work → Work → Type 0
Chooses at test x a b =
    let width = length (held a x.is_blocking x.number) in
    (x.number < length a.building.signals) × (length x.bits ≡ width) × (mid : Building) × AddsCell Mux (test ∷ held a x.is_blocking x.number ∷ x.bits ∷ []) width at a.building mid ×
    (b ≡ with_held x.is_blocking x.number (fresh_bits a.building.nets width) (record a { building = mid }))

abbrev pub ChoosesAll : Span → List Bit → List Choice → Work → Work → Type 0
ChoosesAll at test [] a b = b ≡ a
ChoosesAll at test (x ∷ more) a b = (m : Work) × Chooses at test x a m × ChoosesAll at test more m b

-- the builder of the second with what variables have in the first
abbrev pub restored : Work → Work → Work
restored a b = record { building = record b.building { signals = a.building.signals }; pending = a.pending }

-- Cases.

-- the bits that matter
abbrev pub kept : List Bool → List Bit → List Bit
kept [] xs = []
kept (i ∷ ignored) [] = []
kept (true ∷ ignored) (x ∷ xs) = kept ignored xs
kept (false ∷ ignored) (x ∷ xs) = x ∷ kept ignored xs

-- how many bits of a label matter, where the others are marked
abbrev pub mattering : List Bool → ℕ
mattering [] = 0
mattering (true ∷ ignored) = mattering ignored
mattering (false ∷ ignored) = 1 + mattering ignored

-- the size and sign to which the selector and the labels of a case are brought
abbrev pub case_shape : Selection → Shape
case_shape c = record { width = c.width; is_signed = c.is_signed }

-- The bit that is 1 where these bits, of which there are so many on both sides, are equal: an `eq`. Where there are none it
-- is the constant 1, and no cell is added.
abbrev pub BuildsEqual : ℕ → List Bit → List Bit → Span → Building → Building → List Bit → Type 0
BuildsEqual zero xs ys at a b test = (b ≡ a) × (test ≡ Fixed true ∷ [])
BuildsEqual (suc n) xs ys at a b test = AddsCell Eq (xs ∷ ys ∷ []) 1 at a b × (test ≡ fresh_bits a.nets 1)

-- a label's cells, and the bit that is 1 where those of its bits that matter are the selector's
abbrev pub BuildsLabel : Selection → List Bit → Expr → Building → Building → List Bit → Type 0
BuildsLabel c selector x a b test =
    let ignored = bits_of c.width (dont_care c.kind x) in
    (mid : Building) × (bits : List Bit) × Evaluates c.names x (case_shape c) a mid bits ×
    BuildsEqual (mattering ignored) (kept ignored selector) (kept ignored bits) (first_token x) mid b test × IsLaid c.names x (case_shape c) a mid bits

-- from the second label on joined to the ones before by `lor`
abbrev pub BuildsMore : Selection → List Bit → List Expr → List Bit → Building → Building → List Bit → Type 0
BuildsMore c selector [] before a b test = (b ≡ a) × (test ≡ before)
BuildsMore c selector (x ∷ more) before a b test =
    (mid : Building) × (last : Building) × (found : List Bit) × BuildsLabel c selector x a mid found ×
    AddsCell Lor (before ∷ found ∷ []) 1 (first_token x) mid last × BuildsMore c selector more (fresh_bits mid.nets 1) last b test

abbrev pub BuildsMatch : Selection → List Bit → List Expr → Building → Building → List Bit → Type 0
BuildsMatch c selector [] a b test = ⊥
BuildsMatch c selector (x ∷ more) a b test = (mid : Building) × (found : List Bit) × BuildsLabel c selector x a mid found × BuildsMore c selector more found mid b test

-- Steps. Each part of a choice begins with what variables have before it; the muxes stand in order of first assignment.
abbrev mutual
  pub Builds : Steps → Work → Work → Type 0
  Builds Done a b = b ≡ a
  Builds (Assign s more) a b = (m : Work) × BuildsAssign s a m × Builds more m b
  Builds (Choose at c then_part else_part more) a b =
      (t : Work) × (y : Work) × (n : Work) × (m : Work) × (test : List Bit) ×
      BuildsTest c a t test × Builds then_part t y × Builds else_part (restored t y) n ×
      ChoosesAll at test (choices y (distinct (targets then_part ++ targets else_part))) n m × Builds more m b
  Builds (Case c arms bodies more) a b =
      (mid : Building) × (m : Work) × (selector : List Bit) × Evaluates c.names c.selector (case_shape c) a.building mid selector ×
      BuildsArms c selector arms (record a { building = mid }) m × Builds more m b × IsLaid c.names c.selector (case_shape c) a.building mid selector
  Builds (Refuse x more) a b = ⊥

  pub BuildsArms : Selection → List Bit → Arms → Work → Work → Type 0
  BuildsArms c selector (Otherwise body) a b = Builds body a b
  BuildsArms c selector (Arm at labels body others) a b =
      (mid : Building) × (y : Work) × (n : Work) × (test : List Bit) ×
      BuildsMatch c selector labels a.building mid test × Builds body (record a { building = mid }) y × BuildsArms c selector others (restored (record a { building = mid }) y) n ×
      ChoosesAll at test (choices y (distinct (targets body ++ arms_targets others))) n b
