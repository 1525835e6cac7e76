-- Latches (IEEE 1364-2005, 9.2 and 9.7): a combinational process leaves or reads a bit of a variable that it assigns, where
-- some path has not assigned it.
use Rattle.std.specs.Prelude.{ℕ, zero, suc, Bool, true, false, not, ◌&&◌, ◌||◌, List, [], ◌∷◌, ◌++◌, Option, Some, None, nat_eq, if◌then◌else◌}
use Rattle.mcy_base.specs.declared.span.Span.{Span}
use Rattle.mcy_base.specs.Places.{stands_before}
use Rattle.vlog_syntax.specs.declared.expr.Expr.{Expr}
use Rattle.vlog_meaning.specs.Scopes.{Names}
use Rattle.vlog_meaning.specs.Senses.{Bits, no_bits, either}
use Rattle.vlog_effects.specs.Expressions.{is_constant, reads}
use Rattle.vlog_effects.specs.LeftSides.{Select, Whole, Bit, Range, Indexed, Part, Vector, parts_of, part_vector, places}
use Rattle.vlog_effects.specs.Steps.{Selection, Steps, Done, Assign, Choose, Case, Refuse, Arms, Otherwise, Arm}

-- the bits that are among both
abbrev pub all_of : Bits → Bits → Bits
all_of a b = λ n i. a n i && b n i

abbrev pub stands_in : List (Option ℕ) → ℕ → Bool
stands_in [] i = false
stands_in (None ∷ more) i = stands_in more i
stands_in (Some j ∷ more) i = nat_eq j i || stands_in more i

-- a select whose bits are known: it has no index, or a constant one
abbrev pub is_fixed : Names → Select → Bool
is_fixed names Whole = true
is_fixed names (Bit at i) = is_constant names i
is_fixed names (Range at msb lsb) = true
is_fixed names (Indexed at base count) = is_constant names base

abbrev pub index_reads : Names → Select → Bits
index_reads names Whole = no_bits
index_reads names (Bit at i) = reads names i
index_reads names (Range at msb lsb) = no_bits
index_reads names (Indexed at base count) = reads names base

-- the bits that a part assigns for sure
abbrev pub part_covers : Names → Part → Option Vector → Bits
part_covers names p None = no_bits
part_covers names p (Some v) = λ n i. nat_eq n v.number && (is_fixed names p.select && stands_in (places names (λ m. 0) v p.select) i)

abbrev pub parts_cover : Names → List Part → Bits
parts_cover names [] = no_bits
parts_cover names (p ∷ ps) = either (part_covers names p (part_vector names p)) (parts_cover names ps)

-- the bits that are assigned after the steps, on each path, where these were before
abbrev mutual
  pub covered : Steps → Bits → Bits
  covered Done b = b
  covered (Assign a more) b = covered more (either b (parts_cover a.names (parts_of a.left)))
  covered (Choose at c then_part else_part more) b = covered more (all_of (covered then_part b) (covered else_part b))
  covered (Case c arms bodies more) b = covered more (arms_covered arms b)
  covered (Refuse x more) b = covered more b

  pub arms_covered : Arms → Bits → Bits
  arms_covered (Otherwise body) b = covered body b
  arms_covered (Arm at labels body others) b = all_of (covered body b) (arms_covered others b)

-- the bits that an expression reads and that are not assigned
abbrev pub missed : Names → Expr → Bits → Bits
missed names x b = λ n i. reads names x n i && not (b n i)

abbrev pub all_missed : Names → List Expr → Bits → Bits
all_missed names [] b = no_bits
all_missed names (x ∷ more) b = either (missed names x b) (all_missed names more b)

-- the same of the indices of a left side, which are all read before it is written
abbrev pub parts_missed : Names → List Part → Bits → Bits
parts_missed names [] b = no_bits
parts_missed names (p ∷ ps) b = either (λ n i. index_reads names p.select n i && not (b n i)) (parts_missed names ps b)

-- the bits that are read where some path has not assigned them
abbrev mutual
  pub early : Steps → Bits → Bits
  early Done b = no_bits
  early (Assign a more) b = either (either (missed a.names a.right b) (parts_missed a.names (parts_of a.left) b)) (early more (either b (parts_cover a.names (parts_of a.left))))
  early (Choose at c then_part else_part more) b = either (either (missed c.names c.condition b) (either (early then_part b) (early else_part b))) (early more (all_of (covered then_part b) (covered else_part b)))
  early (Case c arms bodies more) b = either (either (missed c.names c.selector b) (arms_early c arms b)) (early more (arms_covered arms b))
  early (Refuse x more) b = early more b

  pub arms_early : Selection → Arms → Bits → Bits
  arms_early c (Otherwise body) b = early body b
  arms_early c (Arm at labels body others) b = either (all_missed c.names labels b) (either (early body b) (arms_early c others b))

-- an assigned variable: its number and width, and the place of its name
pub record Target : Type 0 where
  pub number : ℕ
  pub width : ℕ
  pub place : Span
  pub is_blocking : Bool

abbrev pub part_targets : Bool → Part → Option Vector → List Target
part_targets is_blocking p None = []
part_targets is_blocking p (Some v) = record { number = v.number; width = v.width; place = p.name.span; is_blocking = is_blocking } ∷ []

abbrev pub parts_targets : Bool → Names → List Part → List Target
parts_targets is_blocking names [] = []
parts_targets is_blocking names (p ∷ ps) = part_targets is_blocking p (part_vector names p) ++ parts_targets is_blocking names ps

-- the variables in the order of their assignments, as often as they are assigned
abbrev mutual
  pub targets : Steps → List Target
  targets Done = []
  targets (Assign a more) = parts_targets a.is_blocking a.names (parts_of a.left) ++ targets more
  targets (Choose at c then_part else_part more) = targets then_part ++ (targets else_part ++ targets more)
  targets (Case c arms bodies more) = arms_targets arms ++ targets more
  targets (Refuse x more) = targets more

  pub arms_targets : Arms → List Target
  arms_targets (Otherwise body) = targets body
  arms_targets (Arm at labels body others) = targets body ++ arms_targets others

-- one of the targets is the signal of this number
abbrev pub is_assigned : List Target → ℕ → Bool
is_assigned [] n = false
is_assigned (x ∷ more) n = nat_eq n x.number || is_assigned more n

-- some bit below this one
abbrev pub some_bit : ℕ → (ℕ → Bool) → Bool
some_bit zero p = false
some_bit (suc i) p = p i || some_bit i p

-- the variable has a bit that is left or read unassigned
abbrev pub is_latch : Steps → Target → Bool
is_latch steps x = some_bit x.width (λ i. not (covered steps no_bits x.number i) || early steps no_bits x.number i)

-- the targets that would be latches
abbrev pub latches : Steps → List Target → List Target
latches steps [] = []
latches steps (x ∷ more) = if is_latch steps x then x ∷ latches steps more else latches steps more

abbrev pub earlier : Target → Option Target → Option Target
earlier x None = Some x
earlier x (Some y) = Some (if stands_before y.place x.place then y else x)

-- the target with the least place
abbrev pub first_of : List Target → Option Target
first_of [] = None
first_of (x ∷ more) = earlier x (first_of more)

-- the variable of a combinational process that would be a latch: of several the one that a left side names first
abbrev pub latch_of : Steps → Option Target
latch_of steps = first_of (latches steps (targets steps))
