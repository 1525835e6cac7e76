-- The effect of statements (IEEE 1364-2005, 9.2 to 9.6).
use Rattle.std.specs.Prelude.{◌≡◌, ℕ, length, max, Bool, true, false, not, ◌&&◌, ◌||◌, List, [], ◌∷◌, ◌++◌, take, drop, Option, Some, None, nat_eq, if◌then◌else◌}
use Rattle.vlog_syntax.specs.declared.expr.Expr.{Expr}
use Rattle.vlog_meaning.specs.declared.scope.Decl.{Decl}
use Rattle.vlog_meaning.specs.declared.scope.Decl.TheVariants.{Signal, Constant}
use Rattle.vlog_meaning.specs.Scopes.{Names, Store}
use Rattle.vlog_effects.specs.Expressions.{width_of, is_signed_of, value, number, bits_of}
use Rattle.vlog_effects.specs.LeftSides.{Part, Vector, parts_of, part_vector, parts_width, places, written}
use Rattle.vlog_effects.specs.Steps.{Assigning, Test, Selection, Steps, Done, Assign, Choose, Case, Refuse, Arms, Otherwise, Arm, dont_care}

-- the bits of each signal, by its number, bit 0 first
abbrev pub Values : Type 0
Values = ℕ → List Bool

-- the numbers that they stand for, as expressions read them
abbrev pub numbers : Values → Store
numbers store n = number (store n)

-- bits that a signal is to get
pub record Update : Type 0 where
  pub number : ℕ
  pub places : List (Option ℕ)
  pub bits : List Bool

abbrev pub updated : Update → Values → Values
updated u store = λ n. if nat_eq n u.number then written (store n) u.places u.bits else store n

abbrev pub updated_all : List Update → Values → Values
updated_all [] store = store
updated_all (u ∷ more) store = updated_all more (updated u store)

-- What a process has done so far: the values that its later statements see, and the updates that its nonblocking
-- assignments have scheduled, in their order.
pub record State : Type 0 where
  pub now : Values
  pub scheduled : List Update

-- the values that the process leaves, with all that is scheduled
abbrev pub settled : State → Values
settled s = updated_all s.scheduled s.now

-- a blocking assignment writes at once, a nonblocking one at the end
abbrev pub put : Bool → Update → State → State
put true u s = record s { now = updated u s.now }
put false u s = record s { scheduled = s.scheduled ++ u ∷ [] }

-- the updates, one after the other
abbrev pub put_all : Bool → List Update → State → State
put_all is_blocking [] s = s
put_all is_blocking (u ∷ more) s = put_all is_blocking more (put is_blocking u s)

abbrev pub part_updates : Names → Values → Part → Option Vector → List Bool → List Update
part_updates names store p None bits = []
part_updates names store p (Some v) bits = record { number = v.number; places = places names (numbers store) v p.select; bits = bits } ∷ []

-- What a left side writes, in the order of writing: its parts from the right, so from the lowest bits on. All indices are
-- read before, from the same values as the right side.
abbrev pub updates_of : Names → Values → List Part → List Bool → List Update
updates_of names store [] bits = []
updates_of names store (p ∷ ps) bits =
    let rest = parts_width names ps in
    updates_of names store ps (take rest bits) ++ part_updates names store p (part_vector names p) (drop rest bits)

-- The right side is evaluated at the greater of both widths, by its own sign.
abbrev pub right_bits : Names → ℕ → Expr → Values → List Bool
right_bits names width right store = bits_of width (value names (numbers store) (max width (width_of names right)) (is_signed_of names right) right)

abbrev pub assigned : Assigning → State → State
assigned a s =
    let ps = parts_of a.left in
    put_all a.is_blocking (updates_of a.names s.now ps (right_bits a.names (parts_width a.names ps) a.right s.now)) s

-- the condition is not 0
abbrev pub holds : Test → Values → Bool
holds c store = not (nat_eq (value c.names (numbers store) (width_of c.names c.condition) (is_signed_of c.names c.condition) c.condition) 0)

abbrev pub bit_same : Bool → Bool → Bool
bit_same true b = b
bit_same false b = not b

-- the bits are the same where they matter
abbrev pub agree : (ignored xs ys : List Bool) → Bool
agree (i ∷ is) (x ∷ xs) (y ∷ ys) = (i || bit_same x y) && agree is xs ys
agree _ _ _ = true

-- the bits of a selector or label at the size of the case
abbrev pub sized_bits : Selection → Values → Expr → List Bool
sized_bits c store x = bits_of c.width (value c.names (numbers store) c.width c.is_signed x)

-- one of the labels is the selector
abbrev pub matches : Selection → Values → List Expr → Bool
matches c store [] = false
matches c store (x ∷ more) = agree (bits_of c.width (dont_care c.kind x)) (sized_bits c store c.selector) (sized_bits c store x) || matches c store more

-- The effect of statements.
abbrev mutual
  pub effect : Steps → State → State
  effect Done s = s
  effect (Assign a more) s = effect more (assigned a s)
  effect (Choose at c then_part else_part more) s = effect more (if holds c s.now then effect then_part s else effect else_part s)
  effect (Case c arms bodies more) s = effect more (arm_effect c arms s)
  effect (Refuse x more) s = effect more s

  pub arm_effect : Selection → Arms → State → State
  arm_effect c (Otherwise body) s = effect body s
  arm_effect c (Arm at labels body others) s = if matches c s.now labels then effect body s else arm_effect c others s

-- a process begins with nothing scheduled
abbrev pub started : Values → State
started store = record { now = store; scheduled = [] }

-- what a process leaves that starts from these values
abbrev pub left_by : Steps → Values → Values
left_by steps store = settled (effect steps (started store))

-- only blocking assignments
abbrev mutual
  pub IsBlocking : Steps → Type 0
  IsBlocking Done = Unit {0}
  IsBlocking (Assign a more) = (a.is_blocking ≡ true) × IsBlocking more
  IsBlocking (Choose at c then_part else_part more) = IsBlocking then_part × IsBlocking else_part × IsBlocking more
  IsBlocking (Case c arms bodies more) = AreBlocking arms × IsBlocking more
  IsBlocking (Refuse x more) = IsBlocking more

  pub AreBlocking : Arms → Type 0
  AreBlocking (Otherwise body) = IsBlocking body
  AreBlocking (Arm at labels body others) = IsBlocking body × AreBlocking others

abbrev pub HasWidth : Values → Option Decl → Type 0
HasWidth store (Some (Signal width low is_signed number)) = length (store number) ≡ width
HasWidth store (Some (Constant value low is_signed)) = Unit {0}
HasWidth store None = Unit {0}

-- each declared signal has as many bits as its declaration says
abbrev pub HaveWidths : Names → Values → Type 0
HaveWidths names store = (name : List ℕ) → HasWidth store (names name)
