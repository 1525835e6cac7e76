-- The statements of a process in the order in which they run: each loop is replaced by its turns, in which its variable
-- is a constant, and each case has its arms (IEEE 1364-2005, 9.4 to 9.6).
use Rattle.std.specs.Prelude.{◌≡◌, ℕ, zero, suc, ◌-◌, ◌%◌, ◌^◌, max, Bool, true, false, not, ◌&&◌, ◌||◌, List, [], ◌∷◌, ◌++◌, map, Option, Some, None, nat_eq, nat_lt, nat_le, bit_or, if◌then◌else◌}
use Rattle.std.specs.Str.{bytes_eq}
use Rattle.std.proofs.Common.{refl}
use Rattle.std.proofs.lemmas.Bool.{leb-true, ltb-true}
use Rattle.mcy_base.specs.declared.span.Span.{Span}
use Rattle.mcy_base.specs.declared.word.Word.{Word}
use Rattle.vlog_syntax.specs.declared.feature.Feature.{Feature}
use Rattle.vlog_syntax.specs.declared.feature.Feature.TheVariants as f
use Rattle.vlog_syntax.specs.declared.identifier.Identifier.{Identifier}
use Rattle.vlog_syntax.specs.declared.identifier.Number.{Number}
use Rattle.vlog_syntax.specs.declared.expr.Expr.{Expr}
use Rattle.vlog_syntax.specs.declared.expr.Expr.TheOpen as e
use Rattle.vlog_syntax.specs.declared.expr.Expr.TheOpen.{Expr-F}
use Rattle.vlog_syntax.specs.declared.expr.Expr.TheFolds.{fold-Expr}
use Rattle.vlog_syntax.specs.declared.left_side.LeftSide.{LeftSide, out-LeftSide}
use Rattle.vlog_syntax.specs.declared.left_side.LeftSide.TheOpen as l
use Rattle.vlog_syntax.specs.declared.left_side.LeftSide.TheOpen.{LeftSide-F}
use Rattle.vlog_syntax.specs.Places.{left_first_token}
use Rattle.vlog_syntax.specs.declared.stmt.Stmt.{Stmt}
use Rattle.vlog_syntax.specs.declared.stmt.Stmt.TheOpen as t
use Rattle.vlog_syntax.specs.declared.stmt.Stmt.TheOpen.{Stmt-F, CaseItem-F}
use Rattle.vlog_syntax.specs.declared.stmt.Stmt.TheFolds.{fold-Stmt}
use Rattle.vlog_syntax.specs.declared.stmt.Assignment.{Assignment}
use Rattle.vlog_syntax.specs.declared.stmt.CaseKind.{CaseKind}
use Rattle.vlog_syntax.specs.declared.stmt.CaseKind.TheVariants as k
use Rattle.vlog_meaning.specs.declared.scope.Decl.{Decl}
use Rattle.vlog_meaning.specs.declared.scope.Decl.TheVariants.{Signal, Constant}
use Rattle.vlog_meaning.specs.declared.fault.ConstError.{ConstError}
use Rattle.vlog_meaning.specs.declared.fault.ConstError.TheVariants.{Unknown, NotConstant}
use Rattle.vlog_meaning.specs.Scopes.{Names, nothing, with_name}
use Rattle.vlog_meaning.specs.Senses.{is_empty}
use Rattle.vlog_effects.specs.Expressions.{width_of, is_signed_of, value, is_constant, constant_of, constant_faults}
use Rattle.vlog_effects.specs.Selectors.{keeps_width}

-- an assignment in the names that it sees
pub record Assigning : Type 0 where
  pub names : Names
  pub is_blocking : Bool
  pub left : LeftSide
  pub place : Span
  pub right : Expr

-- a condition in the names that it sees
pub record Test : Type 0 where
  pub names : Names
  pub condition : Expr

-- a case: its selector and labels, and the size to which all of these are brought (IEEE 1364-2005, 9.5)
pub record Selection : Type 0 where
  pub names : Names
  pub kind : CaseKind
  pub selector : Expr
  pub labels : List Expr
  pub width : ℕ
  pub is_signed : Bool

-- why statements cannot be run: a constant that is none, a construct that is not supported, a `for` with too many turns
pub data Flaw : Type 0 where
  Const : ConstError → Flaw
  Lacks : Span → Feature → Flaw
  Turns : Span → Flaw

mutual
  -- Statements, one after the other: each stands before what comes after it. A choice is at its `if`. A case has its arms, and then
  -- the bodies of all its items in turn, which no run reaches: they are what is looked at where it is refused.
  pub data Steps : Type 0 where
    Done : Steps
    Assign : Assigning → Steps → Steps
    Choose : Span → Test → Steps → Steps → Steps → Steps
    Case : Selection → Arms → Steps → Steps → Steps
    Refuse : Flaw → Steps → Steps

  -- The items of a case in order, each at its first label, and what is done where none matches.
  pub data Arms : Type 0 where
    Otherwise : Steps → Arms
    Arm : Span → List Expr → Steps → Arms → Arms

-- the first steps, and then the others
abbrev pub followed : Steps → Steps → Steps
followed Done b = b
followed (Assign a more) b = Assign a (followed more b)
followed (Choose at c then_part else_part more) b = Choose at c then_part else_part (followed more b)
followed (Case c arms bodies more) b = Case c arms bodies (followed more b)
followed (Refuse x more) b = Refuse x (followed more b)

-- what a statement is in the names that it sees
abbrev pub InNames : Type 0
InNames = Names → Steps

abbrev pub in_turn : List InNames → InNames
in_turn [] names = Done
in_turn (s ∷ more) names = followed (s names) (in_turn more names)

abbrev pub refused : List Flaw → Steps
refused [] = Done
refused (x ∷ more) = Refuse x (refused more)

-- Loops (IEEE 1364-2005, 9.6): the body in turn, with the loop's variable as a constant.

-- the word of a width with these bits, where both are tested
abbrev pub tested_word : (width bits : ℕ) (some narrow fits : Bool) → nat_le 1 width ≡ some → nat_le width 128 ≡ narrow → nat_lt bits (2 ^ width) ≡ fits → Option Word
tested_word width bits true true true e f g = Some (record { width = width; bits = bits; some = leb-true 1 width e; narrow = leb-true width 128 f; fits = ltb-true bits (2 ^ width) g })
tested_word width bits some narrow fits e f g = None

-- the word of this width with a number's lowest bits
abbrev pub word_of : ℕ → ℕ → Option Word
word_of width v = let bits = v % 2 ^ width in tested_word width bits (nat_le 1 width) (nat_le width 128) (nat_lt bits (2 ^ width)) refl refl refl

-- a loop: the place of its `for`, its variable with its width and sign, its condition and its step
pub record Loop : Type 0 where
  pub place : Span
  pub name : Identifier
  pub width : ℕ
  pub is_signed : Bool
  pub condition : Expr
  pub step : Assignment

abbrev pub with_word : Loop → Names → Option Word → Names
with_word loop names None = names
with_word loop names (Some w) = with_name names loop.name.name (Some (Constant w 0 loop.is_signed))

-- the names inside a turn in which the variable has this value
abbrev pub turn_names : Loop → Names → ℕ → Names
turn_names loop names v = with_word loop names (word_of loop.width v)

abbrev pub flaws_of : List ConstError → List Flaw
flaws_of xs = map Const xs

-- the flaw of a name that must be the loop's variable
abbrev pub name_flaw : Option Decl → Span → Flaw
name_flaw (Some (Signal width low is_signed number)) place = Const (NotConstant place)
name_flaw other place = Const (Unknown place)

-- the name, where a left side is one
abbrev pub name_alone : LeftSide-F LeftSide → Option Identifier
name_alone (l.Name n) = Some n
name_alone other = None

-- a loop's step assigns its variable
abbrev pub step_flaws : Loop → Names → Option Identifier → List Flaw
step_flaws loop names None = Const (NotConstant (left_first_token loop.step.left)) ∷ []
step_flaws loop names (Some n) = if bytes_eq n.name loop.name.name then [] else name_flaw (names n.name) n.span ∷ []

-- what a condition with this constant value brings
abbrev pub tested : Option ℕ → List Flaw → Steps → Steps
tested None flaws turn = refused flaws
tested (Some zero) flaws turn = Done
tested (Some (suc n)) flaws turn = turn

-- what comes after a turn: the next ones, from the step's value on
abbrev pub stepped : List Flaw → Option ℕ → List Flaw → (ℕ → Steps) → Steps
stepped (x ∷ more) v flaws later = refused (x ∷ more)
stepped [] None flaws later = refused flaws
stepped [] (Some v) flaws later = later v

-- The turns from a value of the variable on, at most so many.
unfoldable pub turns : ℕ → Loop → InNames → Names → ℕ → Steps
turns zero loop body names v =
    let here = turn_names loop names v in
    tested (constant_of here 1 loop.condition) (flaws_of (constant_faults here 1 loop.condition)) (Refuse (Turns loop.place) Done)
turns (suc most) loop body names v =
    let here = turn_names loop names v in
    tested (constant_of here 1 loop.condition) (flaws_of (constant_faults here 1 loop.condition))
    (followed (body here) (stepped (step_flaws loop here (name_alone (out-LeftSide loop.step.left))) (constant_of here loop.width loop.step.value) (flaws_of (constant_faults here loop.width loop.step.value)) (λ next. turns most loop body names next)))

-- the most turns of one loop
abbrev pub max_turns : ℕ
max_turns = 4096

-- the turns from the variable's first value on
abbrev pub all_turns : Loop → InNames → Names → Option ℕ → List Flaw → Steps
all_turns loop body names None flaws = refused flaws
all_turns loop body names (Some v) flaws = turns max_turns loop body names v

abbrev pub looped : Span → Assignment → Expr → Assignment → InNames → Names → Identifier → Option Decl → Steps
looped at start condition step body names n (Some (Signal width low is_signed number)) =
    all_turns (record { place = at; name = n; width = width; is_signed = is_signed; condition = condition; step = step }) body names (constant_of names width start.value) (flaws_of (constant_faults names width start.value))
looped at start condition step body names n other = Refuse (Const (Unknown n.span)) Done

-- a loop whose start assigns a name, or none
abbrev pub loop_steps : Span → Assignment → Expr → Assignment → InNames → Names → Option Identifier → Steps
loop_steps at start condition step body names None = Refuse (Const (NotConstant (left_first_token start.left))) Done
loop_steps at start condition step body names (Some n) = looped at start condition step body names n (names n.name)

-- Cases (IEEE 1364-2005, 9.5).

-- an item of a case: its labels, none for the default, and its body
pub record Item : Type 0 where
  pub place : Span
  pub labels : List Expr
  pub body : InNames

abbrev pub ignored : CaseKind → Number → ℕ
ignored k.Case n = 0
ignored k.Casez n = n.z_bits
ignored k.Casex n = bit_or n.z_bits n.x_bits

abbrev pub ignored_step : CaseKind → Expr-F ℕ → ℕ
ignored_step kind (e.Number n) = ignored kind n
ignored_step kind (e.Parenthesized at inner) = inner
ignored_step kind other = 0

-- the bits of a label that are no matter, where it is itself a number, parentheses aside
abbrev pub dont_care : CaseKind → Expr → ℕ
dont_care kind = fold-Expr ℕ (ignored_step kind)

abbrev pub greatest : Names → List Expr → ℕ
greatest names [] = 0
greatest names (x ∷ more) = max (width_of names x) (greatest names more)

abbrev pub all_signed : Names → List Expr → Bool
all_signed names [] = true
all_signed names (x ∷ more) = is_signed_of names x && all_signed names more

-- the first item without labels is the default
abbrev pub default_of : List Item → Option InNames
default_of [] = None
default_of (i ∷ more) = if is_empty i.labels then Some i.body else default_of more

abbrev pub labelled : List Item → List Item
labelled [] = []
labelled (i ∷ more) = if is_empty i.labels then labelled more else i ∷ labelled more

-- a label matches whatever the selector is
abbrev pub always : Selection → List Expr → Bool
always c [] = false
always c (x ∷ more) = nat_eq (dont_care c.kind x) (2 ^ c.width - 1) || always c more

abbrev pub done_by : Option InNames → Names → Steps
done_by None names = Done
done_by (Some body) names = body names

-- The arms of items. One that always matches ends them.
abbrev pub arms_of : Selection → List Item → Option InNames → Arms
arms_of c [] default = Otherwise (done_by default c.names)
arms_of c (i ∷ more) default = if always c i.labels then Otherwise (i.body c.names) else Arm i.place i.labels (i.body c.names) (arms_of c more default)

-- a constant label without bits that are no matter names the value
abbrev pub is_named : Selection → ℕ → List Expr → Bool
is_named c v [] = false
is_named c v (x ∷ more) = (is_constant c.names x && (nat_eq (dont_care c.kind x) 0 && nat_eq (value c.names nothing c.width c.is_signed x) v)) || is_named c v more

abbrev pub all_named : Selection → ℕ → List Expr → Bool
all_named c zero labels = true
all_named c (suc n) labels = is_named c n labels && all_named c n labels

-- the bits that the selector can have at the size of the case: its own where it is unsigned and keeps them, else all
abbrev pub selector_bits : Selection → ℕ
selector_bits c = if keeps_width c.selector && not (is_signed_of c.names c.selector) then width_of c.names c.selector else c.width

-- each value that the selector can have is named, where it has at most 8 bits
abbrev pub names_all : Selection → Bool
names_all c = let w = selector_bits c in nat_le w 8 && all_named c (2 ^ w) c.labels

-- all items but the last, and the body of the last
abbrev pub front : List Item → List Item
front [] = []
front (i ∷ []) = []
front (i ∷ j ∷ more) = i ∷ front (j ∷ more)

abbrev pub last_body : List Item → Option InNames
last_body [] = None
last_body (i ∷ []) = Some i.body
last_body (i ∷ j ∷ more) = last_body (j ∷ more)

-- Where there is no default and the labels name each value of the selector, the last item is the default.
abbrev pub chosen_arms : Selection → List Item → Option InNames → Arms
chosen_arms c items (Some body) = arms_of c items (Some body)
chosen_arms c items None = if names_all c then arms_of c (front items) (last_body items) else arms_of c items None

abbrev pub labels_of : List Item → List Expr
labels_of [] = []
labels_of (i ∷ more) = i.labels ++ labels_of more

abbrev pub selection_of : Names → CaseKind → Expr → List Item → Selection
selection_of names kind selector items = let xs = selector ∷ labels_of items in record { names = names; kind = kind; selector = selector; labels = labels_of items; width = greatest names xs; is_signed = all_signed names xs }

-- the bodies of all items, those too that are no arms
abbrev pub bodies_of : List Item → InNames
bodies_of [] names = Done
bodies_of (i ∷ more) names = followed (i.body names) (bodies_of more names)

abbrev pub case_steps : CaseKind → Expr → List Item → InNames
case_steps kind selector items names = let c = selection_of names kind selector items in Case c (chosen_arms c (labelled items) (default_of items)) (bodies_of items names) Done

-- Each statement.

abbrev pub assigning : Bool → Assignment → Names → Assigning
assigning is_blocking a names = record { names = names; is_blocking = is_blocking; left = a.left; place = a.span; right = a.value }

abbrev pub else_steps : Option InNames → InNames
else_steps None names = Done
else_steps (Some s) names = s names

abbrev pub step_of : Stmt-F InNames Item → InNames
step_of (t.Null at) names = Done
step_of (t.SeqBlock at name body) names = in_turn body names
step_of (t.Conditional at condition then_part else_part) names = Choose at (record { names = names; condition = condition }) (then_part names) (else_steps else_part names) Done
step_of (t.Case at kind selector items) names = case_steps kind selector items names
step_of (t.For at start condition step body) names = loop_steps at start condition step body names (name_alone (out-LeftSide start.left))
step_of (t.While at condition body) names = Refuse (Lacks at f.Delay) Done
step_of (t.Repeat at count body) names = Refuse (Lacks at f.Delay) Done
step_of (t.Forever at body) names = Refuse (Lacks at f.Delay) Done
step_of (t.EventControl at control body) names = Refuse (Lacks at f.Delay) Done
step_of (t.DelayControl at delay body) names = Refuse (Lacks at f.Delay) Done
step_of (t.SystemTaskEnable name arguments) names = Refuse (Lacks name.span f.SystemTask) Done
step_of (t.BlockingAssignment a) names = Assign (assigning true a names) Done
step_of (t.NonblockingAssignment a) names = Assign (assigning false a names) Done

abbrev pub item_of : CaseItem-F InNames Item → Item
item_of i = record { place = i.span; labels = i.labels; body = i.body }

-- the steps of a statement
abbrev pub steps_of : Stmt → InNames
steps_of = fold-Stmt InNames Item step_of item_of
