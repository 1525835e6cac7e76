-- What is refused in the statements of an `initial`, by their forms.
use Rattle.process_latches.proofs.Common.{◌≡◌, ℕ, suc, ◌<◌, Bool, false, List, [], ◌∷◌, ◌++◌, map, length, take, get_or, refl, sym, ap, ◌∙◌, subst, Option, None, Some, if◌then◌else◌, flat_map, Span}
use Rattle.process_latches.proofs.Common.{Expr, Identifier, LeftSide, out-LeftSide, Assignment, Stmt, fold-roll-Stmt, left_first_token, Fault, Decl, least, Names, decl_shape, Sense, sense, assigned}
use Rattle.process_latches.proofs.Common.{not_constant, constant_faults_at, is_empty, least_none, least_empty, name_alone, out-name, Refusal, IsFirst, AreSized, flat_take}
use Rattle.vlog_syntax.specs.declared.feature.Feature.TheVariants.{InitialForm}
use Rattle.vlog_syntax.specs.declared.left_side.LeftSide.TheVariants as lv
use Rattle.vlog_syntax.specs.declared.stmt.Stmt.TheOpen as t
use Rattle.vlog_syntax.specs.declared.stmt.Stmt.TheVariants.{SeqBlock, BlockingAssignment, rolls-SeqBlock, rolls-BlockingAssignment}
use Rattle.vlog_meaning.specs.Operators.{IsSized}
use Rattle.elab_proc.specs.declared.refusal.Refusal.TheVariants.{Wrong, Unsupported}
use Rattle.process_latches.specs.Initial.{value_refusals, start_refusals, assignment_refusals, initial_step, initial_item, initial_refusals}

found_in : (names : Names) (body : List Stmt) → flat_map (λ (found : List Refusal). found) (map (initial_refusals names) body) ≡ flat_map (initial_refusals names) body
found_in names [] = refl
found_in names (s ∷ more) = ap (λ (l : List Refusal). initial_refusals names s ++ l) (found_in names more)

pub initial_block : (names : Names) (at : Span) (label : Option Identifier) (body : List Stmt) → initial_refusals names (SeqBlock at label body) ≡ flat_map (initial_refusals names) body
initial_block names at label body =
    ap (initial_refusals names) (sym (rolls-SeqBlock at label body)) ∙
    fold-roll-Stmt (List Refusal) (List Refusal) (initial_step names) initial_item (t.SeqBlock at label body) ∙ found_in names body

pub initial_assignment : (names : Names) (a : Assignment) → initial_refusals names (BlockingAssignment a) ≡ assignment_refusals names a (name_alone (out-LeftSide a.left))
initial_assignment names a =
    ap (initial_refusals names) (sym (rolls-BlockingAssignment a)) ∙
    fold-roll-Stmt (List Refusal) (List Refusal) (initial_step names) initial_item (t.BlockingAssignment a)

pub block_first : (names : Names) (s : Stmt) (at : Span) (label : Option Identifier) (body : List Stmt) (o : Option Refusal) → s ≡ SeqBlock at label body → IsFirst (flat_map (initial_refusals names) body) o → IsFirst (initial_refusals names s) o
block_first names s at label body o is i = subst (λ (l : List Refusal). IsFirst l o) (sym (ap (initial_refusals names) is ∙ initial_block names at label body)) i

pub assignment_first : (names : Names) (s : Stmt) (a : Assignment) (o : Option Refusal) → s ≡ BlockingAssignment a → IsFirst (assignment_refusals names a (name_alone (out-LeftSide a.left))) o → IsFirst (initial_refusals names s) o
assignment_first names s a o is i = subst (λ (l : List Refusal). IsFirst l o) (sym (ap (initial_refusals names) is ∙ initial_assignment names a)) i

-- one statement more
pub block_more : (names : Names) (body : List Stmt) (k : ℕ) (s : Stmt) (found o r : Option Refusal) → s ≡ get_or body k s → k < length body → IsFirst (flat_map (initial_refusals names) (take k body)) found → IsFirst (initial_refusals names s) o → ((xs ys : List Refusal) → IsFirst xs found → IsFirst ys o → IsFirst (xs ++ ys) r) → IsFirst (flat_map (initial_refusals names) (take (suc k) body)) r
block_more names body k s found o r is less before here joined =
    subst (λ (l : List Refusal). IsFirst l r) (sym (flat_take (initial_refusals names) body k s is less)) (joined (flat_map (initial_refusals names) (take k body)) (initial_refusals names s) before here)

-- Assignments.

-- the same, where it is known what the name is declared as
pub declared_first : (names : Names) (n : Identifier) (value : Expr) (d e : Option Decl) (o : Option Refusal) → d ≡ names n.name → d ≡ e → IsFirst (start_refusals names n value e) o → IsFirst (start_refusals names n value (names n.name)) o
declared_first names n value d e o is same i = subst (λ (x : Option Decl). IsFirst (start_refusals names n value x) o) (sym same ∙ is) i

pub name_first : (names : Names) (a : Assignment) (n : Identifier) (value : Expr) (o : Option Refusal) → a.left ≡ lv.Name n → value ≡ a.value → IsFirst (start_refusals names n value (names n.name)) o → IsFirst (assignment_refusals names a (name_alone (out-LeftSide a.left))) o
name_first names a n value o named same i =
    let by_name : assignment_refusals names a (name_alone (out-LeftSide a.left)) ≡ start_refusals names n a.value (names n.name) = ap (λ (l : LeftSide). assignment_refusals names a (name_alone (out-LeftSide l))) named ∙ ap (λ (x : Option Identifier). assignment_refusals names a x) (ap name_alone (out-name n)) in
    subst (λ (l : List Refusal). IsFirst l o) (sym by_name) (subst (λ (x : Expr). IsFirst (start_refusals names n x (names n.name)) o) same i)

pub other_first : (names : Names) (a : Assignment) (o : Option Refusal) → name_alone (out-LeftSide a.left) ≡ None → IsFirst (Unsupported (left_first_token a.left) InitialForm ∷ []) o → IsFirst (assignment_refusals names a (name_alone (out-LeftSide a.left))) o
other_first names a o none i = subst (λ (x : Option Identifier). IsFirst (assignment_refusals names a x) o) (sym none) i

-- Values.

some_signal : (xs : List Fault) (o : Option Fault) (f : Fault) → o ≡ least xs → o ≡ Some f → is_empty xs ≡ false
some_signal [] o f is some = let e : Some f ≡ None = sym some ∙ is ∙ sym least_empty in absurd cc
some_signal (x ∷ xs) o f is some = refl

pub no_signal : (xs : List Fault) (o : Option Fault) → o ≡ least xs → o ≡ None → xs ≡ []
no_signal xs o is none = least_none xs (sym is ∙ none)

pub signal_first : (names : Names) (n : Identifier) (width : ℕ) (value : Expr) (s : Option Fault) (f : Fault) (o : Option Refusal) → s ≡ least (sense names value).signals → s ≡ Some f → IsFirst (Unsupported n.span InitialForm ∷ []) o → IsFirst (value_refusals names n width value) o
signal_first names n width value s f o is some i =
    subst (λ (b : Bool). IsFirst (if b then map Wrong (constant_faults_at (sense names value) (assigned (sense names value) width)) else Unsupported n.span InitialForm ∷ []) o) (sym (some_signal (sense names value).signals s f is some)) i

pub constant_first : (names : Names) (n : Identifier) (width : ℕ) (value : Expr) (o : Option Refusal) → (sense names value).signals ≡ [] → IsFirst (map Wrong (constant_faults_at (sense names value) (assigned (sense names value) width))) o → IsFirst (value_refusals names n width value) o
constant_first names n width value o none i =
    subst (λ (b : Bool). IsFirst (if b then map Wrong (constant_faults_at (sense names value) (assigned (sense names value) width)) else Unsupported n.span InitialForm ∷ []) o) (sym (ap (λ (l : List Fault). is_empty l) none)) i

-- the faults of a value that reads no signal
pub only_faults : (x : Sense) (o : Option Fault) → x.signals ≡ [] → o ≡ least x.faults → o ≡ least (not_constant x)
only_faults x o none is = is ∙ ap (λ (l : List Fault). least (l ++ x.faults)) (sym none)

pub sized_there : (names : Names) (n : Identifier) (d e : Option Decl) → d ≡ names n.name → d ≡ e → AreSized names → IsSized (decl_shape e)
sized_there names n d e is same sized = subst (λ (x : Option Decl). IsSized (decl_shape x)) (sym is ∙ same) (sized n.name)
