-- The parts of an expression with a shape have shapes.
use Rattle.vlog_meaning.proofs.Common.{◌≡◌, ℕ, zero, suc, ◌+◌, ◌*◌, ◌<◌, ◌≤◌, ◌^◌, Bool, true, false, ◌&&◌, ℤ, List, [], ◌∷◌, ◌++◌, length, get_or, refl, sym, ap, ◌∙◌, arith, nat_le, subst, int_lt}
use Rattle.vlog_meaning.proofs.Common.{if◌then◌else◌, Some, None, Option, nat_tests, Span, Identifier, UnaryOperator, BinaryOperator, Expr, Fault, Function, Signed, Unsigned, Clog2, Random, Time}
use Rattle.vlog_meaning.proofs.Common.{Decl, Signal, Constant, Shape, function_of, natural, IsSized, Names, decl_shape, FitsSignals, FitsWord, Sense, sense, senses, constant_integer, sized}
use Rattle.vlog_meaning.proofs.Common.{range_faults, name_faults, part_width, total_width, all_faults, call_faults, IsWhole, AreWhole, IsWholeCall, clog2, Store, nothing, store_of, IsContext}
use Rattle.vlog_meaning.proofs.Common.{call_shape, call_value, own}
use Rattle.vlog_syntax.specs.declared.expr.Expr.TheVariants as v
use Rattle.vlog_meaning.proofs.Blanks.{left_nil, right_nil, these_nil, those_nil}
use Rattle.vlog_meaning.proofs.Contexts.{wider}
use Rattle.vlog_meaning.proofs.Steps as step
use Rattle.vlog_meaning.proofs.Refusals.{constant_whole}

pub says : (names : Names) (e : Expr) (x : Sense) → sense names e ≡ x → IsWhole names e → x.faults ≡ []
says names e x is whole = ap (λ (y : Sense). y.faults) (sym is) ∙ whole

test_holds : (b : Bool) (x : Fault) → (if b then [] else x ∷ []) ≡ [] → b ≡ true
test_holds true x e = refl
test_holds false x e = cc

pub test_fails : (b : Bool) (x : Fault) (more : List Fault) → (if b then x ∷ [] else more) ≡ [] → more ≡ []
test_fails true x more e = cc
test_fails false x more e = e

pub sized_within : (span : Span) (w : ℕ) → sized span w ≡ [] → (1 ≤ w) × (w ≤ 128)
sized_within span w e =
    let test : nat_le 1 w && nat_le w 128 ≡ true = test_holds (nat_le 1 w && nat_le w 128) _ e in
    (grind (arith, nat_tests), grind (arith, nat_tests))

range_within : (span : Span) (msb lsb : ℤ) → range_faults span msb lsb ≡ [] → (1 ≤ part_width msb lsb) × (part_width msb lsb ≤ 128)
range_within span msb lsb e = sized_within span (part_width msb lsb) (test_fails (int_lt msb lsb) _ _ e)

joined_nil : (xs : List Fault) → xs ≡ [] → xs ++ [] ≡ []
joined_nil [] e = refl
joined_nil (x ∷ xs) e = cc

pub name_sized : (span : Span) (decl : Option Decl) → name_faults span decl ≡ [] → IsSized (decl_shape decl)
name_sized span (Some (Signal width low is_signed number)) e = let w = sized_within span width e in record { some = w.0; narrow = w.1 }
name_sized span (Some (Constant value low is_signed)) e = record { some = value.some; narrow = value.narrow }
name_sized span None e = cc

pub whole_name : (names : Names) (e : Expr) (n : Identifier) → e ≡ v.Name n → IsWhole names e → IsSized (decl_shape (names n.name))
whole_name names e n is whole = name_sized n.span (names n.name) (says names e _ (ap (sense names) is ∙ step.sense_name names n) whole)

pub whole_index : (names : Names) (e : Expr) (n : Identifier) (s : Span) (i : Expr) → e ≡ v.BitSelect n s i → IsWhole names e → IsWhole names i
whole_index names e n s i is whole = right_nil _ _ (says names e _ (ap (sense names) is ∙ step.sense_bit_select names n s i) whole)

-- a part select: both bounds, and the width
pub record PartFacts (names : Names) (m l : Expr) : Type 0 where
  pub msb : IsWhole names m
  pub lsb : IsWhole names l
  pub some : 1 ≤ part_width (constant_integer (sense names m)) (constant_integer (sense names l))
  pub narrow : part_width (constant_integer (sense names m)) (constant_integer (sense names l)) ≤ 128

pub whole_part : (names : Names) (e : Expr) (n : Identifier) (s : Span) (m l : Expr) → e ≡ v.PartSelect n s m l → IsWhole names e → PartFacts names m l
whole_part names e n s m l is whole =
    let f = right_nil _ _ (says names e _ (ap (sense names) is ∙ step.sense_part_select names n s m l) whole) in
    let bounds = these_nil _ _ f in
    let width = range_within s (constant_integer (sense names m)) (constant_integer (sense names l)) (those_nil _ _ f) in
    record { msb = constant_whole (sense names m) (left_nil _ _ bounds); lsb = constant_whole (sense names l) (right_nil _ _ bounds); some = width.0; narrow = width.1 }

pub record IndexedFacts (names : Names) (b w : Expr) : Type 0 where
  pub base : IsWhole names b
  pub width : IsWhole names w
  pub some : 1 ≤ natural (constant_integer (sense names w))
  pub narrow : natural (constant_integer (sense names w)) ≤ 128

pub whole_indexed : (names : Names) (e : Expr) (n : Identifier) (s : Span) (b w : Expr) → e ≡ v.IndexedPartSelect n s b w → IsWhole names e → IndexedFacts names b w
whole_indexed names e n s b w is whole =
    let f = right_nil _ _ (says names e _ (ap (sense names) is ∙ step.sense_indexed_part_select names n s b w) whole) in
    let g = right_nil _ _ f in
    let within = sized_within s (natural (constant_integer (sense names w))) (those_nil _ _ g) in
    record { base = left_nil _ _ f; width = constant_whole (sense names w) (these_nil _ _ g); some = within.0; narrow = within.1 }

pub whole_inner : (names : Names) (e : Expr) (s : Span) (i : Expr) → e ≡ v.Parenthesized s i → IsWhole names e → IsWhole names i
whole_inner names e s i is whole = says names e _ (ap (sense names) is ∙ step.sense_parenthesized names s i) whole

pub whole_operand : (names : Names) (e : Expr) (s : Span) (op : UnaryOperator) (i : Expr) → e ≡ v.Unary s op i → IsWhole names e → IsWhole names i
whole_operand names e s op i is whole = says names e _ (ap (sense names) is ∙ step.sense_unary names s op i) whole

pub whole_pair : (names : Names) (e : Expr) (s : Span) (op : BinaryOperator) (i j : Expr) → e ≡ v.Binary s op i j → IsWhole names e → IsWhole names i × IsWhole names j
whole_pair names e s op i j is whole =
    let f = says names e _ (ap (sense names) is ∙ step.sense_binary names s op i j) whole in
    (left_nil _ _ f, right_nil _ _ f)

pub whole_choice : (names : Names) (e : Expr) (s : Span) (x i j : Expr) → e ≡ v.Conditional s x i j → IsWhole names e → IsWhole names x × IsWhole names i × IsWhole names j
whole_choice names e s x i j is whole =
    let f = says names e _ (ap (sense names) is ∙ step.sense_conditional names s x i j) whole in
    let g = right_nil _ _ f in
    (left_nil _ _ f, left_nil _ _ g, right_nil _ _ g)

pub record JoinFacts (names : Names) (ps : List Expr) : Type 0 where
  pub parts : AreWhole names ps
  pub some : 1 ≤ total_width (senses names ps)
  pub narrow : total_width (senses names ps) ≤ 128

pub whole_join : (names : Names) (e : Expr) (s : Span) (ps : List Expr) → e ≡ v.Concatenation s ps → IsWhole names e → JoinFacts names ps
whole_join names e s ps is whole =
    let f = says names e _ (ap (sense names) is ∙ step.sense_concatenation names s ps) whole in
    let within = sized_within s (total_width (senses names ps)) (those_nil _ _ f) in
    record { parts = these_nil _ _ f; some = within.0; narrow = within.1 }

-- a replication
pub record TimesFacts (names : Names) (k : Expr) (ps : List Expr) : Type 0 where
  pub times : IsWhole names k
  pub parts : AreWhole names ps
  pub some : 1 ≤ natural (constant_integer (sense names k)) * total_width (senses names ps)
  pub narrow : natural (constant_integer (sense names k)) * total_width (senses names ps) ≤ 128
  pub few : natural (constant_integer (sense names k)) ≤ 128
  pub short : total_width (senses names ps) ≤ 128

factors_small : (a b : ℕ) → 1 ≤ a * b → a * b ≤ 128 → (a ≤ 128) × (b ≤ 128)
factors_small zero b some h = absurd (omega (arith, some))
factors_small (suc a) zero some h = absurd (let e : suc a * zero ≡ 0 = omega arith in omega arith)
factors_small (suc a) (suc b) some h = let e : suc a * suc b ≡ a * b + a + b + 1 = omega arith in (omega arith, omega arith)

pub whole_times : (names : Names) (e : Expr) (s : Span) (k : Expr) (ps : List Expr) → e ≡ v.MultipleConcatenation s k ps → IsWhole names e → TimesFacts names k ps
whole_times names e s k ps is whole =
    let f = says names e _ (ap (sense names) is ∙ step.sense_multiple_concatenation names s k ps) whole in
    let inner = these_nil _ _ f in
    let within = sized_within s (natural (constant_integer (sense names k)) * total_width (senses names ps)) (those_nil _ _ f) in
    let small = factors_small (natural (constant_integer (sense names k))) (total_width (senses names ps)) within.0 within.1 in
    record { times = constant_whole (sense names k) (these_nil _ _ (left_nil _ _ inner)); parts = right_nil _ _ inner; some = within.0; narrow = within.1; few = small.0; short = small.1 }

call_whole : (f : Option Function) (span : Span) (args : List Sense) → call_faults f span args ≡ [] → IsWholeCall f args
call_whole (Some Signed) span [] e = tt
call_whole (Some Signed) span (a ∷ []) e = e
call_whole (Some Signed) span (a ∷ b ∷ more) e = tt
call_whole (Some Unsigned) span [] e = tt
call_whole (Some Unsigned) span (a ∷ []) e = e
call_whole (Some Unsigned) span (a ∷ b ∷ more) e = tt
call_whole (Some Clog2) span [] e = tt
call_whole (Some Clog2) span (a ∷ []) e = constant_whole a e
call_whole (Some Clog2) span (a ∷ b ∷ more) e = tt
call_whole (Some Random) span args e = tt
call_whole (Some Time) span args e = tt
call_whole None span args e = tt

pub whole_call : (names : Names) (e : Expr) (n : Identifier) (args : List Expr) → e ≡ v.SystemFunctionCall n args → IsWhole names e → IsWholeCall (function_of n.name) (senses names args)
whole_call names e n args is whole = call_whole (function_of n.name) n.span (senses names args) (says names e _ (ap (sense names) is ∙ step.sense_system_function_call names n args) whole)

-- the arguments of a call
arguments_whole : (f : Option Function) (span : Span) (args : List Sense) → call_faults f span args ≡ [] → all_faults args ≡ []
arguments_whole (Some Signed) span [] e = refl
arguments_whole (Some Signed) span (a ∷ []) e = joined_nil a.faults e
arguments_whole (Some Signed) span (a ∷ b ∷ more) e = cc
arguments_whole (Some Unsigned) span [] e = refl
arguments_whole (Some Unsigned) span (a ∷ []) e = joined_nil a.faults e
arguments_whole (Some Unsigned) span (a ∷ b ∷ more) e = cc
arguments_whole (Some Clog2) span [] e = refl
arguments_whole (Some Clog2) span (a ∷ []) e = joined_nil a.faults (constant_whole a e)
arguments_whole (Some Clog2) span (a ∷ b ∷ more) e = cc
arguments_whole (Some Random) span [] e = refl
arguments_whole (Some Random) span (a ∷ more) e = cc
arguments_whole (Some Time) span [] e = refl
arguments_whole (Some Time) span (a ∷ more) e = cc
arguments_whole None span args e = cc

pub whole_arguments : (names : Names) (e : Expr) (n : Identifier) (args : List Expr) → e ≡ v.SystemFunctionCall n args → IsWhole names e → AreWhole names args
whole_arguments names e n args is whole = arguments_whole (function_of n.name) n.span (senses names args) (says names e _ (ap (sense names) is ∙ step.sense_system_function_call names n args) whole)

-- each part of a list
pub element_whole : (names : Names) (es : List Expr) (i : ℕ) (x : Expr) → x ≡ get_or es i x → i < length es → AreWhole names es → IsWhole names x
element_whole names [] i x is h whole = absurd (omega arith)
element_whole names (e ∷ es) zero x is h whole = ap (λ (y : Expr). (sense names y).faults) is ∙ left_nil _ _ whole
element_whole names (e ∷ es) (suc i) x is h whole = element_whole names es i x is (omega arith) (right_nil _ _ whole)

-- where there are no words, no word has the wrong width
nothing_fits : (d : Option Decl) → FitsWord [] d
nothing_fits (Some (Signal width low is_signed number)) = tt
nothing_fits (Some (Constant value low is_signed)) = tt
nothing_fits None = tt

pub nothing_stored : (names : Names) → FitsSignals names []
nothing_stored names = λ name. nothing_fits (names name)

pub single_list : (es : List Expr) (x : Expr) → x ≡ get_or es 0 x → 1 ≤ length es → length es < 2 → es ≡ x ∷ []
single_list [] x is some few = absurd (omega arith)
single_list (e ∷ []) x is some few = ap (λ (y : Expr). y ∷ []) (sym is)
single_list (e ∷ f ∷ more) x is some few = absurd (omega arith)

-- the functions of one argument
abbrev TakesOne : Function → Type 0
TakesOne Signed = Unit {0}
TakesOne Unsigned = Unit {0}
TakesOne Clog2 = Unit {0}
TakesOne g = ⊥

one_whole : (names : Names) (g : Function) (x : Expr) → TakesOne g → IsWholeCall (Some g) (senses names (x ∷ [])) → IsWhole names x
one_whole names Signed x takes whole = whole
one_whole names Unsigned x takes whole = whole
one_whole names Clog2 x takes whole = whole
one_whole names Random x takes whole = absurd takes
one_whole names Time x takes whole = absurd takes

subst2 : (names : Names) {f : Option Function} {g : Function} {es : List Expr} {x : Expr} → f ≡ Some g → es ≡ x ∷ [] → IsWholeCall f (senses names es) → IsWholeCall (Some g) (senses names (x ∷ []))
subst2 names {f} {g} {es} {x} a b whole = let P : List Expr → Type 0 = λ l. IsWholeCall (Some g) (senses names l) in let Q : Option Function → Type 0 = λ o. IsWholeCall o (senses names es) in subst P b (subst Q a whole)

-- the only argument of a call
pub argument_whole : (names : Names) (f : Option Function) (g : Function) (es : List Expr) (x : Expr) → f ≡ Some g → TakesOne g → x ≡ get_or es 0 x → 1 ≤ length es → length es < 2 → IsWholeCall f (senses names es) → IsWhole names x
argument_whole names f g es x is takes at some few whole = one_whole names g x takes (subst2 names is (single_list es x at some few) whole)

-- the calls of one argument that are wiring or constants
pub unsigned_fits : (names : Names) (f : Option Function) (es : List Expr) (x : Expr) (n : ℕ) (c : Shape) → f ≡ Some Unsigned → x ≡ get_or es 0 x → 1 ≤ length es → length es < 2 → IsContext (call_shape f (senses names es)) c → n < 2 ^ (sense names x).shape.width → n < 2 ^ c.width
unsigned_fits names f es x n c is at some few within small =
    let P : List Expr → Type 0 = λ l. IsContext (call_shape (Some Unsigned) (senses names l)) c in
    let Q : Option Function → Type 0 = λ o. IsContext (call_shape o (senses names es)) c in
    let w : IsContext (call_shape (Some Unsigned) (senses names (x ∷ []))) c = subst P (single_list es x at some few) (subst Q is within) in
    wider n (sense names x).shape.width c.width small w.wide

pub clog2_fits : (names : Names) (f : Option Function) (es : List Expr) (x : Expr) (n : ℕ) (c : Shape) → f ≡ Some Clog2 → x ≡ get_or es 0 x → 1 ≤ length es → length es < 2 → IsContext (call_shape f (senses names es)) c → n ≤ 128 → n < 2 ^ c.width
clog2_fits names f es x n c is at some few within small =
    let P : List Expr → Type 0 = λ l. IsContext (call_shape (Some Clog2) (senses names l)) c in
    let Q : Option Function → Type 0 = λ o. IsContext (call_shape o (senses names es)) c in
    let w : IsContext (call_shape (Some Clog2) (senses names (x ∷ []))) c = subst P (single_list es x at some few) (subst Q is within) in
    wider n 32 c.width (omega arith) w.wide

pub nothing_held : store_of [] ≡ nothing
nothing_held = λ i n. 0

pub clog2_value : (names : Names) (f : Option Function) (es : List Expr) (x : Expr) (n v : ℕ) (store : Store) (c : Shape) → f ≡ Some Clog2 → x ≡ get_or es 0 x → 1 ≤ length es → length es < 2 → v ≡ own (store_of []) (sense names x) → n ≡ clog2 v → n ≡ call_value f (senses names es) store c
clog2_value names f es x n v store c is at some few held found =
    let P : List Expr → Type 0 = λ l. n ≡ call_value (Some Clog2) (senses names l) store c in
    let Q : Option Function → Type 0 = λ o. n ≡ call_value o (senses names es) store c in
    let one : n ≡ clog2 (own nothing (sense names x)) = found ∙ ap clog2 (held ∙ ap (λ (s : Store). own s (sense names x)) nothing_held) in
    subst Q (sym is) (subst P (sym (single_list es x at some few)) one)
