-- What is found of an assignment is that it can be carried out.
use Rattle.tb_assigns.proofs.Common.{◌≡◌, suc, ℕ, ◌<◌, Bool, true, false, ◌&&◌, List, [], ◌∷◌, ◌++◌, map, Option, Some, None, refl, sym, ap, ◌∙◌, length, get_or, take, Expr, LeftSide, Names, sense}
use Rattle.tb_assigns.proofs.Common.{is_empty, Part, Vector, part_vector, parts_of, concatenated, same_form, parts_take, has_shape, is_signal, all_signals, can_assign, NameSignals, CanAssign}
use Rattle.vlog_syntax.specs.declared.stmt.Assignment.{Assignment}
use Rattle.vlog_meaning.specs.declared.fault.Fault.{Fault}
use Rattle.vlog_meaning.specs.Answers.{least}
use Rattle.vlog_meaning.proofs.Firsts.{least_none}
use Rattle.vlog_meaning.proofs.Refusals.{least_empty}
use Rattle.tb_assigns.proofs.Checked.{sides_suffice}

pub without_fault : (xs : List Fault) (o : Option Fault) → o ≡ least xs → o ≡ None → true ≡ is_empty xs
without_fault xs o is none = sym (ap (λ (l : List Fault). is_empty l) (least_none xs (sym is ∙ none)))

pub with_fault : (xs : List Fault) (o : Option Fault) (f : Fault) → o ≡ least xs → o ≡ Some f → false ≡ is_empty xs
with_fault [] o f is some = absurd (let e : None ≡ Some f = least_empty ∙ sym is ∙ some in cc)
with_fault (x ∷ xs) o f is some = refl

and_again : (a b c : Bool) → a && (b && c) ≡ (a && b) && c
and_again true b c = refl
and_again false b c = refl

signals_append : (names : Names) (ps qs : List Part) → all_signals names (ps ++ qs) ≡ all_signals names ps && all_signals names qs
signals_append names [] qs = refl
signals_append names (p ∷ ps) qs = ap (λ (b : Bool). is_signal (part_vector names p) && b) (signals_append names ps qs) ∙ and_again (is_signal (part_vector names p)) (all_signals names ps) (all_signals names qs)

pub signals_next : (names : Names) (parts : List LeftSide) (k : ℕ) (x : LeftSide) (found here r : Bool) → x ≡ get_or parts k x → k < length parts → found ≡ all_signals names (concatenated (map parts_of (take k parts))) → here ≡ all_signals names (parts_of x) → r ≡ (found && here) → r ≡ all_signals names (concatenated (map parts_of (take (suc k) parts)))
signals_next names parts k x found here r is within before one both =
    let ps : List Part = concatenated (map parts_of (take k parts)) in
    both
    ∙ ap (λ (b : Bool). b && here) before
    ∙ ap (λ (b : Bool). all_signals names ps && b) one
    ∙ sym (signals_append names ps (parts_of x))
    ∙ ap (all_signals names) (sym (parts_take parts k x is within))

pub and_left : (a b : Bool) → a && b ≡ true → a ≡ true
and_left true b e = refl
and_left false b e = absurd cc

pub and_right : (a b : Bool) → a && b ≡ true → b ≡ true
and_right true b e = e
and_right false b e = absurd cc

pub empty_is : (xs : List Fault) → is_empty xs ≡ true → xs ≡ []
empty_is [] e = refl
empty_is (x ∷ xs) e = absurd cc

signal_is : (o : Option Vector) → is_signal o ≡ true → (v : Vector) × (o ≡ Some v)
signal_is (Some v) e = (v, refl)
signal_is None e = absurd cc

signals_are : (names : Names) (ps : List Part) → all_signals names ps ≡ true → NameSignals names ps
signals_are names [] e = tt
signals_are names (p ∷ ps) e = (signal_is (part_vector names p) (and_left (is_signal (part_vector names p)) (all_signals names ps) e), signals_are names ps (and_right (is_signal (part_vector names p)) (all_signals names ps) e))

pub check_is : (names : Names) (a : Assignment) (left right : Expr) (w s r c b : Bool) → left ≡ same_form a.left → right ≡ a.value → w ≡ has_shape names left → s ≡ all_signals names (parts_of a.left) → r ≡ has_shape names right → c ≡ (s && r) → b ≡ (w && c) → b ≡ can_assign names a
check_is names a left right w s r c b is other whole signals right_whole inner outer =
    let t : Bool = all_signals names (parts_of a.left) in
    outer
    ∙ ap (λ (x : Bool). w && x) inner
    ∙ ap (λ (x : Bool). x && (s && r)) (whole ∙ ap (has_shape names) is)
    ∙ ap (λ (x : Bool). has_shape names (same_form a.left) && (x && r)) signals
    ∙ ap (λ (x : Bool). has_shape names (same_form a.left) && (t && x)) (right_whole ∙ ap (has_shape names) other)

pub check_can : (names : Names) (a : Assignment) (b : Bool) → b ≡ can_assign names a → b ≡ true → CanAssign names a
check_can names a b is true_ =
    let w : Bool = has_shape names (same_form a.left) in
    let s : Bool = all_signals names (parts_of a.left) in
    let r : Bool = has_shape names a.value in
    let all : w && (s && r) ≡ true = sym is ∙ true_ in
    let rest = and_right w (s && r) all in
    sides_suffice names a (empty_is (sense names (same_form a.left)).faults (and_left w (s && r) all)) (signals_are names (parts_of a.left) (and_left s r rest)) (empty_is (sense names a.value).faults (and_right s r rest))
