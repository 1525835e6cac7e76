-- A constant has one value, whatever the signals are.
use Rattle.vlog_meaning.proofs.Common.{◌≡◌, List, [], ◌∷◌, ◌++◌, map, refl, sym, subst, Option, None, Some, Span, Expr, Expr-F, roll-Expr, fold-roll-Expr, ind-Expr, map-Expr, Function, Signed}
use Rattle.vlog_meaning.proofs.Common.{Unsigned, Clog2, Random, Time, Decl, Signal, Constant, Shape, function_of, sizing, left_context, right_context, operand_context, Names, Store, nothing}
use Rattle.vlog_meaning.proofs.Common.{decl_value, Sense, sense, senses, step, name_signals, call_signals, all_signals, joined, call_value, IsSettled}
use Rattle.vlog_syntax.specs.declared.expr.Expr.TheOpen as e
use Rattle.vlog_meaning.proofs.Blanks.{left_nil, right_nil}

abbrev Settles : Names → Expr → Type 0
Settles names x = IsSettled (sense names x)

-- an expression with the proof for it
abbrev Proved : Names → Type 0
Proved names = (x : Expr) × Settles names x

decl_settled : (span : Span) (d : Option Decl) (store : Store) → name_signals span d ≡ [] → decl_value store d ≡ decl_value nothing d
decl_settled span (Some (Signal width low is_signed number)) store quiet = cc
decl_settled span (Some (Constant value low is_signed)) store quiet = refl
decl_settled span None store quiet = refl

joined_settled : (names : Names) (xs : List (Proved names)) (store : Store) → all_signals (senses names (map (λ w. w.0) xs)) ≡ [] → joined store (senses names (map (λ w. w.0) xs)) ≡ joined nothing (senses names (map (λ w. w.0) xs))
joined_settled names [] store quiet = refl
joined_settled names (w ∷ more) store quiet =
    let here = w.1 (left_nil _ _ quiet) store (sense names w.0).shape in
    let rest = joined_settled names more store (right_nil (sense names w.0).signals _ quiet) in
    rw (here, rest) refl

call_settled : (names : Names) (f : Option Function) (span : Span) (xs : List (Proved names)) (store : Store) (c : Shape) → call_signals f span ++ all_signals (senses names (map (λ w. w.0) xs)) ≡ [] → call_value f (senses names (map (λ w. w.0) xs)) store c ≡ call_value f (senses names (map (λ w. w.0) xs)) nothing c
call_settled names (Some Signed) span [] store c quiet = refl
call_settled names (Some Signed) span (w ∷ []) store c quiet = rw (w.1 (left_nil _ _ quiet) store (sense names w.0).shape) refl
call_settled names (Some Signed) span (w ∷ x ∷ more) store c quiet = refl
call_settled names (Some Unsigned) span [] store c quiet = refl
call_settled names (Some Unsigned) span (w ∷ []) store c quiet = rw (w.1 (left_nil _ _ quiet) store (sense names w.0).shape) refl
call_settled names (Some Unsigned) span (w ∷ x ∷ more) store c quiet = refl
call_settled names (Some Clog2) span [] store c quiet = refl
call_settled names (Some Clog2) span (w ∷ []) store c quiet = refl
call_settled names (Some Clog2) span (w ∷ x ∷ more) store c quiet = refl
call_settled names (Some Random) span xs store c quiet = refl
call_settled names (Some Time) span xs store c quiet = refl
call_settled names None span xs store c quiet = refl

-- what holds of the step holds of the expression
from_step : (names : Names) (x : Expr-F Expr) → IsSettled (step names (map-Expr Expr Sense (sense names) x)) → Settles names (roll-Expr x)
from_step names x settled = subst IsSettled (sym (fold-roll-Expr Sense (step names) x)) settled

layer : (names : Names) (y : Expr-F (Proved names)) → IsSettled (step names (map-Expr Expr Sense (sense names) (map-Expr (Proved names) Expr (λ (w : Proved names). w.0) y)))
layer names (e.Number n) quiet store c = refl
layer names (e.Name n) quiet store c = let d = decl_settled n.span (names n.name) store quiet in rw d refl
layer names (e.BitSelect n s i) quiet store c =
    let here = name_signals n.span (names n.name) in
    let d = decl_settled n.span (names n.name) store (left_nil here (sense names i.0).signals quiet) in
    let v = i.1 (right_nil here (sense names i.0).signals quiet) store (sense names i.0).shape in
    rw (v, d) refl
layer names (e.PartSelect n s m l) quiet store c =
    let d = decl_settled n.span (names n.name) store (left_nil (name_signals n.span (names n.name)) ((sense names m.0).signals ++ (sense names l.0).signals) quiet) in
    rw d refl
layer names (e.IndexedPartSelect n s b w) quiet store c =
    let here = name_signals n.span (names n.name) in
    let more = (sense names b.0).signals ++ (sense names w.0).signals in
    let d = decl_settled n.span (names n.name) store (left_nil here more quiet) in
    let v = b.1 (left_nil (sense names b.0).signals (sense names w.0).signals (right_nil here more quiet)) store (sense names b.0).shape in
    rw (v, d) refl
layer names (e.Parenthesized s i) quiet store c = i.1 quiet store c
layer names (e.Unary s op i) quiet store c = let v = i.1 quiet store (operand_context op (sense names i.0).shape c) in rw v refl
layer names (e.Binary s op i j) quiet store c =
    let v = i.1 (left_nil (sense names i.0).signals (sense names j.0).signals quiet) store (left_context (sizing op) (sense names i.0).shape (sense names j.0).shape c) in
    let w = j.1 (right_nil (sense names i.0).signals (sense names j.0).signals quiet) store (right_context (sizing op) (sense names i.0).shape (sense names j.0).shape c) in
    rw (v, w) refl
layer names (e.Conditional s x i j) quiet store c =
    let more = (sense names i.0).signals ++ (sense names j.0).signals in
    let rest = right_nil (sense names x.0).signals more quiet in
    let u = x.1 (left_nil (sense names x.0).signals more quiet) store (sense names x.0).shape in
    let v = i.1 (left_nil (sense names i.0).signals (sense names j.0).signals rest) store c in
    let w = j.1 (right_nil (sense names i.0).signals (sense names j.0).signals rest) store c in
    rw (u, v, w) refl
layer names (e.Concatenation s ps) quiet store c = joined_settled names ps store quiet
layer names (e.MultipleConcatenation s k ps) quiet store c =
    let v = joined_settled names ps store (right_nil (sense names k.0).signals (all_signals (senses names (map (λ w. w.0) ps))) quiet) in
    rw v refl
layer names (e.SystemFunctionCall n ps) quiet store c = call_settled names (function_of n.name) n.span ps store c quiet

pub settled : (names : Names) (x : Expr) → IsSettled (sense names x)
settled names = ind-Expr (Settles names) (λ x y is. from_step names x (subst (λ (z : Expr-F Expr). IsSettled (step names (map-Expr Expr Sense (sense names) z))) is (layer names y)))
