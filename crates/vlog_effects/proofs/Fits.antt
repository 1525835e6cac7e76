-- The value of an expression with a shape fits the width at which it is evaluated.
use Rattle.vlog_effects.proofs.Common.{◌≡◌, ℕ, zero, suc, ◌+◌, ◌*◌, ◌<◌, ◌≤◌, ◌^◌, max, Bool, true, false, List, [], ◌∷◌, map, sym, subst, arith, if◌then◌else◌, Span, Expr, Expr-F, roll-Expr}
use Rattle.vlog_effects.proofs.Common.{fold-roll-Expr, ind-Expr, map-Expr, Sizing, Common, Left, Compared, Apart, Shape, natural, clog2, clog2_from, bit, sizing, pair_shape, left_context}
use Rattle.vlog_effects.proofs.Common.{right_context, is_reduction, unary_shape, operand_context, Names, Store, nothing, Sense, sense, senses, step, own, constant_integer, name_faults, total_width}
use Rattle.vlog_effects.proofs.Common.{joined, repeated, all_faults, call_faults, call_shape, call_value, unary_fits, binary_fits, wider, pair_fits, are_paired, window_fits, branch_fits, low_bits_fit}
use Rattle.std.specs.Prelude.{Option, None, Some, nat_le}
use Rattle.vlog_syntax.specs.declared.expr.Expr.TheOpen as e
use Rattle.vlog_meaning.specs.declared.function.Function.{Function}
use Rattle.vlog_meaning.specs.declared.function.Function.TheVariants.{Signed, Unsigned, Clog2, Random, Time}
use Rattle.vlog_meaning.specs.Functions.{function_of}
use Rattle.vlog_meaning.specs.Senses.{part_width}
use Rattle.vlog_meaning.proofs.Blanks.{left_nil, right_nil, these_nil, those_nil}
use Rattle.vlog_meaning.proofs.Joins.{joined_fits, clog2_begins}
use Rattle.vlog_meaning.proofs.Powers.{power_le}
use Rattle.vlog_meaning.proofs.Whole.{sized_within, name_sized, test_fails}

-- where nothing is wrong, there is a bit, and the value fits each width that holds the shape
abbrev pub FitsWidths : Store → Sense → Type 0
FitsWidths store a = a.faults ≡ [] → (1 ≤ a.shape.width) × ((c : Shape) → a.shape.width ≤ c.width → a.value store c < 2 ^ c.width)

abbrev Fits : Names → Store → Expr → Type 0
Fits names store x = FitsWidths store (sense names x)

-- an expression with the proof for it
abbrev Proved : Names → Store → Type 0
Proved names store = (x : Expr) × Fits names store x

zero_fits : (w : ℕ) → 0 < 2 ^ w
zero_fits w = let e : 2 ^ 0 ≤ 2 ^ w = power_le 0 w (omega arith) in omega arith

-- Operands in their contexts.

unary_one : (b : Bool) (i : Shape) → 1 ≤ i.width → 1 ≤ (if b then bit else i).width
unary_one true i h = omega arith
unary_one false i h = h

unary_at : (b : Bool) (i c : Shape) → (if b then bit else i).width ≤ c.width → i.width ≤ (if b then i else c).width
unary_at true i c h = omega arith
unary_at false i c h = h

pair_one : (r : Sizing) (i j : Shape) → 1 ≤ i.width → 1 ≤ (pair_shape r i j).width
pair_one Common i j h = omega arith
pair_one Left i j h = h
pair_one Compared i j h = omega arith
pair_one Apart i j h = omega arith

pub left_at : (r : Sizing) (i j c : Shape) → (pair_shape r i j).width ≤ c.width → i.width ≤ (left_context r i j c).width
left_at Common i j c h = let w : max i.width j.width ≤ c.width = h in omega arith
left_at Left i j c h = h
left_at Compared i j c h = omega arith
left_at Apart i j c h = omega arith

pub right_at : (r : Sizing) (i j c : Shape) → (pair_shape r i j).width ≤ c.width → j.width ≤ (right_context r i j c).width
right_at Common i j c h = let w : max i.width j.width ≤ c.width = h in omega arith
right_at Left i j c h = omega arith
right_at Compared i j c h = omega arith
right_at Apart i j c h = omega arith

-- Parts and arguments.

joined_all : (names : Names) (store : Store) (ws : List (Proved names store)) → all_faults (senses names (map (λ w. w.0) ws)) ≡ [] → joined store (senses names (map (λ w. w.0) ws)) < 2 ^ total_width (senses names (map (λ w. w.0) ws))
joined_all names store [] quiet = omega arith
joined_all names store (w ∷ more) quiet =
    let a : Sense = sense names w.0 in
    let rest : List Sense = senses names (map (λ w. w.0) more) in
    joined_fits (own store a) a.shape.width (total_width rest) (joined store rest) ((w.1 (left_nil a.faults (all_faults rest) quiet)).1 a.shape (omega arith)) (joined_all names store more (right_nil a.faults (all_faults rest) quiet))

repeated_all : (n w v : ℕ) → v < 2 ^ w → repeated n w v < 2 ^ (n * w)
repeated_all zero w v h = zero_fits (zero * w)
repeated_all (suc n) w v h = let e : n * w + w ≡ suc n * w = omega arith in subst (λ (k : ℕ). repeated (suc n) w v < 2 ^ k) e (joined_fits (repeated n w v) (n * w) w v (repeated_all n w v h) h)

either_least : (b : Bool) (x y m : ℕ) → x ≤ m → y ≤ m → (if b then x else y) ≤ m
either_least true x y m h k = h
either_least false x y m h k = k

clog2_least : (fuel k n : ℕ) → clog2_from fuel k n ≤ fuel + k
clog2_least zero k n = omega arith
clog2_least (suc fuel) k n = let rest = clog2_least fuel (k + 1) n in either_least (nat_le n (2 ^ k)) k (clog2_from fuel (k + 1) n) (suc fuel + k) (omega arith) (omega arith)

clog2_fits : (n w : ℕ) → 32 ≤ w → clog2 n < 2 ^ w
clog2_fits n w h =
    let few : clog2_from 128 0 n ≤ 128 = let k = clog2_least 128 0 n in omega arith in
    let e = clog2_begins n in
    wider (clog2 n) 32 w (subst (λ (v : ℕ). v < 2 ^ 32) e (omega arith)) h

call_fits : (names : Names) (store : Store) (f : Option Function) (span : Span) (ws : List (Proved names store)) → call_faults f span (senses names (map (λ w. w.0) ws)) ≡ [] → (1 ≤ (call_shape f (senses names (map (λ w. w.0) ws))).width) × ((c : Shape) → (call_shape f (senses names (map (λ w. w.0) ws))).width ≤ c.width → call_value f (senses names (map (λ w. w.0) ws)) store c < 2 ^ c.width)
call_fits names store (Some Signed) span [] quiet = cc
call_fits names store (Some Signed) span (w ∷ []) quiet = ((w.1 quiet).0, λ c h. low_bits_fit c.width _)
call_fits names store (Some Signed) span (w ∷ x ∷ more) quiet = cc
call_fits names store (Some Unsigned) span [] quiet = cc
call_fits names store (Some Unsigned) span (w ∷ []) quiet = ((w.1 quiet).0, λ c h. wider (own store (sense names w.0)) (sense names w.0).shape.width c.width ((w.1 quiet).1 (sense names w.0).shape (omega arith)) h)
call_fits names store (Some Unsigned) span (w ∷ x ∷ more) quiet = cc
call_fits names store (Some Clog2) span [] quiet = cc
call_fits names store (Some Clog2) span (w ∷ []) quiet = (omega arith, λ c h. clog2_fits (own nothing (sense names w.0)) c.width h)
call_fits names store (Some Clog2) span (w ∷ x ∷ more) quiet = cc
call_fits names store (Some Random) span [] quiet = (omega arith, λ c h. zero_fits c.width)
call_fits names store (Some Random) span (w ∷ more) quiet = cc
call_fits names store (Some Time) span [] quiet = (omega arith, λ c h. zero_fits c.width)
call_fits names store (Some Time) span (w ∷ more) quiet = cc
call_fits names store None span ws quiet = cc

-- what holds of the step holds of the expression
from_step : (names : Names) (store : Store) (x : Expr-F Expr) → FitsWidths store (step names (map-Expr Expr Sense (sense names) x)) → Fits names store (roll-Expr x)
from_step names store x fits = subst (FitsWidths store) (sym (fold-roll-Expr Sense (step names) x)) fits

layer : (names : Names) (store : Store) (y : Expr-F (Proved names store)) → FitsWidths store (step names (map-Expr Expr Sense (sense names) (map-Expr (Proved names store) Expr (λ (w : Proved names store). w.0) y)))
layer names store (e.Number n) quiet = (n.value.some, λ c h. low_bits_fit c.width _)
layer names store (e.Name n) quiet = ((name_sized n.span (names n.name) quiet).some, λ c h. low_bits_fit c.width _)
layer names store (e.BitSelect n s i) quiet = (omega arith, λ c h. wider _ 1 c.width (window_fits _ 1 _) h)
layer names store (e.PartSelect n s m l) quiet =
    let bounds = right_nil (name_faults n.span (names n.name)) _ quiet in
    let width : ℕ = part_width (constant_integer (sense names m.0)) (constant_integer (sense names l.0)) in
    let within : (1 ≤ width) × (width ≤ 128) = sized_within s width (test_fails _ _ _ (those_nil _ _ bounds)) in
    (within.0, λ c h. wider _ width c.width (window_fits _ width _) h)
layer names store (e.IndexedPartSelect n s b w) quiet =
    let parts = right_nil (sense names b.0).faults _ (right_nil (name_faults n.span (names n.name)) _ quiet) in
    let width : ℕ = natural (constant_integer (sense names w.0)) in
    let within : (1 ≤ width) × (width ≤ 128) = sized_within s width (those_nil _ _ parts) in
    (within.0, λ c h. wider _ width c.width (window_fits _ width _) h)
layer names store (e.Parenthesized s i) quiet = i.1 quiet
layer names store (e.Unary s op i) quiet =
    let inner : Shape = (sense names i.0).shape in
    let known = i.1 quiet in (
      unary_one (is_reduction op) inner known.0,
      λ c h.
          let some : 1 ≤ c.width = let one : 1 ≤ (unary_shape op inner).width = unary_one (is_reduction op) inner known.0 in let w : (unary_shape op inner).width ≤ c.width = h in omega arith in
          unary_fits op inner c ((sense names i.0).value store (operand_context op inner c)) some (known.1 (operand_context op inner c) (unary_at (is_reduction op) inner c h)),
    )
layer names store (e.Binary s op i j) quiet =
    let a : Shape = (sense names i.0).shape in
    let b : Shape = (sense names j.0).shape in
    let left = i.1 (left_nil (sense names i.0).faults (sense names j.0).faults quiet) in
    let right = j.1 (right_nil (sense names i.0).faults (sense names j.0).faults quiet) in (
      pair_one (sizing op) a b left.0,
      λ c h.
          let x : Shape = left_context (sizing op) a b c in
          let y : Shape = right_context (sizing op) a b c in
          let some : 1 ≤ x.width = let k : a.width ≤ x.width = left_at (sizing op) a b c h in let one = left.0 in omega arith in
          let one : 1 ≤ c.width = let k = pair_one (sizing op) a b left.0 in omega arith in
          pair_fits (sizing op) a b c _ one (binary_fits op x y ((sense names i.0).value store x) ((sense names j.0).value store y) some (are_paired (sizing op) a b c) (left.1 x (left_at (sizing op) a b c h)) (right.1 y (right_at (sizing op) a b c h))),
    )
layer names store (e.Conditional s x i j) quiet =
    let rest = right_nil (sense names x.0).faults _ quiet in
    let first = i.1 (left_nil (sense names i.0).faults (sense names j.0).faults rest) in
    let second = j.1 (right_nil (sense names i.0).faults (sense names j.0).faults rest) in
    let one = first.0 in
    (omega arith, λ c h. let w : max (sense names i.0).shape.width (sense names j.0).shape.width ≤ c.width = h in branch_fits _ _ _ (2 ^ c.width) (second.1 c (omega arith)) (first.1 c (omega arith)))
layer names store (e.Concatenation s ps) quiet =
    let width : ℕ = total_width (senses names (map (λ w. w.0) ps)) in
    let within : (1 ≤ width) × (width ≤ 128) = sized_within s width (those_nil _ _ quiet) in
    (within.0, λ c h. wider _ width c.width (joined_all names store ps (these_nil _ _ quiet)) h)
layer names store (e.MultipleConcatenation s k ps) quiet =
    let width : ℕ = total_width (senses names (map (λ w. w.0) ps)) in
    let count : ℕ = natural (constant_integer (sense names k.0)) in
    let within : (1 ≤ count * width) × (count * width ≤ 128) = sized_within s (count * width) (those_nil _ _ quiet) in
    (within.0, λ c h. wider _ (count * width) c.width (repeated_all count width _ (joined_all names store ps (right_nil _ _ (these_nil _ _ quiet)))) h)
layer names store (e.SystemFunctionCall n ps) quiet = call_fits names store (function_of n.name) n.span ps quiet

pub fits : (names : Names) (store : Store) (x : Expr) → Fits names store x
fits names store = ind-Expr (Fits names store) (λ x y is. from_step names store x (subst (λ (z : Expr-F Expr). FitsWidths store (step names (map-Expr Expr Sense (sense names) z))) is (layer names store y)))

-- the same, of the step
pub fits_at : (names : Names) (store : Store) (x : Expr-F Expr) → FitsWidths store (step names (map-Expr Expr Sense (sense names) x))
fits_at names store x = subst (FitsWidths store) (fold-roll-Expr Sense (step names) x) (fits names store (roll-Expr x))
