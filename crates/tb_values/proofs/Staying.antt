-- What holds no call that changes says in each evaluation what it says in a design.
use Rattle.tb_values.proofs.Common.{◌≡◌, ℕ, Bool, false, ◌||◌, List, [], ◌∷◌, map, refl, sym, ap, ◌∙◌, subst, Option, None, Some, Lcg, Expr, Expr-F, roll-Expr, fold-roll-Expr, ind-Expr, map-Expr}
use Rattle.tb_values.proofs.Common.{Identifier, Function, Signed, Unsigned, Clog2, Random, Time, function_of, Names, Sense, sense, senses, step, Drawn, drawn, drawn_step, all_drawn, call_drawn}
use Rattle.tb_values.proofs.Common.{changes, changes_step, any_of, is_changing, OthersStay}
use Rattle.vlog_syntax.specs.declared.expr.Expr.TheOpen as e
use Rattle.tb_values.proofs.Lists.{left_false, right_false}

abbrev Stays : Names → ℕ → Expr → Type 0
Stays names phase x = (g : Lcg) → changes x ≡ false → drawn names phase x g ≡ (sense names x, g)

abbrev StaysAt : Names → ℕ → Expr-F Expr → Type 0
StaysAt names phase x = (g : Lcg) → changes_step (map-Expr Expr Bool changes x) ≡ false → drawn_step names phase (map-Expr Expr Drawn (drawn names phase) x) g ≡ (step names (map-Expr Expr Sense (sense names) x), g)

-- an expression with the proof for it
abbrev Proved : Names → ℕ → Type 0
Proved names phase = (x : Expr) × Stays names phase x

from_step : (names : Names) (phase : ℕ) (x : Expr-F Expr) → StaysAt names phase x → Stays names phase (roll-Expr x)
from_step names phase x stays g quiet = ap (λ (d : Drawn). d g) (fold-roll-Expr Drawn (drawn_step names phase) x) ∙ stays g (sym (fold-roll-Expr Bool changes_step x) ∙ quiet) ∙ ap (λ (z : Sense). (z, g)) (sym (fold-roll-Expr Sense (step names) x))

all_stay : (names : Names) (phase : ℕ) (xs : List (Proved names phase)) (g : Lcg) → any_of (map changes (map (λ w. w.0) xs)) ≡ false → all_drawn (map (drawn names phase) (map (λ w. w.0) xs)) g ≡ (senses names (map (λ w. w.0) xs), g)
all_stay names phase [] g quiet = refl
all_stay names phase (w ∷ more) g quiet =
    let here = w.1 g (left_false (changes w.0) _ quiet) in
    let rest = all_stay names phase more g (right_false (changes w.0) _ quiet) in
    rw (here, rest) refl

call_stays : (names : Names) (phase : ℕ) (n : Identifier) (f : Option Function) (xs : List (Proved names phase)) (g : Lcg) → (is_changing f || any_of (map changes (map (λ w. w.0) xs))) ≡ false → call_drawn names phase n f (map (drawn names phase) (map (λ w. w.0) xs)) g ≡ (step names (e.SystemFunctionCall n (senses names (map (λ w. w.0) xs))), g)
call_stays names phase n (Some Random) xs g quiet = absurd cc
call_stays names phase n (Some Time) xs g quiet = absurd cc
call_stays names phase n (Some Signed) xs g quiet = let all = all_stay names phase xs g quiet in rw all refl
call_stays names phase n (Some Unsigned) xs g quiet = let all = all_stay names phase xs g quiet in rw all refl
call_stays names phase n (Some Clog2) xs g quiet = let all = all_stay names phase xs g quiet in rw all refl
call_stays names phase n None xs g quiet = let all = all_stay names phase xs g quiet in rw all refl

layer : (names : Names) (phase : ℕ) (y : Expr-F (Proved names phase)) → StaysAt names phase (map-Expr (Proved names phase) Expr (λ (w : Proved names phase). w.0) y)
layer names phase (e.Number n) g quiet = refl
layer names phase (e.Name n) g quiet = refl
layer names phase (e.BitSelect n s i) g quiet = let a = i.1 g quiet in rw a refl
layer names phase (e.PartSelect n s i j) g quiet =
    let a = i.1 g (left_false (changes i.0) (changes j.0) quiet) in
    let b = j.1 g (right_false (changes i.0) (changes j.0) quiet) in
    rw (a, b) refl
layer names phase (e.IndexedPartSelect n s i j) g quiet =
    let a = i.1 g (left_false (changes i.0) (changes j.0) quiet) in
    let b = j.1 g (right_false (changes i.0) (changes j.0) quiet) in
    rw (a, b) refl
layer names phase (e.Parenthesized s i) g quiet = let a = i.1 g quiet in rw a refl
layer names phase (e.Unary s op i) g quiet = let a = i.1 g quiet in rw a refl
layer names phase (e.Binary s op i j) g quiet =
    let a = i.1 g (left_false (changes i.0) (changes j.0) quiet) in
    let b = j.1 g (right_false (changes i.0) (changes j.0) quiet) in
    rw (a, b) refl
layer names phase (e.Conditional s x i j) g quiet =
    let rest = right_false (changes x.0) (changes i.0 || changes j.0) quiet in
    let c = x.1 g (left_false (changes x.0) (changes i.0 || changes j.0) quiet) in
    let a = i.1 g (left_false (changes i.0) (changes j.0) rest) in
    let b = j.1 g (right_false (changes i.0) (changes j.0) rest) in
    rw (c, a, b) refl
layer names phase (e.Concatenation s ps) g quiet = let all = all_stay names phase ps g quiet in rw all refl
layer names phase (e.MultipleConcatenation s i ps) g quiet =
    let a = i.1 g (left_false (changes i.0) _ quiet) in
    let all = all_stay names phase ps g (right_false (changes i.0) _ quiet) in
    rw (a, all) refl
layer names phase (e.SystemFunctionCall n ps) g quiet = call_stays names phase n (function_of n.name) ps g quiet

pub stays : OthersStay
stays names phase = ind-Expr (Stays names phase) (λ x y is. from_step names phase x (subst (StaysAt names phase) is (layer names phase y)))
