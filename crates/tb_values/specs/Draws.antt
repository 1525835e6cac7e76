-- Expressions of a testbench in one evaluation: `$random` is the next word of the generator (IEEE 1364-2005, 17.9.1), and
-- `$time` the number of the phase (17.7.1). Every `$random` of an expression is drawn, from left to right, also in a part
-- whose value is not taken. The rest is as in a design.
use Rattle.std.specs.Prelude.{ℕ, Bool, true, false, ◌||◌, List, [], ◌∷◌, Option, Some}
use Rattle.rand_pcg.specs.Lcg.{Lcg}
use Rattle.rand_pcg.specs.Pcg.{pcg32}
use Rattle.vlog_syntax.specs.declared.expr.Expr.{Expr}
use Rattle.vlog_syntax.specs.declared.expr.Expr.TheOpen as e
use Rattle.vlog_syntax.specs.declared.expr.Expr.TheOpen.{Expr-F}
use Rattle.vlog_syntax.specs.declared.expr.Expr.TheFolds.{fold-Expr}
use Rattle.vlog_syntax.specs.declared.identifier.Identifier.{Identifier}
use Rattle.vlog_meaning.specs.declared.function.Function.{Function}
use Rattle.vlog_meaning.specs.declared.function.Function.TheVariants.{Random, Time}
use Rattle.vlog_meaning.specs.declared.shapes.Shape.{Shape}
use Rattle.vlog_meaning.specs.Functions.{function_of}
use Rattle.vlog_meaning.specs.Scopes.{Names}
use Rattle.vlog_meaning.specs.Senses.{Sense, step, taken, no_bits}

-- what an expression says in one evaluation, and the generator after it
abbrev pub Drawn : Type 0
Drawn = Lcg → Sense × Lcg

-- what a number says
abbrev pub number_sense : Shape → ℕ → Sense
number_sense s v = record { shape = s; value = λ store c. taken s c v; reads = no_bits; signals = []; faults = []; features = []; zeros = λ c. [] }

abbrev pub random_shape : Shape
random_shape = record { width = 32; is_signed = true }

abbrev pub time_shape : Shape
time_shape = record { width = 64; is_signed = false }

-- one operand, two, three, several
abbrev pub one_drawn : Drawn → (Sense → Sense) → Drawn
one_drawn x f g = (f (x g).0, (x g).1)

abbrev pub two_drawn : Drawn → Drawn → (Sense → Sense → Sense) → Drawn
two_drawn x y f g = let a = x g in let b = y a.1 in (f a.0 b.0, b.1)

abbrev pub three_drawn : Drawn → Drawn → Drawn → (Sense → Sense → Sense → Sense) → Drawn
three_drawn x y z f g = let a = x g in let b = y a.1 in let c = z b.1 in (f a.0 b.0 c.0, c.1)

abbrev pub all_drawn : List Drawn → Lcg → List Sense × Lcg
all_drawn [] g = ([], g)
all_drawn (x ∷ more) g = let a = x g in let rest = all_drawn more a.1 in (a.0 ∷ rest.0, rest.1)

abbrev pub call_drawn : Names → ℕ → Identifier → Option Function → List Drawn → Drawn
call_drawn names phase n (Some Random) [] g = (number_sense random_shape (pcg32 g).0, (pcg32 g).1)
call_drawn names phase n (Some Time) [] g = (number_sense time_shape phase, g)
call_drawn names phase n function arguments g = let drawn = all_drawn arguments g in (step names (e.SystemFunctionCall n drawn.0), drawn.1)

abbrev pub drawn_step : Names → ℕ → Expr-F Drawn → Drawn
drawn_step names phase (e.Number n) g = (step names (e.Number n), g)
drawn_step names phase (e.Name n) g = (step names (e.Name n), g)
drawn_step names phase (e.BitSelect n s i) g = one_drawn i (λ a. step names (e.BitSelect n s a)) g
drawn_step names phase (e.PartSelect n s i j) g = two_drawn i j (λ a b. step names (e.PartSelect n s a b)) g
drawn_step names phase (e.IndexedPartSelect n s i j) g = two_drawn i j (λ a b. step names (e.IndexedPartSelect n s a b)) g
drawn_step names phase (e.Parenthesized s i) g = one_drawn i (λ a. step names (e.Parenthesized s a)) g
drawn_step names phase (e.Unary s op i) g = one_drawn i (λ a. step names (e.Unary s op a)) g
drawn_step names phase (e.Binary s op i j) g = two_drawn i j (λ a b. step names (e.Binary s op a b)) g
drawn_step names phase (e.Conditional s c i j) g = three_drawn c i j (λ x a b. step names (e.Conditional s x a b)) g
drawn_step names phase (e.Concatenation s parts) g = let drawn = all_drawn parts g in (step names (e.Concatenation s drawn.0), drawn.1)
drawn_step names phase (e.MultipleConcatenation s count parts) g = let a = count g in let drawn = all_drawn parts a.1 in (step names (e.MultipleConcatenation s a.0 drawn.0), drawn.1)
drawn_step names phase (e.SystemFunctionCall n arguments) g = call_drawn names phase n (function_of n.name) arguments g

-- what an expression says in one evaluation in a phase
abbrev pub drawn : Names → ℕ → Expr → Drawn
drawn names phase = fold-Expr Drawn (drawn_step names phase)

-- Whether an expression holds a call that changes from one evaluation to the next.

abbrev pub any_of : List Bool → Bool
any_of [] = false
any_of (b ∷ more) = b || any_of more

abbrev pub is_changing : Option Function → Bool
is_changing (Some Random) = true
is_changing (Some Time) = true
is_changing function = false

abbrev pub changes_step : Expr-F Bool → Bool
changes_step (e.Number n) = false
changes_step (e.Name n) = false
changes_step (e.BitSelect n s i) = i
changes_step (e.PartSelect n s i j) = i || j
changes_step (e.IndexedPartSelect n s i j) = i || j
changes_step (e.Parenthesized s i) = i
changes_step (e.Unary s op i) = i
changes_step (e.Binary s op i j) = i || j
changes_step (e.Conditional s c i j) = c || (i || j)
changes_step (e.Concatenation s parts) = any_of parts
changes_step (e.MultipleConcatenation s count parts) = count || any_of parts
changes_step (e.SystemFunctionCall n arguments) = is_changing (function_of n.name) || any_of arguments

abbrev pub changes : Expr → Bool
changes = fold-Expr Bool changes_step
