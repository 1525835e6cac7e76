-- What a tag script does: the courses that it can take.
--
-- A course reads the word of a test and goes on by it, or ends. What is not evaluated is in no course: `and` and `or` stop at the
-- operand that decides, an `if` at the first arm whose condition is true, and all stops at an assertion that fails.
use Rattle.std.specs.Prelude.{ℕ, ◌^◌, ◌-◌, Bool, true, false, not, List, [], ◌∷◌, bit_or, map, min, nat_lt, replicate, slice_get, slice_set, unwrap_or, if◌then◌else◌}
use Rattle.tag_lines.specs.declared.expr.Expr.{Expr}
use Rattle.tag_lines.specs.declared.expr.Expr.TheOpen as e
use Rattle.tag_lines.specs.declared.expr.Expr.TheOpen.{Expr-F}
use Rattle.tag_lines.specs.declared.expr.Expr.TheFolds.{fold-Expr}
use Rattle.tag_script.specs.declared.script.Arm.{Arm}
use Rattle.tag_script.specs.declared.script.Script.{Script}
use Rattle.tag_script.specs.declared.script.Statement.{Statement}
use Rattle.tag_script.specs.declared.script.Statement.TheOpen as s
use Rattle.tag_script.specs.declared.script.Statement.TheOpen.{Arm-F, Statement-F}
use Rattle.tag_script.specs.declared.script.Statement.TheFolds.{fold-Arm, fold-Statement}
use Rattle.tag_script.specs.Values.{Datum, compared, is_true, number, text, truth, word_text}

pub data Course (A : Type 0) : Type 0 where
  -- it comes to this
  ended : A → Course A
  -- the assertion on this line fails
  failed : ℕ → Course A
  -- it reads the word of this test, and goes on by it
  reads : ℕ → (ℕ → Course A) → Course A

-- one course, and another behind it
unfoldable pub followed : {A B : Type 0} → Course A → (A → Course B) → Course B
followed (ended a) next = next a
followed (failed line) next = failed line
followed (reads test goes) next = reads test (λ word. followed (goes word) next)

-- Expressions, where the names have these values.

abbrev pub Valuing : Type 0
Valuing = List Datum → Course Datum

abbrev pub decides : Bool → Datum → Bool
decides true value = is_true value
decides false value = not (is_true value)

-- the first operand with this truth, else the last one
abbrev pub decided : Bool → Datum → List Valuing → Valuing
decided b last [] names = ended last
decided b last (x ∷ more) names = followed (x names) (λ value. if decides b value then ended value else decided b value more names)

-- a test as its number in a result; no project has so many that the limit of `u32` matters
abbrev pub test_number : ℕ → ℕ
test_number place = min place (2 ^ 32 - 1)

-- the value of a name; a name without one, which no script reads that was taken, is 0
abbrev pub name_value : List Datum → ℕ → Datum
name_value names place = unwrap_or (slice_get names place) (number 0)

abbrev pub expr_step : Expr-F Valuing → Valuing
expr_step (e.Number n) names = ended (number n)
expr_step (e.Text t) names = ended (text t)
expr_step (e.Name place) names = ended (name_value names place)
expr_step (e.Word test) names = reads (test_number test) (λ word. ended (text (word_text word)))
expr_step (e.Not operand) names = followed (operand names) (λ value. ended (truth (not (is_true value))))
expr_step (e.Compare left operator right) names = followed (left names) (λ a. followed (right names) (λ b. ended (compared operator a b)))
expr_step (e.And operands) names = decided false (number 0) operands names
expr_step (e.Or operands) names = decided true (number 0) operands names

abbrev pub value_of : Expr → Valuing
value_of = fold-Expr Valuing expr_step

-- Statements, where the names have these values and these tags are set, tag i in bit i.

pub record Standing : Type 0 where
  pub names : List Datum
  pub tags : ℕ

abbrev pub Doing : Type 0
Doing = Standing → Course Standing

-- an arm: its condition, and what it does
pub record Choice : Type 0 where
  pub condition : Valuing
  pub body : Doing

-- one statement after the other
abbrev pub in_turn : List Doing → Doing
in_turn [] standing = ended standing
in_turn (s ∷ more) standing = followed (s standing) (in_turn more)

-- the first arm whose condition is true, else the other statements
abbrev pub chosen : List Choice → Doing → Doing
chosen [] other standing = other standing
chosen (arm ∷ more) other standing =
    followed (arm.condition standing.names) (λ value. if is_true value then arm.body standing else chosen more other standing)

-- the bit of a tag; no project has more than 32
abbrev pub tag_bit : ℕ → ℕ
tag_bit tag = if nat_lt tag 32 then 2 ^ tag else 0

abbrev pub statement_step : Statement-F Doing Choice → Doing
statement_step (s.Assign place value) standing =
    followed (value_of value standing.names) (λ x. ended (record { names = slice_set standing.names place x; tags = standing.tags }))
statement_step (s.Tag tag) standing = ended (record { names = standing.names; tags = bit_or standing.tags (tag_bit tag) })
statement_step (s.Assert line condition) standing =
    followed (value_of condition standing.names) (λ x. if is_true x then ended standing else failed line)
statement_step (s.If arms other) standing = chosen arms (in_turn other) standing

abbrev pub arm_step : Arm-F Doing Choice → Choice
arm_step arm = record { condition = value_of arm.condition; body = in_turn arm.body }

abbrev pub doing : Statement → Doing
doing = fold-Statement Doing Choice statement_step arm_step

-- no name has a value, and no tag is set
abbrev pub start : Standing
start = record { names = replicate 32 (number 0); tags = 0 }

-- the course of a script, to its tags
unfoldable pub course_of : Script → Course ℕ
course_of script = followed (in_turn (map doing script.statements) start) (λ standing. ended standing.tags)

-- For proofs alone.

abbrev pub choice : Arm → Choice
choice = fold-Arm Doing Choice statement_step arm_step
