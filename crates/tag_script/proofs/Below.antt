-- A script that names only these tests asks for no other.
use Rattle.tag_script.proofs.Common.{◌≡◌, ℕ, ◌<◌, Bool, true, false, not, ◌==◌, ◌&&◌, List, [], ◌∷◌, Option, Some, None, Result, Ok, Err, map, sym, subst, arith, if◌then◌else◌, ⊤, filter, slice_index}
use Rattle.tag_script.proofs.Common.{ltb-true, Expr, Expr-F, roll-Expr, fold-roll-Expr, ind-Expr, map-Expr, Stop, Arm, Script, Statement, fold-roll-Arm, fold-roll-Statement, ind-Statement}
use Rattle.tag_script.proofs.Common.{map-Statement, Choice, Course, Doing, Standing, Valuing, arm_step, choice, chosen, course_of, decided, decides, doing, ended, expr_step, failed, followed, in_turn}
use Rattle.tag_script.proofs.Common.{reads, start, statement_step, value_of, NeedsBelow, all_true, arm_fits, expr_fits, fit_arm, fit_expr, fit_statement, script_fits, statement_fits, ask_told, heard}
use Rattle.tag_script.proofs.Common.{on_word, word_by, word_read, Datum, is_true, number}
use Rattle.tag_lines.specs.declared.expr.Expr.TheOpen as e
use Rattle.tag_script.specs.declared.evaluation.Stop.TheVariants as stop
use Rattle.tag_script.specs.declared.script.Statement.TheOpen as s
use Rattle.tag_script.specs.declared.script.Statement.TheOpen.{Arm-F, Statement-F}
use Rattle.tag_script.specs.declared.script.Statement.TheViews.{roll-Arm, roll-Statement}
use Rattle.tag_script.specs.Outcomes.{Outcome, asking, is_expected, outcome_of, script_outcome, unexpected, word_at}
use Rattle.tag_script.proofs.Truths.{left_true, right_true}

-- a course reads only the words of these tests
abbrev Below : {A : Type 0} → ℕ → Course A → Type 0
Below tests (ended a) = ⊤
Below tests (failed line) = ⊤
Below tests (reads test goes) = (test < tests) × ((word : ℕ) → Below tests (goes word))

followed_below : {A B : Type 0} (tests : ℕ) (c : Course A) (next : A → Course B) → Below tests c → ((a : A) → Below tests (next a)) → Below tests (followed c next)
unfolding followed
followed_below tests (ended a) next h k = k a
followed_below tests (failed line) next h k = tt
followed_below tests (reads test goes) next h k = (h.0, λ word. followed_below tests (goes word) next (h.1 word) k)

if_below : {A : Type 0} (tests : ℕ) (b : Bool) (c d : Course A) → Below tests c → Below tests d → Below tests (if b then c else d)
if_below tests true c d h k = h
if_below tests false c d h k = k

-- Expressions.

abbrev SafeValue : ℕ → Bool → Valuing → Type 0
SafeValue tests fits f = fits ≡ true → (names : List Datum) → Below tests (f names)

abbrev SafeExpr : ℕ → Type 0
SafeExpr tests = (x : Expr) × SafeValue tests (expr_fits tests x) (value_of x)

decided_below : (tests : ℕ) (b : Bool) (last : Datum) (ws : List (SafeExpr tests)) → SafeValue tests (all_true (map (expr_fits tests) (map (λ (w : SafeExpr tests). w.0) ws))) (decided b last (map value_of (map (λ (w : SafeExpr tests). w.0) ws)))
decided_below tests b last [] h names = tt
decided_below tests b last (w ∷ ws) h names =
    followed_below tests (value_of w.0 names) _ (w.1 (left_true (expr_fits tests w.0) _ h) names)
    (λ value. if_below tests (decides b value) _ _ tt (decided_below tests b value ws (right_true (expr_fits tests w.0) _ h) names))

expr_layer : (tests : ℕ) (y : Expr-F (SafeExpr tests)) → SafeValue tests (fit_expr tests (map-Expr Expr Bool (expr_fits tests) (map-Expr (SafeExpr tests) Expr (λ (w : SafeExpr tests). w.0) y))) (expr_step (map-Expr Expr Valuing value_of (map-Expr (SafeExpr tests) Expr (λ (w : SafeExpr tests). w.0) y)))
expr_layer tests (e.Number n) h names = tt
expr_layer tests (e.Text t) h names = tt
expr_layer tests (e.Name place) h names = tt
expr_layer tests (e.Word test) h names = (omega (arith, ltb-true test tests h), λ word. tt)
expr_layer tests (e.Not x) h names = followed_below tests (value_of x.0 names) _ (x.1 h names) (λ value. tt)
expr_layer tests (e.Compare x operator y) h names =
    followed_below tests (value_of x.0 names) _ (x.1 (left_true (expr_fits tests x.0) (expr_fits tests y.0) h) names)
    (λ a. followed_below tests (value_of y.0 names) _ (y.1 (right_true (expr_fits tests x.0) (expr_fits tests y.0) h) names) (λ b. tt))
expr_layer tests (e.And xs) h names = decided_below tests false (number 0) xs h names
expr_layer tests (e.Or xs) h names = decided_below tests true (number 0) xs h names

expr_rolled : (tests : ℕ) (x : Expr-F Expr) → SafeValue tests (fit_expr tests (map-Expr Expr Bool (expr_fits tests) x)) (expr_step (map-Expr Expr Valuing value_of x)) → SafeValue tests (expr_fits tests (roll-Expr x)) (value_of (roll-Expr x))
expr_rolled tests x safe =
    subst (λ (b : Bool). SafeValue tests b (value_of (roll-Expr x))) (sym (fold-roll-Expr Bool (fit_expr tests) x))
    (subst (λ (f : Valuing). SafeValue tests (fit_expr tests (map-Expr Expr Bool (expr_fits tests) x)) f) (sym (fold-roll-Expr Valuing expr_step x)) safe)

expr_below : (tests : ℕ) (x : Expr) → SafeValue tests (expr_fits tests x) (value_of x)
expr_below tests = ind-Expr (λ x. SafeValue tests (expr_fits tests x) (value_of x)) (λ x y is. expr_rolled tests x (subst (λ (z : Expr-F Expr). SafeValue tests (fit_expr tests (map-Expr Expr Bool (expr_fits tests) z)) (expr_step (map-Expr Expr Valuing value_of z))) is (expr_layer tests y)))

-- Statements.

abbrev SafeDoing : ℕ → Bool → Doing → Type 0
SafeDoing tests fits f = fits ≡ true → (standing : Standing) → Below tests (f standing)

abbrev SafeChoice : ℕ → Bool → Choice → Type 0
SafeChoice tests fits c = fits ≡ true → ((names : List Datum) → Below tests (c.condition names)) × ((standing : Standing) → Below tests (c.body standing))

module _ (tests tags : ℕ) where
  abbrev SafeStatement : Type 0
  SafeStatement = (x : Statement) × SafeDoing tests (statement_fits tests tags x) (doing x)

  abbrev SafeArm : Type 0
  SafeArm = (x : Arm) × SafeChoice tests (arm_fits tests tags x) (choice x)

  turn_safe : (ws : List SafeStatement) → SafeDoing tests (all_true (map (statement_fits tests tags) (map (λ (w : SafeStatement). w.0) ws))) (in_turn (map doing (map (λ (w : SafeStatement). w.0) ws)))
  turn_safe [] h standing = tt
  turn_safe (w ∷ ws) h standing =
      followed_below tests (doing w.0 standing) _ (w.1 (left_true (statement_fits tests tags w.0) _ h) standing)
      (λ next. turn_safe ws (right_true (statement_fits tests tags w.0) _ h) next)

  chosen_safe : (ws : List SafeArm) (other : Doing) → ((standing : Standing) → Below tests (other standing)) → SafeDoing tests (all_true (map (arm_fits tests tags) (map (λ (w : SafeArm). w.0) ws))) (chosen (map choice (map (λ (w : SafeArm). w.0) ws)) other)
  chosen_safe [] other o h standing = o standing
  chosen_safe (w ∷ ws) other o h standing =
      let here = w.1 (left_true (arm_fits tests tags w.0) _ h) in
      followed_below tests ((choice w.0).condition standing.names) _ (here.0 standing.names)
      (λ value. if_below tests (is_true value) _ _ (here.1 standing) (chosen_safe ws other o (right_true (arm_fits tests tags w.0) _ h) standing))

  statement_layer : (y : Statement-F SafeStatement SafeArm) → SafeDoing tests (fit_statement tests tags (map-Statement Statement Arm Bool Bool (statement_fits tests tags) (arm_fits tests tags) (map-Statement SafeStatement SafeArm Statement Arm (λ (w : SafeStatement). w.0) (λ (w : SafeArm). w.0) y))) (statement_step (map-Statement Statement Arm Doing Choice doing choice (map-Statement SafeStatement SafeArm Statement Arm (λ (w : SafeStatement). w.0) (λ (w : SafeArm). w.0) y)))
  statement_layer (s.Assign place value) h standing = followed_below tests (value_of value standing.names) _ (expr_below tests value h standing.names) (λ x. tt)
  statement_layer (s.Tag tag) h standing = tt
  statement_layer (s.Assert line condition) h standing =
      followed_below tests (value_of condition standing.names) _ (expr_below tests condition h standing.names) (λ x. if_below tests (is_true x) (ended standing) (failed line) tt tt)
  statement_layer (s.If arms other) h standing =
      chosen_safe arms (in_turn (map doing (map (λ (w : SafeStatement). w.0) other))) (turn_safe other (right_true (all_true (map (arm_fits tests tags) (map (λ (w : SafeArm). w.0) arms))) _ h)) (left_true (all_true (map (arm_fits tests tags) (map (λ (w : SafeArm). w.0) arms))) _ h) standing

  abbrev arm_fit : Arm-F Statement Arm → Bool
  arm_fit z = expr_fits tests z.condition && all_true (map (statement_fits tests tags) z.body)

  abbrev arm_choice : Arm-F Statement Arm → Choice
  arm_choice z = record { condition = value_of z.condition; body = in_turn (map doing z.body) }

  arm_layer : (y : Arm-F SafeStatement SafeArm) → SafeChoice tests (expr_fits tests y.condition && all_true (map (statement_fits tests tags) (map (λ (w : SafeStatement). w.0) y.body))) (record { condition = value_of y.condition; body = in_turn (map doing (map (λ (w : SafeStatement). w.0) y.body)) })
  arm_layer y h = (expr_below tests y.condition (left_true (expr_fits tests y.condition) _ h), turn_safe y.body (right_true (expr_fits tests y.condition) _ h))

  statement_below : (x : Statement) → SafeDoing tests (statement_fits tests tags x) (doing x)
  statement_below =
      ind-Statement (λ x. SafeDoing tests (statement_fits tests tags x) (doing x)) (λ x. SafeChoice tests (arm_fits tests tags x) (choice x))
      (λ x y is.
      subst (λ (b : Bool). SafeDoing tests b (doing (roll-Statement x))) (sym (fold-roll-Statement Bool Bool (fit_statement tests tags) (fit_arm tests) x))
      (subst (λ (f : Doing). SafeDoing tests (fit_statement tests tags (map-Statement Statement Arm Bool Bool (statement_fits tests tags) (arm_fits tests tags) x)) f) (sym (fold-roll-Statement Doing Choice statement_step arm_step x))
      (subst (λ (z : Statement-F Statement Arm). SafeDoing tests (fit_statement tests tags (map-Statement Statement Arm Bool Bool (statement_fits tests tags) (arm_fits tests tags) z)) (statement_step (map-Statement Statement Arm Doing Choice doing choice z))) is (statement_layer y))))
      (λ x y is.
      subst (λ (b : Bool). SafeChoice tests b (choice (roll-Arm x))) (sym (fold-roll-Arm Bool Bool (fit_statement tests tags) (fit_arm tests) x))
      (subst (λ (c : Choice). SafeChoice tests (arm_fit x) c) (sym (fold-roll-Arm Doing Choice statement_step arm_step x))
      (subst (λ (z : Arm-F Statement Arm). SafeChoice tests (arm_fit z) (arm_choice z)) is (arm_layer y))))

  turn_below : (xs : List Statement) → SafeDoing tests (all_true (map (statement_fits tests tags) xs)) (in_turn (map doing xs))
  turn_below [] h standing = tt
  turn_below (x ∷ xs) h standing =
      followed_below tests (doing x standing) _ (statement_below x (left_true (statement_fits tests tags x) _ h) standing)
      (λ next. turn_below xs (right_true (statement_fits tests tags x) _ h) next)

  course_below : (script : Script) → script_fits tests tags script ≡ true → Below tests (course_of script)
  unfolding course_of
  course_below script h = followed_below tests (in_turn (map doing script.statements) start) _ (turn_below script.statements h start) (λ standing. tt)

-- What is heard.

word_if : (tests test word : ℕ) (b : Bool) (next : ℕ → Result ℕ Stop) → NeedsBelow tests (ask_told (next word)) → NeedsBelow tests (ask_told (on_word (if b then Ok word else Err (stop.Unexpected test)) next))
word_if tests test word true next h = h
word_if tests test word false next h = tt

word_needs : (tests : ℕ) (expect : List ℕ) (test : ℕ) (o : Option ℕ) (next : ℕ → Result ℕ Stop) → test < tests → ((word : ℕ) → NeedsBelow tests (ask_told (next word))) → NeedsBelow tests (ask_told (on_word (word_by expect test o) next))
word_needs tests expect test None next l h = l
word_needs tests expect test (Some word) next l h = word_if tests test word (is_expected expect test word) next (h word)

heard_needs : (tests : ℕ) (expect : List ℕ) (results : List (Option ℕ)) (c : Course ℕ) → Below tests c → NeedsBelow tests (ask_told (heard expect results c))
unfolding heard word_read
heard_needs tests expect results (ended tags) h = tt
heard_needs tests expect results (failed line) h = tt
heard_needs tests expect results (reads test goes) h = word_needs tests expect test (word_at results test) (λ word. heard expect results (goes word)) h.0 (λ word. heard_needs tests expect results (goes word) (h.1 word))

pub script_needs : (tests tags : ℕ) (expect : List ℕ) (results : List (Option ℕ)) (script : Script) → script_fits tests tags script ≡ true → NeedsBelow tests (ask_told (heard expect results (course_of script)))
script_needs tests tags expect results script h = heard_needs tests expect results (course_of script) (course_below tests tags script h)

-- What is asked.

-- each of these tests is one of so many
abbrev pub AreBelow : ℕ → List ℕ → Type 0
AreBelow tests [] = Unit {0}
AreBelow tests (test ∷ more) = (test < tests) × AreBelow tests more

kept_below : (tests test : ℕ) (b : Bool) (kept : List ℕ) → test < tests → AreBelow tests kept → AreBelow tests (if b then test ∷ kept else kept)
kept_below tests test true kept h more = (h, more)
kept_below tests test false kept h more = more

filter_below : (tests : ℕ) (p : ℕ → Bool) (xs : List ℕ) → AreBelow tests xs → AreBelow tests (filter p xs)
filter_below tests p [] h = tt
filter_below tests p (x ∷ xs) h = kept_below tests x (p x) (filter p xs) h.0 (filter_below tests p xs h.1)

asking_below : (tests test : ℕ) (b : Bool) (behind : Outcome) → test < tests → AreBelow tests behind.asked → AreBelow tests (if b then asking test behind else record { asked = test ∷ []; ends = unexpected test }).asked
asking_below tests test true behind h more = (h, filter_below tests (λ other. not (other == test)) behind.asked more)
asking_below tests test false behind h more = (h, tt)

course_asks : (tests : ℕ) (expect words : List ℕ) (c : Course ℕ) → Below tests c → AreBelow tests (outcome_of expect words c).asked
unfolding outcome_of
course_asks tests expect words (ended tags) h = tt
course_asks tests expect words (failed line) h = tt
course_asks tests expect words (reads test goes) h =
    let word : ℕ = slice_index words test in
    asking_below tests test (is_expected expect test word) (outcome_of expect words (goes word)) h.0 (course_asks tests expect words (goes word) (h.1 word))

-- a script that names only these tests asks only these
pub asked_below : (tests tags : ℕ) (expect words : List ℕ) (script : Script) → script_fits tests tags script ≡ true → AreBelow tests (script_outcome expect words script).asked
unfolding script_outcome
asked_below tests tags expect words script h = course_asks tests expect words (course_of script) (course_below tests tags script h)
