-- What is read as a script names only the tests and tags that there are.
use Rattle.tag_script.proofs.Common.{◌≡◌, ℕ, zero, suc, Bool, true, false, not, ◌&&◌, List, [], ◌∷◌, ◌++◌, Option, Some, None, Result, Ok, Err, IfOk, map, length, refl, sym, ap, ◌∙◌, subst}
use Rattle.tag_script.proofs.Common.{if◌then◌else◌, nat_lt, Row, Expr, Expr-F, roll-Expr, fold-roll-Expr, ind-Expr, map-Expr, Head, Known, Place, Block, Arm, Script, ScriptError, Statement}
use Rattle.tag_script.proofs.Common.{fold-roll-Statement, fold_out-Arm, Project, Reads, excess, expr_fault, fitted, formed, is_indented_so, is_misplaced, is_past_limit, line, named, named_fault}
use Rattle.tag_script.proofs.Common.{or_fault, worded, all_true, arm_fits, expr_fits, fit_arm, fit_expr, fit_statement, script_fits, statement_fits, and_from}
use Rattle.script_lines.specs.declared.token.Token.{Token}
use Rattle.tag_lines.specs.declared.expr.Expr.TheOpen as e
use Rattle.tag_lines.specs.declared.head.Head.TheVariants as head
use Rattle.tag_lines.specs.declared.uses.Uses.{Uses}
use Rattle.tag_lines.specs.Uses.{all_uses, uses_of, uses_step}
use Rattle.tag_script.specs.declared.script.Statement.TheOpen as o
use Rattle.tag_script.specs.declared.script.Statement.TheVariants as v
use Rattle.tag_script.specs.Blocks.{Part, Reader, and_then, arm_of, block_by, block_in, closed, inner_indent, is_open, joined, new_block, no_body, parts_of, with_part, with_parts}
use Rattle.tag_script.specs.Reading.{nothing_known, script_by, script_in}
use Rattle.tag_script.proofs.Truths.{append_true}

-- The tests of an expression, whatever names are assigned.

abbrev Agrees : ℕ → List ℕ → Expr → Type 0
Agrees tests places x = (uses_of tests places x).tests ≡ expr_fits tests x

abbrev Agreeing : ℕ → List ℕ → Type 0
Agreeing tests places = (x : Expr) × Agrees tests places x

all_agree : (tests : ℕ) (places : List ℕ) (ws : List (Agreeing tests places)) → (all_uses (map (uses_of tests places) (map (λ (w : Agreeing tests places). w.0) ws))).tests ≡ all_true (map (expr_fits tests) (map (λ (w : Agreeing tests places). w.0) ws))
all_agree tests places [] = refl
all_agree tests places (w ∷ ws) = let here = w.1 in let rest = all_agree tests places ws in rw (here, rest) refl

layer : (tests : ℕ) (places : List ℕ) (y : Expr-F (Agreeing tests places)) → (uses_step tests places (map-Expr Expr Uses (uses_of tests places) (map-Expr (Agreeing tests places) Expr (λ (w : Agreeing tests places). w.0) y))).tests ≡ fit_expr tests (map-Expr Expr Bool (expr_fits tests) (map-Expr (Agreeing tests places) Expr (λ (w : Agreeing tests places). w.0) y))
layer tests places (e.Number n) = refl
layer tests places (e.Text t) = refl
layer tests places (e.Name place) = refl
layer tests places (e.Word test) = refl
layer tests places (e.Not x) = x.1
layer tests places (e.Compare x operator y) = let a = x.1 in let b = y.1 in rw (a, b) refl
layer tests places (e.And xs) = all_agree tests places xs
layer tests places (e.Or xs) = all_agree tests places xs

rolled : (tests : ℕ) (places : List ℕ) (x : Expr-F Expr) → (uses_step tests places (map-Expr Expr Uses (uses_of tests places) x)).tests ≡ fit_expr tests (map-Expr Expr Bool (expr_fits tests) x) → Agrees tests places (roll-Expr x)
rolled tests places x h = ap (λ (u : Uses). u.tests) (fold-roll-Expr Uses (uses_step tests places) x) ∙ (h ∙ sym (fold-roll-Expr Bool (fit_expr tests) x))

agree : (tests : ℕ) (places : List ℕ) (x : Expr) → Agrees tests places x
agree tests places = ind-Expr (Agrees tests places) (λ x y is. rolled tests places x (subst (λ (z : Expr-F Expr). (uses_step tests places (map-Expr Expr Uses (uses_of tests places) z)).tests ≡ fit_expr tests (map-Expr Expr Bool (expr_fits tests) z)) is (layer tests places y)))

-- One line.

abbrev head_fits : ℕ → ℕ → Head → Bool
head_fits tests tags (head.Assign place value) = expr_fits tests value
head_fits tests tags (head.Tag tag) = nat_lt tag tags
head_fits tests tags (head.Assert condition) = expr_fits tests condition
head_fits tests tags (head.If condition) = expr_fits tests condition
head_fits tests tags (head.Elif condition) = expr_fits tests condition
head_fits tests tags head.Else = true
head_fits tests tags head.Pass = true

abbrev is_none_fault : Option ScriptError → Bool
is_none_fault None = true
is_none_fault (Some fault) = false

fault_none : (a b : Bool) (f g : ScriptError) → is_none_fault (if not a then Some f else (if not b then Some g else None)) ≡ true → a ≡ true
fault_none true b f g h = refl
fault_none false b f g h = h

tag_none : (b : Bool) (f : ScriptError) → is_none_fault (elim (if b then None else Some f) [ Some e ↦ Some e | None ↦ None ]) ≡ true → b ≡ true
tag_none true f h = refl
tag_none false f h = h

expr_named : (p : Project) (known : Known) (number : ℕ) (x : Expr) → is_none_fault (expr_fault p known number (Some x)) ≡ true → expr_fits (length p.tests) x ≡ true
expr_named p known number x h = sym (agree (length p.tests) known.assigned x) ∙ fault_none _ _ _ _ h

named_fits : (p : Project) (known : Known) (number : ℕ) (said : Head) → is_none_fault (named_fault p known number said) ≡ true → head_fits (length p.tests) (length p.tags) said ≡ true
unfolding named_fault
named_fits p known number (head.Assign place value) h = expr_named p known number value h
named_fits p known number (head.Tag tag) h = tag_none (nat_lt tag (length p.tags)) _ h
named_fits p known number (head.Assert condition) h = expr_named p known number condition h
named_fits p known number (head.If condition) h = expr_named p known number condition h
named_fits p known number (head.Elif condition) h = expr_named p known number condition h
named_fits p known number head.Else h = refl
named_fits p known number head.Pass h = refl

abbrev Named : Project → Head → Type 0
Named p said = head_fits (length p.tests) (length p.tags) said ≡ true

or_fits : (p : Project) (said : Head) (f : Option ScriptError) → (is_none_fault f ≡ true → Named p said) → IfOk (or_fault said f) (Named p)
or_fits p said None h = h refl
or_fits p said (Some fault) h = tt

pub if_fits : {A : Type 0} (P : A → Type 0) (b : Bool) (fault : ScriptError) (r : Result A ScriptError) → IfOk r P → IfOk (if b then Err fault else r) P
if_fits P true fault r h = tt
if_fits P false fault r h = h

pub unless_fits : {A : Type 0} (P : A → Type 0) (b : Bool) (fault : ScriptError) (r : Result A ScriptError) → IfOk r P → IfOk (if b then r else Err fault) P
unless_fits P true fault r h = h
unless_fits P false fault r h = tt

formed_fits : (in_arms : Bool) (p : Project) (known : Known) (number : ℕ) (body : List Row) (said : Option Head) → IfOk (formed in_arms p known number body said) (Named p)
unfolding formed
formed_fits in_arms p known number body None = tt
formed_fits in_arms p known number body (Some said) = if_fits (Named p) (is_misplaced in_arms body said) _ _ (or_fits p said (named_fault p known number said) (named_fits p known number said))

worded_fits : (in_arms : Bool) (p : Project) (place : Place) (known : Known) (number : ℕ) (tokens : List Token) (body : List Row) → IfOk (worded in_arms p place known number tokens body) (Named p)
unfolding worded
worded_fits in_arms p place known number tokens body = if_fits (Named p) (is_past_limit place known) _ _ (formed_fits in_arms p known number body _)

fitted_if : (in_arms : Bool) (p : Project) (place : Place) (known : Known) (number : ℕ) (body : List Row) (fault : ScriptError) (tokens : Option (List Token)) → IfOk (elim tokens [ None ↦ Err fault | Some ts ↦ worded in_arms p place known number ts body ]) (Named p)
fitted_if in_arms p place known number body fault None = tt
fitted_if in_arms p place known number body fault (Some tokens) = worded_fits in_arms p place known number tokens body

fitted_fits : (in_arms : Bool) (p : Project) (place : Place) (known : Known) (row : Row) (body : List Row) → IfOk (fitted in_arms p place known row body) (Named p)
unfolding fitted
fitted_fits in_arms p place known row body = fitted_if in_arms p place known row.number body _ row.tokens

line_if : (p : Project) (b : Bool) (fault : ScriptError) (r : Result Head ScriptError) (over : Option ScriptError) → IfOk r (Named p) → IfOk (elim over [ Some e ↦ Err e | None ↦ if b then r else Err fault ]) (Named p)
line_if p b fault r None h = unless_fits (Named p) b fault r h
line_if p b fault r (Some e) h = tt

line_fits : (in_arms : Bool) (p : Project) (place : Place) (known : Known) (row : Row) (body : List Row) → IfOk (line in_arms p place known row body) (Named p)
unfolding line
line_fits in_arms p place known row body = line_if p (is_indented_so place.indent row.indent) _ (fitted in_arms p place known row body) (excess p.limit row.number) (fitted_fits in_arms p place known row body)

-- Statements.

pub and_fits : {A B : Type 0} (P : A → Type 0) (Q : B → Type 0) (r : Result A ScriptError) (next : A → Result B ScriptError) → IfOk r P → ((a : A) → P a → IfOk (next a) Q) → IfOk (and_then r next) Q
and_fits P Q (Ok a) next h k = k a h
and_fits P Q (Err fault) next h k = tt

module _ (p : Project) where
  abbrev fits : Statement → Bool
  fits = statement_fits (length p.tests) (length p.tags)

  abbrev fits_arm : Arm → Bool
  fits_arm = arm_fits (length p.tests) (length p.tags)

  abbrev fit : Bool → Type 0
  fit b = b ≡ true

  if_is : (arms : List Arm) (other : List Statement) → fits (v.If arms other) ≡ (all_true (map fits_arm arms) && all_true (map fits other))
  if_is arms other = ap fits (sym (v.rolls-If arms other)) ∙ fold-roll-Statement Bool Bool (fit_statement (length p.tests) (length p.tags)) (fit_arm (length p.tests)) (o.If arms other)

  assign_is : (place : ℕ) (value : Expr) → fits (v.Assign place value) ≡ expr_fits (length p.tests) value
  assign_is place value = ap fits (sym (v.rolls-Assign place value)) ∙ fold-roll-Statement Bool Bool (fit_statement (length p.tests) (length p.tags)) (fit_arm (length p.tests)) (o.Assign place value)

  tag_is : (tag : ℕ) → fits (v.Tag tag) ≡ nat_lt tag (length p.tags)
  tag_is tag = ap fits (sym (v.rolls-Tag tag)) ∙ fold-roll-Statement Bool Bool (fit_statement (length p.tests) (length p.tags)) (fit_arm (length p.tests)) (o.Tag tag)

  assert_is : (number : ℕ) (condition : Expr) → fits (v.Assert number condition) ≡ expr_fits (length p.tests) condition
  assert_is number condition = ap fits (sym (v.rolls-Assert number condition)) ∙ fold-roll-Statement Bool Bool (fit_statement (length p.tests) (length p.tags)) (fit_arm (length p.tests)) (o.Assert number condition)

  arm_is : (arm : Arm) → fits_arm arm ≡ (expr_fits (length p.tests) arm.condition && all_true (map fits arm.body))
  arm_is arm = fold_out-Arm Bool Bool (fit_statement (length p.tests) (length p.tags)) (fit_arm (length p.tests)) arm

  abbrev Fit : List Statement → Type 0
  Fit xs = all_true (map fits xs) ≡ true

  abbrev FitArms : List Arm → Type 0
  FitArms arms = all_true (map fits_arm arms) ≡ true

  pub record FitBlock (block : Block) : Type 0 where
    pub done : Fit block.draft.done
    pub arms : FitArms block.draft.arms

  one_fits : (x : Statement) → fits x ≡ true → Fit (x ∷ [])
  one_fits x h = and_from (fits x) true h refl

  if_fit : (arms : List Arm) (other : List Statement) → FitArms arms → Fit other → Fit (v.If arms other ∷ [])
  if_fit arms other h k = one_fits (v.If arms other) (if_is arms other ∙ and_from (all_true (map fits_arm arms)) (all_true (map fits other)) h k)

  closed_if : (done : List Statement) (whole arms : List Arm) → Fit done → FitArms whole → Fit (elim arms [ [] ↦ done | arm ∷ more ↦ done ++ v.If whole [] ∷ [] ])
  closed_if done whole [] h k = h
  closed_if done whole (arm ∷ more) h k = append_true fits done (v.If whole [] ∷ []) h (if_fit whole [] k refl)

  closed_fits : (block : Block) → FitBlock block → Fit (closed block.draft)
  closed_fits block h = closed_if block.draft.done block.draft.arms block.draft.arms h.done h.arms

  arm_fit : (condition : Expr) (inner : Block) → expr_fits (length p.tests) condition ≡ true → FitBlock inner → FitArms (arm_of condition inner ∷ [])
  arm_fit condition inner h k =
      and_from (fits_arm (arm_of condition inner)) true
      (arm_is (arm_of condition inner) ∙ and_from (expr_fits (length p.tests) condition) (all_true (map fits (closed inner.draft))) h (closed_fits inner k)) refl

  joined_fits : (block : Block) (before : List ℕ) (number : ℕ) (said : Head) (inner : Block) → FitBlock block → Named p said → FitBlock inner → FitBlock (joined block.draft before number said inner)
  unfolding joined
  joined_fits block before number (head.If condition) inner b s i = record { done = closed_fits block b; arms = arm_fit condition inner s i }
  joined_fits block before number (head.Elif condition) inner b s i = record { done = b.done; arms = append_true fits_arm block.draft.arms (arm_of condition inner ∷ []) b.arms (arm_fit condition inner s i) }
  joined_fits block before number head.Else inner b s i = record { done = append_true fits block.draft.done (v.If block.draft.arms (closed inner.draft) ∷ []) b.done (if_fit block.draft.arms (closed inner.draft) b.arms (closed_fits inner i)); arms = refl }
  joined_fits block before number (head.Assign place value) inner b s i = record { done = append_true fits (closed block.draft) (v.Assign place value ∷ []) (closed_fits block b) (one_fits (v.Assign place value) (assign_is place value ∙ s)); arms = refl }
  joined_fits block before number (head.Tag tag) inner b s i = record { done = append_true fits (closed block.draft) (v.Tag tag ∷ []) (closed_fits block b) (one_fits (v.Tag tag) (tag_is tag ∙ s)); arms = refl }
  joined_fits block before number (head.Assert condition) inner b s i = record { done = append_true fits (closed block.draft) (v.Assert number condition ∷ []) (closed_fits block b) (one_fits (v.Assert number condition) (assert_is number condition ∙ s)); arms = refl }
  joined_fits block before number head.Pass inner b s i = record { done = append_true fits (closed block.draft) [] (closed_fits block b) refl; arms = refl }

  -- Blocks.

  abbrev FitReader : Reader → Type 0
  FitReader r = (indent : ℕ) (known : Known) (rows : List Row) → IfOk (r indent known rows) FitBlock

  part_fits : (r : Reader) (place : Place) (block : Block) (part : Part) → FitReader r → FitBlock block → IfOk (with_part p r place block part) FitBlock
  unfolding with_part
  part_fits r place block part f b =
      and_fits (Named p) FitBlock (line (is_open block.draft) p place (named block.known part.row) part.row part.body) _ (line_fits (is_open block.draft) p place (named block.known part.row) part.row part.body)
      (λ said s. and_fits FitBlock FitBlock (r (inner_indent place.indent said part.body) (named block.known part.row) part.body) _ (f (inner_indent place.indent said part.body) (named block.known part.row) part.body)
      (λ inner i. joined_fits block block.known.assigned part.row.number said inner b s i))

  parts_fit : (r : Reader) (place : Place) (block : Block) (parts : List Part) → FitReader r → FitBlock block → IfOk (with_parts p r place block parts) FitBlock
  unfolding with_parts
  parts_fit r place block [] f b = b
  parts_fit r place block (part ∷ more) f b = and_fits FitBlock FitBlock (with_part p r place block part) _ (part_fits r place block part f b) (λ next n. parts_fit r place next more f n)

  new_fits : (known : Known) → FitBlock (new_block known)
  new_fits known = record { done = refl; arms = refl }

  by_fits : (room : ℕ) (r : Reader) → FitReader r → FitReader (block_by p room r)
  unfolding block_by
  by_fits room r f indent known rows = parts_fit r (record { indent = indent; room = room }) (new_block known) (parts_of indent rows) f (new_fits known)

  no_fits : FitReader no_body
  unfolding no_body
  no_fits indent known rows = new_fits known

  block_fits : (room : ℕ) → FitReader (block_in p room)
  unfolding block_in
  block_fits zero = by_fits zero no_body no_fits
  block_fits (suc room) = by_fits (suc room) (block_in p room) (block_fits room)

  -- Scripts.

  abbrev FitScript : Script → Type 0
  FitScript script = script_fits (length p.tests) (length p.tags) script ≡ true

  script_by_fits : (limit : Option ℕ) (all : Block) → FitBlock all → IfOk (script_by limit all) FitScript
  unfolding script_by
  script_by_fits None all h = closed_fits all h
  script_by_fits (Some number) all h = tt

  script_in_fits : (rows : List Row) → IfOk (script_in p rows) FitScript
  unfolding script_in
  script_in_fits rows = and_fits FitBlock FitScript (block_in p 33 0 nothing_known rows) (script_by p.limit) (block_fits 33 0 nothing_known rows) (λ all h. script_by_fits p.limit all h)

  pub reads_fit : (rows : List Row) (result : Result Script ScriptError) → Reads result (script_in p rows) → IfOk result FitScript
  reads_fit rows (Ok script) h = subst (λ (r : Result Script ScriptError). IfOk r FitScript) h (script_in_fits rows)
  reads_fit rows (Err fault) h = tt
