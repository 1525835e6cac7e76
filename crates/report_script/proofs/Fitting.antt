-- What is read as a report names only the tags that there are.
use Rattle.report_script.proofs.Common.{◌≡◌, ℕ, zero, suc, ◌==◌, Bool, true, false, ◌&&◌, List, [], ◌∷◌, ◌++◌, Option, Some, None, Result, Ok, Err, IfOk, map, length, refl, sym, ap, ◌∙◌, subst}
use Rattle.report_script.proofs.Common.{if◌then◌else◌, Row, Part, parts_of, ScriptError, Expr, Format, Head, Place, Draft, Arm, Statement, fold-roll-Statement, fold_out-Arm, Reader, arm_of, block_by}
use Rattle.report_script.proofs.Common.{block_in, closed, inner_indent, is_open, joined, new_draft, no_body, with_part, with_parts, Project, fitted, formed, is_misplaced, line, worded}
use Rattle.std.specs.List.{list_all}
use Rattle.script_lines.specs.declared.token.Token.{Token}
use Rattle.tag_script.specs.Checks.{Reads, excess, is_indented_so}
use Rattle.tag_script.proofs.Fitting.{if_fits, unless_fits, and_fits}
use Rattle.tag_script.proofs.Truths.{append_true}
use Rattle.report_lines.specs.declared.head.Head.TheVariants as head
use Rattle.report_lines.specs.Fits.{all_true, expr_fits, head_fits}
use Rattle.report_script.specs.declared.report.Report.{Report}
use Rattle.report_script.specs.declared.report.Statement.TheOpen as o
use Rattle.report_script.specs.declared.report.Statement.TheVariants as v
use Rattle.report_script.specs.Fits.{arm_fits, fit_arm, fit_statement, report_fits, statement_fits}
use Rattle.report_script.specs.Reading.{report_by, report_in}
use Rattle.std.proofs.lemmas.Bool.{and_from}

-- One line.

abbrev Named : Project → Head → Type 0
Named p said = head_fits (length p.tags) said ≡ true

tested_fits : (p : Project) (said : Head) (b : Bool) (fault : ScriptError) → head_fits (length p.tags) said ≡ b → IfOk (if b then Ok said else Err fault) (Named p)
tested_fits p said true fault h = h
tested_fits p said false fault h = tt

formed_fits : (in_arms : Bool) (p : Project) (number : ℕ) (body : List Row) (said : Option Head) → IfOk (formed in_arms p number body said) (Named p)
unfolding formed
formed_fits in_arms p number body None = tt
formed_fits in_arms p number body (Some said) = if_fits (Named p) (is_misplaced in_arms body said) _ _ (tested_fits p said (head_fits (length p.tags) said) _ refl)

worded_fits : (in_arms : Bool) (p : Project) (room number : ℕ) (tokens : List Token) (body : List Row) → IfOk (worded in_arms p room number tokens body) (Named p)
unfolding worded
worded_fits in_arms p room number tokens body = if_fits (Named p) (room == 0) _ _ (formed_fits in_arms p number body _)

fitted_if : (in_arms : Bool) (p : Project) (room number : ℕ) (body : List Row) (fault : ScriptError) (tokens : Option (List Token)) → IfOk (elim tokens [ None ↦ Err fault | Some ts ↦ worded in_arms p room number ts body ]) (Named p)
fitted_if in_arms p room number body fault None = tt
fitted_if in_arms p room number body fault (Some tokens) = worded_fits in_arms p room number tokens body

fitted_fits : (in_arms : Bool) (p : Project) (place : Place) (row : Row) (body : List Row) → IfOk (fitted in_arms p place row body) (Named p)
unfolding fitted
fitted_fits in_arms p place row body = fitted_if in_arms p place.room row.number body _ row.tokens

line_if : (p : Project) (b : Bool) (fault : ScriptError) (r : Result Head ScriptError) (over : Option ScriptError) → IfOk r (Named p) → IfOk (elim over [ Some e ↦ Err e | None ↦ if b then r else Err fault ]) (Named p)
line_if p b fault r None h = unless_fits (Named p) b fault r h
line_if p b fault r (Some e) h = tt

line_fits : (in_arms : Bool) (p : Project) (place : Place) (row : Row) (body : List Row) → IfOk (line in_arms p place row body) (Named p)
unfolding line
line_fits in_arms p place row body = line_if p (is_indented_so place.indent row.indent) _ (fitted in_arms p place row body) (excess p.limit row.number) (fitted_fits in_arms p place row body)

-- Statements.

module _ (p : Project) where
  abbrev fits : Statement → Bool
  fits = statement_fits (length p.tags)

  abbrev fits_arm : Arm → Bool
  fits_arm = arm_fits (length p.tags)

  if_is : (arms : List Arm) (other : List Statement) → fits (v.If arms other) ≡ (all_true (map fits_arm arms) && all_true (map fits other))
  if_is arms other = ap fits (sym (v.rolls-If arms other)) ∙ fold-roll-Statement Bool Bool (fit_statement (length p.tags)) (fit_arm (length p.tags)) (o.If arms other)

  print_is : (number : ℕ) (formats : List Format) (values : List Expr) → fits (v.Print number formats values) ≡ list_all (expr_fits (length p.tags)) values
  print_is number formats values = ap fits (sym (v.rolls-Print number formats values)) ∙ fold-roll-Statement Bool Bool (fit_statement (length p.tags)) (fit_arm (length p.tags)) (o.Print number formats values)

  arm_is : (arm : Arm) → fits_arm arm ≡ (expr_fits (length p.tags) arm.condition && all_true (map fits arm.body))
  arm_is arm = fold_out-Arm Bool Bool (fit_statement (length p.tags)) (fit_arm (length p.tags)) arm

  abbrev Fit : List Statement → Type 0
  Fit xs = all_true (map fits xs) ≡ true

  abbrev FitArms : List Arm → Type 0
  FitArms arms = all_true (map fits_arm arms) ≡ true

  pub record FitDraft (draft : Draft) : Type 0 where
    pub done : Fit draft.done
    pub arms : FitArms draft.arms

  one_fits : (x : Statement) → fits x ≡ true → Fit (x ∷ [])
  one_fits x h = and_from (fits x) true h refl

  if_fit : (arms : List Arm) (other : List Statement) → FitArms arms → Fit other → Fit (v.If arms other ∷ [])
  if_fit arms other h k = one_fits (v.If arms other) (if_is arms other ∙ and_from (all_true (map fits_arm arms)) (all_true (map fits other)) h k)

  closed_if : (done : List Statement) (whole arms : List Arm) → Fit done → FitArms whole → Fit (elim arms [ [] ↦ done | arm ∷ more ↦ done ++ v.If whole [] ∷ [] ])
  closed_if done whole [] h k = h
  closed_if done whole (arm ∷ more) h k = append_true fits done (v.If whole [] ∷ []) h (if_fit whole [] k refl)

  closed_fits : (draft : Draft) → FitDraft draft → Fit (closed draft)
  closed_fits draft h = closed_if draft.done draft.arms draft.arms h.done h.arms

  arm_fit : (number : ℕ) (condition : Expr) (inner : Draft) → expr_fits (length p.tags) condition ≡ true → FitDraft inner → FitArms (arm_of number condition inner ∷ [])
  arm_fit number condition inner h k =
      and_from (fits_arm (arm_of number condition inner)) true
      (arm_is (arm_of number condition inner) ∙ and_from (expr_fits (length p.tags) condition) (all_true (map fits (closed inner))) h (closed_fits inner k)) refl

  joined_fits : (draft : Draft) (number : ℕ) (said : Head) (inner : Draft) → FitDraft draft → Named p said → FitDraft inner → FitDraft (joined draft number said inner)
  unfolding joined
  joined_fits draft number (head.If condition) inner d s i = record { done = closed_fits draft d; arms = arm_fit number condition inner s i }
  joined_fits draft number (head.Elif condition) inner d s i = record { done = d.done; arms = append_true fits_arm draft.arms (arm_of number condition inner ∷ []) d.arms (arm_fit number condition inner s i) }
  joined_fits draft number head.Else inner d s i = record { done = append_true fits draft.done (v.If draft.arms (closed inner) ∷ []) d.done (if_fit draft.arms (closed inner) d.arms (closed_fits inner i)); arms = refl }
  joined_fits draft number (head.Print formats values) inner d s i = record { done = append_true fits (closed draft) (v.Print number formats values ∷ []) (closed_fits draft d) (one_fits (v.Print number formats values) (print_is number formats values ∙ s)); arms = refl }
  joined_fits draft number head.Pass inner d s i = record { done = closed_fits draft d; arms = refl }

  -- Blocks.

  abbrev FitReader : Reader → Type 0
  FitReader r = (indent : ℕ) (rows : List Row) → IfOk (r indent rows) FitDraft

  part_fits : (r : Reader) (place : Place) (draft : Draft) (part : Part) → FitReader r → FitDraft draft → IfOk (with_part p r place draft part) FitDraft
  unfolding with_part
  part_fits r place draft part f d =
      and_fits (Named p) FitDraft (line (is_open draft) p place part.row part.body) _ (line_fits (is_open draft) p place part.row part.body)
      (λ said s. and_fits FitDraft FitDraft (r (inner_indent place.indent said part.body) part.body) _ (f (inner_indent place.indent said part.body) part.body)
      (λ inner i. joined_fits draft part.row.number said inner d s i))

  parts_fit : (r : Reader) (place : Place) (draft : Draft) (parts : List Part) → FitReader r → FitDraft draft → IfOk (with_parts p r place draft parts) FitDraft
  unfolding with_parts
  parts_fit r place draft [] f d = d
  parts_fit r place draft (part ∷ more) f d = and_fits FitDraft FitDraft (with_part p r place draft part) _ (part_fits r place draft part f d) (λ next n. parts_fit r place next more f n)

  new_fits : FitDraft new_draft
  new_fits = record { done = refl; arms = refl }

  by_fits : (room : ℕ) (r : Reader) → FitReader r → FitReader (block_by p room r)
  unfolding block_by
  by_fits room r f indent rows = parts_fit r (record { indent = indent; room = room }) new_draft (parts_of indent rows) f new_fits

  no_fits : FitReader no_body
  unfolding no_body
  no_fits indent rows = new_fits

  block_fits : (room : ℕ) → FitReader (block_in p room)
  unfolding block_in
  block_fits zero = by_fits zero no_body no_fits
  block_fits (suc room) = by_fits (suc room) (block_in p room) (block_fits room)

  -- Reports.

  abbrev FitReport : Report → Type 0
  FitReport report = report_fits (length p.tags) report ≡ true

  report_by_fits : (limit : Option ℕ) (all : Draft) → FitDraft all → IfOk (report_by limit all) FitReport
  unfolding report_by
  report_by_fits None all h = closed_fits all h
  report_by_fits (Some number) all h = tt

  report_in_fits : (rows : List Row) → IfOk (report_in p rows) FitReport
  unfolding report_in
  report_in_fits rows = and_fits FitDraft FitReport (block_in p 33 0 rows) (report_by p.limit) (block_fits 33 0 rows) (λ all h. report_by_fits p.limit all h)

  pub reads_fit : (rows : List Row) (result : Result Report ScriptError) → Reads result (report_in p rows) → IfOk result FitReport
  reads_fit rows (Ok report) h = subst (λ (r : Result Report ScriptError). IfOk r FitReport) h (report_in_fits rows)
  reads_fit rows (Err fault) h = tt
