-- What the loops evaluate and print, one element more at a time.
use Rattle.report_script.proofs.Common.{◌≡◌, ℕ, ◌+◌, ◌<◌, ◌≤◌, Bool, true, false, List, ◌∷◌, ◌++◌, Option, None, Some, Result, Ok, Err, IfOk, map, drop, get_or, length, refl, sym, ap, ◌∙◌}
use Rattle.report_script.proofs.Common.{append_assoc, append-nil, subst, true≢false, if◌then◌else◌, Expr, Format, is_true, Arm, Statement, fold-roll-Statement, fold_out-Arm, Choice, Printed, Printing}
use Rattle.report_script.proofs.Common.{after, arm_step, by_value, choice, chosen, doing, extended, followed, format_text, in_turn, left_behind, line_printed, line_text, statement_step, stopped_at}
use Rattle.std.proofs.lemmas.List.{at_drop_more, at_drop_all}
use Rattle.report_lines.specs.declared.expr.Term.{Term}
use Rattle.report_values.specs.declared.fraction.Fault.{Fault}
use Rattle.report_values.specs.declared.fraction.Fraction.{Fraction}
use Rattle.report_script.specs.declared.report.Statement.TheOpen as o
use Rattle.report_script.specs.declared.report.Statement.TheVariants as v
use Rattle.report_script.specs.declared.running.Stopped.{Stopped}
use Rattle.report_script.specs.Running.{Picks, StopsAt}
use Rattle.report_script.specs.Values.{applied, chained, on, pending, value_of}

-- Terms.

pub term_here : (counts : List ℕ) (ts : List Term) (i : ℕ) (t : Term) (value : Fraction) (r : Result Fraction Fault) → i < length ts → t ≡ get_or ts i t → applied (pending t) value counts ≡ r → chained (map pending (drop i ts)) value counts ≡ on r (λ next. chained (map pending (drop (i + 1) ts)) next counts)
term_here counts ts i t value r l e h =
    at_drop_more (λ (xs : List Term). chained (map pending xs) value counts) ts i t l
    ∙ (ap (λ (x : Term). on (applied (pending x) value counts) (λ next. chained (map pending (drop (i + 1) ts)) next counts)) (sym e)
    ∙ ap (λ (x : Result Fraction Fault). on x (λ next. chained (map pending (drop (i + 1) ts)) next counts)) h)

pub terms_end : (counts : List ℕ) (ts : List Term) (i : ℕ) (value : Fraction) → length ts ≤ i → chained (map pending (drop i ts)) value counts ≡ Ok value
terms_end counts ts i value l = at_drop_all (λ (xs : List Term). chained (map pending xs) value counts) ts i l

-- Formats.

abbrev is_ok : Result (List ℕ) Fault → Bool
is_ok (Ok text) = true
is_ok (Err fault) = false

format_here : (counts : List ℕ) (fs : List Format) (i : ℕ) (d : Format) (values : List Expr) → i < length fs → line_text (drop i fs) values counts ≡ on (format_text (get_or fs i d) values counts) (λ text. extended text (line_text (drop (i + 1) fs) (left_behind (get_or fs i d) values) counts))
unfolding line_text
format_here counts fs i d values l = at_drop_more (λ (xs : List Format). line_text xs values counts) fs i d l

extended_twice : (before text : List ℕ) (more : Result (List ℕ) Fault) → extended (before ++ text) more ≡ extended before (extended text more)
extended_twice before text (Ok more) = ap Ok (append_assoc before text more)
extended_twice before text (Err fault) = refl

on_more : (before new : List ℕ) (r more : Result (List ℕ) Fault) → extended before r ≡ Ok new → extended new more ≡ extended before (on r (λ text. extended text more))
on_more before new (Ok text) more h =
    ap (λ (x : Result (List ℕ) Fault). on x (λ t. extended t more)) (sym h) ∙ extended_twice before text more
on_more before new (Err fault) more h = absurd (true≢false (ap is_ok (sym h)))

on_fault : (before : List ℕ) (fault : Fault) (r : Result (List ℕ) Fault) (next : List ℕ → Result (List ℕ) Fault) → extended before r ≡ Err fault → extended before (on r next) ≡ Err fault
on_fault before fault (Ok text) next h = absurd (true≢false (ap is_ok h))
on_fault before fault (Err other) next h = h

module _ (counts : List ℕ) (fs : List Format) (i : ℕ) (d : Format) (values : List Expr) (before : List ℕ) (whole : Result (List ℕ) Fault) (below : i < length fs) (so_far : extended before (line_text (drop i fs) values counts) ≡ whole) where
  pub format_more : (new : List ℕ) (left : List Expr) → extended before (format_text (get_or fs i d) values counts) ≡ Ok new → left ≡ left_behind (get_or fs i d) values → extended new (line_text (drop (i + 1) fs) left counts) ≡ whole
  format_more new left h e =
      ap (λ (vs : List Expr). extended new (line_text (drop (i + 1) fs) vs counts)) e
      ∙ (on_more before new (format_text (get_or fs i d) values counts) (line_text (drop (i + 1) fs) (left_behind (get_or fs i d) values) counts) h
      ∙ (ap (extended before) (sym (format_here counts fs i d values below)) ∙ so_far))

  pub format_fault : (fault : Fault) → extended before (format_text (get_or fs i d) values counts) ≡ Err fault → whole ≡ Err fault
  format_fault fault h =
      sym so_far
      ∙ (ap (extended before) (format_here counts fs i d values below)
      ∙ on_fault before fault (format_text (get_or fs i d) values counts) (λ text. extended text (line_text (drop (i + 1) fs) (left_behind (get_or fs i d) values) counts)) h)

pub formats_end : (counts : List ℕ) (fs : List Format) (i : ℕ) (values : List Expr) (before : List ℕ) (whole : Result (List ℕ) Fault) → length fs ≤ i → extended before (line_text (drop i fs) values counts) ≡ whole → whole ≡ Ok before
unfolding line_text
formats_end counts fs i values before whole l h =
    sym h ∙ (ap (extended before) (at_drop_all (λ (xs : List Format). line_text xs values counts) fs i l) ∙ ap Ok (append-nil before))

-- Arms.

abbrev opened : Arm → Choice
opened arm = record { line = arm.line; condition = value_of arm.condition; body = in_turn (map doing arm.body) }

choice_is : (arm : Arm) → choice arm ≡ opened arm
choice_is arm = fold_out-Arm Printing Choice statement_step arm_step arm

pub arm_here : (counts : List ℕ) (arms : List Arm) (other : Printing) (i : ℕ) (arm : Arm) (r : Result Fraction Fault) → i < length arms → arm ≡ get_or arms i arm → value_of arm.condition counts ≡ r → chosen (map choice (drop i arms)) other counts ≡ by_value arm.line r (in_turn (map doing arm.body) counts) (chosen (map choice (drop (i + 1) arms)) other counts)
arm_here counts arms other i arm r l e h =
    at_drop_more (λ (xs : List Arm). chosen (map choice xs) other counts) arms i arm l
    ∙ (ap (λ (x : Arm). chosen (choice x ∷ map choice (drop (i + 1) arms)) other counts) (sym e)
    ∙ (ap (λ (c : Choice). chosen (c ∷ map choice (drop (i + 1) arms)) other counts) (choice_is arm)
    ∙ ap (λ (x : Result Fraction Fault). by_value arm.line x (in_turn (map doing arm.body) counts) (chosen (map choice (drop (i + 1) arms)) other counts)) h))

pub picked_if : (line : ℕ) (value : Fraction) (b : Bool) (body other : Printed) → is_true value ≡ b → by_value line (Ok value) body other ≡ (if b then body else other)
picked_if line value b body other h = ap (λ (c : Bool). if c then body else other) h

same_at : (arms : List Arm) (i : ℕ) (d e : Arm) → i < length arms → get_or arms i d ≡ get_or arms i e
same_at arms i d e l = sym (at_drop_more (λ (xs : List Arm). get_or xs 0 d) arms i d l) ∙ at_drop_more (λ (xs : List Arm). get_or xs 0 d) arms i e l

pub arm_picked : (counts : List ℕ) (arms : List Arm) (other : Printing) (i : ℕ) (arm : Arm) (value : Fraction) (d : Arm) → i < length arms → arm ≡ get_or arms i arm → value_of arm.condition counts ≡ Ok value → is_true value ≡ true → chosen (map choice (drop i arms)) other counts ≡ in_turn (map doing (get_or arms i d).body) counts
arm_picked counts arms other i arm value d l e v t =
    arm_here counts arms other i arm (Ok value) l e v
    ∙ (picked_if arm.line value true _ _ t
    ∙ ap (λ (a : Arm). in_turn (map doing a.body) counts) (e ∙ same_at arms i arm d l))

pub arms_end : (counts : List ℕ) (arms : List Arm) (other : Printing) (i : ℕ) → length arms ≤ i → chosen (map choice (drop i arms)) other counts ≡ other counts
arms_end counts arms other i l = at_drop_all (λ (xs : List Arm). chosen (map choice xs) other counts) arms i l

-- Statements.

abbrev pub printed : List ℕ → Option Stopped → Printed
printed text ended = record { text = text; ended = ended }

after_followed : (before : List ℕ) (p q : Printed) → p.ended ≡ None → after before (followed p q) ≡ after (before ++ p.text) q
after_followed before p q e =
    ap (λ (o : Option Stopped). after before (elim o [ None ↦ after p.text q | Some s ↦ p ])) e
    ∙ ap (λ (t : List ℕ). printed t q.ended) (sym (append_assoc before p.text q.text))

followed_stop : (before new : List ℕ) (p q : Printed) (s : Stopped) → printed new (Some s) ≡ after before p → after before (followed p q) ≡ printed new (Some s)
followed_stop before new p q s h =
    ap (λ (o : Option Stopped). after before (elim o [ None ↦ after p.text q | Some s ↦ p ])) (sym (ap (λ (r : Printed). r.ended) h)) ∙ sym h

followed_more : (before new : List ℕ) (p q : Printed) → printed new None ≡ after before p → after new q ≡ after before (followed p q)
followed_more before new p q h =
    ap (λ (r : Printed). after r.text q) h ∙ sym (after_followed before p q (sym (ap (λ (r : Printed). r.ended) h)))

turn_here : (counts : List ℕ) (xs : List Statement) (i : ℕ) (x : Statement) → i < length xs → x ≡ get_or xs i x → in_turn (map doing (drop i xs)) counts ≡ followed (doing x counts) (in_turn (map doing (drop (i + 1) xs)) counts)
turn_here counts xs i x l e =
    at_drop_more (λ (ys : List Statement). in_turn (map doing ys) counts) xs i x l
    ∙ ap (λ (y : Statement). followed (doing y counts) (in_turn (map doing (drop (i + 1) xs)) counts)) (sym e)

module _ (counts : List ℕ) (xs : List Statement) (i : ℕ) (before : List ℕ) (whole : Printed) (so_far : after before (in_turn (map doing (drop i xs)) counts) ≡ whole) where
  pub turn_more : (x : Statement) (new : List ℕ) → i < length xs → x ≡ get_or xs i x → printed new None ≡ after before (doing x counts) → after new (in_turn (map doing (drop (i + 1) xs)) counts) ≡ whole
  turn_more x new l e h =
      followed_more before new (doing x counts) (in_turn (map doing (drop (i + 1) xs)) counts) h
      ∙ (ap (after before) (sym (turn_here counts xs i x l e)) ∙ so_far)

  pub turn_stop : (x : Statement) (new : List ℕ) (s : Stopped) → i < length xs → x ≡ get_or xs i x → printed new (Some s) ≡ after before (doing x counts) → printed new (Some s) ≡ whole
  turn_stop x new s l e h =
      sym (followed_stop before new (doing x counts) (in_turn (map doing (drop (i + 1) xs)) counts) s h)
      ∙ (ap (after before) (sym (turn_here counts xs i x l e)) ∙ so_far)

  pub turn_end : length xs ≤ i → printed before None ≡ whole
  turn_end l =
      ap (λ (t : List ℕ). printed t None) (sym (append-nil before))
      ∙ (ap (after before) (sym (at_drop_all (λ (ys : List Statement). in_turn (map doing ys) counts) xs i l)) ∙ so_far)

-- an `if` prints what its arms print
if_is : (counts : List ℕ) (x : Statement) (arms : List Arm) (other : List Statement) → x ≡ v.If arms other → doing x counts ≡ chosen (map choice arms) (in_turn (map doing other)) counts
if_is counts x arms other e =
    ap (λ (y : Statement). doing y counts) e
    ∙ ap (λ (p : Printing). p counts) (ap doing (sym (v.rolls-If arms other)) ∙ fold-roll-Statement Printing Choice statement_step arm_step (o.If arms other))

pub if_picked : (counts : List ℕ) (x : Statement) (arms all : List Arm) (other : List Statement) (i : ℕ) (arm : Arm) (body : List Statement) → x ≡ v.If arms other → all ≡ arms → Picks counts all (Some i) → body ≡ (get_or all i arm).body → in_turn (map doing body) counts ≡ doing x counts
if_picked counts x arms all other i arm body e a h b =
    ap (λ (ys : List Statement). in_turn (map doing ys) counts) b
    ∙ sym (if_is counts x arms other e ∙ (ap (λ (ys : List Arm). chosen (map choice ys) (in_turn (map doing other)) counts) (sym a) ∙ h arm (in_turn (map doing other))))

pub if_other : (counts : List ℕ) (x : Statement) (arms all : List Arm) (other rest : List Statement) → x ≡ v.If arms other → all ≡ arms → Picks counts all None → rest ≡ other → in_turn (map doing rest) counts ≡ doing x counts
if_other counts x arms all other rest e a h r =
    ap (λ (ys : List Statement). in_turn (map doing ys) counts) r
    ∙ sym (if_is counts x arms other e ∙ (ap (λ (ys : List Arm). chosen (map choice ys) (in_turn (map doing other)) counts) (sym a) ∙ h (in_turn (map doing other))))

pub if_stops : (counts : List ℕ) (x : Statement) (arms all : List Arm) (other : List Statement) (s : Stopped) → x ≡ v.If arms other → all ≡ arms → StopsAt counts all s → stopped_at s.line s.fault ≡ doing x counts
if_stops counts x arms all other s e a h =
    sym (if_is counts x arms other e ∙ (ap (λ (ys : List Arm). chosen (map choice ys) (in_turn (map doing other)) counts) (sym a) ∙ h (in_turn (map doing other))))

pub print_is : (counts : List ℕ) (x : Statement) (line : ℕ) (formats fs : List Format) (values vs : List Expr) → x ≡ v.Print line formats values → fs ≡ formats → vs ≡ values → line_printed line (line_text fs vs counts) ≡ doing x counts
print_is counts x line formats fs values vs e f w =
    ap (λ (gs : List Format). line_printed line (line_text gs vs counts)) f
    ∙ (ap (λ (us : List Expr). line_printed line (line_text formats us counts)) w
    ∙ sym (ap (λ (y : Statement). doing y counts) e
    ∙ ap (λ (p : Printing). p counts) (ap doing (sym (v.rolls-Print line formats values)) ∙ fold-roll-Statement Printing Choice statement_step arm_step (o.Print line formats values))))

-- what is printed, said of an equal definition
pub carried : {A : Type 0} (r : Result (Option Stopped) A) (new before : List ℕ) (p q : Printed) → p ≡ q → IfOk r (λ ended. printed new ended ≡ after before p) → IfOk r (λ ended. printed new ended ≡ after before q)
carried r new before p q e h = subst (λ (x : Printed). IfOk r (λ ended. printed new ended ≡ after before x)) e h

pub stop_here : (before : List ℕ) (s : Stopped) (p : Printed) → stopped_at s.line s.fault ≡ p → printed before (Some s) ≡ after before p
stop_here before s p e = ap (λ (t : List ℕ). printed t (Some s)) (sym (append-nil before)) ∙ ap (after before) e
