-- A process in which nothing is refused assigns variables that have no writer before, each once.
use Rattle.elab_writers.proofs.Common.{◌≡◌, ℕ, zero, suc, ◌<◌, Bool, true, false, IsTrue, List, [], ◌∷◌, ◌++◌, length, Some, refl, sym, ◌∙◌, subst, arith, slice_index_or, Contains, Span, Identifier}
use Rattle.elab_writers.proofs.Common.{Process, Names, Store, left_nil, right_nil, targets, Steps, steps_of, Bit, Building, signal, is_written, step_refusals, Meaning, Combinational, Clocked}
use Rattle.elab_writers.proofs.Common.{NoneTwice, IsNew, body_refusals, control_refusals, latch_refusals, process_refusals, refusals_by, waiting_refusals, Widths, effect_of, meaning_of}
use Rattle.elab_writers.proofs.Common.{process_meaning, process_steps, statement, AcceptedCanBeBuilt, HasOneKind, has_blocking, variables, HasWriter, TellsWriters, AreFlagged}
use Rattle.vlog_syntax.specs.declared.feature.Feature.TheVariants.{Delay, ClockList}
use Rattle.vlog_syntax.specs.declared.item.ProcessKind.{ProcessKind}
use Rattle.vlog_syntax.specs.declared.item.ProcessKind.TheVariants as k
use Rattle.vlog_syntax.specs.declared.stmt.CaseItem.{CaseItem}
use Rattle.vlog_syntax.specs.declared.stmt.EventControl.{EventControl}
use Rattle.vlog_syntax.specs.declared.stmt.Stmt.{Stmt, out-Stmt}
use Rattle.vlog_syntax.specs.declared.stmt.Stmt.TheOpen as s
use Rattle.vlog_syntax.specs.declared.stmt.Stmt.TheOpen.{Stmt-F}
use Rattle.process_events.specs.Events as v
use Rattle.process_events.specs.Events.{Sensitivity, Refused, is_toggle, of_always, of_kind, sensitivity}
use Rattle.process_latches.specs.Mixed.{mixed_refusals}
use Rattle.process_latches.specs.Sound.{sound}
use Rattle.process_latches.specs.Writes.{writes}
use Rattle.elab_writers.proofs.Fresh.{variables_new}
use Rattle.elab_writers.proofs.Inputs.{free_bits, free_input}
use Rattle.elab_writers.proofs.Variables.{numbers_once}
use Rattle.process_cells.proofs.Fits.{waits_not}

-- Variables that have no writer.

bits_known : (l : List (List Bit)) (k i : ℕ) → i < length (slice_index_or l k []) → k < length l
bits_known l k i less = by_list l k less where
  by_list : (l : List (List Bit)) (k : ℕ) → i < length (slice_index_or l k []) → k < length l
  by_list [] k less = absurd (omega (arith, less))
  by_list (x ∷ more) zero less = omega arith
  by_list (x ∷ more) (suc k) less = let rest = by_list more k less in omega (arith, rest)

not_true : (b : Bool) → b ≡ false → ¬ IsTrue b
not_true b e t = let no : false ≡ true = sym e ∙ t in absurd cc

no_writer : (b : Building) (flags written : List Bool) (k i : ℕ) → TellsWriters b flags written → is_written written k ≡ false → i < length (signal b k) → ¬ HasWriter b flags k
no_writer b flags written k i tells free less has = not_true (is_written written k) free ((tells k (bits_known b.signals k i less)).1 has)

abbrev AllFree : List Bool → List ℕ → Type 0
AllFree written ks = (k : ℕ) → Contains ks k → is_written written k ≡ false

changing_new : (b : Building) (flags written : List Bool) (ins ks : List ℕ) (effect : Store → Store) → AreFlagged flags ins → TellsWriters b flags written → AllFree written ks → NoneTwice ks → IsNew b ins (Combinational ks effect)
changing_new b flags written ins ks effect flagged tells free once = record {
  unwritten = λ k i less w. free_bits b flags k i (no_writer b flags written k i tells (free k w) less);
  no_input = λ k i less w. free_input b flags ins k flagged (no_writer b flags written k i tells (free k w) less);
  once = once;
}

rising_new : (b : Building) (flags written : List Bool) (ins ks : List ℕ) (effect : Store → Store) → AreFlagged flags ins → TellsWriters b flags written → AllFree written ks → NoneTwice ks → IsNew b ins (Clocked ks effect)
rising_new b flags written ins ks effect flagged tells free once = record {
  unwritten = λ k i less w. free_bits b flags k i (no_writer b flags written k i tells (free k w) less);
  no_input = λ k i less w. free_input b flags ins k flagged (no_writer b flags written k i tells (free k w) less);
  once = once;
}

-- Nothing is refused in the statements of such a process, and each variable has assignments of one kind.

abbrev IsFree : Bool → List Bool → Steps → Type 0
IsFree comb written steps = (step_refusals comb written steps ≡ []) × HasOneKind steps

body_free : AcceptedCanBeBuilt → (comb : Bool) (names : Names) (written : List Bool) (always : Span) (control : EventControl) (inner : Stmt) → body_refusals comb names written always control inner ≡ [] → IsFree comb written (steps_of inner names)
body_free built comb names written always control inner e =
    let steps : Steps = steps_of inner names in
    let f = right_nil (control_refusals names control) (step_refusals comb written steps ++ (mixed_refusals (writes (sound steps)) ++ latch_refusals comb always (sound steps))) e in
    (left_nil (step_refusals comb written steps) (mixed_refusals (writes (sound steps)) ++ latch_refusals comb always (sound steps)) f, (built comb names written always control inner e).kinds)

changing_free : AcceptedCanBeBuilt → (names : Names) (written : List Bool) (always : Span) (body : Stmt) (f : Stmt-F Stmt CaseItem) → of_always always f ≡ v.Combinational → waiting_refusals true names written always f ≡ [] → IsFree true written (steps_of (statement body f) names)
changing_free built names written always body (s.EventControl at control inner) e none = body_free built true names written always control inner none
changing_free built names written always body (s.DelayControl at delay inner) e none = let found = waits_not (is_toggle (out-Stmt inner)) at always Delay ClockList v.Combinational e in let not : Refused found.0 found.1 ≡ v.Combinational = found.2 in absurd cc
changing_free built names written always body other e none = absurd cc

rising_free : AcceptedCanBeBuilt → (names : Names) (written : List Bool) (always : Span) (body : Stmt) (n : Identifier) (f : Stmt-F Stmt CaseItem) → of_always always f ≡ v.Clocked n → waiting_refusals false names written always f ≡ [] → IsFree false written (steps_of (statement body f) names)
rising_free built names written always body n (s.EventControl at control inner) e none = body_free built false names written always control inner none
rising_free built names written always body n (s.DelayControl at delay inner) e none = let found = waits_not (is_toggle (out-Stmt inner)) at always Delay ClockList (v.Clocked n) e in let not : Refused found.0 found.1 ≡ v.Clocked n = found.2 in absurd cc
rising_free built names written always body n other e none = absurd cc

changing_always : (p : Process) (kind : ProcessKind) → of_kind kind p ≡ v.Combinational → of_always p.span (out-Stmt p.body) ≡ v.Combinational
changing_always p k.Initial e = absurd cc
changing_always p k.Always e = e

rising_always : (p : Process) (n : Identifier) (kind : ProcessKind) → of_kind kind p ≡ v.Clocked n → of_always p.span (out-Stmt p.body) ≡ v.Clocked n
rising_always p n k.Initial e = absurd cc
rising_always p n k.Always e = e

-- what is known of the variables of statements that are run at these times
abbrev AreNew : List Bool → Sensitivity → Steps → Type 0
AreNew written v.Combinational steps = AllFree written (variables steps) × NoneTwice (variables steps)
AreNew written (v.Clocked clock) steps = AllFree written (variables steps) × NoneTwice (variables steps)
AreNew written other steps = Unit {0}

free_variables : (comb : Bool) (written : List Bool) (steps : Steps) → IsFree comb written steps → AllFree written (variables steps) × NoneTwice (variables steps)
free_variables comb written steps free = ((λ k c. variables_new comb written steps k free.0 c), numbers_once (has_blocking steps) [] (targets steps) free.1)

new_by : AcceptedCanBeBuilt → (names : Names) (written : List Bool) (p : Process) (when : Sensitivity) → sensitivity p ≡ when → refusals_by names written p.span when p.body ≡ [] → AreNew written when (process_steps names p)
new_by built names written p v.Once is none = tt
new_by built names written p (v.Refused at feature) is none = tt
new_by built names written p v.Combinational is none = free_variables true written (process_steps names p) (changing_free built names written p.span p.body (out-Stmt p.body) (changing_always p p.kind is) none)
new_by built names written p (v.Clocked n) is none = free_variables false written (process_steps names p) (rising_free built names written p.span p.body n (out-Stmt p.body) (rising_always p n p.kind is) none)

variables_are_new : AcceptedCanBeBuilt → (names : Names) (written : List Bool) (p : Process) → process_refusals names written p ≡ [] → AreNew written (sensitivity p) (process_steps names p)
variables_are_new built names written p none = new_by built names written p (sensitivity p) refl none

steps_new : (b : Building) (flags written : List Bool) (ins : List ℕ) (width : Widths) (when : Sensitivity) (steps : Steps) (x : Meaning) → AreFlagged flags ins → TellsWriters b flags written → AreNew written when steps → Some x ≡ meaning_of width when steps → IsNew b ins x
steps_new b flags written ins width v.Once steps x flagged tells new same = absurd cc
steps_new b flags written ins width (v.Refused at feature) steps x flagged tells new same = absurd cc
steps_new b flags written ins width v.Combinational steps x flagged tells new same =
    let is : Combinational (variables steps) (effect_of width steps) ≡ x = cc in
    subst (IsNew b ins) is (changing_new b flags written ins (variables steps) (effect_of width steps) flagged tells new.0 new.1)
steps_new b flags written ins width (v.Clocked n) steps x flagged tells new same =
    let is : Clocked (variables steps) (effect_of width steps) ≡ x = cc in
    subst (IsNew b ins) is (rising_new b flags written ins (variables steps) (effect_of width steps) flagged tells new.0 new.1)

pub process_new : AcceptedCanBeBuilt → (b : Building) (flags written : List Bool) (ins : List ℕ) (width : Widths) (names : Names) (p : Process) (x : Meaning) → AreFlagged flags ins → TellsWriters b flags written → process_refusals names written p ≡ []
    → Some x ≡ process_meaning width names p → IsNew b ins x
process_new built b flags written ins width names p x flagged tells none same =
    steps_new b flags written ins width (sensitivity p) (process_steps names p) x flagged tells (variables_are_new built names written p none) same
