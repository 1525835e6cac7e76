-- What is built of each kind of item, and why it is not.
use Rattle.elab_items.proofs.Common.{◌≡◌, ℕ, ◌+◌, Bool, List, [], length, Option, Some, None, refl, sym, ap, ◌∙◌, subst, option_map, append-nil, Kind, Span, Expr, LeftSide, least, Names, ElabError}
use Rattle.elab_items.proofs.Common.{Building, HasSignals, signal, Made, IsShortOf, same_form, Meaning, Assign, whole, IsRefusal, assignment, IsBuilt, IsLimit, IsReady, left_width, right_cells}
use Rattle.elab_items.proofs.Common.{right_refusals, right_value, Place, BuildError, Refused, TooMany, Memory, widths_in, names_at, entering, opening, HasWriter, AddsCells, Builds, BuildsSides, Fails}
use Rattle.elab_items.proofs.Common.{FailsSides, FailsInput, IsShort, Stands, assign_error, input_error, wrong_value}
use Rattle.mcy_base.specs.declared.kind.Kind.TheVariants as kind
use Rattle.vlog_syntax.specs.declared.expr.Expr.TheVariants as e
use Rattle.vlog_syntax.specs.declared.identifier.Identifier.{Identifier}
use Rattle.vlog_syntax.specs.declared.left_side.LeftSide.TheVariants as l
use Rattle.vlog_meaning.specs.declared.fault.Cause.{Cause}
use Rattle.vlog_meaning.specs.declared.fault.Cause.TheVariants as cause
use Rattle.vlog_meaning.specs.declared.fault.Fault.{Fault}
use Rattle.vlog_meaning.proofs.Firsts.{least_none}
use Rattle.vlog_effects.specs.Expressions.{width_of}
use Rattle.net_builder.specs.declared.error.ElabError.TheVariants as elab
use Rattle.net_builder.specs.Errors.{elab_error}
use Rattle.flat_assigns.specs.declared.refusal.AssignError.{AssignError}
use Rattle.flat_assigns.specs.declared.refusal.AssignError.TheVariants as assign
use Rattle.flat_assigns.specs.declared.refusal.Refusal.{Refusal}
use Rattle.flat_assigns.specs.Laid.{lay_input, lay_open}
use Rattle.flat_assigns.proofs.Laying.{outputs_laid}
use Rattle.flat_instances.specs.declared.item.FlatItem.TheVariants as f

-- what an assignment adds
cells_added : (old new : Building) (m : Meaning) (made : List Made) → IsBuilt old new m made → AddsCells old new made
cells_added old new m made h = record { more = h.more; cells = h.cells; are = h.made; registers = h.registers }

no_cells_added : (b : Building) → AddsCells b b []
no_cells_added b = record { more = []; cells = sym (append-nil b.cells); are = refl; registers = refl }

-- items that say nothing of a cycle

pub declares_built : (inputs : List Bool) (places : List Place) (k : ℕ) (b : Building) → IsReady b → Builds inputs places (f.Declares k) b b
declares_built inputs places k b ready = record { accepted = refl; meaning = None; means = refl; adds = refl; parts = no_cells_added b; port = tt; ready = ready; declared = refl; starts = refl; laid = refl }

-- assignments

pub assigns_built : (inputs : List Bool) (places : List Place) (k : ℕ) (left : LeftSide) (right : Expr) (old new : Building) → BuildsSides inputs (names_at places k) left (names_at places k) right old new → Builds inputs places (f.Assigns k left right) old new
assigns_built inputs places k left right old new h =
    let m = assignment (names_at places k) left (names_at places k) right in
    record { accepted = h.0; meaning = Some m; means = refl; adds = h.1.adds; parts = cells_added old new m (right_cells (names_at places k) right (left_width (names_at places k) left)) h.1; port = tt; ready = h.1.ready; declared = h.1.declared; starts = h.1.starts; laid = h.2 }

pub assigns_fail : (inputs : List Bool) (places : List Place) (k : ℕ) (left : LeftSide) (right : Expr) (old : Building) (error : BuildError) → FailsSides inputs (names_at places k) left (names_at places k) right old error → Fails inputs places (f.Assigns k left right) old error
assigns_fail inputs places k left right old (Refused reason) h = h
assigns_fail inputs places k left right old (TooMany kind) h = h
assigns_fail inputs places k left right old Memory h = tt

pub drives_built : (inputs : List Bool) (places : List Place) (k : ℕ) (net : Identifier) (value : Expr) (old new : Building) → BuildsSides inputs (names_at places k) (l.Name net) (names_at places k) value old new → Builds inputs places (f.Drives k net value) old new
drives_built inputs places k net value old new h =
    let m = assignment (names_at places k) (l.Name net) (names_at places k) value in
    record { accepted = h.0; meaning = Some m; means = refl; adds = h.1.adds; parts = cells_added old new m (right_cells (names_at places k) value (left_width (names_at places k) (l.Name net))) h.1; port = tt; ready = h.1.ready; declared = h.1.declared; starts = h.1.starts; laid = h.2 }

pub drives_fail : (inputs : List Bool) (places : List Place) (k : ℕ) (net : Identifier) (value : Expr) (old : Building) (error : BuildError) → FailsSides inputs (names_at places k) (l.Name net) (names_at places k) value old error → Fails inputs places (f.Drives k net value) old error
drives_fail inputs places k net value old (Refused reason) h = h
drives_fail inputs places k net value old (TooMany kind) h = h
drives_fail inputs places k net value old Memory h = tt

pub between_built : (inputs : List Bool) (places : List Place) (outside inside : ℕ) (lefts rights : Names) (left : LeftSide) (right : Expr) (old new : Building) → names_at places outside ≡ lefts → names_at places inside ≡ rights → BuildsSides inputs lefts left rights right old new → BuildsSides inputs (names_at places outside) left (names_at places inside) right old new
between_built inputs places outside inside lefts rights left right old new is same h =
    subst (λ (x : Names). BuildsSides inputs x left (names_at places inside) right old new) (sym is) (subst (λ (y : Names). BuildsSides inputs lefts left y right old new) (sym same) h)

pub between_fails : (inputs : List Bool) (places : List Place) (outside inside : ℕ) (lefts rights : Names) (left : LeftSide) (right : Expr) (old : Building) (error : BuildError) → names_at places outside ≡ lefts → names_at places inside ≡ rights → FailsSides inputs lefts left rights right old error → FailsSides inputs (names_at places outside) left (names_at places inside) right old error
between_fails inputs places outside inside lefts rights left right old error is same h =
    subst (λ (x : Names). FailsSides inputs x left (names_at places inside) right old error) (sym is) (subst (λ (y : Names). FailsSides inputs lefts left y right old error) (sym same) h)

pub signals_at : (places : List Place) (b : Building) (k : ℕ) (names : Names) → names_at places k ≡ names → Stands places b → HasSignals names b
signals_at places b k names is h = subst (λ (x : Names). HasSignals x b) is (h.signals k)

-- outputs

pub leaves_built : (inputs : List Bool) (places : List Place) (k : ℕ) (value : Expr) (inside : ℕ) (port : Identifier) (left : LeftSide) (old new : Building) → same_form left ≡ value → BuildsSides inputs (names_at places k) left (names_at places inside) (e.Name port) old new → Builds inputs places (f.Leaves k value inside port) old new
leaves_built inputs places k value inside port left old new form h =
    let m = assignment (names_at places k) left (names_at places inside) (e.Name port) in
    record {
      accepted = (left, form, h.0);
      meaning = Some m;
      means = (left, form, refl);
      adds = h.1.adds;
      parts = subst (λ (x : Expr). AddsCells old new (right_cells (names_at places inside) (e.Name port) (width_of (names_at places k) x))) form (cells_added old new m (right_cells (names_at places inside) (e.Name port) (left_width (names_at places k) left)) h.1);
      port = tt;
      ready = h.1.ready;
      declared = h.1.declared;
      starts = h.1.starts;
      laid = h.2 ∙ outputs_laid (names_at places k) left value (names_at places inside) (e.Name port) old form;
    }

pub leaves_fail : (inputs : List Bool) (places : List Place) (k : ℕ) (value : Expr) (inside : ℕ) (port : Identifier) (left : LeftSide) (old : Building) (error : BuildError) → same_form left ≡ value → FailsSides inputs (names_at places k) left (names_at places inside) (e.Name port) old error → Fails inputs places (f.Leaves k value inside port) old error
leaves_fail inputs places k value inside port left old (Refused reason) form h = (left, form, h)
leaves_fail inputs places k value inside port left old (TooMany kind) form h =
    ((left, form, h.0), subst (λ (x : Expr). IsShort (length old.cells + length (right_cells (names_at places inside) (e.Name port) (width_of (names_at places k) x))) (TooMany kind)) form h.1)
leaves_fail inputs places k value inside port left old Memory form h = tt

-- errors of assignments

short_sides : (n : ℕ) (k : Kind) → IsLimit n (assign.TooMany k) → IsShort n (TooMany k)
short_sides n kind.Cells h = h
short_sides n other h = absurd h

sides_answer : (inputs : List Bool) (lefts : Names) (left : LeftSide) (rights : Names) (right : Expr) (old : Building) (error : AssignError)
    → ((r : Refusal) → error ≡ assign.Refused r → IsRefusal old inputs lefts left rights right (Some r))
    → ((k : Kind) → error ≡ assign.TooMany k → IsRefusal old inputs lefts left rights right None × IsLimit (length old.cells + length (right_cells rights right (left_width lefts left))) (assign.TooMany k))
    → FailsSides inputs lefts left rights right old (assign_error error)
sides_answer inputs lefts left rights right old (assign.Refused r) refused limit = (Some r, refused r refl, refl)
sides_answer inputs lefts left rights right old (assign.TooMany k) refused limit =
    ((None, (limit k refl).0, refl), short_sides (length old.cells + length (right_cells rights right (left_width lefts left))) k (limit k refl).1)
sides_answer inputs lefts left rights right old assign.Memory refused limit = tt

pub sides_fail : (inputs : List Bool) (lefts : Names) (left : LeftSide) (rights : Names) (right : Expr) (old : Building) (error : AssignError) (answer : BuildError)
    → ((r : Refusal) → error ≡ assign.Refused r → IsRefusal old inputs lefts left rights right (Some r))
    → ((k : Kind) → error ≡ assign.TooMany k → IsRefusal old inputs lefts left rights right None × IsLimit (length old.cells + length (right_cells rights right (left_width lefts left))) (assign.TooMany k))
    → answer ≡ assign_error error → FailsSides inputs lefts left rights right old answer
sides_fail inputs lefts left rights right old error answer refused limit same = subst (FailsSides inputs lefts left rights right old) (sym same) (sides_answer inputs lefts left rights right old error refused limit)

-- inputs

error_of : (c : Cause) (span : Span) → input_error (elab_error (record { cause = c; span = span })) ≡ Refused (wrong_value (record { cause = c; span = span }))
error_of cause.Unknown span = refl
error_of cause.NotConstant span = refl
error_of cause.DivideByZero span = refl
error_of cause.TooWide span = refl
error_of cause.RangeForm span = refl
error_of cause.SystemFunction span = refl
error_of cause.DivideOrPower span = refl
error_of cause.IndexedBase span = refl
error_of cause.Drawn span = refl

short_of : (names : Names) (value : Expr) (width cells : ℕ) (error : ElabError) → least (right_refusals names value width) ≡ None → IsShortOf (cells + length (right_cells names value width)) error → FailsInput names value width cells (input_error error)
short_of names value width cells (elab.TooMany kind.Cells) none h = (sym (ap (option_map wrong_value) none), h)
short_of names value width cells (elab.TooMany other) none h = absurd h
short_of names value width cells elab.Memory none h = tt
short_of names value width cells other none h = absurd h

pub input_fails : (names : Names) (value : Expr) (width cells : ℕ) (error : ElabError) (answer : BuildError)
    → ((x : Fault) → least (right_refusals names value width) ≡ Some x → error ≡ elab_error x)
    → (right_refusals names value width ≡ [] → IsShortOf (cells + length (right_cells names value width)) error)
    → answer ≡ input_error error → FailsInput names value width cells answer
input_fails names value width cells error answer refused short same = subst (FailsInput names value width cells) (sym same) (go (least (right_refusals names value width)) refl) where
  go : (o : Option Fault) → least (right_refusals names value width) ≡ o → FailsInput names value width cells (input_error error)
  go (Some x) is =
      let told : input_error error ≡ Refused (wrong_value x) = ap input_error (refused x is) ∙ error_of x.cause x.span in
      subst (FailsInput names value width cells) (sym told) (sym (ap (option_map wrong_value) is))
  go None is = short_of names value width cells error is (short (least_none (right_refusals names value width) is))

pub enters_built : (inputs : List Bool) (places : List Place) (port k : ℕ) (value : Expr) (names : Names) (old new : Building) → names_at places k ≡ names → ¬ HasWriter old inputs port
    → least (right_refusals names value (length (signal old port))) ≡ None
    → IsBuilt old new (Assign (whole old port) (right_value names value (length (signal old port)))) (right_cells names value (length (signal old port)))
    → new ≡ lay_input names value port old
    → Builds inputs places (f.Enters port k value) old new
enters_built inputs places port k value names old new is new_port none built laid =
    let width = length (signal old port) in
    let all = subst (λ (x : Names). IsBuilt old new (Assign (whole old port) (right_value x value width)) (right_cells x value width)) (sym is) built in
    record {
      accepted = subst (λ (x : Names). None ≡ option_map wrong_value (least (right_refusals x value width))) (sym is) (sym (ap (option_map wrong_value) none));
      meaning = Some (entering (widths_in old) port (names_at places k) value);
      means = refl;
      adds = all.adds;
      parts = cells_added old new (Assign (whole old port) (right_value (names_at places k) value width)) (right_cells (names_at places k) value width) all;
      port = new_port;
      ready = built.ready;
      declared = built.declared;
      starts = built.starts;
      laid = subst (λ (x : Names). new ≡ lay_input x value port old) (sym is) laid;
    }

pub enters_fail : (inputs : List Bool) (places : List Place) (port k : ℕ) (value : Expr) (names : Names) (old : Building) (error : BuildError) → names_at places k ≡ names
    → FailsInput names value (length (signal old port)) (length old.cells) error → Fails inputs places (f.Enters port k value) old error
enters_fail inputs places port k value names old (Refused reason) is h = subst (λ (x : Names). Some reason ≡ option_map wrong_value (least (right_refusals x value (length (signal old port))))) (sym is) h
enters_fail inputs places port k value names old (TooMany kind) is h = subst (λ (x : Names). FailsInput x value (length (signal old port)) (length old.cells) (TooMany kind)) (sym is) h
enters_fail inputs places port k value names old Memory is h = tt

pub opens_built : (inputs : List Bool) (places : List Place) (port : ℕ) (old new : Building) → ¬ HasWriter old inputs port → IsBuilt old new (Assign (whole old port) (λ store. 0)) [] → new ≡ lay_open port old → Builds inputs places (f.Open port) old new
opens_built inputs places port old new new_port built laid = record { accepted = refl; meaning = Some (opening (widths_in old) port); means = refl; adds = built.adds; parts = cells_added old new (opening (widths_in old) port) [] built; port = new_port; ready = built.ready; declared = built.declared; starts = built.starts; laid = laid }
