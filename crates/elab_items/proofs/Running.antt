-- Processes as items of a flattened design, and the scopes in which they are read.
use Rattle.elab_items.proofs.Common.{◌≡◌, ◌≢◌, ◌⊎◌, inl, inr, ℕ, ◌+◌, ◌<◌, ◌≤◌, Bool, List, [], ◌∷◌, ◌++◌, get_or, set, length, Option, Some, None, refl, sym, ap, ◌∙◌, subst, arith, lit≤, length-set}
use Rattle.elab_items.proofs.Common.{length-append, get_or-set_same, get_or-set_other, cases_eq, get_or_append_left, get_or_default, get_or_push, Kind, Process, Decl, Names, decl_shape, names_of}
use Rattle.elab_items.proofs.Common.{ElabError, Building, IsSignal, Refusal, HasOwnNets, StandsBelow, IsFirst, IsShortOf, process_refusals, Adds, process_cells, process_meaning, widths_in, Place}
use Rattle.elab_items.proofs.Common.{BuildError, Refused, TooMany, Memory, Found, names_at, TellsWriters, Builds, BuildsProcess, Fails, FailsProcess, Stands, process_error, AreCopies}
use Rattle.mcy_base.specs.declared.kind.Kind.TheVariants as kind
use Rattle.vlog_meaning.specs.declared.scope.Decl.TheVariants.{Signal, Constant}
use Rattle.vlog_meaning.specs.Operators.{IsSized}
use Rattle.net_builder.specs.declared.error.ElabError.TheVariants as elab
use Rattle.elab_proc.specs.Refusals.{AreSized}
use Rattle.process_cells.proofs.Laying.{processes_laid}
use Rattle.flat_instances.specs.declared.item.FlatItem.TheVariants as f

-- the signals of a scope have from 1 to 128 bits
pub sized_at : (places : List Place) (b : Building) (k : ℕ) → Stands places b → AreSized (names_at places k)
sized_at places b k h = λ name. go (names_at places k name) (h.signals k name) where
  go : (d : Option Decl) → IsSignal b d → IsSized (decl_shape d)
  go None s = record { some = lit≤ tt; narrow = lit≤ tt }
  go (Some (Constant value low is_signed)) s = record { some = value.some; narrow = value.narrow }
  go (Some (Signal w low is_signed n)) s = record { some = subst (λ (x : ℕ). 1 ≤ x) s.1 (h.some n s.0); narrow = subst (λ (x : ℕ). x ≤ 128) s.1 (h.narrow n) }

pub sized_as : (places : List Place) (b : Building) (k : ℕ) (names : Names) → names ≡ names_at places k → Stands places b → AreSized names
sized_as places b k names is h = subst AreSized (sym is) (sized_at places b k h)

-- Processes.

pub process_built : (inputs written : List Bool) (names : Names) (p : Process) (old new : Building) (found : Option Refusal) → TellsWriters old inputs written → IsFirst (process_refusals names written p) found → Adds names p old new found → found ≡ None → HasOwnNets new → StandsBelow new → BuildsProcess inputs names p old new
process_built inputs written names p old new found tells first adds is own stands = record {
  accepted = (written, None, tells, subst (IsFirst (process_refusals names written p)) is first, refl);
  adds = subst (Adds names p old new) is adds;
  ready = record { own = own; stands = stands };
}

pub process_refused : (inputs written : List Bool) (names : Names) (p : Process) (old : Building) (found : Option Refusal) (refusal : Refusal) → TellsWriters old inputs written → IsFirst (process_refusals names written p) found → found ≡ Some refusal → FailsProcess inputs names p old (Refused (Found refusal))
process_refused inputs written names p old found refusal tells first is = (written, Some refusal, tells, subst (IsFirst (process_refusals names written p)) is first, refl)

process_answer : (inputs written : List Bool) (names : Names) (p : Process) (old : Building) (error : ElabError) → TellsWriters old inputs written → ((kind : Kind) → error ≡ elab.TooMany kind → process_refusals names written p ≡ []) → IsShortOf (length old.cells + process_cells names p) error → FailsProcess inputs names p old (process_error error)
process_answer inputs written names p old (elab.TooMany kind.Cells) tells accepted short = ((written, None, tells, accepted kind.Cells refl, refl), short)
process_answer inputs written names p old (elab.TooMany other) tells accepted short = absurd short
process_answer inputs written names p old other tells accepted short = tt

pub process_fails : (inputs written : List Bool) (names : Names) (p : Process) (old : Building) (error : ElabError) (answer : BuildError) → TellsWriters old inputs written → ((kind : Kind) → error ≡ elab.TooMany kind → process_refusals names written p ≡ []) → IsShortOf (length old.cells + process_cells names p) error → answer ≡ process_error error → FailsProcess inputs names p old answer
process_fails inputs written names p old error answer tells accepted short same = subst (FailsProcess inputs names p old) (sym same) (process_answer inputs written names p old error tells accepted short)

pub run_built : (inputs : List Bool) (places : List Place) (k : ℕ) (p : Process) (names : Names) (old new : Building) → names_at places k ≡ names → BuildsProcess inputs names p old new → Builds inputs places (f.Runs k p) old new
run_built inputs places k p names old new is h =
    let g = subst (λ (x : Names). BuildsProcess inputs x p old new) (sym is) h in
    record {
      accepted = g.accepted;
      meaning = process_meaning (widths_in old) (names_at places k) p;
      means = refl;
      adds = g.adds.adds;
      parts = g.adds.builds;
      port = tt;
      ready = g.ready;
      declared = g.adds.declared;
      starts = g.adds.starts;
      laid = processes_laid (names_at places k) p old new g.adds;
    }

pub run_fails : (inputs : List Bool) (places : List Place) (k : ℕ) (p : Process) (names : Names) (old : Building) (error : BuildError) → names_at places k ≡ names → FailsProcess inputs names p old error → Fails inputs places (f.Runs k p) old error
run_fails inputs places k p names old (Refused reason) is h = subst (λ (x : Names). FailsProcess inputs x p old (Refused reason)) (sym is) h
run_fails inputs places k p names old (TooMany kind) is h = subst (λ (x : Names). FailsProcess inputs x p old (TooMany kind)) (sym is) h
run_fails inputs places k p names old Memory is h = tt

-- Copies of scopes.

-- one more
pub copies_more : (places : List Place) (scopes : List (List (List ℕ × Decl))) (s : List (List ℕ × Decl)) → AreCopies places scopes → names_of s ≡ names_at places (length scopes) → AreCopies places (scopes ++ s ∷ [])
copies_more places scopes s h is k less = go (cases_eq k (length scopes)) where
  go : (k ≡ length scopes) ⊎ (k ≢ length scopes) → names_of (get_or (scopes ++ s ∷ []) k []) ≡ names_at places k
  go (inl e) = ap names_of (get_or_push scopes s [] k (sym e)) ∙ is ∙ sym (ap (names_at places) e)
  go (inr ne) = let below : k < length scopes = omega (arith, less, length-append scopes (s ∷ [])) in ap names_of (get_or_append_left scopes (s ∷ []) [] k below) ∙ h k below

-- none
pub none_copied : (places : List Place) (scopes : List (List (List ℕ × Decl))) → scopes ≡ [] → AreCopies places scopes
none_copied places scopes is k less = let none : length scopes ≡ 0 = ap (λ (l : List (List (List ℕ × Decl))). length l) is in absurd (omega (arith, less, none))

-- the one of a number
pub scope_is : (places : List Place) (scopes : List (List (List ℕ × Decl))) (k : ℕ) (s : List (List ℕ × Decl)) → AreCopies places scopes → k < length scopes → s ≡ get_or scopes k s → names_of s ≡ names_at places k
scope_is places scopes k s h less is = ap names_of (is ∙ get_or_default scopes k s [] less) ∙ h k less

-- one is given back with the names that it had
pub copies_kept : (places : List Place) (scopes : List (List (List ℕ × Decl))) (k : ℕ) (s : List (List ℕ × Decl)) → AreCopies places scopes → k < length scopes → names_of s ≡ names_of (get_or scopes k []) → AreCopies places (set scopes k s)
copies_kept places scopes k s h there same j less = go (cases_eq j k) where
  go : (j ≡ k) ⊎ (j ≢ k) → names_of (get_or (set scopes k s) j []) ≡ names_at places j
  go (inl e) = subst (λ (i : ℕ). names_of (get_or (set scopes k s) i []) ≡ names_at places i) (sym e) (ap names_of (get_or-set_same scopes k s [] there) ∙ same ∙ h k there)
  go (inr ne) = let below : j < length scopes = omega (arith, less, length-set scopes k s) in ap names_of (get_or-set_other scopes k j s [] ne) ∙ h j below

pub serves_kept : (places : List Place) (scopes : List (List (List ℕ × Decl))) (k : ℕ) (s : List (List ℕ × Decl)) → AreCopies places scopes → k < length scopes → names_of s ≡ names_at places k → AreCopies places (set scopes k s)
serves_kept places scopes k s h there same = copies_kept places scopes k s h there (same ∙ sym (h k there))
