-- What is refused in steps rests on the writers of signals alone that names of the steps stand for.
use Rattle.elab_once.proofs.Common.{◌≡◌, ℕ, ◌+◌, ◌<◌, Bool, true, false, List, [], ◌∷◌, ◌++◌, map, length, Option, None, Some, refl, ap, ◌∙◌, arith, slice_index_or, if◌then◌else◌, Span, Bit, Stmt}
use Rattle.elab_once.proofs.Common.{Decl, Signal, Constant, Names, Part, parts_of, Assigning, Steps, Done, Assign, Choose, Case, Refuse, Arms, Otherwise, Arm, steps_of, Refusal}
use Rattle.std.specs.List.{flat_map}
use Rattle.vlog_meaning.specs.declared.fault.Fault.{Fault}
use Rattle.vlog_effects.proofs.Sizes.{IsSized, AreSized, Sized, SizedArms, sized-steps}
use Rattle.elab_proc.specs.declared.refusal.Refusal.TheVariants.{Wrong, TwoWriters}
use Rattle.elab_proc.specs.Refusals.{sides_faults, same_form, is_written, name_refusals, part_refusals, kind_refusals, assign_refusals, own_faults, case_faults, flaw_refusal, case_refusals}
use Rattle.elab_proc.specs.Refusals.{step_refusals, arm_refusals}

-- a declared signal is one of these, with its width
abbrev pub IsKnown : List (List Bit) → Option Decl → Type 0
IsKnown signals (Some (Signal width low is_signed number)) = (number < length signals) × (length (slice_index_or signals number []) ≡ width)
IsKnown signals (Some (Constant value low is_signed)) = Unit {0}
IsKnown signals None = Unit {0}

abbrev pub AreKnown : List (List Bit) → Names → Type 0
AreKnown signals names = (name : List ℕ) → IsKnown signals (names name)

-- 1 where two flags differ
abbrev apart : Bool → Bool → ℕ
apart true true = 0
apart false false = 0
apart x y = 1

-- not apart: a width is the same with this and without
not_apart : (x y : Bool) (s width : ℕ) → s ≡ width → s + apart x y ≡ width → x ≡ y
not_apart true true s width e f = refl
not_apart false false s width e f = refl
not_apart true false s width e f = absurd (omega (arith, e, f))
not_apart false true s width e f = absurd (omega (arith, e, f))

none_apart : (x y : Bool) (s width : ℕ) → x ≡ y → s ≡ width → s + apart x y ≡ width
none_apart true true s width is e = omega (arith, e)
none_apart false false s width is e = omega (arith, e)
none_apart true false s width is e = absurd cc
none_apart false true s width is e = absurd cc

-- widths of signals
abbrev widths : List (List Bit) → ℕ → ℕ
widths signals k = length (slice_index_or signals k [])

-- such as differ from these where what is told of writers does
abbrev wider : List Bool → List Bool → List (List Bit) → ℕ → ℕ
wider written others signals k = widths signals k + apart (is_written written k) (is_written others k)

widths_hold : (signals : List (List Bit)) (names : Names) → AreKnown signals names → AreSized (widths signals) names
widths_hold signals names h = λ name. go (names name) (h name) where
  go : (d : Option Decl) → IsKnown signals d → IsSized (widths signals) d
  go (Some (Signal width low is_signed number)) k = k.1
  go (Some (Constant value low is_signed)) k = tt
  go None k = tt

-- the same is told of the writers of all signals
abbrev pub TellSame : List Bool → List Bool → List (List Bit) → Type 0
TellSame written others signals = (k : ℕ) → k < length signals → is_written written k ≡ is_written others k

wider_hold : (written others : List Bool) (signals : List (List Bit)) (names : Names) → TellSame written others signals → AreKnown signals names → AreSized (wider written others signals) names
wider_hold written others signals names same h = λ name. go (names name) (h name) where
  go : (d : Option Decl) → IsKnown signals d → IsSized (wider written others signals) d
  go (Some (Signal width low is_signed number)) k = none_apart (is_written written number) (is_written others number) (widths signals number) width (same number k.0) k.1
  go (Some (Constant value low is_signed)) k = tt
  go None k = tt

-- Where names are sized in both ways, the same is refused.

name_once : (written others : List Bool) (signals : List (List Bit)) (span : Span) (d : Option Decl) → IsSized (widths signals) d → IsSized (wider written others signals) d → name_refusals written span d ≡ name_refusals others span d
name_once written others signals span (Some (Signal width low is_signed number)) e f =
    ap (λ (x : Bool). if x then TwoWriters span number ∷ [] else []) (not_apart (is_written written number) (is_written others number) (widths signals number) width e f)
name_once written others signals span (Some (Constant value low is_signed)) e f = refl
name_once written others signals span None e f = refl

parts_once : (written others : List Bool) (signals : List (List Bit)) (names : Names) (ps : List Part) → AreSized (widths signals) names → AreSized (wider written others signals) names → flat_map (part_refusals names written) ps ≡ flat_map (part_refusals names others) ps
parts_once written others signals names [] e f = refl
parts_once written others signals names (p ∷ more) e f =
    ap (λ (xs : List Refusal). xs ++ flat_map (part_refusals names written) more) (name_once written others signals p.name.span (names p.name.name) (e p.name.name) (f p.name.name))
    ∙ ap (λ (xs : List Refusal). part_refusals names others p ++ xs) (parts_once written others signals names more e f)

assign_once : (written others : List Bool) (signals : List (List Bit)) (comb : Bool) (a : Assigning) → AreSized (widths signals) a.names → AreSized (wider written others signals) a.names → assign_refusals comb written a ≡ assign_refusals comb others a
assign_once written others signals comb a e f =
    ap (λ (xs : List Refusal). map Wrong (sides_faults a.names (same_form a.left) a.right) ++ (xs ++ kind_refusals comb a.is_blocking a.place)) (parts_once written others signals a.names (parts_of a.left) e f)

mutual
  steps_once : (written others : List Bool) (signals : List (List Bit)) (comb : Bool) (s : Steps) → Sized (widths signals) s → Sized (wider written others signals) s → step_refusals comb written s ≡ step_refusals comb others s
  steps_once written others signals comb Done e f = refl
  steps_once written others signals comb (Assign a more) e f =
      ap (λ (xs : List Refusal). xs ++ step_refusals comb written more) (assign_once written others signals comb a e.0 f.0)
      ∙ ap (λ (xs : List Refusal). assign_refusals comb others a ++ xs) (steps_once written others signals comb more e.1 f.1)
  steps_once written others signals comb (Choose at c first second more) e f =
      let wrong : List Refusal = map Wrong (own_faults c.names c.condition) in
      ap (λ (xs : List Refusal). wrong ++ (xs ++ (step_refusals comb written second ++ step_refusals comb written more))) (steps_once written others signals comb first e.1 f.1)
      ∙ ap (λ (xs : List Refusal). wrong ++ (step_refusals comb others first ++ (xs ++ step_refusals comb written more))) (steps_once written others signals comb second e.2 f.2)
      ∙ ap (λ (xs : List Refusal). wrong ++ (step_refusals comb others first ++ (step_refusals comb others second ++ xs))) (steps_once written others signals comb more e.3 f.3)
  steps_once written others signals comb (Case c arms bodies more) e f =
      let faults : List Fault = case_faults c.names (c.selector ∷ c.labels) in
      ap (λ (xs : List Refusal). case_refusals faults xs (step_refusals comb written bodies) ++ step_refusals comb written more) (arms_once written others signals comb arms e.1 f.1)
      ∙ ap (λ (xs : List Refusal). case_refusals faults (arm_refusals comb others arms) xs ++ step_refusals comb written more) (steps_once written others signals comb bodies e.3 f.3)
      ∙ ap (λ (xs : List Refusal). case_refusals faults (arm_refusals comb others arms) (step_refusals comb others bodies) ++ xs) (steps_once written others signals comb more e.2 f.2)
  steps_once written others signals comb (Refuse x more) e f = ap (λ (xs : List Refusal). flaw_refusal x ∷ xs) (steps_once written others signals comb more e f)

  arms_once : (written others : List Bool) (signals : List (List Bit)) (comb : Bool) (arms : Arms) → SizedArms (widths signals) arms → SizedArms (wider written others signals) arms → arm_refusals comb written arms ≡ arm_refusals comb others arms
  arms_once written others signals comb (Otherwise body) e f = steps_once written others signals comb body e f
  arms_once written others signals comb (Arm at labels body more) e f =
      ap (λ (xs : List Refusal). xs ++ arm_refusals comb written more) (steps_once written others signals comb body e.0 f.0)
      ∙ ap (λ (xs : List Refusal). step_refusals comb others body ++ xs) (arms_once written others signals comb more e.1 f.1)

-- the same is refused in a statement, where the same is told of all signals that its names stand for
pub statement_once : (written others : List Bool) (signals : List (List Bit)) (comb : Bool) (body : Stmt) (names : Names) → TellSame written others signals → AreKnown signals names → step_refusals comb written (steps_of body names) ≡ step_refusals comb others (steps_of body names)
statement_once written others signals comb body names same h =
    steps_once written others signals comb (steps_of body names) (sized-steps (widths signals) body names (widths_hold signals names h)) (sized-steps (wider written others signals) body names (wider_hold written others signals names same h))
