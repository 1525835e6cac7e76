-- Statements in which nothing is refused are ready to be built.
use Rattle.process_cells.proofs.Common.{◌≡◌, ℕ, Bool, true, false, List, [], ◌∷◌, ◌++◌, map, length, Option, Some, None, refl, ap, ◌∙◌, subst, arith, if◌then◌else◌, flat_map, Span, Expr, DivideByZero}
use Rattle.process_cells.proofs.Common.{Fault, Decl, Signal, Constant, Shape, Names, sense, fault, own_zeros, or_else, is_empty, left_nil, right_nil, these_nil, those_nil, Part, parts_of, part_vector}
use Rattle.process_cells.proofs.Common.{vector_of, Assigning, Steps, Done, Assign, Choose, Case, Refuse, Arms, Otherwise, Arm, steps_of, IsBlocking, AreBlocking, Target, targets, arms_targets}
use Rattle.process_cells.proofs.Common.{part_targets, parts_targets, Building, IsSignal, signal, plan, same_form, wrong, divisions, sides_faults, part_refusals, kind_refusals, assign_refusals}
use Rattle.process_cells.proofs.Common.{step_refusals, arm_refusals, own_faults, case_faults, case_refusals, Refusal, Wrong, right_faults, Work, held, CanAssign, AreHeld, IsClear, AreClear}
use Rattle.process_cells.proofs.Common.{AcceptedAreReady, AllWait}
use Rattle.vlog_meaning.specs.Senses.{assigned}
use Rattle.vlog_effects.proofs.Sizes.{IsSized, AreSized, Sized, SizedArms, sized-steps}
use Rattle.process_cells.proofs.Lefts.{NamesSignal, NameSignals, HaveForms, clear, nothing_wrong, left_writes}
use Rattle.process_cells.proofs.Lists.{map_nil, some_known}

-- how many bits each signal of a builder has
abbrev sizes : Building → ℕ → ℕ
sizes b n = length (signal b n)

-- An assignment.

-- what nothing wrong in both sides says
pub record SidesFree (names : Names) (left right : Expr) : Type 0 where
  pub left_whole : (sense names left).faults ≡ []
  pub left_supported : (plan names left).unsupported ≡ []
  pub left_zeros : own_zeros (sense names left) ≡ []
  pub right_whole : (sense names right).faults ≡ []
  pub right_supported : (plan names right).unsupported ≡ []
  pub right_zeros : (sense names right).zeros (assigned (sense names right) (sense names left).shape.width) ≡ []

sides_free : (names : Names) (left right : Expr) → sides_faults names left right ≡ [] → SidesFree names left right
sides_free names left right e =
    let both = these_nil _ _ e in
    let l : wrong names left ≡ [] = left_nil (wrong names left) (wrong names right) both in
    let r : wrong names right ≡ [] = right_nil (wrong names left) (wrong names right) both in
    let spans = map_nil (fault DivideByZero) _ (those_nil _ _ e) in
    record {
      left_whole = left_nil _ _ l;
      left_supported = right_nil _ _ l;
      left_zeros = left_nil _ _ spans;
      right_whole = left_nil _ _ r;
      right_supported = right_nil _ _ r;
      right_zeros = right_nil _ _ spans;
    }

right_free : (names : Names) (left right : Expr) → SidesFree names left right → right_faults names left right ≡ []
right_free names left right f =
    let size : Shape = assigned (sense names right) (sense names left).shape.width in
    ap (λ (fs : List Fault). if is_empty fs then or_else (wrong names right) (divisions ((sense names right).zeros size)) else wrong names right) (nothing_wrong names left f.left_whole f.left_supported)
    ∙ clear names right size f.right_whole f.right_supported f.right_zeros

-- what is known of an assignment in which nothing is refused
pub record Accepts (s : Assigning) : Type 0 where
  pub can : CanAssign s
  pub signals : NameSignals s.names (parts_of s.left)
  pub forms : HaveForms s.names (parts_of s.left)
  pub right : right_faults s.names (same_form s.left) s.right ≡ []

pub accepts : (comb : Bool) (written : List Bool) (s : Assigning) → assign_refusals comb written s ≡ [] → Accepts s
accepts comb written s e =
    let names : Names = s.names in
    let f = sides_free names (same_form s.left) s.right (map_nil Wrong _ (left_nil _ _ e)) in
    let free : flat_map (part_refusals names written) (parts_of s.left) ≡ [] = left_nil _ _ (right_nil (map Wrong (sides_faults names (same_form s.left) s.right)) _ e) in
    let w = left_writes names written s.left f.left_whole f.left_supported f.left_zeros free in
    let width = w.width in
    let narrow = w.narrow in
    record {
      can = record {
        parts = w.can;
        narrow = omega (arith, width, narrow);
        right = clear names s.right _ f.right_whole f.right_supported (subst (λ (n : ℕ). (sense names s.right).zeros (assigned (sense names s.right) n) ≡ []) width f.right_zeros);
      };
      signals = w.signals;
      forms = w.forms;
      right = right_free names (same_form s.left) s.right f;
    }

-- Targets.

held_part : (a : Work) (is_blocking : Bool) (p : Part) (d : Option Decl) → NamesSignal d → IsSized (sizes a.building) d → AllWait a (part_targets is_blocking p (vector_of d)) → AreHeld a (part_targets is_blocking p (vector_of d))
held_part a is_blocking p (Some (Signal width low is_signed number)) s k waits =
    let some = s.sized.some in
    let narrow = s.sized.narrow in
    (record { known = some_known a.building.signals number (omega (arith, some, k)); long = long is_blocking waits.0; some = some; narrow = narrow }, tt)
  where
    long : (b : Bool) → (b ≡ false → a.pending number ≡ signal a.building number) → length (held a b number) ≡ width
    long true w = k
    long false w = ap length (w refl) ∙ k
held_part a is_blocking p (Some (Constant value low is_signed)) s k waits = tt
held_part a is_blocking p None s k waits = tt

waits_first : (a : Work) (xs ys : List Target) → AllWait a (xs ++ ys) → AllWait a xs
waits_first a [] ys h = tt
waits_first a (x ∷ xs) ys h = (h.0, waits_first a xs ys h.1)

waits_next : (a : Work) (xs ys : List Target) → AllWait a (xs ++ ys) → AllWait a ys
waits_next a [] ys h = h
waits_next a (x ∷ xs) ys h = waits_next a xs ys h.1

held_both : (a : Work) (xs ys : List Target) → AreHeld a xs → AreHeld a ys → AreHeld a (xs ++ ys)
held_both a [] ys h k = k
held_both a (x ∷ xs) ys h k = (h.0, held_both a xs ys h.1 k)

held_parts : (a : Work) (is_blocking : Bool) (names : Names) (ps : List Part) → NameSignals names ps → AreSized (sizes a.building) names → AllWait a (parts_targets is_blocking names ps) → AreHeld a (parts_targets is_blocking names ps)
held_parts a is_blocking names [] s k waits = tt
held_parts a is_blocking names (p ∷ ps) s k waits =
    let xs : List Target = part_targets is_blocking p (part_vector names p) in
    let ys : List Target = parts_targets is_blocking names ps in
    held_both a xs ys (held_part a is_blocking p (names p.name.name) s.0 (k p.name.name) (waits_first a xs ys waits)) (held_parts a is_blocking names ps s.1 k (waits_next a xs ys waits))

-- Statements.

-- Where nothing is refused in a case, nothing is in its arms, and nothing is wrong in its selector and labels.

pub arms_free : (fs : List Fault) (arms bodies : List Refusal) → case_refusals fs arms bodies ≡ [] → arms ≡ []
arms_free [] arms bodies e = e
arms_free (f ∷ fs) arms bodies e = cc

pub faults_free : (fs : List Fault) (arms bodies : List Refusal) → case_refusals fs arms bodies ≡ [] → fs ≡ []
faults_free [] arms bodies e = refl
faults_free (f ∷ fs) arms bodies e = cc

mutual
  ready_steps : (comb : Bool) (written : List Bool) (a : Work) (steps : Steps) → step_refusals comb written steps ≡ [] → Sized (sizes a.building) steps → AllWait a (targets steps) → IsClear steps × AreHeld a (targets steps)
  ready_steps comb written a Done e k waits = (tt, tt)
  ready_steps comb written a (Assign s more) e k waits =
      let xs : List Target = parts_targets s.is_blocking s.names (parts_of s.left) in
      let here = accepts comb written s (left_nil (assign_refusals comb written s) (step_refusals comb written more) e) in
      let rest = ready_steps comb written a more (right_nil (assign_refusals comb written s) (step_refusals comb written more) e) k.1 (waits_next a xs (targets more) waits) in
      ((here.can, rest.0), held_both a xs (targets more) (held_parts a s.is_blocking s.names (parts_of s.left) here.signals k.0 (waits_first a xs (targets more) waits)) rest.1)
  ready_steps comb written a (Choose at c p q more) e k waits =
      let ps : List Target = targets p in
      let qs : List Target = targets q in
      let rs : List Target = targets more in
      let f = right_nil (map Wrong (own_faults c.names c.condition)) (step_refusals comb written p ++ (step_refusals comb written q ++ step_refusals comb written more)) e in
      let g = right_nil (step_refusals comb written p) (step_refusals comb written q ++ step_refusals comb written more) f in
      let later = waits_next a ps (qs ++ rs) waits in
      let first = ready_steps comb written a p (left_nil _ _ f) k.1 (waits_first a ps (qs ++ rs) waits) in
      let second = ready_steps comb written a q (left_nil _ _ g) k.2 (waits_first a qs rs later) in
      let rest = ready_steps comb written a more (right_nil (step_refusals comb written q) (step_refusals comb written more) g) k.3 (waits_next a qs rs later) in (
        (map_nil Wrong _ (left_nil _ _ e), first.0, second.0, rest.0),
        held_both a ps (qs ++ rs) first.1 (held_both a qs rs second.1 rest.1),
      )
  ready_steps comb written a (Case c arms bodies more) e k waits =
      let fs : List Fault = case_faults c.names (c.selector ∷ c.labels) in
      let those : List Refusal = arm_refusals comb written arms in
      let all : List Refusal = step_refusals comb written bodies in
      let here : case_refusals fs those all ≡ [] = left_nil (case_refusals fs those all) (step_refusals comb written more) e in
      let xs : List Target = arms_targets arms in
      let these = ready_arms comb written a arms (arms_free fs those all here) k.1 (waits_first a xs (targets more) waits) in
      let rest = ready_steps comb written a more (right_nil (case_refusals fs those all) (step_refusals comb written more) e) k.2 (waits_next a xs (targets more) waits) in
      ((faults_free fs those all here, these.0, rest.0), held_both a xs (targets more) these.1 rest.1)
  ready_steps comb written a (Refuse x more) e k waits = absurd cc

  ready_arms : (comb : Bool) (written : List Bool) (a : Work) (arms : Arms) → arm_refusals comb written arms ≡ [] → SizedArms (sizes a.building) arms → AllWait a (arms_targets arms) → AreClear arms × AreHeld a (arms_targets arms)
  ready_arms comb written a (Otherwise body) e k waits = ready_steps comb written a body e k waits
  ready_arms comb written a (Arm at labels body others) e k waits =
      let xs : List Target = targets body in
      let ys : List Target = arms_targets others in
      let first = ready_steps comb written a body (left_nil (step_refusals comb written body) (arm_refusals comb written others) e) k.0 (waits_first a xs ys waits) in
      let rest = ready_arms comb written a others (right_nil (step_refusals comb written body) (arm_refusals comb written others) e) k.1 (waits_next a xs ys waits) in
      ((first.0, rest.0), held_both a xs ys first.1 rest.1)

sized_signal : (b : Building) (d : Option Decl) → IsSignal b d → IsSized (sizes b) d
sized_signal b (Some (Signal width low is_signed number)) h = h.1
sized_signal b (Some (Constant value low is_signed)) h = tt
sized_signal b None h = tt

pub accepted_ready : AcceptedAreReady
accepted_ready comb written s names a e sized signals stands waits =
    let k : AreSized (sizes a.building) names = λ name. sized_signal a.building (names name) (signals name) in
    let r = ready_steps comb written a (steps_of s names) e (sized-steps (sizes a.building) s names k) waits in
    record { clear = r.0; held = r.1; signals = signals; stands = stands; sized = sized }

-- Combinational processes have blocking assignments alone.

kind_free : (b : Bool) (span : Span) → kind_refusals true b span ≡ [] → b ≡ true
kind_free true span e = refl
kind_free false span e = cc

mutual
  pub accepted_blocking : (written : List Bool) (steps : Steps) → step_refusals true written steps ≡ [] → IsBlocking steps
  accepted_blocking written Done e = tt
  accepted_blocking written (Assign s more) e =
      let here : assign_refusals true written s ≡ [] = left_nil (assign_refusals true written s) (step_refusals true written more) e in
      let later = right_nil (map Wrong (sides_faults s.names (same_form s.left) s.right)) (flat_map (part_refusals s.names written) (parts_of s.left) ++ kind_refusals true s.is_blocking s.place) here in
      (kind_free s.is_blocking s.place (right_nil (flat_map (part_refusals s.names written) (parts_of s.left)) (kind_refusals true s.is_blocking s.place) later), accepted_blocking written more (right_nil (assign_refusals true written s) (step_refusals true written more) e))
  accepted_blocking written (Choose at c p q more) e =
      let f = right_nil (map Wrong (own_faults c.names c.condition)) (step_refusals true written p ++ (step_refusals true written q ++ step_refusals true written more)) e in
      let g = right_nil (step_refusals true written p) (step_refusals true written q ++ step_refusals true written more) f in
      (accepted_blocking written p (left_nil _ _ f), accepted_blocking written q (left_nil _ _ g), accepted_blocking written more (right_nil (step_refusals true written q) (step_refusals true written more) g))
  accepted_blocking written (Case c arms bodies more) e =
      let fs : List Fault = case_faults c.names (c.selector ∷ c.labels) in
      let those : List Refusal = arm_refusals true written arms in
      let all : List Refusal = step_refusals true written bodies in
      let here : case_refusals fs those all ≡ [] = left_nil (case_refusals fs those all) (step_refusals true written more) e in
      (arms_blocking written arms (arms_free fs those all here), accepted_blocking written more (right_nil (case_refusals fs those all) (step_refusals true written more) e))
  accepted_blocking written (Refuse x more) e = absurd cc

  arms_blocking : (written : List Bool) (arms : Arms) → arm_refusals true written arms ≡ [] → AreBlocking arms
  arms_blocking written (Otherwise body) e = accepted_blocking written body e
  arms_blocking written (Arm at labels body others) e = (accepted_blocking written body (left_nil (step_refusals true written body) (arm_refusals true written others) e), arms_blocking written others (right_nil (step_refusals true written body) (arm_refusals true written others) e))
