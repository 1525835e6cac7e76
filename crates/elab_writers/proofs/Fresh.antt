-- A process in which nothing is refused assigns variables that have no writer outside it.
use Rattle.elab_writers.proofs.Common.{◌≡◌, inl, inr, ℕ, Bool, true, false, List, [], ◌∷◌, ◌++◌, map, Option, Some, None, refl, subst, if◌then◌else◌, Contains, flat_map, Fault, Names, left_nil}
use Rattle.elab_writers.proofs.Common.{right_nil, Part, parts_of, part_vector, vector_of, Assigning, Steps, Done, Choose, Case, Refuse, Arms, Otherwise, Arm, Target, targets, arms_targets}
use Rattle.elab_writers.proofs.Common.{part_targets, parts_targets, Refusal, arm_refusals, assign_refusals, case_faults, is_written, kind_refusals, name_refusals, own_faults, part_refusals, same_form}
use Rattle.elab_writers.proofs.Common.{sides_faults, step_refusals, case_refusals, distinct, distinct_after, stands, variables, has_cases, has_none}
use Rattle.vlog_meaning.specs.declared.scope.Decl.{Decl}
use Rattle.vlog_meaning.specs.declared.scope.Decl.TheVariants.{Signal, Constant}
use Rattle.vlog_effects.specs.Steps.{Assign}
use Rattle.elab_proc.specs.declared.refusal.Refusal.TheVariants.{Wrong, TwoWriters}
use Rattle.process_cells.proofs.Accepted.{arms_free}

-- no variable of these has a writer
abbrev AllNew : List Bool → List Target → Type 0
AllNew written [] = Unit {0}
AllNew written (x ∷ more) = (is_written written x.number ≡ false) × AllNew written more

new_both : (written : List Bool) (xs ys : List Target) → AllNew written xs → AllNew written ys → AllNew written (xs ++ ys)
new_both written [] ys h k = k
new_both written (x ∷ xs) ys h k = (h.0, new_both written xs ys h.1 k)

new_part : (written : List Bool) (b : Bool) (p : Part) (d : Option Decl) → name_refusals written p.name.span d ≡ [] → AllNew written (part_targets b p (vector_of d))
new_part written b p None e = tt
new_part written b p (Some (Constant value low is_signed)) e = tt
new_part written b p (Some (Signal width low is_signed number)) e = (by_flag (is_written written number) e, tt) where
  by_flag : (w : Bool) → (if w then TwoWriters p.name.span number ∷ [] else []) ≡ [] → w ≡ false
  by_flag true e = cc
  by_flag false e = refl

new_parts : (written : List Bool) (b : Bool) (names : Names) (ps : List Part) → flat_map (part_refusals names written) ps ≡ [] → AllNew written (parts_targets b names ps)
new_parts written b names [] e = tt
new_parts written b names (p ∷ ps) e =
    new_both written (part_targets b p (part_vector names p)) (parts_targets b names ps)
    (new_part written b p (names p.name.name) (left_nil (part_refusals names written p) (flat_map (part_refusals names written) ps) e))
    (new_parts written b names ps (right_nil (part_refusals names written p) (flat_map (part_refusals names written) ps) e))

new_assign : (comb : Bool) (written : List Bool) (s : Assigning) → assign_refusals comb written s ≡ [] → AllNew written (parts_targets s.is_blocking s.names (parts_of s.left))
new_assign comb written s e =
    new_parts written s.is_blocking s.names (parts_of s.left) (left_nil (flat_map (part_refusals s.names written) (parts_of s.left)) (kind_refusals comb s.is_blocking s.place) (right_nil (map Wrong (sides_faults s.names (same_form s.left) s.right)) _ e))

mutual
  new_steps : (comb : Bool) (written : List Bool) (steps : Steps) → step_refusals comb written steps ≡ [] → AllNew written (targets steps)
  new_steps comb written Done e = tt
  new_steps comb written (Assign s more) e =
      new_both written (parts_targets s.is_blocking s.names (parts_of s.left)) (targets more)
      (new_assign comb written s (left_nil (assign_refusals comb written s) (step_refusals comb written more) e))
      (new_steps comb written more (right_nil (assign_refusals comb written s) (step_refusals comb written more) e))
  new_steps comb written (Choose at c p q more) e =
      let f = right_nil (map Wrong (own_faults c.names c.condition)) (step_refusals comb written p ++ (step_refusals comb written q ++ step_refusals comb written more)) e in
      let g = right_nil (step_refusals comb written p) (step_refusals comb written q ++ step_refusals comb written more) f in
      new_both written (targets p) (targets q ++ targets more) (new_steps comb written p (left_nil _ _ f))
      (new_both written (targets q) (targets more) (new_steps comb written q (left_nil _ _ g)) (new_steps comb written more (right_nil (step_refusals comb written q) (step_refusals comb written more) g)))
  new_steps comb written (Case c arms bodies more) e =
      let fs : List Fault = case_faults c.names (c.selector ∷ c.labels) in
      let those : List Refusal = arm_refusals comb written arms in
      let all : List Refusal = step_refusals comb written bodies in
      let here : case_refusals fs those all ≡ [] = left_nil (case_refusals fs those all) (step_refusals comb written more) e in
      new_both written (arms_targets arms) (targets more) (new_arms comb written arms (arms_free fs those all here)) (new_steps comb written more (right_nil (case_refusals fs those all) (step_refusals comb written more) e))
  new_steps comb written (Refuse x more) e = absurd cc

  new_arms : (comb : Bool) (written : List Bool) (arms : Arms) → arm_refusals comb written arms ≡ [] → AllNew written (arms_targets arms)
  new_arms comb written (Otherwise body) e = new_steps comb written body e
  new_arms comb written (Arm at labels body others) e =
      new_both written (targets body) (arms_targets others) (new_steps comb written body (left_nil (step_refusals comb written body) (arm_refusals comb written others) e))
      (new_arms comb written others (right_nil (step_refusals comb written body) (arm_refusals comb written others) e))

-- the variables are among the targets

new_distinct : (written : List Bool) (seen ts : List Target) → AllNew written ts → AllNew written (distinct_after seen ts)
new_distinct written seen [] h = tt
new_distinct written seen (x ∷ more) h = go (stands x.is_blocking seen x.number) (new_distinct written seen more h.1) (new_distinct written (x ∷ seen) more h.1) where
  go : (b : Bool) → AllNew written (distinct_after seen more) → AllNew written (distinct_after (x ∷ seen) more) → AllNew written (if b then distinct_after seen more else x ∷ distinct_after (x ∷ seen) more)
  go true same other = same
  go false same other = (h.0, other)

new_number : (written : List Bool) (ts : List Target) (k : ℕ) → AllNew written ts → Contains (map (λ x. x.number) ts) k → is_written written k ≡ false
new_number written [] k h c = absurd (has_none k c)
new_number written (x ∷ more) k h c = elim (has_cases (map (λ y. y.number) more) x.number k c) [
  | inl e ↦ subst (λ (n : ℕ). is_written written n ≡ false) e h.0
  | inr m ↦ new_number written more k h.1 m
]

pub variables_new : (comb : Bool) (written : List Bool) (steps : Steps) (k : ℕ) → step_refusals comb written steps ≡ [] → Contains (variables steps) k → is_written written k ≡ false
variables_new comb written steps k e c = new_number written (distinct (targets steps)) k (new_distinct written [] (targets steps) (new_steps comb written steps e)) c
