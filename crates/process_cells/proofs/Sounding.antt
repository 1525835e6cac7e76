-- Statements in which nothing is refused are sound as they stand.
use Rattle.process_cells.proofs.Common.{◌≡◌, Bool, false, not, ◌||◌, List, [], ◌∷◌, ◌++◌, map, refl, sym, ap, ◌∙◌, subst, if◌then◌else◌, flat_map, Span, Expr, Fault, Names, Bits, no_bits, either}
use Rattle.process_cells.proofs.Common.{is_empty, left_nil, right_nil, these_nil, Whole, Part, parts_of, Target, targets, arms_targets, parts_targets, covered, arms_covered, early, arms_early}
use Rattle.process_cells.proofs.Common.{all_missed, parts_cover, missed, parts_missed, all_of, some_bit, is_latch, latches, first_of, latch_of, Assigning, Test, Selection, Turns, Steps, Done, Assign}
use Rattle.process_cells.proofs.Common.{Choose, Case, Refuse, Arms, Otherwise, Arm, followed, steps_of, same_form, wrong, own_faults, case_faults, case_refusals, assign_refusals, step_refusals}
use Rattle.process_cells.proofs.Common.{arm_refusals, Refusal, Wrong, sound_by, sound_expr, sound_test, right_faults, sound_right, part_form, sound_part, sound_left, sound, sound_arms, has_stop}
use Rattle.process_cells.proofs.Common.{arms_stop, AcceptedAreSound}
use Rattle.vlog_syntax.specs.Places.{first_token}
use Rattle.process_latches.proofs.Fitting.{parts_sound}
use Rattle.process_cells.proofs.Accepted.{Accepts, accepts, arms_free, faults_free}
use Rattle.process_cells.proofs.Labels.{AreRight, ArmsRight, HasOwnLabels, ArmsOwnLabels, own-steps}
use Rattle.process_cells.proofs.Lefts.{HaveForms}
use Rattle.process_cells.proofs.Lists.{map_nil}

same_by : (faults : List Fault) (x : Expr) → faults ≡ [] → sound_by faults x ≡ x
same_by faults x right = rw right refl

same_expr : (names : Names) (x : Expr) → wrong names x ≡ [] → sound_expr names x ≡ x
same_expr names x right = same_by (wrong names x) x right

same_part : (names : Names) (p : Part) → own_faults names (part_form p.name p.select) ≡ [] → sound_part names p ≡ p
same_part names p right = ap (λ (fs : List Fault). if is_empty fs then p else record { name = p.name; select = Whole }) right

same_parts : (names : Names) (ps : List Part) → HaveForms names ps → map (sound_part names) ps ≡ ps
same_parts names [] h = refl
same_parts names (p ∷ ps) h = ap (λ (q : Part). q ∷ map (sound_part names) ps) (same_part names p h.0) ∙ ap (λ (l : List Part). p ∷ l) (same_parts names ps h.1)

-- steps that do the same to what is assigned and read
pub record AreSame (a b : Steps) : Type 0 where
  pub targets_are : targets a ≡ targets b
  pub covered_are : (c : Bits) → covered a c ≡ covered b c
  pub early_are : (c : Bits) → early a c ≡ early b c
  pub runs_on : has_stop a ≡ false

same_assign : (s : Assigning) (more next : Steps) → parts_of (sound_left s.names s.left) ≡ parts_of s.left → sound_right s.names s.left s.right ≡ s.right → AreSame next more → AreSame (Assign (record s { left = sound_left s.names s.left; right = sound_right s.names s.left s.right }) next) (Assign s more)
same_assign s more next parts right rest =
    let ps : List Part = parts_of s.left in
    let qs : List Part = parts_of (sound_left s.names s.left) in
    record {
      targets_are = ap (λ (l : List Part). parts_targets s.is_blocking s.names l ++ targets next) parts ∙ ap (λ (l : List Target). parts_targets s.is_blocking s.names ps ++ l) rest.targets_are;
      covered_are = λ c. ap (λ (l : List Part). covered next (either c (parts_cover s.names l))) parts ∙ rest.covered_are (either c (parts_cover s.names ps));
      early_are = λ c.
          ap (λ (x : Expr). either (either (missed s.names x c) (parts_missed s.names qs c)) (early next (either c (parts_cover s.names qs)))) right
          ∙ ap (λ (l : List Part). either (either (missed s.names s.right c) (parts_missed s.names l c)) (early next (either c (parts_cover s.names l)))) parts
          ∙ ap (λ (b : Bits). either (either (missed s.names s.right c) (parts_missed s.names ps c)) b) (rest.early_are (either c (parts_cover s.names ps)));
      runs_on = rest.runs_on;
    }

no_stop : (a b c : Bool) → a ≡ false → b ≡ false → c ≡ false → (a || b) || c ≡ false
no_stop a b c e f g = rw (e, f, g) refl

same_choice : (c : Test) (p q more first second next : Steps) (x : Expr) → x ≡ c.condition → AreSame first p → AreSame second q → AreSame next more → (at : Span) → AreSame (Choose at (record c { condition = x }) first second next) (Choose at c p q more)
same_choice c p q more first second next x condition f s rest at = record {
  targets_are = ap (λ (l : List Target). l ++ (targets second ++ targets next)) f.targets_are ∙ ap (λ (l : List Target). targets p ++ (l ++ targets next)) s.targets_are ∙ ap (λ (l : List Target). targets p ++ (targets q ++ l)) rest.targets_are;
  covered_are = λ b.
      ap (λ (d : Bits). covered next (all_of d (covered second b))) (f.covered_are b)
      ∙ ap (λ (d : Bits). covered next (all_of (covered p b) d)) (s.covered_are b)
      ∙ rest.covered_are (all_of (covered p b) (covered q b));
  early_are = λ b.
      ap (λ (y : Expr). either (either (missed c.names y b) (either (early first b) (early second b))) (early next (all_of (covered first b) (covered second b)))) condition
      ∙ ap (λ (d : Bits). either (either (missed c.names c.condition b) (either d (early second b))) (early next (all_of (covered first b) (covered second b)))) (f.early_are b)
      ∙ ap (λ (d : Bits). either (either (missed c.names c.condition b) (either (early p b) d)) (early next (all_of (covered first b) (covered second b)))) (s.early_are b)
      ∙ ap (λ (d : Bits). either (either (missed c.names c.condition b) (either (early p b) (early q b))) (early next (all_of d (covered second b)))) (f.covered_are b)
      ∙ ap (λ (d : Bits). either (either (missed c.names c.condition b) (either (early p b) (early q b))) (early next (all_of (covered p b) d))) (s.covered_are b)
      ∙ ap (λ (d : Bits). either (either (missed c.names c.condition b) (either (early p b) (early q b))) d) (rest.early_are (all_of (covered p b) (covered q b)));
  runs_on = no_stop (has_stop first) (has_stop second) (has_stop next) f.runs_on s.runs_on rest.runs_on;
}

-- Cases.

same_labels : (names : Names) (xs : List Expr) → AreRight names xs → map (sound_expr names) xs ≡ xs
same_labels names [] e = refl
same_labels names (x ∷ xs) e =
    let right : wrong names x ≡ [] = left_nil (wrong names x) (flat_map (wrong names) xs) e in
    ap (λ (y : Expr). y ∷ map (sound_expr names) xs) (same_expr names x right) ∙ ap (λ (l : List Expr). x ∷ l) (same_labels names xs (right_nil (wrong names x) (flat_map (wrong names) xs) e))

-- arms that do the same, where the first ones stand in a case with this selector
pub record AreSameArms (c : Selection) (x : Expr) (a b : Arms) : Type 0 where
  pub targets_are : arms_targets a ≡ arms_targets b
  pub covered_are : (d : Bits) → arms_covered a d ≡ arms_covered b d
  pub early_are : (d : Bits) → arms_early (record c { selector = x }) a d ≡ arms_early c b d
  pub runs_on : arms_stop a ≡ false

same_otherwise : (c : Selection) (x : Expr) (body first : Steps) → AreSame first body → AreSameArms c x (Otherwise first) (Otherwise body)
same_otherwise c x body first f = record { targets_are = f.targets_are; covered_are = f.covered_are; early_are = f.early_are; runs_on = f.runs_on }

no_stops : (a b : Bool) → a ≡ false → b ≡ false → a || b ≡ false
no_stops a b e f = rw (e, f) refl

same_arm : (c : Selection) (x : Expr) (labels new : List Expr) (body first : Steps) (others rest : Arms) → new ≡ labels → AreSame first body → AreSameArms c x rest others → (at : Span) → AreSameArms c x (Arm at new first rest) (Arm at labels body others)
same_arm c x labels new body first others rest is f r at = record {
  targets_are = ap (λ (l : List Target). l ++ arms_targets rest) f.targets_are ∙ ap (λ (l : List Target). targets body ++ l) r.targets_are;
  covered_are = λ b. ap (λ (d : Bits). all_of d (arms_covered rest b)) (f.covered_are b) ∙ ap (λ (d : Bits). all_of (covered body b) d) (r.covered_are b);
  early_are = λ b.
      ap (λ (l : List Expr). either (all_missed c.names l b) (either (early first b) (arms_early (record c { selector = x }) rest b))) is
      ∙ ap (λ (d : Bits). either (all_missed c.names labels b) (either d (arms_early (record c { selector = x }) rest b))) (f.early_are b)
      ∙ ap (λ (d : Bits). either (all_missed c.names labels b) (either (early body b) d)) (r.early_are b);
  runs_on = no_stops (has_stop first) (arms_stop rest) f.runs_on r.runs_on;
}

same_case : (c : Selection) (x : Expr) (arms new : Arms) (bodies other more next : Steps) → x ≡ c.selector → AreSameArms c x new arms → AreSame next more → AreSame (Case (record c { selector = x }) new other next) (Case c arms bodies more)
same_case c x arms new bodies other more next is r rest = record {
  targets_are = ap (λ (l : List Target). l ++ targets next) r.targets_are ∙ ap (λ (l : List Target). arms_targets arms ++ l) rest.targets_are;
  covered_are = λ b. ap (λ (d : Bits). covered next d) (r.covered_are b) ∙ rest.covered_are (arms_covered arms b);
  early_are = λ b.
      ap (λ (y : Expr). either (either (missed c.names y b) (arms_early (record c { selector = x }) new b)) (early next (arms_covered new b))) is
      ∙ ap (λ (d : Bits). either (either (missed c.names c.selector b) d) (early next (arms_covered new b))) (r.early_are b)
      ∙ ap (λ (d : Bits). either (either (missed c.names c.selector b) (arms_early c arms b)) (early next d)) (r.covered_are b)
      ∙ ap (λ (d : Bits). either (either (missed c.names c.selector b) (arms_early c arms b)) d) (rest.early_are (arms_covered arms b));
  runs_on = no_stops (arms_stop new) (has_stop next) r.runs_on rest.runs_on;
}

-- Statements.

mutual
  same_steps : (comb : Bool) (written : List Bool) (steps : Steps) → step_refusals comb written steps ≡ [] → HasOwnLabels steps → AreSame (sound steps) steps
  same_steps comb written Done e own = record { targets_are = refl; covered_are = λ c. refl; early_are = λ c. refl; runs_on = refl }
  same_steps comb written (Assign s more) e own =
      let here : Accepts s = accepts comb written s (left_nil (assign_refusals comb written s) (step_refusals comb written more) e) in
      same_assign s more (sound more) (parts_sound s.names s.left ∙ same_parts s.names (parts_of s.left) here.forms) (same_by (right_faults s.names (same_form s.left) s.right) s.right here.right)
      (same_steps comb written more (right_nil (assign_refusals comb written s) (step_refusals comb written more) e) own)
  same_steps comb written (Choose at c p q more) e own =
      let f = right_nil (map Wrong (own_faults c.names c.condition)) (step_refusals comb written p ++ (step_refusals comb written q ++ step_refusals comb written more)) e in
      let g = right_nil (step_refusals comb written p) (step_refusals comb written q ++ step_refusals comb written more) f in
      let faults : own_faults c.names c.condition ≡ [] = map_nil Wrong (own_faults c.names c.condition) (left_nil _ _ e) in
      same_choice c p q more (sound p) (sound q) (sound more) (sound_test c.names c.condition) (same_by (own_faults c.names c.condition) c.condition faults)
      (same_steps comb written p (left_nil _ _ f) own.0) (same_steps comb written q (left_nil _ _ g) own.1)
      (same_steps comb written more (right_nil (step_refusals comb written q) (step_refusals comb written more) g) own.2) at
  same_steps comb written (Case c arms bodies more) e own =
      let names : Names = c.names in
      let fs : List Fault = case_faults names (c.selector ∷ c.labels) in
      let those : List Refusal = arm_refusals comb written arms in
      let inner : List Refusal = step_refusals comb written bodies in
      let here : case_refusals fs those inner ≡ [] = left_nil (case_refusals fs those inner) (step_refusals comb written more) e in
      let free : fs ≡ [] = faults_free fs those inner here in
      let all : flat_map (wrong names) (c.selector ∷ c.labels) ≡ [] = these_nil (flat_map (wrong names) (c.selector ∷ c.labels)) _ free in
      let right : wrong names c.selector ≡ [] = left_nil (wrong names c.selector) (flat_map (wrong names) c.labels) all in
      let labels : AreRight names c.labels = right_nil (wrong names c.selector) (flat_map (wrong names) c.labels) all in
      let x : Expr = sound_expr names c.selector in
      let rest : AreSame (sound more) more = same_steps comb written more (right_nil (case_refusals fs those inner) (step_refusals comb written more) e) own.2 in
      let these : AreSameArms c x (sound_arms names arms) arms = same_arms comb written c x arms (arms_free fs those inner here) (own.0 labels) own.1 in
      subst (λ (l : List Fault). AreSame (if is_empty l then Case (record c { selector = x }) (sound_arms names arms) (sound bodies) (sound more) else Refuse (Turns (first_token c.selector)) (followed (sound bodies) (sound more))) (Case c arms bodies more)) (sym free)
      (same_case c x arms (sound_arms names arms) bodies (sound bodies) more (sound more) (same_expr names c.selector right) these rest)
  same_steps comb written (Refuse x more) e own = absurd cc

  same_arms : (comb : Bool) (written : List Bool) (c : Selection) (x : Expr) (arms : Arms) → arm_refusals comb written arms ≡ [] → ArmsRight c.names arms → ArmsOwnLabels arms → AreSameArms c x (sound_arms c.names arms) arms
  same_arms comb written c x (Otherwise body) e right own = same_otherwise c x body (sound body) (same_steps comb written body e own)
  same_arms comb written c x (Arm at labels body others) e right own =
      same_arm c x labels (map (sound_expr c.names) labels) body (sound body) others (sound_arms c.names others) (same_labels c.names labels right.0)
      (same_steps comb written body (left_nil (step_refusals comb written body) (arm_refusals comb written others) e) own.0)
      (same_arms comb written c x others (right_nil (step_refusals comb written body) (arm_refusals comb written others) e) right.1 own.1) at

-- Latches.

same_latch : (a b : Steps) (x : Target) → AreSame a b → is_latch a x ≡ is_latch b x
same_latch a b x s =
    ap (λ (c : Bits). some_bit x.width (λ i. not (c x.number i) || early a no_bits x.number i)) (s.covered_are no_bits)
    ∙ ap (λ (e : Bits). some_bit x.width (λ i. not (covered b no_bits x.number i) || e x.number i)) (s.early_are no_bits)

same_latches : (a b : Steps) (ts : List Target) → AreSame a b → latches a ts ≡ latches b ts
same_latches a b [] s = refl
same_latches a b (x ∷ more) s =
    ap (λ (t : Bool). if t then x ∷ latches a more else latches a more) (same_latch a b x s)
    ∙ ap (λ (l : List Target). if is_latch b x then x ∷ l else l) (same_latches a b more s)

latch_same : (a b : Steps) → AreSame a b → latch_of a ≡ latch_of b
latch_same a b s = ap first_of (ap (latches a) s.targets_are ∙ same_latches a b (targets b) s)

pub accepted_sound : AcceptedAreSound
accepted_sound comb written s names e =
    let steps : Steps = steps_of s names in
    let same : AreSame (sound steps) steps = same_steps comb written steps e (own-steps s names) in
    (same.targets_are, latch_same (sound steps) steps same, same.runs_on)
