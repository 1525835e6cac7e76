-- Choices and cases, from the marks of their parts.
use Rattle.process_latches.proofs.Common.{◌≡◌, zero, suc, ℕ, ◌<◌, Bool, true, false, ◌&&◌, ◌||◌, List, [], ◌∷◌, ◌++◌, map, refl, sym, ap, ◌∙◌, subst, arith, length, get_or, take, append_assoc, Option}
use Rattle.process_latches.proofs.Common.{None, Some, if◌then◌else◌, flat_map, option_map, append-nil, Span, Expr, first_token, CaseItem, out-CaseItem, CaseKind, fold_out-CaseItem, Stmt, Fault, least}
use Rattle.process_latches.proofs.Common.{Names, Bits, no_bits, is_empty, least_none, item_steps, covered, early, all_missed, arms_covered, arms_early, Steps, Done, Choose, Case, Refuse, Turns, Arms}
use Rattle.process_latches.proofs.Common.{InNames, Item, Selection, labelled, labels_of, chosen_arms, default_of, done_by, bodies_of, selection_of, case_steps, followed, step_of, item_of, steps_of}
use Rattle.process_latches.proofs.Common.{own_faults, case_faults, labels_in, bits_in, Mask, Marks, Write, AreBlank, Added, Marked, Met, reads_by, sound_reads, all_sound_reads, sound_expr, sound}
use Rattle.process_latches.proofs.Common.{sound_arms, has_stop, arms_stop, IsOwn, Chosen, AreArms, AlsoWrites, all_cover, some_read, items_write, some_stop, writes, arms_writes, or_end, or-again}
use Rattle.elab_proc.proofs.StepLemmas.{labels_same}
use Rattle.case_arms.specs.Arms.{item_body, arms_with, arms_by}
use Rattle.case_arms.proofs.Bounds.{body_here}
use Rattle.case_arms.specs.declared.chosen.Chosen.{Chosen as Places}
use Rattle.process_latches.proofs.Adding.{and_end, added_as, added_then, own_covered, own_early, own_writes, own_stopped}

-- what steps alone mark
pub own_marks : (s : Steps) (a b : Marks) → AreBlank a → Marked s a b → IsOwn s b
own_marks s a b blank x = record {
  covered_is = own_covered (covered s no_bits) (early s no_bits) (writes s) (has_stop s) a b blank x;
  early_is = own_early (covered s no_bits) (early s no_bits) (writes s) (has_stop s) a b blank x;
  writes_are = own_writes (covered s no_bits) (early s no_bits) (writes s) (has_stop s) a b blank x;
  stopped_is = own_stopped (covered s no_bits) (early s no_bits) (writes s) (has_stop s) a b blank x;
}

pub own_none : (a : Marks) → AreBlank a → IsOwn Done a
own_none a blank = record {
  covered_is = λ n i. ap (λ (l : List Mask). bits_in l n i) blank.covered_is;
  early_is = λ n i. ap (λ (l : List Mask). bits_in l n i) blank.early_is;
  writes_are = blank.writes_are;
  stopped_is = blank.stopped_is;
}

-- what a condition reads
abbrev test_reads : Names → Expr → Bits
test_reads names x = reads_by names (own_faults names x) x

-- an `if`
pub choice_marked : (at : Span) (names : Names) (condition test : Expr) (s t : Steps) (m0 m1 m2 f g : Marks) → test ≡ condition → Added no_bits (reads_by names (own_faults names test) test) [] false m0 m1 → IsOwn (sound s) f → IsOwn (sound t) g → Chosen f g m1 m2 → Marked (sound (Choose at (record { names = names; condition = condition }) s t Done)) m0 m2
choice_marked at names condition test s t m0 m1 m2 f g same x own_f own_g y =
    added_as _ _ _ _ _ _ _ _ m0 m2
    (λ n i. ap (λ (b : Bool). b && bits_in g.covered n i) (own_f.covered_is n i) ∙ ap (λ (b : Bool). covered (sound s) no_bits n i && b) (own_g.covered_is n i))
    (λ n i. ap (λ (b : Bool). test_reads names test n i || b) (and_end (bits_in f.early n i || bits_in g.early n i) ∙ ap (λ (b : Bool). b || bits_in g.early n i) (own_f.early_is n i) ∙ ap (λ (b : Bool). early (sound s) no_bits n i || b) (own_g.early_is n i)) ∙ ap (λ (e : Expr). test_reads names e n i || (early (sound s) no_bits n i || early (sound t) no_bits n i)) same ∙ ap (λ (b : Bool). b || (early (sound s) no_bits n i || early (sound t) no_bits n i)) (sym (and_end (test_reads names condition n i))) ∙ sym (or_end _))
    (ap (λ (l : List Write). l ++ g.writes.items) own_f.writes_are ∙ ap (λ (l : List Write). writes (sound s) ++ l) own_g.writes_are ∙ sym (append-nil (writes (sound s) ++ writes (sound t))))
    (ap (λ (b : Bool). b || g.is_stopped) own_f.stopped_is ∙ ap (λ (b : Bool). has_stop (sound s) || b) own_g.stopped_is ∙ sym (or_end (has_stop (sound s) || has_stop (sound t))))
    (added_then no_bits (test_reads names test) (λ n i. bits_in f.covered n i && bits_in g.covered n i) (λ n i. bits_in f.early n i || bits_in g.early n i) [] (f.writes.items ++ g.writes.items) false (f.is_stopped || g.is_stopped) m0 m1 m2 x y)

-- Arms.

and_swap : (a b o : Bool) → (a && (o && b)) ≡ (o && (a && b))
and_swap true b true = refl
and_swap true b false = refl
and_swap false b true = refl
and_swap false b false = refl

or_swap : (a b o : Bool) → (a || (o || b)) ≡ (o || (a || b))
or_swap true b true = refl
or_swap true b false = refl
or_swap false b true = refl
or_swap false b false = refl

labels_read : (names : Names) (xs : List Expr) (n i : ℕ) → all_missed names (map (sound_expr names) xs) no_bits n i ≡ all_sound_reads names xs n i
labels_read names [] n i = refl
labels_read names (x ∷ xs) n i = ap (λ (b : Bool). b || all_missed names (map (sound_expr names) xs) no_bits n i) (and_end (sound_reads names x n i)) ∙ ap (λ (b : Bool). sound_reads names x n i || b) (labels_read names xs n i)

module _ (c d : Selection) (o : Steps) (same : d.names ≡ c.names) where
  arms_cover : (xs : List Item) (n i : ℕ) → arms_covered (sound_arms c.names (arms_with c xs o)) no_bits n i ≡ (covered (sound o) no_bits n i && all_cover c.names xs n i)
  arms_cover [] n i = sym (and_end (covered (sound o) no_bits n i))
  arms_cover (x ∷ xs) n i =
      let here : Bool = covered (sound (x.body c.names)) no_bits n i in
      ap (λ (b : Bool). here && b) (arms_cover xs n i) ∙ and_swap here (all_cover c.names xs n i) (covered (sound o) no_bits n i)

  arms_read : (xs : List Item) (n i : ℕ) → arms_early d (sound_arms c.names (arms_with c xs o)) no_bits n i ≡ (early (sound o) no_bits n i || some_read c.names xs n i)
  arms_read [] n i = sym (or_end (early (sound o) no_bits n i))
  arms_read (x ∷ xs) n i =
      let labels : Bool = all_sound_reads c.names x.labels n i in
      let here : Bool = early (sound (x.body c.names)) no_bits n i in
      let rest : Bool = arms_early d (sound_arms c.names (arms_with c xs o)) no_bits n i in
      ap (λ (names : Names). all_missed names (map (sound_expr c.names) x.labels) no_bits n i || (here || rest)) same ∙ ap (λ (b : Bool). b || (here || rest)) (labels_read c.names x.labels n i) ∙ sym (or-again labels here rest) ∙ ap (λ (b : Bool). (labels || here) || b) (arms_read xs n i) ∙ or_swap (labels || here) (some_read c.names xs n i) (early (sound o) no_bits n i)

  arms_write : (xs : List Item) → arms_writes (sound_arms c.names (arms_with c xs o)) ≡ items_write c.names xs ++ writes (sound o)
  arms_write [] = refl
  arms_write (x ∷ xs) = ap (λ (l : List Write). writes (sound (x.body c.names)) ++ l) (arms_write xs) ∙ sym (append_assoc (writes (sound (x.body c.names))) (items_write c.names xs) (writes (sound o)))

  arms_stopped : (xs : List Item) → arms_stop (sound_arms c.names (arms_with c xs o)) ≡ (has_stop (sound o) || some_stop c.names xs)
  arms_stopped [] = sym (or_end (has_stop (sound o)))
  arms_stopped (x ∷ xs) =
      let here : Bool = has_stop (sound (x.body c.names)) in
      ap (λ (b : Bool). here || b) (arms_stopped xs) ∙ or_swap here (some_stop c.names xs) (has_stop (sound o))

-- a case with these arms
arms_marked : (c : Selection) (test : Expr) (xs : List Item) (o bodies : Steps) (m0 m1 m2 last arms : Marks) → test ≡ c.selector → Added no_bits (sound_reads c.names test) [] false m0 m1 → IsOwn (sound o) last → AreArms c.names xs last arms → Added (bits_in arms.covered) (bits_in arms.early) arms.writes.items arms.is_stopped m1 m2 → Marked (Case (record c { selector = sound_expr c.names c.selector }) (sound_arms c.names (arms_with c xs o)) bodies Done) m0 m2
arms_marked c test xs o bodies m0 m1 m2 last arms same x own a y =
    let d : Selection = record c { selector = sound_expr c.names c.selector } in
    added_as _ _ _ _ _ _ _ _ m0 m2
    (λ n i. a.covered_is n i ∙ ap (λ (b : Bool). b && all_cover c.names xs n i) (own.covered_is n i) ∙ sym (arms_cover c d o refl xs n i))
    (λ n i. ap (λ (b : Bool). sound_reads c.names test n i || b) (and_end (bits_in arms.early n i) ∙ a.early_is n i ∙ ap (λ (b : Bool). b || some_read c.names xs n i) (own.early_is n i) ∙ sym (arms_read c d o refl xs n i)) ∙ ap (λ (e : Expr). sound_reads c.names e n i || arms_early d (sound_arms c.names (arms_with c xs o)) no_bits n i) same ∙ ap (λ (b : Bool). b || arms_early d (sound_arms c.names (arms_with c xs o)) no_bits n i) (sym (and_end (sound_reads c.names c.selector n i))) ∙ sym (or_end _))
    (a.writes_are ∙ ap (λ (l : List Write). items_write c.names xs ++ l) own.writes_are ∙ sym (arms_write c d o refl xs) ∙ sym (append-nil _))
    (a.stopped_is ∙ ap (λ (b : Bool). b || some_stop c.names xs) own.stopped_is ∙ sym (arms_stopped c d o refl xs) ∙ sym (or_end _))
    (added_then no_bits (sound_reads c.names test) (bits_in arms.covered) (bits_in arms.early) [] arms.writes.items false arms.is_stopped m0 m1 m2 x y)

-- the arms of a case that is not refused
pub case_marked : (names : Names) (kind : CaseKind) (selector : Expr) (is : List CaseItem) (fault : Option Fault) (places : Places) (m0 m1 m2 last arms : Marks) → fault ≡ least (case_faults names (selector ∷ flat_map labels_in is)) → fault ≡ None → arms_by (selection_of names kind selector (map item_steps is)) is places ≡ chosen_arms (selection_of names kind selector (map item_steps is)) (labelled (map item_steps is)) (default_of (map item_steps is)) → Added no_bits (sound_reads names selector) [] false m0 m1 → IsOwn (sound (done_by (option_map (item_body is) places.last) names)) last → AreArms names (labelled (map item_steps (take places.before is))) last arms → Added (bits_in arms.covered) (bits_in arms.early) arms.writes.items arms.is_stopped m1 m2 → Marked (sound (case_steps kind selector (map item_steps is) names)) m0 m2
case_marked names kind selector is fault places m0 m1 m2 last arms first none by x own a y =
    let c : Selection = selection_of names kind selector (map item_steps is) in
    let d : Selection = record c { selector = sound_expr c.names c.selector } in
    let empty : is_empty (case_faults names (selector ∷ labels_of (map item_steps is))) ≡ true = ap (λ (l : List Expr). is_empty (case_faults names (selector ∷ l))) (labels_same false [] is) ∙ ap is_empty (least_none (case_faults names (selector ∷ flat_map labels_in is)) (sym first ∙ none)) in
    let bodies : Steps = sound (bodies_of (map item_steps is) names) in
    let as_case : sound (case_steps kind selector (map item_steps is) names) ≡ Case d (sound_arms names (arms_by c is places)) bodies Done = ap (λ (b : Bool). if b then Case d (sound_arms names (chosen_arms c (labelled (map item_steps is)) (default_of (map item_steps is)))) bodies Done else Refuse (Turns (first_token selector)) (followed bodies Done)) empty ∙ ap (λ (r : Arms). Case d (sound_arms names r) bodies Done) (sym by) in
    subst (λ (z : Steps). Marked z m0 m2) (sym as_case) (arms_marked c selector (labelled (map item_steps (take places.before is))) (done_by (option_map (item_body is) places.last) names) bodies m0 m1 m2 last arms refl x own a y)

-- One arm more.

abbrev opened : CaseItem → Item
opened i = record { place = (out-CaseItem i).span; labels = (out-CaseItem i).labels; body = steps_of (out-CaseItem i).body }

item_is : (i : CaseItem) → item_steps i ≡ opened i
item_is i = fold_out-CaseItem InNames Item step_of item_of i

cover_push : (names : Names) (xs : List Item) (x : Item) (n i : ℕ) → all_cover names (xs ++ x ∷ []) n i ≡ (all_cover names xs n i && covered (sound (x.body names)) no_bits n i)
cover_push names [] x n i = and_end (covered (sound (x.body names)) no_bits n i)
cover_push names (y ∷ xs) x n i = ap (λ (b : Bool). covered (sound (y.body names)) no_bits n i && b) (cover_push names xs x n i) ∙ again (covered (sound (y.body names)) no_bits n i) (all_cover names xs n i) (covered (sound (x.body names)) no_bits n i) where
  again : (a b c : Bool) → (a && (b && c)) ≡ ((a && b) && c)
  again true b c = refl
  again false b c = refl

read_push : (names : Names) (xs : List Item) (x : Item) (n i : ℕ) → some_read names (xs ++ x ∷ []) n i ≡ (some_read names xs n i || (all_sound_reads names x.labels n i || early (sound (x.body names)) no_bits n i))
read_push names [] x n i = or_end (all_sound_reads names x.labels n i || early (sound (x.body names)) no_bits n i)
read_push names (y ∷ xs) x n i = ap (λ (b : Bool). (all_sound_reads names y.labels n i || early (sound (y.body names)) no_bits n i) || b) (read_push names xs x n i) ∙ sym (or-again (all_sound_reads names y.labels n i || early (sound (y.body names)) no_bits n i) (some_read names xs n i) (all_sound_reads names x.labels n i || early (sound (x.body names)) no_bits n i))

write_push : (names : Names) (xs : List Item) (x : Item) → items_write names (xs ++ x ∷ []) ≡ items_write names xs ++ writes (sound (x.body names))
write_push names [] x = append-nil (writes (sound (x.body names)))
write_push names (y ∷ xs) x = ap (λ (l : List Write). writes (sound (y.body names)) ++ l) (write_push names xs x) ∙ sym (append_assoc (writes (sound (y.body names))) (items_write names xs) (writes (sound (x.body names))))

stop_push : (names : Names) (xs : List Item) (x : Item) → some_stop names (xs ++ x ∷ []) ≡ (some_stop names xs || has_stop (sound (x.body names)))
stop_push names [] x = or_end (has_stop (sound (x.body names)))
stop_push names (y ∷ xs) x = ap (λ (b : Bool). has_stop (sound (y.body names)) || b) (stop_push names xs x) ∙ sym (or-again (has_stop (sound (y.body names))) (some_stop names xs) (has_stop (sound (x.body names))))

labelled_push : (i : CaseItem) (xs : List CaseItem) → labelled (map item_steps (i ∷ xs)) ≡ (if is_empty (labels_in i) then labelled (map item_steps xs) else opened i ∷ labelled (map item_steps xs))
labelled_push i xs = ap (λ (z : Item). labelled (z ∷ map item_steps xs)) (item_is i)

labelled_skip : (is : List CaseItem) (k : ℕ) (i : CaseItem) → i ≡ get_or is k i → k < length is → is_empty (labels_in i) ≡ true → labelled (map item_steps (take (suc k) is)) ≡ labelled (map item_steps (take k is))
labelled_skip [] k i at h e = absurd (omega arith)
labelled_skip (j ∷ js) zero i at h e = labelled_push j [] ∙ ap (λ (b : Bool). if b then [] else opened j ∷ []) (ap (λ (z : CaseItem). is_empty (labels_in z)) (sym at) ∙ e)
labelled_skip (j ∷ js) (suc k) i at h e = labelled_push j (take (suc k) js) ∙ ap (λ (l : List Item). if is_empty (labels_in j) then l else opened j ∷ l) (labelled_skip js k i at (omega arith) e) ∙ sym (labelled_push j (take k js))

labelled_more : (is : List CaseItem) (k : ℕ) (i : CaseItem) → i ≡ get_or is k i → k < length is → is_empty (labels_in i) ≡ false → labelled (map item_steps (take (suc k) is)) ≡ labelled (map item_steps (take k is)) ++ opened i ∷ []
labelled_more [] k i at h e = absurd (omega arith)
labelled_more (j ∷ js) zero i at h e = labelled_push j [] ∙ ap (λ (b : Bool). if b then [] else opened j ∷ []) (ap (λ (z : CaseItem). is_empty (labels_in z)) (sym at) ∙ e) ∙ ap (λ (z : CaseItem). opened z ∷ []) (sym at)
labelled_more (j ∷ js) (suc k) i at h e = labelled_push j (take (suc k) js) ∙ ap (λ (l : List Item). if is_empty (labels_in j) then l else opened j ∷ l) (labelled_more js k i at (omega arith) e) ∙ go (is_empty (labels_in j)) ∙ sym (ap (λ (l : List Item). l ++ opened i ∷ []) (labelled_push j (take k js))) where
  go : (b : Bool) → (if b then labelled (map item_steps (take k js)) ++ opened i ∷ [] else opened j ∷ (labelled (map item_steps (take k js)) ++ opened i ∷ [])) ≡ (if b then labelled (map item_steps (take k js)) else opened j ∷ labelled (map item_steps (take k js))) ++ opened i ∷ []
  go true = refl
  go false = refl

-- what items do as arms so far, without what is done where none matches
pub record ArmsSoFar (names : Names) (items : List Item) (last m : Marks) : Type 0 where
  pub covered_is : (n i : ℕ) → bits_in m.covered n i ≡ (bits_in last.covered n i && all_cover names items n i)
  pub early_is : (n i : ℕ) → bits_in m.early n i ≡ (bits_in last.early n i || some_read names items n i)
  pub writes_are : m.writes.items ≡ items_write names items
  pub stopped_is : m.is_stopped ≡ (last.is_stopped || some_stop names items)

pub arms_skip : (names : Names) (is : List CaseItem) (k : ℕ) (i : CaseItem) (last m : Marks) → i ≡ get_or is k i → k < length is → is_empty (labels_in i) ≡ true → ArmsSoFar names (labelled (map item_steps (take k is))) last m → ArmsSoFar names (labelled (map item_steps (take (suc k) is))) last m
arms_skip names is k i last m at h e x = subst (λ (l : List Item). ArmsSoFar names l last m) (sym (labelled_skip is k i at h e)) x

and_again : (a b c : Bool) → ((a && b) && c) ≡ (a && (b && c))
and_again true b c = refl
and_again false b c = refl

pub arms_more : (names here : Names) (is : List CaseItem) (k : ℕ) (i : CaseItem) (last m new a b d : Marks) → i ≡ get_or is k i → k < length is → is_empty (labels_in i) ≡ false → here ≡ names → ArmsSoFar names (labelled (map item_steps (take k is))) last m → AreBlank a → Added no_bits (all_sound_reads here (labels_in i)) [] false a b → Marked (sound (steps_of (out-CaseItem i).body here)) b d → Met d m new → ArmsSoFar names (labelled (map item_steps (take (suc k) is))) last new
arms_more names here is k i last m new a b d at h e same x blank labels body met =
    let s : Steps = sound (steps_of (out-CaseItem i).body names) in
    let xs : List Item = labelled (map item_steps (take k is)) in
    let labels2 : Added no_bits (all_sound_reads names (labels_in i)) [] false a b = subst (λ (n : Names). Added no_bits (all_sound_reads n (labels_in i)) [] false a b) same labels in
    let body2 : Marked s b d = subst (λ (n : Names). Marked (sound (steps_of (out-CaseItem i).body n)) b d) same body in
    let both : Added (covered s no_bits) (λ n i2. all_sound_reads names (labels_in i) n i2 || early s no_bits n i2) (writes s) (has_stop s) a d = added_as _ _ _ _ _ _ _ _ a d (λ n i2. refl) (λ n i2. ap (λ (t : Bool). all_sound_reads names (labels_in i) n i2 || t) (and_end (early s no_bits n i2))) refl refl (added_then no_bits (all_sound_reads names (labels_in i)) (covered s no_bits) (early s no_bits) [] (writes s) false (has_stop s) a b d labels2 body2) in
    let c2 : (n i2 : ℕ) → bits_in d.covered n i2 ≡ covered s no_bits n i2 = own_covered _ _ _ _ a d blank both in
    let e2 : (n i2 : ℕ) → bits_in d.early n i2 ≡ (all_sound_reads names (labels_in i) n i2 || early s no_bits n i2) = own_early _ _ _ _ a d blank both in
    let w2 : d.writes.items ≡ writes s = own_writes _ _ _ _ a d blank both in
    let s2 : d.is_stopped ≡ has_stop s = own_stopped _ _ _ _ a d blank both in
    subst (λ (l : List Item). ArmsSoFar names l last new) (sym (labelled_more is k i at h e)) (record {
      covered_is = λ n j. met.covered_is n j ∙ ap (λ (t : Bool). t && bits_in d.covered n j) (x.covered_is n j) ∙ ap (λ (t : Bool). (bits_in last.covered n j && all_cover names xs n j) && t) (c2 n j) ∙ and_again (bits_in last.covered n j) (all_cover names xs n j) (covered s no_bits n j) ∙ ap (λ (t : Bool). bits_in last.covered n j && t) (sym (cover_push names xs (opened i) n j));
      early_is = λ n j. met.early_is n j ∙ ap (λ (t : Bool). t || bits_in d.early n j) (x.early_is n j) ∙ ap (λ (t : Bool). (bits_in last.early n j || some_read names xs n j) || t) (e2 n j) ∙ or-again (bits_in last.early n j) (some_read names xs n j) (all_sound_reads names (labels_in i) n j || early s no_bits n j) ∙ ap (λ (t : Bool). bits_in last.early n j || t) (sym (read_push names xs (opened i) n j));
      writes_are = met.writes_are ∙ ap (λ (l : List Write). l ++ d.writes.items) x.writes_are ∙ ap (λ (l : List Write). items_write names xs ++ l) w2 ∙ sym (write_push names xs (opened i));
      stopped_is = met.stopped_is ∙ ap (λ (t : Bool). t || d.is_stopped) x.stopped_is ∙ ap (λ (t : Bool). (last.is_stopped || some_stop names xs) || t) s2 ∙ or-again last.is_stopped (some_stop names xs) (has_stop s) ∙ ap (λ (t : Bool). last.is_stopped || t) (sym (stop_push names xs (opened i)));
    })

-- no arm yet
pub arms_start : (names : Names) (is : List CaseItem) (last m : Marks) → m.covered ≡ last.covered → m.early ≡ last.early → m.writes.items ≡ [] → m.is_stopped ≡ last.is_stopped → ArmsSoFar names (labelled (map item_steps (take zero is))) last m
arms_start names is last m c e w s = subst (λ (l : List CaseItem). ArmsSoFar names (labelled (map item_steps l)) last m) (sym (take_none is)) (record {
  covered_is = λ n i. ap (λ (l : List Mask). bits_in l n i) c ∙ sym (and_end (bits_in last.covered n i));
  early_is = λ n i. ap (λ (l : List Mask). bits_in l n i) e ∙ sym (or_end (bits_in last.early n i));
  writes_are = w;
  stopped_is = s ∙ sym (or_end last.is_stopped);
}) where
  take_none : (is : List CaseItem) → take zero is ≡ []
  take_none [] = refl
  take_none (x ∷ xs) = refl

-- all arms, and what is done where none matches
pub arms_end : (names : Names) (is : List CaseItem) (k before : ℕ) (last m new : Marks) → k ≡ before → ArmsSoFar names (labelled (map item_steps (take k is))) last m → AlsoWrites last.writes.items m new → AreArms names (labelled (map item_steps (take before is))) last new
arms_end names is k before last m new same x y = subst (λ (n : ℕ). AreArms names (labelled (map item_steps (take n is))) last new) same (record {
  covered_is = λ n i. ap (λ (l : List Mask). bits_in l n i) y.covered_is ∙ x.covered_is n i;
  early_is = λ n i. ap (λ (l : List Mask). bits_in l n i) y.early_is ∙ x.early_is n i;
  writes_are = y.writes_are ∙ ap (λ (l : List Write). l ++ last.writes.items) x.writes_are;
  stopped_is = y.stopped_is ∙ x.stopped_is;
})

-- what the item at a place does
pub last_own : (names : Names) (is : List CaseItem) (o : Option ℕ) (k : ℕ) (i : CaseItem) (body : Stmt) (a b : Marks) → o ≡ Some k → i ≡ get_or is k i → k < length is → body ≡ (out-CaseItem i).body → AreBlank a → Marked (sound (steps_of body names)) a b → IsOwn (sound (done_by (option_map (item_body is) o) names)) b
last_own names is o k i body a b some at h same blank x =
    let here : IsOwn (sound (steps_of (out-CaseItem i).body names)) b = subst (λ (z : Stmt). IsOwn (sound (steps_of z names)) b) same (own_marks (sound (steps_of body names)) a b blank x) in
    let there : IsOwn (sound (item_body is k names)) b = subst (λ (f : InNames). IsOwn (sound (f names)) b) (sym (body_here is k i at h)) here in
    subst (λ (z : Option ℕ). IsOwn (sound (done_by (option_map (item_body is) z) names)) b) (sym some) there

pub last_none : (names : Names) (is : List CaseItem) (o : Option ℕ) (a : Marks) → o ≡ None → AreBlank a → IsOwn (sound (done_by (option_map (item_body is) o) names)) a
last_none names is o a none blank = subst (λ (z : Option ℕ). IsOwn (sound (done_by (option_map (item_body is) z) names)) a) (sym none) (own_none a blank)
