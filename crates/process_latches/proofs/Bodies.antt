-- A case that is refused: the bodies of its items, one after the other.
use Rattle.process_latches.proofs.Common.{◌≡◌, zero, suc, ℕ, ◌<◌, ◌≤◌, Bool, true, false, List, [], ◌∷◌, map, refl, sym, ap, ◌∙◌, subst, length, get_or, drop, Option, Some, if◌then◌else◌, flat_map}
use Rattle.process_latches.proofs.Common.{Expr, first_token, CaseItem, CaseKind, Fault, least, Names, no_bits, is_empty, item_steps, Steps, Done, Case, Refuse, Turns, Item, Selection, labelled}
use Rattle.process_latches.proofs.Common.{labels_of, chosen_arms, default_of, bodies_of, selection_of, case_steps, steps_of, followed, followed-done, case_faults, labels_in, body_in, Marks, Added}
use Rattle.process_latches.proofs.Common.{Marked, sound_expr, sound, sound_arms}
use Rattle.elab_proc.proofs.StepLemmas.{labels_same, item_is, drop_one, drop_all}
use Rattle.process_latches.proofs.Adding.{added_as}
use Rattle.process_latches.proofs.Following.{marked_followed, marked_then}

-- the bodies from one on lead from these marks to the end of all of them
abbrev pub Continues : Names → List CaseItem → ℕ → Marks → Marks → Type 0
Continues names is k old now = (end : Marks) → Marked (sound (bodies_of (map item_steps (drop k is)) names)) now end → Marked (sound (bodies_of (map item_steps is) names)) old end

drop_none : (is : List CaseItem) → drop zero is ≡ is
drop_none [] = refl
drop_none (i ∷ more) = refl

pub bodies_start : (names : Names) (is : List CaseItem) (m : Marks) → Continues names is zero m m
bodies_start names is m end y = subst (λ (xs : List CaseItem). Marked (sound (bodies_of (map item_steps xs) names)) m end) (drop_none is) y

pub bodies_on : (names here : Names) (is : List CaseItem) (k : ℕ) (x : CaseItem) (old now new : Marks) → x ≡ get_or is k x → k < length is → here ≡ names → Continues names is k old now → Marked (sound (steps_of (body_in x) here)) now new → Continues names is (suc k) old new
bodies_on names here is k x old now new at h same c m end y =
    let rest : Steps = bodies_of (map item_steps (drop (suc k) is)) names in
    let by_names : Marked (sound (steps_of (body_in x) names)) now new = subst (λ (n : Names). Marked (sound (steps_of (body_in x) n)) now new) same m in
    let body : Marked (sound ((item_steps x).body names)) now new = subst (λ (j : Item). Marked (sound (j.body names)) now new) (sym (item_is false [] x)) by_names in
    c end (subst (λ (xs : List CaseItem). Marked (sound (bodies_of (map item_steps xs) names)) now end) (sym (drop_one false [] is k x at h)) (marked_then ((item_steps x).body names) rest now new end body y))

pub bodies_end : (names : Names) (is : List CaseItem) (k : ℕ) (old now : Marks) → length is ≤ k → Continues names is k old now → Marked (sound Done) now now → Marked (sound (bodies_of (map item_steps is) names)) old now
bodies_end names is k old now h c none = c now (subst (λ (xs : List CaseItem). Marked (sound (bodies_of (map item_steps xs) names)) now now) (sym (drop_all false [] is k h)) none)

pub some_faults : (fs : List Fault) (f : Fault) → Some f ≡ least fs → is_empty fs ≡ false
unfolding least
some_faults [] f is = cc
some_faults (g ∷ more) f is = refl

-- a case that is refused: it is marked, and then its bodies
pub case_stopped : (names : Names) (kind : CaseKind) (selector : Expr) (is : List CaseItem) (fault : Option Fault) (f : Fault) (a b d : Marks) → fault ≡ least (case_faults names (selector ∷ flat_map labels_in is)) → fault ≡ Some f → Added no_bits no_bits [] true a b → Marked (sound (bodies_of (map item_steps is) names)) b d → Marked (sound (case_steps kind selector (map item_steps is) names)) a d
case_stopped names kind selector is fault f a b d first some x y =
    let c : Selection = selection_of names kind selector (map item_steps is) in
    let e : Selection = record c { selector = sound_expr c.names c.selector } in
    let bodies : Steps = sound (bodies_of (map item_steps is) names) in
    let stop : Steps = Refuse (Turns (first_token selector)) Done in
    let full : is_empty (case_faults names (selector ∷ labels_of (map item_steps is))) ≡ false = ap (λ (l : List Expr). is_empty (case_faults names (selector ∷ l))) (labels_same false [] is) ∙ some_faults (case_faults names (selector ∷ flat_map labels_in is)) f (sym some ∙ first) in
    let as_stop : sound (case_steps kind selector (map item_steps is) names) ≡ followed stop bodies =
    ap (λ (z : Bool). if z then Case e (sound_arms names (chosen_arms c (labelled (map item_steps is)) (default_of (map item_steps is)))) bodies Done else followed stop (followed bodies Done)) full ∙ ap (followed stop) (followed-done bodies) in
    let stopped : Marked stop a b = added_as no_bits no_bits _ _ [] _ true _ a b (λ n i. refl) (λ n i. refl) refl refl x in
    subst (λ (z : Steps). Marked z a d) (sym as_stop) (marked_followed stop bodies a b d stopped y)
