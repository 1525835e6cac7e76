-- What is wrong in the sides of an assignment, and its first refusal.
use Rattle.flat_assigns.proofs.Common.{flat_map, ◌≡◌, Bool, List, [], ◌++◌, length, Option, Some, None, refl, sym, ap, ◌∙◌, Expr, LeftSide, Fault, least, earlier, Names, sense, or_else, IsWhole}
use Rattle.flat_assigns.proofs.Common.{left_nil, right_nil, these_nil, those_nil, least_none, kept, passed, pair_first, parts_of, Building, IsWriter, width_of, Shape, same_form, wrong, divisions}
use Rattle.flat_assigns.proofs.Common.{Slice, all_places, left_faults, left_width, slices, target_faults, right_refusals, right_shape, Target, IsFirstWritten, targets}
use Rattle.flat_assigns.specs.declared.refusal.Refusal.{Refusal}
use Rattle.flat_assigns.specs.declared.refusal.Writer.{Writer}
use Rattle.flat_assigns.specs.Assignments.{assignment_faults, first_refusal}
use Rattle.flat_assigns.proofs.Widths.{places_wide}

-- Both sides.

earlier_none : (f g : Option Fault) → earlier f g ≡ None → f ≡ None
unfolding earlier
earlier_none None g e = refl
earlier_none (Some f) None e = absurd cc
earlier_none (Some f) (Some g) e = absurd cc

none_second : (f g : Option Fault) → earlier f g ≡ None → g ≡ None
unfolding earlier
none_second None g e = e
none_second (Some f) None e = absurd cc
none_second (Some f) (Some g) e = absurd cc

pub form_free : (faults : List Fault) (a t l w r : Option Fault) → a ≡ least faults → l ≡ earlier a t → r ≡ earlier l w → r ≡ None → faults ≡ []
form_free faults a t l w r e f g none =
    let left : l ≡ None = earlier_none l w (sym g ∙ none) in
    least_none faults (sym e ∙ earlier_none a t (sym f ∙ left))

pub right_free : (faults : List Fault) (l w r : Option Fault) → w ≡ least faults → r ≡ earlier l w → r ≡ None → faults ≡ []
right_free faults l w r e g none = least_none faults (sym e ∙ none_second l w (sym g ∙ none))

sides_first : (fs ts ws : List Fault) (a t l w r : Option Fault) → a ≡ least fs → t ≡ least ts → l ≡ earlier a t → w ≡ least ws → r ≡ earlier l w → r ≡ least ((fs ++ ts) ++ ws)
sides_first fs ts ws a t l w r e f g h is = pair_first (fs ++ ts) ws l w r is (pair_first fs ts a t l g e f) h

pub sides_wrong : (fs ts ws zs : List Fault) (a t l w r : Option Fault) (f : Fault) → a ≡ least fs → t ≡ least ts → l ≡ earlier a t → w ≡ least ws → r ≡ earlier l w → r ≡ Some f → Some f ≡ least (or_else ((fs ++ ts) ++ ws) zs)
sides_wrong fs ts ws zs a t l w r f e g h i is some = kept ((fs ++ ts) ++ ws) zs r f (sides_first fs ts ws a t l w r e g h i is) some

pub sides_right : (fs ts ws zs : List Fault) (a t l w r z : Option Fault) → a ≡ least fs → t ≡ least ts → l ≡ earlier a t → w ≡ least ws → r ≡ earlier l w → r ≡ None → z ≡ least zs → z ≡ least (or_else ((fs ++ ts) ++ ws) zs)
sides_right fs ts ws zs a t l w r z e g h i is none last = passed ((fs ++ ts) ++ ws) zs r z (sides_first fs ts ws a t l w r e g h i is) none last

-- The first refusal.

none_wrong : (found : Option Fault) (target : Option Target) → None ≡ first_refusal found target → found ≡ None
none_wrong None target e = refl
none_wrong (Some f) None e = absurd cc
none_wrong (Some f) (Some t) e = absurd cc

pub nothing_refused : (lefts : Names) (left : LeftSide) (rights : Names) (right : Expr) (found : Option Fault) (second : Option Writer) (r : Option Refusal) (b : Building) (inputs : List Bool) (xs : List Slice)
    → found ≡ least (assignment_faults lefts left rights right) → (target : Option Target) × IsFirstWritten b inputs [] (targets xs) target × IsWriter target second → ((target : Option Target) → IsWriter target second → r ≡ first_refusal found target) → r ≡ None
    → assignment_faults lefts left rights right ≡ []
nothing_refused lefts left rights right found second r b inputs xs is (target, first, writer) told none =
    least_none (assignment_faults lefts left rights right) (sym is ∙ none_wrong found target (sym none ∙ told target writer))

-- What stands where nothing is wrong.

pub left_free : (lefts : Names) (left : LeftSide) (rights : Names) (right : Expr) → assignment_faults lefts left rights right ≡ [] → left_faults lefts left ≡ []
left_free lefts left rights right free = left_nil (left_faults lefts left) _ (these_nil _ _ free)

nil_both : (ws zs : List Fault) → ws ≡ [] → zs ≡ [] → or_else ws zs ≡ []
nil_both ws zs e f = ap (λ (l : List Fault). or_else l zs) e ∙ f

pub right_accepted : (lefts : Names) (left : LeftSide) (rights : Names) (right : Expr) → assignment_faults lefts left rights right ≡ [] → right_refusals rights right (left_width lefts left) ≡ []
right_accepted lefts left rights right free = nil_both _ _ (right_nil (left_faults lefts left) _ (these_nil _ _ free)) (those_nil _ _ free)

-- Of the expression of the same form.

pub faults_at : (lefts : Names) (left : LeftSide) (rights : Names) (right form : Expr) (r : Option Fault) → form ≡ same_form left → r ≡ least (or_else (((sense lefts form).faults ++ flat_map (target_faults lefts) (parts_of left)) ++ wrong rights right) (divisions ((sense rights right).zeros (right_shape rights right (width_of lefts form)))))
    → r ≡ least (assignment_faults lefts left rights right)
faults_at lefts left rights right form r same is =
    is ∙ ap (λ (x : Expr). least (or_else (((sense lefts x).faults ++ flat_map (target_faults lefts) (parts_of left)) ++ wrong rights right) (divisions ((sense rights right).zeros (right_shape rights right (width_of lefts x)))))) same

pub form_accepted : (lefts : Names) (left : LeftSide) (rights : Names) (right form : Expr) → form ≡ same_form left → assignment_faults lefts left rights right ≡ [] → IsWhole lefts form
form_accepted lefts left rights right form same free =
    ap (λ (x : Expr). (sense lefts x).faults) same ∙ left_nil (sense lefts (same_form left)).faults (flat_map (target_faults lefts) (parts_of left)) (left_free lefts left rights right free)

pub width_is : (lefts : Names) (left : LeftSide) (form : Expr) (s : Shape) → form ≡ same_form left → s ≡ (sense lefts form).shape → s.width ≡ left_width lefts left
width_is lefts left form s same is = ap (λ (x : Shape). x.width) is ∙ ap (λ (x : Expr). (sense lefts x).shape.width) same

pub places_fit : (lefts : Names) (left : LeftSide) (rights : Names) (right form : Expr) (s : Shape) (xs : List Slice) → form ≡ same_form left → s ≡ (sense lefts form).shape → xs ≡ slices lefts (parts_of left) → assignment_faults lefts left rights right ≡ [] → length (all_places xs) ≡ s.width
places_fit lefts left rights right form s xs same is all free =
    ap (λ (l : List Slice). length (all_places l)) all ∙ places_wide lefts left (left_free lefts left rights right free) ∙ sym (width_is lefts left form s same is)
