-- The start of the clock.
use Rattle.tb_checks.proofs.Common.{◌≡◌, ℕ, ◌≤◌, Bool, true, false, List, [], ◌∷◌, ◌++◌, sym, ap, ◌∙◌, subst, if◌then◌else◌, Option, None, Some, Span, ClockList, Expr, Assignment, EventControl, Stmt}
use Rattle.tb_checks.proofs.Common.{roll-Stmt, out-Stmt, out-roll-Stmt, roll-out-Stmt, CaseItem, Stmt-F, Fault, least, Sense, sense, own_zeros, assigned, name_faults, left_nil, these_nil, least_none}
use Rattle.tb_checks.proofs.Common.{divisions, BenchFault, Wrong, Unsupported, IsFirst, first_wrong, wrong, sides_faults, is_clock, signal_width, clock_width, unless, start_value, start_faults, Rules}
use Rattle.tb_checks.proofs.Common.{control_faults, stmt_faults}
use Rattle.vlog_syntax.specs.declared.left_side.LeftSide.{LeftSide, out-LeftSide}
use Rattle.vlog_syntax.specs.declared.left_side.LeftSide.TheOpen as l
use Rattle.vlog_syntax.specs.declared.left_side.LeftSide.TheOpen.{LeftSide-F}
use Rattle.vlog_syntax.specs.declared.left_side.LeftSide.TheFolds.{fold_out-LeftSide, map-LeftSide}
use Rattle.vlog_syntax.specs.declared.stmt.Stmt.TheOpen as s
use Rattle.vlog_syntax.specs.declared.stmt.Stmt.TheVariants as sv
use Rattle.vlog_syntax.specs.Places.{left_first_token}
use Rattle.vlog_meaning.specs.declared.scope.Decl.{Decl}
use Rattle.vlog_meaning.specs.declared.scope.Decl.TheVariants.{Signal, Constant}
use Rattle.vlog_meaning.proofs.Steps.{sense_name}
use Rattle.vlog_meaning.proofs.Whole.{sized_within}
use Rattle.vlog_effects.specs.Expressions.{constant_of, width_of}
use Rattle.elab_proc.specs.Refusals.{same_form, form_step}
use Rattle.tb_checks.specs.Processes.{always_faults}

unless_some : (fs : List Fault) (those : List BenchFault) (f : Fault) → Some f ≡ least fs → IsFirst (unless fs those) (Some (Wrong f))
unfolding least
unless_some [] those f e = absurd cc
unless_some (x ∷ more) those f e = first_wrong (x ∷ more) (Some f) e

unless_none : (fs : List Fault) (those : List BenchFault) (o : Option BenchFault) → fs ≡ [] → IsFirst those o → IsFirst (unless fs those) o
unless_none fs those o e h = subst (λ (xs : List Fault). IsFirst (unless xs those) o) (sym e) h

module _ (r : Rules) (y : Assignment) (width : ℕ) (form value : Expr) (found : Option Fault) where
  pub start_wrong : (f : Fault) → form ≡ same_form y.left → value ≡ y.value → found ≡ least (sides_faults r.names form value) → found ≡ Some f → (elsewhere : List BenchFault) → IsFirst (start_faults r y (Some width) elsewhere) (Some (Wrong f))
  start_wrong f same is found_is some elsewhere = unless_some (sides_faults r.names (same_form y.left) y.value) (start_value (left_first_token y.left) width (constant_of r.names width y.value)) f (sym some ∙ found_is ∙ ap (λ (x : Expr). least (sides_faults r.names x value)) same ∙ ap (λ (x : Expr). least (sides_faults r.names (same_form y.left) x)) is)

  none_wrong : form ≡ same_form y.left → value ≡ y.value → found ≡ least (sides_faults r.names form value) → found ≡ None → sides_faults r.names (same_form y.left) y.value ≡ []
  none_wrong same is found_is none = least_none (sides_faults r.names (same_form y.left) y.value) (sym (ap (λ (x : Expr). least (sides_faults r.names x value)) same ∙ ap (λ (x : Expr). least (sides_faults r.names (same_form y.left) x)) is) ∙ sym found_is ∙ none)

  pub start_right : (at : Span) (other : Expr) (o : Option BenchFault) → form ≡ same_form y.left → value ≡ y.value → found ≡ least (sides_faults r.names form value) → found ≡ None → at ≡ left_first_token y.left → other ≡ y.value → IsFirst (start_value at width (constant_of r.names width other)) o → (elsewhere : List BenchFault) → IsFirst (start_faults r y (Some width) elsewhere) o
  start_right at other o same is found_is none place again h elsewhere =
      unless_none (sides_faults r.names (same_form y.left) y.value) (start_value (left_first_token y.left) width (constant_of r.names width y.value)) o (none_wrong same is found_is none)
      (subst (λ (p : Span). IsFirst (start_value p width (constant_of r.names width y.value)) o) place (subst (λ (x : Expr). IsFirst (start_value at width (constant_of r.names width x)) o) again h))

  -- the clock has from 1 to 128 bits where nothing is wrong with its name

  signal_sized : (at : Span) (d : Option Decl) → signal_width d ≡ Some width → name_faults at d ≡ [] → (1 ≤ width) × (width ≤ 128)
  signal_sized at (Some (Signal w low is_signed number)) e none = let same : w ≡ width = cc in subst (λ (k : ℕ). (1 ≤ k) × (k ≤ 128)) same (sized_within at w none)
  signal_sized at (Some (Constant value low is_signed)) e none = absurd cc
  signal_sized at None e none = absurd cc

  named_sized : (at : Span) (name : List ℕ) (b : Bool) → (if b then signal_width (r.names name) else None) ≡ Some width → name_faults at (r.names name) ≡ [] → (1 ≤ width) × (width ≤ 128)
  named_sized at name true e none = signal_sized at (r.names name) e none
  named_sized at name false e none = absurd cc

  layer_sized : (o : LeftSide-F LeftSide) → clock_width r o ≡ Some width → (sense r.names (form_step (map-LeftSide LeftSide Expr same_form o))).faults ≡ [] → (1 ≤ width) × (width ≤ 128)
  layer_sized (l.Name n) e none = named_sized n.span n.name (is_clock r.clock n.name) e (sym (ap (λ (x : Sense). x.faults) (sense_name r.names n)) ∙ none)
  layer_sized (l.BitSelect n at i) e none = absurd cc
  layer_sized (l.PartSelect n at i j) e none = absurd cc
  layer_sized (l.IndexedPartSelect n at i j) e none = absurd cc
  layer_sized (l.Concatenation at parts) e none = absurd cc

  pub start_sized : form ≡ same_form y.left → value ≡ y.value → found ≡ least (sides_faults r.names form value) → found ≡ None → clock_width r (out-LeftSide y.left) ≡ Some width → (1 ≤ width) × (width ≤ 128)
  start_sized same is found_is none w =
      let left : Expr = same_form y.left in
      let both : wrong r.names left ++ wrong r.names y.value ≡ [] = these_nil (wrong r.names left ++ wrong r.names y.value) (divisions (own_zeros (sense r.names left) ++ (sense r.names y.value).zeros (assigned (sense r.names y.value) (width_of r.names left)))) (none_wrong same is found_is none) in
      let faultless : (sense r.names left).faults ≡ [] = left_nil (sense r.names left).faults (sense r.names left).features (left_nil (wrong r.names left) (wrong r.names y.value) both) in
      layer_sized (out-LeftSide y.left) w (sym (ap (λ (x : Expr). (sense r.names x).faults) (fold_out-LeftSide Expr form_step y.left)) ∙ faultless)

-- what an assignment that may set the clock is refused for
pub set_start : (r : Rules) (y : Assignment) (width : ℕ) (w : Option ℕ) (elsewhere : List BenchFault) (o : Option BenchFault) → w ≡ clock_width r (out-LeftSide y.left) → w ≡ Some width → ((others : List BenchFault) → IsFirst (start_faults r y (Some width) others) o) → IsFirst (start_faults r y (clock_width r (out-LeftSide y.left)) elsewhere) o
set_start r y width w elsewhere o w_is some h = subst (λ (k : Option ℕ). IsFirst (start_faults r y k elsewhere) o) (sym some ∙ w_is) (h elsewhere)

-- an `always` with a list, and one without

pub always_waits : (r : Rules) (always : Span) (x inner b : Stmt) (at : Span) (control : EventControl) (o : Option BenchFault) → x ≡ sv.EventControl at control inner → b ≡ inner → IsFirst (control_faults r.names r.clock true at control ++ stmt_faults r b) o → IsFirst (always_faults r always x (out-Stmt x)) o
always_waits r always x inner b at control o e is h =
    let layer : out-Stmt x ≡ s.EventControl at control inner = ap out-Stmt (e ∙ sym (sv.rolls-EventControl at control inner)) ∙ out-roll-Stmt (s.EventControl at control inner) in
    subst (λ (z : Stmt-F Stmt CaseItem). IsFirst (always_faults r always x z) o) (sym layer) (subst (λ (z : Stmt). IsFirst (control_faults r.names r.clock true at control ++ stmt_faults r z) o) is h)

pub always_other : (r : Rules) (always : Span) (x : Stmt) (o : Option BenchFault) → ((at : Span) (control : EventControl) (inner : Stmt) → x ≡ sv.EventControl at control inner → ⊥) → IsFirst (Unsupported always ClockList ∷ stmt_faults r x) o → IsFirst (always_faults r always x (out-Stmt x)) o
always_other r always x o none h = go (out-Stmt x) (roll-out-Stmt x)
  where
    go : (z : Stmt-F Stmt CaseItem) → roll-Stmt z ≡ x → IsFirst (always_faults r always x z) o
    go (s.EventControl at control inner) e = absurd (none at control inner (sym e ∙ sv.rolls-EventControl at control inner))
    go (s.Null at) e = h
    go (s.SeqBlock at label body) e = h
    go (s.Conditional at c a b) e = h
    go (s.Case at kind c items) e = h
    go (s.For at start c step body) e = h
    go (s.While at c body) e = h
    go (s.Repeat at c body) e = h
    go (s.Forever at body) e = h
    go (s.DelayControl at c body) e = h
    go (s.SystemTaskEnable n arguments) e = h
    go (s.BlockingAssignment y) e = h
    go (s.NonblockingAssignment y) e = h
