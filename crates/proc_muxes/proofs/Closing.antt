-- The muxes of the arms of a case, from the last arm back.
use Rattle.proc_muxes.proofs.Common.{◌≡◌, ℕ, ◌+◌, ◌≤◌, false, List, [], ◌∷◌, ◌++◌, map, take, length, refl, sym, ◌∙◌, ap, subst, append-nil, arith, flat_map, Span, Bit, Expr, CaseItem, CaseKind, Stmt}
use Rattle.proc_muxes.proofs.Common.{CaseOf, Shape, Names, sense, IsContext, these_nil, item_steps, Target, targets, arms_targets, Steps, Selection, Item, Arms, Otherwise, Arm, labelled, default_of}
use Rattle.proc_muxes.proofs.Common.{chosen_arms, selection_of, case_steps, steps_of, steps-case, Building, AllBelow, Evaluates, refusals, made, IsShort, ElabError, count, more_short, wrong}
use Rattle.proc_muxes.proofs.Common.{case_faults, common_size, labels_in, LabelsWithin, labels_same, arms_with, IsOf, Change, Choice, OpenArm, Work, IsLaid, restored, distinct, choices, ChoosesAll}
use Rattle.proc_muxes.proofs.Common.{case_shape, BuildsArms, AreReadyItems, Opens, Opened, AreClear, AreHeld, IsReady, cells_of, arms_cells, items_cells, Keeps, StandsBelow, changes_of, joined}
use Rattle.proc_muxes.proofs.Common.{AllChoicesFit, AreWide, chosen, Built}
use Rattle.vlog_meaning.specs.Operators.{IsSized}
use Rattle.elab_proc.proofs.CaseLemmas.{common_within, labels_within}
use Rattle.proc_muxes.proofs.Counting.{arms-counted}
use Rattle.proc_muxes.proofs.Fitting.{Leaves, back-is, both-keep, chosen-are, joined-are, parts-fit, parts-counted, later-below, leaves-restored}
use Rattle.proc_muxes.proofs.Frames.{keeps-grown, keeps-again}
use Rattle.proc_muxes.proofs.Joining.{keeps-still}
use Rattle.proc_muxes.proofs.Keeping.{grows-match, keeps-arms}
use Rattle.proc_muxes.proofs.Labelling.{match-bit}
use Rattle.proc_muxes.proofs.Merging.{changes-same}
use Rattle.proc_muxes.proofs.Opening.{AllAllowed, case-allowed, items-ready, last-ready, opened-keeps, opened-counted, items-push}
use Rattle.proc_muxes.proofs.Walking.{held-first, held-next, held-later, held-wide, ready-later}

-- What the code of arms has done.
pub record BuiltArms (c : Selection) (selector : List Bit) (arms : Arms) (a b : Work) (changes : List Change) : Type 0 where
  pub builds : BuildsArms c selector arms a b
  pub changes_are : changes ≡ changes_of a (distinct (arms_targets arms))

leaves-arms : (c : Selection) (selector : List Bit) (arms : Arms) (w n : Work) (ds : List Change) → BuiltArms c selector arms w n ds → Leaves (arms_targets arms) w n ds
leaves-arms c selector arms w n ds f = record { keeps = keeps-arms c selector arms w n f.builds; changes_are = f.changes_are }

-- items as arms before others
abbrev pub onto : Selection → List Item → Arms → Arms
onto c [] rest = rest
onto c (i ∷ more) rest = Arm i.place i.labels (i.body c.names) (onto c more rest)

onto-with : (c : Selection) (items : List Item) (last : Steps) → arms_with c items last ≡ onto c items (Otherwise last)
onto-with c [] last = refl
onto-with c (i ∷ more) last = ap (Arm i.place i.labels (i.body c.names)) (onto-with c more last)

onto-push : (c : Selection) (items : List Item) (i : Item) (rest : Arms) → onto c (items ++ i ∷ []) rest ≡ onto c items (Arm i.place i.labels (i.body c.names) rest)
onto-push c [] i rest = refl
onto-push c (j ∷ more) i rest = ap (Arm j.place j.labels (j.body c.names)) (onto-push c more i rest)

onto-held : (c : Selection) (a : Work) (items : List Item) (rest : Arms) → AreHeld a (arms_targets (onto c items rest)) → AreHeld a (arms_targets rest)
onto-held c a [] rest h = h
onto-held c a (i ∷ more) rest h = onto-held c a more rest (held-next a (targets (i.body c.names)) (arms_targets (onto c more rest)) h)

onto-cells : (c : Selection) (items : List Item) (rest : Arms) → items_cells c items + arms_cells c rest ≤ arms_cells c (onto c items rest)
onto-cells c [] rest = omega arith
onto-cells c (i ∷ more) rest = let k = onto-cells c more rest in omega (arith, k)

-- Some arms are open, and those after them are built.
pub record Closing (c : Selection) (selector : List Bit) (all : Arms) (a now : Work) (open_arms : List OpenArm) (changes : List Change) : Type 0 where
  pub items : List Item
  pub rest : Arms
  pub mid : Work
  pub before : Opened c selector items open_arms a mid
  pub built : BuiltArms c selector rest mid now changes
  pub same : all ≡ onto c items rest

pub close-start : (c : Selection) (selector : List Bit) (all : Arms) (items : List Item) (last : Steps) (a m now : Work) (arms : List OpenArm) (cs : List Change) → all ≡ arms_with c items last → Opened c selector items arms a m → Built last m now cs → Closing c selector all a now arms cs
close-start c selector all items last a m now arms cs is f g = record {
  items = items;
  rest = Otherwise last;
  mid = m;
  before = f;
  built = record { builds = g.builds; changes_are = g.changes_are };
  same = is ∙ onto-with c items last;
}

pub closing-on : (c : Selection) (selector : List Bit) (all : Arms) (a now : Work) (arms more : List OpenArm) (arm : OpenArm) (cs : List Change) → arms ≡ arm ∷ more → Closing c selector all a now arms cs → Closing c selector all a now (arm ∷ more) cs
closing-on c selector all a now arms more arm cs is h = subst (λ (l : List OpenArm). Closing c selector all a now l cs) is h

module _ (c : Selection) (selector : List Bit) (all : Arms) (a now : Work) (arm : OpenArm) (more : List OpenArm) (cs : List Change) (h : Closing c selector all a now (arm ∷ more) cs) where
  abbrev item : Item
  item = h.before.1

  abbrev body : Steps
  body = item.body c.names

  abbrev start : Work
  start = h.before.2

  abbrev o : Opens c selector item arm start h.mid
  o = h.before.5

  abbrev t : Work
  t = record start { building = o.mid }

  abbrev qs : List Target
  qs = arms_targets h.rest

  leaves : Leaves qs h.mid now cs
  leaves = leaves-arms c selector h.rest h.mid now cs h.built

  ps-and-qs : all ≡ onto c h.before.0 (Arm item.place item.labels body h.rest)
  ps-and-qs = h.same ∙ ap (λ (l : List Item). onto c l h.rest) h.before.3 ∙ onto-push c h.before.0 item h.rest

  tested : Keeps [] start t
  tested = keeps-grown start o.mid (grows-match c selector item.labels start.building o.mid arm.test o.matches)

  to-test : Keeps [] a t
  to-test = keeps-again [] [] a start t (opened-keeps c selector h.before.0 more a start h.before.4) tested

  -- what the muxes of the arm ask

  pub close-fit : (first : List Choice) → first ≡ arm.first.items → AreHeld a (arms_targets all) → StandsBelow a → AllChoicesFit now (chosen first arm.changes cs)
  close-fit first is held stands =
      let both : AreHeld a (targets body ++ qs) = onto-held c a h.before.0 (Arm item.place item.labels body h.rest) (subst (λ (x : Arms). AreHeld a (arms_targets x)) ps-and-qs held) in
      let wide : AreWide t (targets body ++ qs) = held-wide t (targets body ++ qs) (held-later [] a t (targets body ++ qs) to-test both) in
      subst (λ (l : List Choice). AllChoicesFit now (chosen l arm.changes cs)) (sym (is ∙ o.first)) (parts-fit body qs t o.left h.mid now arm.changes cs o.body o.back leaves (to-test.below stands) wide)

  pub close-one : length arm.test ≡ 1
  close-one = (match-bit c selector item.labels start.building o.mid arm.test o.matches).0

  pub close-below : AllBelow now.building.nets arm.test
  close-below = later-below body qs t o.left h.mid now arm.changes cs o.body o.back leaves arm.test (match-bit c selector item.labels start.building o.mid arm.test o.matches).1

  pub close-stands : StandsBelow a → StandsBelow now
  close-stands stands = (both-keep body qs t o.left h.mid now arm.changes cs o.body o.back leaves).below (to-test.below stands)

  -- the arm with its muxes
  pub close-next : (new : Work) (first : List Choice) (es : List Change) → first ≡ arm.first.items → ChoosesAll arm.at arm.test (chosen first arm.changes cs) now new → es ≡ joined arm.changes cs → Closing c selector all a new more es
  close-next new first es is f e =
      let r : Work = restored t o.left in
      let other : Leaves qs r now cs = leaves-restored body qs t o.left h.mid now arm.changes cs o.body o.back leaves in
      let arms : BuildsArms c selector h.rest r now = subst (λ (u : Work). BuildsArms c selector h.rest u now) (back-is body t o.left h.mid arm.changes o.body o.back) h.built.builds in
      let list : chosen first arm.changes cs ≡ choices o.left (distinct (targets body ++ qs)) = ap (λ (l : List Choice). chosen l arm.changes cs) (is ∙ o.first) ∙ chosen-are body qs t o.left h.mid now arm.changes cs o.body o.back leaves in
      let by_place : ChoosesAll item.place arm.test (chosen first arm.changes cs) now new = subst (λ (s : Span). ChoosesAll s arm.test (chosen first arm.changes cs) now new) o.place f in
      let muxes : ChoosesAll item.place arm.test (choices o.left (distinct (targets body ++ qs))) now new = subst (λ (l : List Choice). ChoosesAll item.place arm.test l now new) list by_place in
      record {
        items = h.before.0;
        rest = Arm item.place item.labels body h.rest;
        mid = start;
        before = h.before.4;
        built = record {
          builds = (o.mid, o.left, now, arm.test, o.matches, o.body.builds, arms, muxes);
          changes_are = e ∙ joined-are body qs t o.left h.mid now arm.changes cs o.body o.back leaves ∙ changes-same start t (distinct (targets body ++ qs)) (λ kind n. keeps-still [] start t tested kind n refl);
        };
        same = ps-and-qs;
      }

  pub close-short : (first : List Choice) (e : ElabError) → first ≡ arm.first.items → IsShort (length now.building.cells + length (chosen first arm.changes cs)) e → IsShort (length a.building.cells + arms_cells c all) e
  close-short first e is short =
      let counted = opened-counted c selector h.items (arm ∷ more) a h.mid h.before in
      let pushed : items_cells c h.items ≡ items_cells c (h.before.0 ++ item ∷ []) = ap (items_cells c) h.before.3 in
      let one = items-push c h.before.0 item in
      let rest = arms-counted c selector h.rest h.mid now h.built.builds in
      let muxes : length (chosen first arm.changes cs) ≡ length (distinct (targets body ++ qs)) = ap (λ (l : List Choice). length (chosen l arm.changes cs)) (is ∙ o.first) ∙ parts-counted body qs t o.left h.mid now arm.changes cs o.body o.back leaves in
      let whole = onto-cells c h.before.0 (Arm item.place item.labels body h.rest) in
      let same : arms_cells c all ≡ arms_cells c (onto c h.before.0 (Arm item.place item.labels body h.rest)) = ap (arms_cells c) ps-and-qs in
      more_short (length now.building.cells + length (chosen first arm.changes cs)) (length a.building.cells + arms_cells c all) e (omega (arith, counted, pushed, one, rest, muxes, whole, same)) short

pub close-end : (c : Selection) (selector : List Bit) (all : Arms) (a now : Work) (open_arms : List OpenArm) (cs : List Change) → open_arms ≡ [] → Closing c selector all a now open_arms cs → BuiltArms c selector all a now cs
close-end c selector all a now open_arms cs none h =
    let f : Opened c selector h.items [] a h.mid = subst (λ (l : List OpenArm). Opened c selector h.items l a h.mid) none h.before in
    let is : h.rest ≡ all = sym (h.same ∙ ap (λ (l : List Item). onto c l h.rest) f.0) in
    subst (λ (x : Arms). BuiltArms c selector x a now cs) is (subst (λ (w : Work). BuiltArms c selector h.rest w now cs) f.1 h.built)

-- The case.

pub case-is : (names : Names) (stmt : Stmt) (at : Span) (kind : CaseKind) (selector sel : Expr) (items its : List CaseItem) → stmt ≡ CaseOf at kind selector items → sel ≡ selector → its ≡ items → steps_of stmt names ≡ case_steps kind sel (map item_steps its) names
case-is names stmt at kind selector sel items its is same_selector same_items =
    let by_selector : Expr → Steps = λ z. case_steps kind z (map item_steps items) names in
    let by_items : List CaseItem → Steps = λ z. case_steps kind sel (map item_steps z) names in
    ap (λ (s : Stmt). steps_of s names) is ∙ steps-case at kind selector items names ∙ sym (ap by_selector same_selector) ∙ sym (ap by_items same_items)

module _ (names : Names) (kind : CaseKind) (selector : Expr) (items : List CaseItem) where
  abbrev pub case-of : Selection
  case-of = selection_of names kind selector (map item_steps items)

  abbrev pub case-arms : Arms
  case-arms = chosen_arms case-of (labelled (map item_steps items)) (default_of (map item_steps items))

  abbrev all-of : List Expr
  all-of = selector ∷ flat_map labels_in items

  labels-are : (selector ∷ case-of.labels) ≡ all-of
  labels-are = ap (λ (l : List Expr). selector ∷ l) (labels_same false [] items)

  pub case-faultless : (a : Work) → IsReady names (case_steps kind selector (map item_steps items) names) a → case_faults names all-of ≡ []
  case-faultless a h = sym (ap (case_faults names) labels-are) ∙ h.clear.0

  pub case-wrong : (a : Work) → IsReady names (case_steps kind selector (map item_steps items) names) a → flat_map (wrong names) all-of ≡ []
  case-wrong a h = these_nil _ _ (case-faultless a h)

  module _ (size : Shape) (is : size ≡ common_size names all-of) (sized : IsSized size) where
    shape-is : case_shape case-of ≡ size
    shape-is = ap (common_size names) labels-are ∙ sym is

    pub case-sized : IsOf case-of names kind size
    case-sized = record { names_are = refl; kind_is = refl; width_is = ap (λ (s : Shape). s.width) shape-is; sign_is = ap (λ (s : Shape). s.is_signed) shape-is }

    module _ (a : Work) (h : IsReady names (case_steps kind selector (map item_steps items) names) a) where
      all-allowed : AllAllowed names size all-of
      all-allowed = subst (λ (s : Shape). AllAllowed names s all-of) (sym is) (case-allowed names all-of (case-faultless a h))

      pub selector-allowed : refusals names selector size ≡ []
      selector-allowed = all-allowed.0

      pub selector-within : IsContext (sense names selector).shape size
      selector-within = (common_within names size all-of is sized).0

      labels-fit : LabelsWithin names size items
      labels-fit = labels_within names size items (common_within names size all-of is sized).1

      pub arms-held : AreHeld a (arms_targets case-arms)
      arms-held = held-first a (arms_targets case-arms) [] h.held

      -- the same after the selector
      module _ (mid : Building) (bits : List Bit) (ev : Evaluates names selector size a.building mid bits) where
        pub case-keeps : Keeps [] a (record a { building = mid })
        case-keeps = keeps-grown a mid ev.grows

        pub case-held : AreHeld (record a { building = mid }) (arms_targets case-arms)
        case-held = held-later [] a (record a { building = mid }) (arms_targets case-arms) case-keeps arms-held

        pub case-stands : StandsBelow (record a { building = mid })
        case-stands = case-keeps.below h.stands

      module _ (before : ℕ) (last : Steps) (arms : arms_with case-of (labelled (map item_steps (take before items))) last ≡ case-arms) where
        abbrev xs : List Item
        xs = labelled (map item_steps (take before items))

        arms-clear : AreClear (arms_with case-of xs last)
        arms-clear = subst AreClear (sym arms) h.clear.1

        these-held : AreHeld a (arms_targets (arms_with case-of xs last))
        these-held = subst (λ (x : Arms). AreHeld a (arms_targets x)) (sym arms) arms-held

        later-items : (ys : List CaseItem) (b : Work) → Keeps [] a b → AreReadyItems names size ys a → AreReadyItems names size ys b
        later-items [] b k r = tt
        later-items (y ∷ ys) b k r = (λ e. let one = r.0 e in (one.0, ready-later names _ [] a b k one.1), later-items ys b k r.1)

        pub case-items-ready : (b : Work) → Keeps [] a b → AreReadyItems names size (take before items) b
        case-items-ready b k = later-items (take before items) b k (items-ready names kind size case-of case-sized last a h.signals h.stands h.sized items before all-allowed.1 labels-fit arms-clear these-held)

        pub case-last-ready : (b : Work) → Keeps [] a b → IsReady names last b
        case-last-ready b k = ready-later names last [] a b k (last-ready names kind size case-of case-sized last a h.signals h.stands h.sized xs arms-clear these-held)

    -- the selector, and then the arms
    pub case-built : (a b : Work) (mid : Building) (bits : List Bit) (cs : List Change) → Evaluates names selector size a.building mid bits → IsLaid names selector size a.building mid bits → BuiltArms case-of bits case-arms (record a { building = mid }) b cs → Built (case_steps kind selector (map item_steps items) names) a b cs
    case-built a b mid bits cs ev laid f =
        let m : Work = record a { building = mid } in
        let ts : List Target = arms_targets case-arms in
        let k : Keeps [] a m = keeps-grown a mid ev.grows in
        record {
          builds = (mid, b, bits, subst (λ (s : Shape). Evaluates names selector s a.building mid bits) (sym shape-is) ev, f.builds, refl, subst (λ (s : Shape). IsLaid names selector s a.building mid bits) (sym shape-is) laid);
          changes_are = f.changes_are ∙ changes-same a m (distinct ts) (λ kind n. keeps-still [] a m k kind n refl) ∙ ap (λ (l : List Target). changes_of a (distinct l)) (sym (append-nil ts));
        }

    pub selector-short : (n room : ℕ) (e : ElabError) → room ≤ n + length (made names selector size) → IsShort room e → IsShort (n + cells_of (case_steps kind selector (map item_steps items) names)) e
    selector-short n room e le short =
        let own : length (made names selector (case_shape case-of)) ≡ length (made names selector size) = ap (λ (s : Shape). length (made names selector s)) shape-is in
        more_short room (n + cells_of (case_steps kind selector (map item_steps items) names)) e (omega (arith, own, le)) short

    pub arms-short : (a : Work) (mid : Building) (bits : List Bit) (room : ℕ) (e : ElabError) → Evaluates names selector size a.building mid bits → room ≤ length mid.cells + arms_cells case-of case-arms → IsShort room e → IsShort (length a.building.cells + cells_of (case_steps kind selector (map item_steps items) names)) e
    arms-short a mid bits room e ev le short =
        let own : length (made names selector (case_shape case-of)) ≡ length (made names selector size) = ap (λ (s : Shape). length (made names selector s)) shape-is in
        let k = count a.building mid bits _ _ (made names selector size) ev in
        more_short room (length a.building.cells + cells_of (case_steps kind selector (map item_steps items) names)) e (omega (arith, own, k, le)) short

    module _ (a : Work) (mid : Building) (bits : List Bit) (ev : Evaluates names selector size a.building mid bits) (before : ℕ) (last : Steps) (arms : arms_with case-of (labelled (map item_steps (take before items))) last ≡ case-arms) where
      cells-are : arms_cells case-of case-arms ≡ arms_cells case-of (onto case-of (labelled (map item_steps (take before items))) (Otherwise last))
      cells-are = ap (arms_cells case-of) (sym arms ∙ onto-with case-of (labelled (map item_steps (take before items))) last)

      pub items-short : (e : ElabError) → IsShort (length mid.cells + items_cells case-of (labelled (map item_steps (take before items)))) e → IsShort (length a.building.cells + cells_of (case_steps kind selector (map item_steps items) names)) e
      items-short e short =
          let k = onto-cells case-of (labelled (map item_steps (take before items))) (Otherwise last) in
          let same = cells-are in
          arms-short a mid bits _ e ev (omega (arith, k, same)) short

      pub last-short : (m : Work) (open_arms : List OpenArm) (e : ElabError) → Opened case-of bits (labelled (map item_steps (take before items))) open_arms (record a { building = mid }) m → IsShort (length m.building.cells + cells_of last) e → IsShort (length a.building.cells + cells_of (case_steps kind selector (map item_steps items) names)) e
      last-short m open_arms e f short =
          let k = onto-cells case-of (labelled (map item_steps (take before items))) (Otherwise last) in
          let same = cells-are in
          let counted = opened-counted case-of bits (labelled (map item_steps (take before items))) open_arms (record a { building = mid }) m f in
          arms-short a mid bits _ e ev (omega (arith, k, same, counted)) short
