-- The arms of a case, opened one after the other.
use Rattle.proc_muxes.proofs.Common.{◌≡◌, ℕ, zero, suc, ◌+◌, ◌<◌, ◌≤◌, Bool, true, false, List, [], ◌∷◌, ◌++◌, map, take, length, get_or, refl, sym, ◌∙◌, ap, subst, arith, IfSome, if◌then◌else◌}
use Rattle.proc_muxes.proofs.Common.{option_map, flat_map, map-append, Bit, Expr, CaseItem, out-CaseItem, CaseKind, Stmt, Fault, Shape, Names, fault, or_else, is_empty, left_nil, right_nil, these_nil}
use Rattle.proc_muxes.proofs.Common.{those_nil, item_steps, targets, arms_targets, Steps, Selection, InNames, Item, Arms, labelled, steps_of, done_by, Building, Grows, HasSignals, refusals, IsShort}
use Rattle.proc_muxes.proofs.Common.{ElabError, more_short, wrong, divisions, zeros_at, common_size, case_faults, labels_in, AreSized, AllWithin, LabelsWithin, item_is, item_body, arms_with, IsOf}
use Rattle.proc_muxes.proofs.Common.{Change, OpenArm, Work, BuildsMatch, AreReadyItems, Opens, Opened, AreClearLabels, IsClear, AreClear, AreHeld, IsReady, match_cells, cells_of, items_cells, Keeps}
use Rattle.proc_muxes.proofs.Common.{StandsBelow, Built, all_have, given_back}
use Rattle.std.specs.Prelude.{Option, Some}
use Rattle.vlog_meaning.specs.declared.fault.Cause.TheVariants as cause
use Rattle.proc_muxes.proofs.Counting.{match-counted}
use Rattle.proc_muxes.proofs.Frames.{keeps-same, keeps-grown, keeps-again}
use Rattle.proc_muxes.proofs.Keeping.{grows-match}
use Rattle.proc_muxes.proofs.Walking.{held-first, held-next, ready-later, back-keeps, back-counted}
use Rattle.case_arms.proofs.Bounds.{body_here}

-- Items with labels.

abbrev pub opened : CaseItem → Item
opened i = record { place = (out-CaseItem i).span; labels = (out-CaseItem i).labels; body = steps_of (out-CaseItem i).body }

labelled-push : (i : CaseItem) (xs : List CaseItem) → labelled (map item_steps (i ∷ xs)) ≡ (if is_empty (labels_in i) then labelled (map item_steps xs) else opened i ∷ labelled (map item_steps xs))
labelled-push i xs = ap (λ (z : Item). labelled (z ∷ map item_steps xs)) (item_is false [] i)

take-none : (items : List CaseItem) → take 0 items ≡ []
take-none [] = refl
take-none (j ∷ js) = refl

labelled-skip : (items : List CaseItem) (k : ℕ) (i : CaseItem) → i ≡ get_or items k i → k < length items → is_empty (labels_in i) ≡ true → labelled (map item_steps (take (suc k) items)) ≡ labelled (map item_steps (take k items))
labelled-skip [] k i at h e = absurd (omega arith)
labelled-skip (j ∷ js) zero i at h e =
    ap (λ (l : List CaseItem). labelled (map item_steps (j ∷ l))) (take-none js) ∙ labelled-push j [] ∙ ap (λ (b : Bool). if b then [] else opened j ∷ []) (ap (λ (z : CaseItem). is_empty (labels_in z)) (sym at) ∙ e)
labelled-skip (j ∷ js) (suc k) i at h e = labelled-push j (take (suc k) js) ∙ ap (λ (l : List Item). if is_empty (labels_in j) then l else opened j ∷ l) (labelled-skip js k i at (omega arith) e) ∙ sym (labelled-push j (take k js))

labelled-more : (items : List CaseItem) (k : ℕ) (i : CaseItem) → i ≡ get_or items k i → k < length items → is_empty (labels_in i) ≡ false → labelled (map item_steps (take (suc k) items)) ≡ labelled (map item_steps (take k items)) ++ opened i ∷ []
labelled-more [] k i at h e = absurd (omega arith)
labelled-more (j ∷ js) zero i at h e =
    ap (λ (l : List CaseItem). labelled (map item_steps (j ∷ l))) (take-none js) ∙ labelled-push j [] ∙ ap (λ (b : Bool). if b then [] else opened j ∷ []) (ap (λ (z : CaseItem). is_empty (labels_in z)) (sym at) ∙ e) ∙ ap (λ (z : CaseItem). opened z ∷ []) (sym at)
labelled-more (j ∷ js) (suc k) i at h e = labelled-push j (take (suc k) js) ∙ ap (λ (l : List Item). if is_empty (labels_in j) then l else opened j ∷ l) (labelled-more js k i at (omega arith) e) ∙ go (is_empty (labels_in j)) ∙ sym (ap (λ (l : List Item). l ++ opened i ∷ []) (labelled-push j (take k js))) where
  go : (b : Bool) → (if b then labelled (map item_steps (take k js)) ++ opened i ∷ [] else opened j ∷ (labelled (map item_steps (take k js)) ++ opened i ∷ [])) ≡ (if b then labelled (map item_steps (take k js)) else opened j ∷ labelled (map item_steps (take k js))) ++ opened i ∷ []
  go true = refl
  go false = refl

-- What one item asks.

abbrev pub IsReadyItem : Names → Shape → CaseItem → Work → Type 0
IsReadyItem names size i a = AreClearLabels names size (labels_in i) × IsReady names (steps_of (out-CaseItem i).body names) a

pub ready-item : (names : Names) (size : Shape) (items : List CaseItem) (n k : ℕ) (i : CaseItem) (a : Work) → i ≡ get_or items k i → k < n → k < length items → is_empty (labels_in i) ≡ false → AreReadyItems names size (take n items) a → IsReadyItem names size i a
ready-item names size [] n k i a at h l e r = absurd (omega arith)
ready-item names size (j ∷ js) zero k i a at h l e r = absurd (omega arith)
ready-item names size (j ∷ js) (suc n) zero i a at h l e r = subst (λ (z : CaseItem). IsReadyItem names size z a) (sym at) (r.0 (ap (λ (z : CaseItem). is_empty (labels_in z)) (sym at) ∙ e))
ready-item names size (j ∷ js) (suc n) (suc k) i a at h l e r = ready-item names size js n k i a at (omega arith) (omega arith) e r.1

-- Opening.

pub open-skip : (c : Selection) (selector : List Bit) (items : List CaseItem) (k : ℕ) (i : CaseItem) (a b : Work) (arms : List OpenArm) → i ≡ get_or items k i → k < length items → is_empty (labels_in i) ≡ true → Opened c selector (labelled (map item_steps (take k items))) arms a b → Opened c selector (labelled (map item_steps (take (k + 1) items))) arms a b
open-skip c selector items k i a b arms at h e f =
    let next : suc k ≡ k + 1 = omega arith in
    subst (λ (n : ℕ). Opened c selector (labelled (map item_steps (take n items))) arms a b) next (subst (λ (l : List Item). Opened c selector l arms a b) (sym (labelled-skip items k i at h e)) f)

pub open-more : (c : Selection) (selector : List Bit) (items : List CaseItem) (k : ℕ) (i : CaseItem) (a m b : Work) (arms more : List OpenArm) (arm : OpenArm) → i ≡ get_or items k i → k < length items → is_empty (labels_in i) ≡ false → more ≡ arm ∷ arms → Opened c selector (labelled (map item_steps (take k items))) arms a m → Opens c selector (opened i) arm m b → Opened c selector (labelled (map item_steps (take (k + 1) items))) more a b
open-more c selector items k i a m b arms more arm at h e pushed f o =
    let next : suc k ≡ k + 1 = omega arith in
    subst (λ (n : ℕ). Opened c selector (labelled (map item_steps (take n items))) more a b) next
    (subst (λ (l : List OpenArm). Opened c selector (labelled (map item_steps (take (suc k) items))) l a b) (sym pushed)
    (labelled (map item_steps (take k items)), opened i, m, labelled-more items k i at h e, f, o))

-- the arm of an item
pub open-one : (c : Selection) (selector : List Bit) (names : Names) (i : CaseItem) (arm : OpenArm) (m : Work) (mid : Building) (y b : Work) (labels : List Expr) (body : Stmt) (changed : List Change) → c.names ≡ names → labels ≡ labels_in i → body ≡ (out-CaseItem i).body → BuildsMatch c selector labels m.building mid arm.test → Built (steps_of body names) (record m { building = mid }) y arm.changes → arm.first.items ≡ all_have y changed → changed ≡ arm.changes → b ≡ given_back changed y → arm.at ≡ (out-CaseItem i).span → Opens c selector (opened i) arm m b
open-one c selector names i arm m mid y b labels body changed same_names same_labels same_body test built first same_changes back at = record {
  mid = mid;
  left = y;
  matches = subst (λ (l : List Expr). BuildsMatch c selector l m.building mid arm.test) same_labels test;
  body = subst (λ (n : Names). Built (steps_of (out-CaseItem i).body n) (record m { building = mid }) y arm.changes) (sym same_names) (subst (λ (s : Stmt). Built (steps_of s names) (record m { building = mid }) y arm.changes) same_body built);
  first = first ∙ ap (λ (l : List Change). all_have y l) same_changes;
  back = back ∙ ap (λ (l : List Change). given_back l y) same_changes;
  place = at;
}

pub arm-keeps : (p : Steps) (a m : Work) (mid : Building) (y b : Work) (cs changed : List Change) → Keeps [] a m → Grows m.building mid → Built p (record m { building = mid }) y cs → changed ≡ cs → b ≡ given_back changed y → Keeps [] a b
arm-keeps p a m mid y b cs changed k g f same back =
    let t : Work = record m { building = mid } in
    keeps-again [] [] a m b k (keeps-again [] [] m t b (keeps-grown m mid g) (back-keeps p t y b cs f (back ∙ ap (λ (l : List Change). given_back l y) same)))

pub body-ready : (names : Names) (size : Shape) (i : CaseItem) (body : Stmt) (a m : Work) (mid : Building) → body ≡ (out-CaseItem i).body → IsReadyItem names size i a → Keeps [] a m → Grows m.building mid → IsReady names (steps_of body names) (record m { building = mid })
body-ready names size i body a m mid is r k g =
    let p : Steps = steps_of body names in
    ready-later names p [] a (record m { building = mid }) (keeps-again [] [] a m (record m { building = mid }) k (keeps-grown m mid g)) (subst (λ (s : Stmt). IsReady names (steps_of s names) a) (sym is) r.1)

pub grown-places : (m : Work) (mid : Building) (n : ℕ) → Grows m.building mid → n ≡ length m.building.signals → n ≡ length mid.signals
grown-places m mid n g e = e ∙ sym (keeps-grown m mid g).adds.count

-- What opening keeps, and how many cells it makes.

pub open-keeps : (body : Steps) (a : Work) (mid : Building) (y b : Work) (cs : List Change) (c : Selection) (selector : List Bit) (labels : List Expr) (test : List Bit) → BuildsMatch c selector labels a.building mid test → Built body (record a { building = mid }) y cs → b ≡ given_back cs y → Keeps [] a b
open-keeps body a mid y b cs c selector labels test f g back =
    let t : Work = record a { building = mid } in
    keeps-again [] [] a t b (keeps-grown a mid (grows-match c selector labels a.building mid test f)) (back-keeps body t y b cs g back)

pub opened-keeps : (c : Selection) (selector : List Bit) (items : List Item) (arms : List OpenArm) (a b : Work) → Opened c selector items arms a b → Keeps [] a b
opened-keeps c selector items [] a b f = subst (λ (w : Work). Keeps [] a w) (sym f.1) (keeps-same a)
opened-keeps c selector items (arm ∷ more) a b f =
    let o = f.5 in
    keeps-again [] [] a f.2 b (opened-keeps c selector f.0 more a f.2 f.4) (open-keeps (f.1.body c.names) f.2 o.mid o.left b arm.changes c selector f.1.labels arm.test o.matches o.body o.back)

pub items-push : (c : Selection) (xs : List Item) (i : Item) → items_cells c (xs ++ i ∷ []) ≡ items_cells c xs + (match_cells c i.labels + cells_of (i.body c.names))
items-push c [] i = omega arith
items-push c (x ∷ xs) i = let k = items-push c xs i in omega (arith, k)

pub opened-counted : (c : Selection) (selector : List Bit) (items : List Item) (arms : List OpenArm) (a b : Work) → Opened c selector items arms a b → length b.building.cells ≡ length a.building.cells + items_cells c items
opened-counted c selector items [] a b f =
    let k : length b.building.cells ≡ length a.building.cells = ap (λ (w : Work). length w.building.cells) f.1 in
    let none : items_cells c items ≡ 0 = ap (items_cells c) f.0 in
    omega (arith, k, none)
opened-counted c selector items (arm ∷ more) a b f =
    let o = f.5 in
    let before = opened-counted c selector f.0 more a f.2 f.4 in
    let test = match-counted c selector f.1.labels f.2.building o.mid arm.test o.matches in
    let body = back-counted (f.1.body c.names) (record f.2 { building = o.mid }) o.left b arm.changes o.body o.back in
    let all : items_cells c items ≡ items_cells c f.0 + (match_cells c f.1.labels + cells_of (f.1.body c.names)) = ap (items_cells c) f.3 ∙ items-push c f.0 f.1 in
    omega (arith, before, test, body, all)

-- so many items, and one more, make no more cells than all
items-within : (c : Selection) (items : List CaseItem) (n k : ℕ) (i : CaseItem) → i ≡ get_or items k i → k < n → k < length items → is_empty (labels_in i) ≡ false → items_cells c (labelled (map item_steps (take k items))) + (match_cells c (labels_in i) + cells_of (steps_of (out-CaseItem i).body c.names)) ≤ items_cells c (labelled (map item_steps (take n items)))
items-within c [] n k i at h l e = absurd (omega arith)
items-within c (j ∷ js) zero k i at h l e = absurd (omega arith)
items-within c (j ∷ js) (suc n) zero i at h l e =
    let all : labelled (map item_steps (j ∷ take n js)) ≡ opened j ∷ labelled (map item_steps (take n js)) = labelled-push j (take n js) ∙ ap (λ (b : Bool). if b then labelled (map item_steps (take n js)) else opened j ∷ labelled (map item_steps (take n js))) (ap (λ (z : CaseItem). is_empty (labels_in z)) (sym at) ∙ e) in
    let whole = ap (items_cells c) all in
    let same : match_cells c (labels_in i) + cells_of (steps_of (out-CaseItem i).body c.names) ≡ match_cells c (labels_in j) + cells_of (steps_of (out-CaseItem j).body c.names) = ap (λ (z : CaseItem). match_cells c (labels_in z) + cells_of (steps_of (out-CaseItem z).body c.names)) at in
    omega (arith, whole, same)
items-within c (j ∷ js) (suc n) (suc k) i at h l e =
    let here = match_cells c (labels_in i) + cells_of (steps_of (out-CaseItem i).body c.names) in
    let first = ap (items_cells c) (labelled-push j (take k js)) in
    let last = ap (items_cells c) (labelled-push j (take n js)) in
    let rest = go (is_empty (labels_in j)) (labelled (map item_steps (take k js))) (labelled (map item_steps (take n js))) here (items-within c js n k i at (omega arith) (omega arith) e) in
    omega (arith, first, last, rest) where
      go : (b : Bool) (xs ys : List Item) (d : ℕ) → items_cells c xs + d ≤ items_cells c ys → items_cells c (if b then xs else opened j ∷ xs) + d ≤ items_cells c (if b then ys else opened j ∷ ys)
      go true xs ys d g = g
      go false xs ys d g = omega (arith, g)

pub open-short : (c : Selection) (selector : List Bit) (items : List CaseItem) (n k : ℕ) (i : CaseItem) (a m : Work) (arms : List OpenArm) (room : ℕ) (e : ElabError) → i ≡ get_or items k i → k < n → k < length items → is_empty (labels_in i) ≡ false → Opened c selector (labelled (map item_steps (take k items))) arms a m → room ≤ length m.building.cells + (match_cells c (labels_in i) + cells_of (steps_of (out-CaseItem i).body c.names)) → IsShort room e → IsShort (length a.building.cells + items_cells c (labelled (map item_steps (take n items)))) e
open-short c selector items n k i a m arms room e at h l full f le short =
    let so = opened-counted c selector (labelled (map item_steps (take k items))) arms a m f in
    let within = items-within c items n k i at h l full in
    more_short room (length a.building.cells + items_cells c (labelled (map item_steps (take n items)))) e (omega (arith, so, within, le)) short

pub body-short : (c : Selection) (selector : List Bit) (names : Names) (items : List CaseItem) (n k : ℕ) (i : CaseItem) (a m : Work) (mid : Building) (arms : List OpenArm) (test : List Bit) (labels : List Expr) (body : Stmt) (e : ElabError) → c.names ≡ names → labels ≡ labels_in i → body ≡ (out-CaseItem i).body → i ≡ get_or items k i → k < n → k < length items → is_empty (labels_in i) ≡ false → Opened c selector (labelled (map item_steps (take k items))) arms a m → BuildsMatch c selector labels m.building mid test → IsShort (length mid.cells + cells_of (steps_of body names)) e → IsShort (length a.building.cells + items_cells c (labelled (map item_steps (take n items)))) e
body-short c selector names items n k i a m mid arms test labels body e same_names same_labels same_body at h l full f g short =
    let counted = match-counted c selector labels m.building mid test g in
    let by_labels : match_cells c labels ≡ match_cells c (labels_in i) = ap (match_cells c) same_labels in
    let by_body : cells_of (steps_of body names) ≡ cells_of (steps_of (out-CaseItem i).body c.names) = ap (λ (s : Stmt). cells_of (steps_of s names)) same_body ∙ ap (λ (y : Names). cells_of (steps_of (out-CaseItem i).body y)) (sym same_names) in
    open-short c selector items n k i a m arms (length mid.cells + cells_of (steps_of body names)) e at h l full f (omega (arith, counted, by_labels, by_body)) short

pub match-short : (c : Selection) (selector : List Bit) (items : List CaseItem) (n k : ℕ) (i : CaseItem) (a m : Work) (arms : List OpenArm) (labels : List Expr) (e : ElabError) → labels ≡ labels_in i → i ≡ get_or items k i → k < n → k < length items → is_empty (labels_in i) ≡ false → Opened c selector (labelled (map item_steps (take k items))) arms a m → IsShort (length m.building.cells + match_cells c labels) e → IsShort (length a.building.cells + items_cells c (labelled (map item_steps (take n items)))) e
match-short c selector items n k i a m arms labels e same_labels at h l full f short =
    let by_labels : match_cells c labels ≡ match_cells c (labels_in i) = ap (match_cells c) same_labels in
    open-short c selector items n k i a m arms (length m.building.cells + match_cells c labels) e at h l full f (omega (arith, by_labels)) short

-- The item that is done where none matches.

pub last-is : (names : Names) (items : List CaseItem) (o : Option ℕ) (k : ℕ) (i : CaseItem) (body : Stmt) → o ≡ Some k → i ≡ get_or items k i → k < length items → body ≡ (out-CaseItem i).body → done_by (option_map (item_body items) o) names ≡ steps_of body names
last-is names items o k i body some at h is =
    ap (λ (x : Option ℕ). done_by (option_map (item_body items) x) names) some ∙ ap (λ (f : InNames). f names) (body_here items k i at h) ∙ ap (λ (s : Stmt). steps_of s names) (sym is)

pub within-some : (items : List CaseItem) (o : Option ℕ) (k : ℕ) → o ≡ Some k → IfSome o (λ n. n < length items) → k < length items
within-some items o k is h = subst (λ (x : Option ℕ). IfSome x (λ n. n < length items)) is h

-- What a case asks of its items.

abbrev pub AllAllowed : Names → Shape → List Expr → Type 0
AllAllowed names size [] = Unit {0}
AllAllowed names size (x ∷ more) = (refusals names x size ≡ []) × AllAllowed names size more

allowed-first : (names : Names) (size : Shape) (xs ys : List Expr) → AllAllowed names size (xs ++ ys) → AllAllowed names size xs
allowed-first names size [] ys h = tt
allowed-first names size (x ∷ xs) ys h = (h.0, allowed-first names size xs ys h.1)

allowed-next : (names : Names) (size : Shape) (xs ys : List Expr) → AllAllowed names size (xs ++ ys) → AllAllowed names size ys
allowed-next names size [] ys h = h
allowed-next names size (x ∷ xs) ys h = allowed-next names size xs ys h.1

allowed : (names : Names) (size : Shape) (xs : List Expr) → flat_map (wrong names) xs ≡ [] → divisions (flat_map (zeros_at names size) xs) ≡ [] → AllAllowed names size xs
allowed names size [] e f = tt
allowed names size (x ∷ xs) e f =
    let none : wrong names x ≡ [] = left_nil (wrong names x) (flat_map (wrong names) xs) e in
    let split : divisions (zeros_at names size x) ++ divisions (flat_map (zeros_at names size) xs) ≡ [] = sym (map-append (fault cause.DivideByZero) (zeros_at names size x) (flat_map (zeros_at names size) xs)) ∙ f in (
      ap (λ (fs : List Fault). or_else fs (divisions (zeros_at names size x))) none ∙ left_nil (divisions (zeros_at names size x)) (divisions (flat_map (zeros_at names size) xs)) split,
      allowed names size xs (right_nil (wrong names x) (flat_map (wrong names) xs) e) (right_nil (divisions (zeros_at names size x)) (divisions (flat_map (zeros_at names size) xs)) split),
    )

pub case-allowed : (names : Names) (xs : List Expr) → case_faults names xs ≡ [] → AllAllowed names (common_size names xs) xs
case-allowed names xs e =
    let size : Shape = common_size names xs in
    allowed names size xs (these_nil (flat_map (wrong names) xs) (divisions (flat_map (zeros_at names size) xs)) e) (those_nil (flat_map (wrong names) xs) (divisions (flat_map (zeros_at names size) xs)) e)

labels-clear : (names : Names) (size : Shape) (xs : List Expr) → AllAllowed names size xs → AllWithin names size xs → AreClearLabels names size xs
labels-clear names size [] a w = tt
labels-clear names size (x ∷ xs) a w = (record { within = w.0; allowed = a.0 }, labels-clear names size xs a.1 w.1)

module _ (names : Names) (kind : CaseKind) (size : Shape) (c : Selection) (of : IsOf c names kind size) (last : Steps) (a : Work) (signals : HasSignals names a.building) (stands : StandsBelow a) (sized : AreSized names) where
  abbrev Arms-of : List Item → Arms
  Arms-of xs = arms_with c xs last

  item-ready : (j : CaseItem) (xs : List Item) → AllAllowed names size (labels_in j) → AllWithin names size (labels_in j) → AreClear (Arms-of (opened j ∷ xs)) → AreHeld a (arms_targets (Arms-of (opened j ∷ xs))) → IsReadyItem names size j a
  item-ready j xs al w clear held =
      let body : Steps = steps_of (out-CaseItem j).body c.names in
      (labels-clear names size (labels_in j) al w, subst (λ (n : Names). IsReady names (steps_of (out-CaseItem j).body n) a) of.names_are (record { clear = clear.0; held = held-first a (targets body) (arms_targets (Arms-of xs)) held; signals = signals; stands = stands; sized = sized }))

  one-ready : (j : CaseItem) (b : Bool) (xs : List Item) (ys : List CaseItem) → is_empty (labels_in j) ≡ b → AllAllowed names size (labels_in j) → AllWithin names size (labels_in j) → (AreClear (Arms-of xs) → AreHeld a (arms_targets (Arms-of xs)) → AreReadyItems names size ys a) → AreClear (Arms-of (if b then xs else opened j ∷ xs)) → AreHeld a (arms_targets (Arms-of (if b then xs else opened j ∷ xs))) → AreReadyItems names size (j ∷ ys) a
  one-ready j true xs ys is al w rest clear held = (λ e. let no : true ≡ false = sym is ∙ e in cc, rest clear held)
  one-ready j false xs ys is al w rest clear held = (λ e. item-ready j xs al w clear held, rest clear.1 (held-next a (targets (steps_of (out-CaseItem j).body c.names)) (arms_targets (Arms-of xs)) held))

  pub items-ready : (items : List CaseItem) (n : ℕ) → AllAllowed names size (flat_map labels_in items) → LabelsWithin names size items → AreClear (Arms-of (labelled (map item_steps (take n items)))) → AreHeld a (arms_targets (Arms-of (labelled (map item_steps (take n items))))) → AreReadyItems names size (take n items) a
  items-ready [] zero al w clear held = tt
  items-ready [] (suc n) al w clear held = tt
  items-ready (j ∷ js) zero al w clear held = tt
  items-ready (j ∷ js) (suc n) al w clear held =
      let whole = labelled-push j (take n js) in
      one-ready j (is_empty (labels_in j)) (labelled (map item_steps (take n js))) (take n js) refl
      (allowed-first names size (labels_in j) (flat_map labels_in js) al) w.0
      (items-ready js n (allowed-next names size (labels_in j) (flat_map labels_in js) al) w.1)
      (subst (λ (l : List Item). AreClear (Arms-of l)) whole clear)
      (subst (λ (l : List Item). AreHeld a (arms_targets (Arms-of l))) whole held)

  pub last-clear : (xs : List Item) → AreClear (Arms-of xs) → IsClear last
  last-clear [] h = h
  last-clear (x ∷ xs) h = last-clear xs h.1

  pub last-held : (xs : List Item) → AreHeld a (arms_targets (Arms-of xs)) → AreHeld a (targets last)
  last-held [] h = h
  last-held (x ∷ xs) h = last-held xs (held-next a (targets (x.body c.names)) (arms_targets (Arms-of xs)) h)

  pub last-ready : (xs : List Item) → AreClear (Arms-of xs) → AreHeld a (arms_targets (Arms-of xs)) → IsReady names last a
  last-ready xs clear held = record { clear = last-clear xs clear; held = last-held xs held; signals = signals; stands = stands; sized = sized }
