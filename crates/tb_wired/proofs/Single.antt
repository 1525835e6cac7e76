-- The design stands among the nets of items without a fault once.
use Rattle.tb_wired.proofs.Common.{◌≡◌, ◌⊎◌, inl, inr, zero, suc, ℕ, ◌<◌, ◌≤◌, Bool, true, false, ◌||◌, List, [], ◌∷◌, ◌++◌, take, length, get_or, refl, sym, ap, ◌∙◌, subst, arith, Some, slice_get}
use Rattle.tb_wired.proofs.Common.{Assignment, BenchFault, Unsupported, BenchItem, NetNode, Assign, Design, item_nodes, nodes_of, left_nil, within, get_itself, nodes_more}
use Rattle.std.proofs.lemmas.List.{append-nil, take_all}
use Rattle.mcy_base.specs.declared.span.Span.{Span}
use Rattle.vlog_syntax.specs.declared.feature.Feature.TheVariants.{Helper}
use Rattle.tb_items.specs.declared.item.BenchItem.TheVariants as b
use Rattle.tb_writers.specs.Writers.{writer_faults}
use Rattle.tb_refusals.specs.Refusals.{Context, written, second, is_design, some_item, own_item_faults, item_faults, AreFaultless}
use Rattle.tb_refusals.proofs.Firsts.{take_more}
use Rattle.tb_apart.proofs.Listed.{one_of}
use Rattle.elab_proc.proofs.CaseLemmas.{or_again, or_false}

abbrev pub HasDesign : List NetNode → Type 0
HasDesign nodes = (k : ℕ) × (slice_get nodes k ≡ Some Design) × ((j : ℕ) → slice_get nodes j ≡ Some Design → j ≡ k)

abbrev pub HasNone : List NetNode → Type 0
HasNone nodes = (k : ℕ) → slice_get nodes k ≡ Some Design → ⊥

-- what holds of the nets of the first items, where the design is among them or is not
abbrev Tells : Bool → List NetNode → Type 0
Tells false nodes = HasNone nodes
Tells true nodes = HasDesign nodes

abbrev Standing : List BenchItem → Type 0
Standing before = Tells (some_item is_design before) (nodes_of before)

-- One item more.

some_more : (before : List BenchItem) (x : BenchItem) → some_item is_design (before ++ x ∷ []) ≡ some_item is_design before || is_design x
some_more [] x = or_false (is_design x)
some_more (y ∷ ys) x = ap (λ (c : Bool). is_design y || c) (some_more ys x) ∙ or_again (is_design y) (some_item is_design ys) (is_design x)

put : (before : List BenchItem) (x : BenchItem) (is : Bool) (nodes : List NetNode) → some_item is_design before || is_design x ≡ is → nodes_of before ++ item_nodes x ≡ nodes → Tells is nodes → Standing (before ++ x ∷ [])
put before x is nodes some_is nodes_are h = subst (λ (c : Bool). Tells c (nodes_of (before ++ x ∷ []))) (sym (some_more before x ∙ some_is)) (subst (Tells is) (sym (nodes_more before x ∙ nodes_are)) h)

-- An item that is no net.

plain : (before : List BenchItem) (x : BenchItem) → item_nodes x ≡ [] → is_design x ≡ false → Standing before → Standing (before ++ x ∷ [])
plain before x none other s = put before x (some_item is_design before) (nodes_of before) (ap (λ (c : Bool). some_item is_design before || c) other ∙ or_false (some_item is_design before)) (ap (λ (l : List NetNode). nodes_of before ++ l) none ∙ append-nil (nodes_of before)) s

-- An assignment.

still_there : (xs ys : List NetNode) (k : ℕ) (y : NetNode) → slice_get xs k ≡ Some y → slice_get (xs ++ ys) k ≡ Some y
still_there [] ys k y e = absurd cc
still_there (x ∷ xs) ys zero y e = e
still_there (x ∷ xs) ys (suc k) y e = still_there xs ys k y e

no_assign : (a : Assignment) → Design ≡ Assign a → ⊥
no_assign a e = absurd cc

none_more : (nodes : List NetNode) (a : Assignment) → HasNone nodes → HasNone (nodes ++ Assign a ∷ [])
none_more nodes a none k at = go (one_of nodes (Assign a) Design k at)
  where
    go : ((slice_get nodes k ≡ Some Design) ⊎ ((k ≡ length nodes) × (Design ≡ Assign a))) → ⊥
    go (inl old) = none k old
    go (inr new) = no_assign a new.1

one_still : (nodes : List NetNode) (a : Assignment) → HasDesign nodes → HasDesign (nodes ++ Assign a ∷ [])
one_still nodes a one = (one.0, still_there nodes (Assign a ∷ []) one.0 Design one.1, λ j at. go j (one_of nodes (Assign a) Design j at))
  where
    go : (j : ℕ) → ((slice_get nodes j ≡ Some Design) ⊎ ((j ≡ length nodes) × (Design ≡ Assign a))) → j ≡ one.0
    go j (inl old) = one.2 j old
    go j (inr new) = absurd (no_assign a new.1)

tells_more : (is : Bool) (nodes : List NetNode) (a : Assignment) → Tells is nodes → Tells is (nodes ++ Assign a ∷ [])
tells_more false nodes a h = none_more nodes a h
tells_more true nodes a h = one_still nodes a h

assigned : (before : List BenchItem) (x : BenchItem) (a : Assignment) → item_nodes x ≡ Assign a ∷ [] → is_design x ≡ false → Standing before → Standing (before ++ x ∷ [])
assigned before x a node other s = put before x (some_item is_design before) (nodes_of before ++ Assign a ∷ []) (ap (λ (c : Bool). some_item is_design before || c) other ∙ or_false (some_item is_design before)) (ap (λ (l : List NetNode). nodes_of before ++ l) node) (tells_more (some_item is_design before) (nodes_of before) a s)

-- The design.

is_first : (c : Context) (before : List BenchItem) (at : Span) → item_faults c before (b.Holds at) ≡ [] → some_item is_design before ≡ false
is_first c before at none = go (some_item is_design before) (Unsupported at Helper) (left_nil (own_item_faults c before (b.Holds at)) (writer_faults c.names (written c before) (b.Holds at)) none)
  where
    go : (t : Bool) (fault : BenchFault) → second t fault ≡ [] → t ≡ false
    go true fault e = absurd cc
    go false fault e = refl

at_end : (nodes : List NetNode) → slice_get (nodes ++ Design ∷ []) (length nodes) ≡ Some Design
at_end [] = refl
at_end (x ∷ xs) = at_end xs

first_one : (nodes : List NetNode) → HasNone nodes → HasDesign (nodes ++ Design ∷ [])
first_one nodes none = (length nodes, at_end nodes, λ j at. go j (one_of nodes Design Design j at))
  where
    go : (j : ℕ) → ((slice_get nodes j ≡ Some Design) ⊎ ((j ≡ length nodes) × (Design ≡ Design))) → j ≡ length nodes
    go j (inl old) = absurd (none j old)
    go j (inr new) = new.0

held : (c : Context) (before : List BenchItem) (at : Span) → item_faults c before (b.Holds at) ≡ [] → Standing before → Standing (before ++ b.Holds at ∷ [])
held c before at none s =
    let alone : some_item is_design before ≡ false = is_first c before at none in
    put before (b.Holds at) true (nodes_of before ++ Design ∷ []) (ap (λ (t : Bool). t || true) alone) refl (first_one (nodes_of before) (subst (λ (t : Bool). Tells t (nodes_of before)) alone s))

-- Any item.

one_more : (c : Context) (before : List BenchItem) (x : BenchItem) → item_faults c before x ≡ [] → Standing before → Standing (before ++ x ∷ [])
one_more c before (b.Refused f) none s = plain before (b.Refused f) refl refl s
one_more c before (b.Starts k x) none s = plain before (b.Starts k x) refl refl s
one_more c before (b.Drives n x) none s = assigned before (b.Drives n x) _ refl refl s
one_more c before (b.Assigns a) none s = assigned before (b.Assigns a) a refl refl s
one_more c before (b.Clocks at g) none s = plain before (b.Clocks at g) refl refl s
one_more c before (b.Runs p) none s = plain before (b.Runs p) refl refl s
one_more c before (b.Holds at) none s = held c before at none s
one_more c before (b.Reads x) none s = plain before (b.Reads x) refl refl s
one_more c before (b.Enters port x) none s = assigned before (b.Enters port x) _ refl refl s
one_more c before (b.Leaves port left) none s = assigned before (b.Leaves port left) _ refl refl s

-- All items.

stands : (c : Context) (items : List BenchItem) → AreFaultless c items (length items) → (k : ℕ) → k ≤ length items → Standing (take k items)
stands c items none zero h = λ k e. absurd cc
stands c items none (suc k) h =
    let any : BenchItem = b.Holds (record { file = 0; line = 0; col = 0 }) in
    let x : BenchItem = get_or items k any in
    let inside : k < length items = omega arith in
    subst Standing (sym (take_more items k x (get_itself items k any inside) inside)) (one_more c (take k items) x (none k x inside (within items k any inside)) (stands c items none k (omega arith)))

pub design_once : (c : Context) (items : List BenchItem) → AreFaultless c items (length items) → some_item is_design items ≡ true → HasDesign (nodes_of items)
design_once c items none some_is =
    let all : Standing items = subst Standing (take_all (length items) items (omega arith)) (stands c items none (length items) (omega arith)) in
    subst (λ (t : Bool). Tells t (nodes_of items)) some_is all
