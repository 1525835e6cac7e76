-- The nets of items without a fault, one item after the other.
use Rattle.tb_apart.proofs.Common.{◌≡◌, ◌⊎◌, inl, inr, zero, suc, ℕ, ◌<◌, ◌≤◌, Bool, true, false, ◌||◌, List, [], ◌∷◌, ◌++◌, take, length, get_or, refl, sym, ap, ◌∙◌, subst, arith, Option, Some}
use Rattle.tb_apart.proofs.Common.{slice_get, append-nil, take_all, Span, Assignment, parts_of, AreSized, NetNode, left_writes, BenchFault, Unsupported, assign_faults, BenchItem, assignment_of}
use Rattle.tb_apart.proofs.Common.{take_more, item_nodes, nodes_of, or_cases, or_left, or_right}
use Rattle.std.proofs.lemmas.Grind.{flat_map-append}
use Rattle.tb_nets.specs.declared.node.NetNode.TheVariants.{Assign, Design}
use Rattle.tb_nets.specs.Nets.{Wiring, wiring, signal_bits, node_writes, writes_of, AreApart}
use Rattle.vlog_syntax.specs.declared.feature.Feature.TheVariants.{Helper}
use Rattle.tb_items.specs.declared.item.BenchItem.TheVariants as b
use Rattle.tb_writers.specs.Writers.{Written, nothing, with_outputs, whole_signal, writer_faults}
use Rattle.tb_refusals.specs.Refusals.{Context, written, second, is_design, some_item, net_faults, own_item_faults, item_faults, AreFaultless}
use Rattle.tb_apart.specs.Laws.{NetsAreApart}
use Rattle.tb_apart.proofs.Told.{AreTold, told_parts}
use Rattle.tb_apart.proofs.Meeting.{item_keeps, net_clash, net_writes}
use Rattle.tb_apart.proofs.Listed.{one_of, some_writes, apart_more}
use Rattle.tb_refusals.proofs.Notes.{written_more}

-- What stands of the nets of these items.
record Standing (c : Context) (inputs : List ℕ) (before : List BenchItem) : Type 0 where
  apart : AreApart (wiring c.names inputs c.outputs) (nodes_of before)
  among : (k n i : ℕ) → writes_of (wiring c.names inputs c.outputs) (slice_get (nodes_of before) k) n i ≡ true → (written c before).nets n i ≡ true
  outputs : (n i : ℕ) → signal_bits c.outputs n i ≡ true → (written c before).nets n i ≡ true
  alone : (k n i : ℕ) (a : Assignment) → slice_get (nodes_of before) k ≡ Some (Assign a) → left_writes c.names (parts_of a.left) n i ≡ true → signal_bits c.outputs n i ≡ true → ⊥
  single : some_item is_design before ≡ false → (k : ℕ) → slice_get (nodes_of before) k ≡ Some Design → ⊥

-- One item more.

pub nodes_more : (before : List BenchItem) (x : BenchItem) → nodes_of (before ++ x ∷ []) ≡ nodes_of before ++ item_nodes x
nodes_more before x = flat_map-append item_nodes before (x ∷ []) ∙ ap (λ (l : List NetNode). nodes_of before ++ l) (append-nil (item_nodes x))

keeps : (c : Context) (before : List BenchItem) (x : BenchItem) (n i : ℕ) → (written c before).nets n i ≡ true → (written c (before ++ x ∷ [])).nets n i ≡ true
keeps c before x n i e = subst (λ (w : Written). w.nets n i ≡ true) (sym (written_more c.names (with_outputs nothing c.outputs) before x)) (item_keeps c.names (written c before) x n i e)

no_design : (before : List BenchItem) (x : BenchItem) → some_item is_design (before ++ x ∷ []) ≡ false → some_item is_design before ≡ false
no_design [] x e = refl
no_design (y ∷ ys) x e = go (is_design y) (some_item is_design (ys ++ x ∷ [])) e (no_design ys x)
  where
    go : (a more : Bool) → (a || more) ≡ false → (more ≡ false → some_item is_design ys ≡ false) → (a || some_item is_design ys) ≡ false
    go true more h later = absurd cc
    go false more h later = later h

has_design : (before : List BenchItem) (at : Span) → some_item is_design (before ++ b.Holds at ∷ []) ≡ false → ⊥
has_design [] at e = absurd cc
has_design (y ∷ ys) at e = go (is_design y) e (has_design ys at)
  where
    go : (a : Bool) → (a || some_item is_design (ys ++ b.Holds at ∷ [])) ≡ false → (some_item is_design (ys ++ b.Holds at ∷ []) ≡ false → ⊥) → ⊥
    go true h later = absurd cc
    go false h later = later h

pub left_nil : (xs ys : List BenchFault) → xs ++ ys ≡ [] → xs ≡ []
left_nil [] ys e = refl
left_nil (x ∷ xs) ys e = absurd cc

pub right_nil : (xs ys : List BenchFault) → xs ++ ys ≡ [] → ys ≡ []
right_nil [] ys e = e
right_nil (x ∷ xs) ys e = absurd cc

-- An item that is no net.

plain_nodes : (before : List BenchItem) (x : BenchItem) → item_nodes x ≡ [] → nodes_of (before ++ x ∷ []) ≡ nodes_of before
plain_nodes before x none = nodes_more before x ∙ ap (λ (l : List NetNode). nodes_of before ++ l) none ∙ append-nil (nodes_of before)

plain : (c : Context) (inputs : List ℕ) (before : List BenchItem) (x : BenchItem) → item_nodes x ≡ [] → Standing c inputs before → Standing c inputs (before ++ x ∷ [])
plain c inputs before x none s =
    let w : Wiring = wiring c.names inputs c.outputs in
    let same : nodes_of (before ++ x ∷ []) ≡ nodes_of before = plain_nodes before x none in
    record {
      apart = subst (AreApart w) (sym same) s.apart;
      among = λ k n i e. keeps c before x n i (s.among k n i (ap (λ (l : List NetNode). writes_of w (slice_get l k) n i) (sym same) ∙ e));
      outputs = λ n i e. keeps c before x n i (s.outputs n i e);
      alone = λ k n i a at e f. s.alone k n i a (ap (λ (l : List NetNode). slice_get l k) (sym same) ∙ at) e f;
      single = λ none k at. s.single (no_design before x none) k (ap (λ (l : List NetNode). slice_get l k) (sym same) ∙ at);
    }

-- An assignment.

own_net : (c : Context) (before : List BenchItem) (x : BenchItem) (a : Assignment) → assignment_of x ≡ Some a → own_item_faults c before x ≡ [] → assign_faults c.names a.left a.value ≡ []
own_net c before (b.Refused fault) a is none = absurd cc
own_net c before (b.Starts k x) a is none = absurd cc
own_net c before (b.Drives name x) a is none = sym (ap (net_faults c) is) ∙ none
own_net c before (b.Assigns x) a is none = sym (ap (net_faults c) is) ∙ none
own_net c before (b.Clocks at g) a is none = absurd cc
own_net c before (b.Runs p) a is none = absurd cc
own_net c before (b.Holds at) a is none = absurd cc
own_net c before (b.Reads x) a is none = absurd cc
own_net c before (b.Enters port x) a is none = sym (ap (net_faults c) is) ∙ none
own_net c before (b.Leaves port left) a is none = sym (ap (net_faults c) is) ∙ none

node_nodes : (before : List BenchItem) (x : BenchItem) (node : NetNode) → item_nodes x ≡ node ∷ [] → nodes_of (before ++ x ∷ []) ≡ nodes_of before ++ node ∷ []
node_nodes before x node is = nodes_more before x ∙ ap (λ (l : List NetNode). nodes_of before ++ l) is

module _ (c : Context) (inputs : List ℕ) (before : List BenchItem) (x : BenchItem) (a : Assignment) (sized : AreSized c.names) (node : item_nodes x ≡ Assign a ∷ []) (is : assignment_of x ≡ Some a) (none : item_faults c before x ≡ []) (s : Standing c inputs before) where
  abbrev w : Wiring
  w = wiring c.names inputs c.outputs

  faults : writer_faults c.names (written c before) x ≡ []
  faults = right_nil (own_item_faults c before x) (writer_faults c.names (written c before) x) none

  told : AreTold c.names (parts_of a.left)
  told = told_parts c.names a.left a.value (own_net c before x a is (left_nil (own_item_faults c before x) (writer_faults c.names (written c before) x) none))

  clash : (n i : ℕ) → left_writes c.names (parts_of a.left) n i ≡ true → (written c before).nets n i ≡ true → ⊥
  clash n i e f = net_clash c.names (written c before) x a n i sized told is faults e f

  new_writes : (n i : ℕ) → left_writes c.names (parts_of a.left) n i ≡ true → (written c (before ++ x ∷ [])).nets n i ≡ true
  new_writes n i e = subst (λ (v : Written). v.nets n i ≡ true) (sym (written_more c.names (with_outputs nothing c.outputs) before x)) (net_writes c.names (written c before) x a n i told is e)

  same : nodes_of (before ++ x ∷ []) ≡ nodes_of before ++ Assign a ∷ []
  same = node_nodes before x (Assign a) node

  placed : (k : ℕ) (y : NetNode) → slice_get (nodes_of (before ++ x ∷ [])) k ≡ Some y → (slice_get (nodes_of before) k ≡ Some y) ⊎ ((k ≡ length (nodes_of before)) × (y ≡ Assign a))
  placed k y at = one_of (nodes_of before) (Assign a) y k (ap (λ (l : List NetNode). slice_get l k) (sym same) ∙ at)

  among_more : (k n i : ℕ) → writes_of w (slice_get (nodes_of (before ++ x ∷ [])) k) n i ≡ true → (written c (before ++ x ∷ [])).nets n i ≡ true
  among_more k n i e = go (some_writes w (slice_get (nodes_of (before ++ x ∷ [])) k) n i e)
    where
      pick : (y : NetNode) → node_writes w y n i ≡ true → ((slice_get (nodes_of before) k ≡ Some y) ⊎ ((k ≡ length (nodes_of before)) × (y ≡ Assign a))) → (written c (before ++ x ∷ [])).nets n i ≡ true
      pick y h (inl at) = keeps c before x n i (s.among k n i (ap (λ (o : Option NetNode). writes_of w o n i) at ∙ h))
      pick y h (inr at) = new_writes n i (ap (λ (z : NetNode). node_writes w z n i) (sym at.1) ∙ h)

      go : ((y : NetNode) × ((slice_get (nodes_of (before ++ x ∷ [])) k ≡ Some y) × (node_writes w y n i ≡ true))) → (written c (before ++ x ∷ [])).nets n i ≡ true
      go y = pick y.0 y.1.1 (placed k y.0 y.1.0)

  same_assignment : (d : Assignment) → Assign d ≡ Assign a → d ≡ a
  same_assignment d e = cc

  alone_more : (k n i : ℕ) (d : Assignment) → slice_get (nodes_of (before ++ x ∷ [])) k ≡ Some (Assign d) → left_writes c.names (parts_of d.left) n i ≡ true → signal_bits c.outputs n i ≡ true → ⊥
  alone_more k n i d at e f = go (placed k (Assign d) at)
    where
      go : ((slice_get (nodes_of before) k ≡ Some (Assign d)) ⊎ ((k ≡ length (nodes_of before)) × (Assign d ≡ Assign a))) → ⊥
      go (inl old) = s.alone k n i d old e f
      go (inr new) = clash n i (ap (λ (z : Assignment). left_writes c.names (parts_of z.left) n i) (sym (same_assignment d new.1)) ∙ e) (s.outputs n i f)

  single_more : some_item is_design (before ++ x ∷ []) ≡ false → (k : ℕ) → slice_get (nodes_of (before ++ x ∷ [])) k ≡ Some Design → ⊥
  single_more h k at = go (placed k Design at)
    where
      go : ((slice_get (nodes_of before) k ≡ Some Design) ⊎ ((k ≡ length (nodes_of before)) × (Design ≡ Assign a))) → ⊥
      go (inl old) = s.single (no_design before x h) k old
      go (inr new) = absurd cc

  assigned : Standing c inputs (before ++ x ∷ [])
  assigned = record {
    apart = subst (AreApart w) (sym same) (apart_more w (nodes_of before) (Assign a) s.apart (λ k n i e f. clash n i f (s.among k n i e)));
    among = among_more;
    outputs = λ n i e. keeps c before x n i (s.outputs n i e);
    alone = alone_more;
    single = single_more;
  }

-- The design.

alone_there : (t : Bool) (fault : BenchFault) → second t fault ≡ [] → t ≡ false
alone_there true fault e = absurd cc
alone_there false fault e = refl

module _ (c : Context) (inputs : List ℕ) (before : List BenchItem) (at : Span) (none : item_faults c before (b.Holds at) ≡ []) (s : Standing c inputs before) where
  abbrev nets : Wiring
  nets = wiring c.names inputs c.outputs

  is_first : some_item is_design before ≡ false
  is_first = alone_there (some_item is_design before) (Unsupported at Helper) (left_nil (own_item_faults c before (b.Holds at)) (writer_faults c.names (written c before) (b.Holds at)) none)

  no_clash : (k n i : ℕ) → writes_of nets (slice_get (nodes_of before) k) n i ≡ true → signal_bits c.outputs n i ≡ true → ⊥
  no_clash k n i e f = go (some_writes nets (slice_get (nodes_of before) k) n i e)
    where
      pick : (y : NetNode) → slice_get (nodes_of before) k ≡ Some y → node_writes nets y n i ≡ true → ⊥
      pick (Assign d) there h = s.alone k n i d there h f
      pick Design there h = s.single is_first k there

      go : ((y : NetNode) × ((slice_get (nodes_of before) k ≡ Some y) × (node_writes nets y n i ≡ true))) → ⊥
      go y = pick y.0 y.1.0 y.1.1

  same_nodes : nodes_of (before ++ b.Holds at ∷ []) ≡ nodes_of before ++ Design ∷ []
  same_nodes = node_nodes before (b.Holds at) Design refl

  place_of : (k : ℕ) (y : NetNode) → slice_get (nodes_of (before ++ b.Holds at ∷ [])) k ≡ Some y → (slice_get (nodes_of before) k ≡ Some y) ⊎ ((k ≡ length (nodes_of before)) × (y ≡ Design))
  place_of k y there = one_of (nodes_of before) Design y k (ap (λ (l : List NetNode). slice_get l k) (sym same_nodes) ∙ there)

  design_among : (k n i : ℕ) → writes_of nets (slice_get (nodes_of (before ++ b.Holds at ∷ [])) k) n i ≡ true → (written c (before ++ b.Holds at ∷ [])).nets n i ≡ true
  design_among k n i e = go (some_writes nets (slice_get (nodes_of (before ++ b.Holds at ∷ [])) k) n i e)
    where
      pick : (y : NetNode) → node_writes nets y n i ≡ true → ((slice_get (nodes_of before) k ≡ Some y) ⊎ ((k ≡ length (nodes_of before)) × (y ≡ Design))) → (written c (before ++ b.Holds at ∷ [])).nets n i ≡ true
      pick y h (inl there) = keeps c before (b.Holds at) n i (s.among k n i (ap (λ (o : Option NetNode). writes_of nets o n i) there ∙ h))
      pick y h (inr is) = keeps c before (b.Holds at) n i (s.outputs n i (ap (λ (z : NetNode). node_writes nets z n i) (sym is.1) ∙ h))

      go : ((y : NetNode) × ((slice_get (nodes_of (before ++ b.Holds at ∷ [])) k ≡ Some y) × (node_writes nets y n i ≡ true))) → (written c (before ++ b.Holds at ∷ [])).nets n i ≡ true
      go y = pick y.0 y.1.1 (place_of k y.0 y.1.0)

  design_alone : (k n i : ℕ) (d : Assignment) → slice_get (nodes_of (before ++ b.Holds at ∷ [])) k ≡ Some (Assign d) → left_writes c.names (parts_of d.left) n i ≡ true → signal_bits c.outputs n i ≡ true → ⊥
  design_alone k n i d there e f = go (place_of k (Assign d) there)
    where
      go : ((slice_get (nodes_of before) k ≡ Some (Assign d)) ⊎ ((k ≡ length (nodes_of before)) × (Assign d ≡ Design))) → ⊥
      go (inl old) = s.alone k n i d old e f
      go (inr new) = absurd cc

  held : Standing c inputs (before ++ b.Holds at ∷ [])
  held = record {
    apart = subst (AreApart nets) (sym same_nodes) (apart_more nets (nodes_of before) Design s.apart no_clash);
    among = design_among;
    outputs = λ n i e. keeps c before (b.Holds at) n i (s.outputs n i e);
    alone = design_alone;
    single = λ h. absurd (has_design before at h);
  }

-- Any item.

one_more : (c : Context) (inputs : List ℕ) (before : List BenchItem) (x : BenchItem) → AreSized c.names → item_faults c before x ≡ [] → Standing c inputs before → Standing c inputs (before ++ x ∷ [])
one_more c inputs before (b.Refused f) sized none s = plain c inputs before (b.Refused f) refl s
one_more c inputs before (b.Starts k x) sized none s = plain c inputs before (b.Starts k x) refl s
one_more c inputs before (b.Drives n x) sized none s = assigned c inputs before (b.Drives n x) _ sized refl refl none s
one_more c inputs before (b.Assigns a) sized none s = assigned c inputs before (b.Assigns a) a sized refl refl none s
one_more c inputs before (b.Clocks at g) sized none s = plain c inputs before (b.Clocks at g) refl s
one_more c inputs before (b.Runs p) sized none s = plain c inputs before (b.Runs p) refl s
one_more c inputs before (b.Holds at) sized none s = held c inputs before at none s
one_more c inputs before (b.Reads x) sized none s = plain c inputs before (b.Reads x) refl s
one_more c inputs before (b.Enters port x) sized none s = assigned c inputs before (b.Enters port x) _ sized refl refl none s
one_more c inputs before (b.Leaves port left) sized none s = assigned c inputs before (b.Leaves port left) _ sized refl refl none s

-- No items.

outputs_keep : (w : Written) (ks : List ℕ) (n i : ℕ) → w.nets n i ≡ true → (with_outputs w ks).nets n i ≡ true
outputs_keep w [] n i e = e
outputs_keep w (k ∷ ks) n i e = outputs_keep (record w { nets = λ m j. w.nets m j || whole_signal k m j }) ks n i (or_left (w.nets n i) (whole_signal k n i) e)

outputs_written : (w : Written) (ks : List ℕ) (n i : ℕ) → signal_bits ks n i ≡ true → (with_outputs w ks).nets n i ≡ true
outputs_written w [] n i e = absurd cc
outputs_written w (k ∷ ks) n i e = go (or_cases (whole_signal k n i) (signal_bits ks n i) e) (outputs_written (record w { nets = λ m j. w.nets m j || whole_signal k m j }) ks n i)
  where
    go : ((whole_signal k n i ≡ true) ⊎ (signal_bits ks n i ≡ true)) → (signal_bits ks n i ≡ true → (with_outputs (record w { nets = λ m j. w.nets m j || whole_signal k m j }) ks).nets n i ≡ true) → (with_outputs (record w { nets = λ m j. w.nets m j || whole_signal k m j }) ks).nets n i ≡ true
    go (inl here) later = outputs_keep (record w { nets = λ m j. w.nets m j || whole_signal k m j }) ks n i (or_right (w.nets n i) (whole_signal k n i) here)
    go (inr more) later = later more

none_yet : (c : Context) (inputs : List ℕ) → Standing c inputs []
none_yet c inputs = record {
  apart = λ k d n i e f. absurd cc;
  among = λ k n i e. absurd cc;
  outputs = λ n i e. outputs_written nothing c.outputs n i e;
  alone = λ k n i a at e f. absurd cc;
  single = λ none k at. absurd cc;
}

-- All items.

pub within : (xs : List BenchItem) (k : ℕ) (d : BenchItem) → k < length xs → slice_get xs k ≡ Some (get_or xs k d)
within [] k d h = absurd (omega arith)
within (x ∷ xs) zero d h = refl
within (x ∷ xs) (suc k) d h = within xs k d (omega arith)

pub get_itself : (xs : List BenchItem) (k : ℕ) (d : BenchItem) → k < length xs → get_or xs k d ≡ get_or xs k (get_or xs k d)
get_itself [] k d h = absurd (omega arith)
get_itself (x ∷ xs) zero d h = refl
get_itself (x ∷ xs) (suc k) d h = get_itself xs k d (omega arith)

stands : (c : Context) (inputs : List ℕ) (items : List BenchItem) → AreSized c.names → AreFaultless c items (length items) → (k : ℕ) → k ≤ length items → Standing c inputs (take k items)
stands c inputs items sized none zero h = none_yet c inputs
stands c inputs items sized none (suc k) h =
    let any : BenchItem = b.Holds (record { file = 0; line = 0; col = 0 }) in
    let x : BenchItem = get_or items k any in
    let inside : k < length items = omega arith in
    let before : Standing c inputs (take k items) = stands c inputs items sized none k (omega arith) in
    subst (Standing c inputs) (sym (take_more items k x (get_itself items k any inside) inside)) (one_more c inputs (take k items) x sized (none k x inside (within items k any inside)) before)

pub nets_apart : NetsAreApart
nets_apart c items inputs sized none =
    let all : Standing c inputs (take (length items) items) = stands c inputs items sized none (length items) (omega arith) in
    subst (λ (l : List BenchItem). AreApart (wiring c.names inputs c.outputs) (nodes_of l)) (take_all (length items) items (omega arith)) all.apart
