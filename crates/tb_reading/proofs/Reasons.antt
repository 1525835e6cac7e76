-- A module has one reason to be refused, and a bench has none.
use Rattle.tb_reading.proofs.Common.{◌≡◌, ◌≢◌, ◌⊎◌, inl, inr, ℕ, ◌<◌, ◌≤◌, List, Option, None, Some, slice_get, refl, sym, ap, ◌∙◌, subst, arith, Span, RawNetlist, Helper, Module, Names, names_of}
use Rattle.tb_reading.proofs.Common.{BenchError, BenchFault, BenchItem, first_region, Context, IsFirstIn, is_design, is_free, is_generator, some_item, nodes_of, NetNode, places_of, Parts, IsRunnable}
use Rattle.tb_reading.proofs.Common.{Reading, IsBenchOf, IsLoop, IsOnALoop, IsRefusal, IsRefused, IsRead, IsFault, IsReason, answer, context_in, region_fault, NoneRefused, OneRefusal}
use Rattle.std.proofs.lemmas.Bool.{cases_lt}
use Rattle.net_order.specs.Orders.{IsFirst, IsOnLoop}
use Rattle.tb_faults.specs.declared.error.BenchError.TheVariants as e
use Rattle.tb_faults.specs.Order.{earlier}
use Rattle.tb_refusals.proofs.Firsts.{first_once_in}
use Rattle.tb_nets.specs.Nets.{ReadsNode, wiring}
use Rattle.tb_reading.proofs.Readings.{ReadAlike, read_once}

fault_once : (m : Module) (r s : Reading) (f g : Option BenchFault) → ReadAlike r s → IsFault m r f → IsFault m s g → f ≡ g
fault_once m r s f g same h k =
    let context : context_in r ≡ context_in s = λ i. record { names = same.names i; signals = same.declared i; clock = same.clock i; is_free = is_free (same.items i); outputs = same.outputs i } in
    let moved : IsFirstIn (context_in s) r.items.items h.found = subst (λ (c : Context). IsFirstIn c r.items.items h.found) context h.first in
    let first : IsFirstIn (context_in s) s.items.items h.found = subst (λ (xs : List BenchItem). IsFirstIn (context_in s) xs h.found) same.items moved in
    let found : h.found ≡ k.found = first_once_in (context_in s) s.items.items h.found k.found first k.first in
    h.told ∙ ap (λ (x : Option BenchFault). earlier x (region_fault (first_region m.items))) found ∙ sym k.told

reason_once : (m : Module) (r s : Reading) (x y : Option BenchError) → ReadAlike r s → IsReason m r x → IsReason m s y → x ≡ y
reason_once m r s x y same h k =
    let fault : h.fault ≡ k.fault = fault_once m r s h.fault k.fault same h.is_fault k.is_fault in
    h.told ∙ (λ i. answer (fault i) (some_item is_design (same.items i)) (some_item is_generator (same.items i))) ∙ sym k.told

first_number : (P Q : ℕ → Type 0) (m n : ℕ) → P ≡ Q → IsFirst P m → IsFirst Q n → m ≡ n
first_number P Q m n same h k = go (cases_lt m n) (cases_lt n m)
  where
    there : IsFirst Q m
    there = subst (λ (X : ℕ → Type 0). IsFirst X m) same h

    go : (m < n) ⊎ (n ≤ m) → (n < m) ⊎ (m ≤ n) → m ≡ n
    go (inl less) _ = absurd (k.before m less there.here)
    go (inr le) (inl more) = absurd (there.before n more k.here)
    go (inr le) (inr ge) = omega arith

abbrev loops_in : Names → (inputs outputs : List ℕ) → List NetNode → ℕ → Type 0
loops_in names inputs outputs nodes = IsOnLoop (ReadsNode (wiring names inputs outputs) nodes)

place_once : (m top : Module) (netlist : RawNetlist) (x y : Span) → IsLoop m top netlist x → IsLoop m top netlist y → x ≡ y
place_once m top netlist x y h k =
    let same : ReadAlike h.reading k.reading = read_once m top netlist h.reading k.reading h.read k.read in
    let before : ℕ → Type 0 = loops_in (names_of h.reading.signals.scope) h.reading.inputs.items h.reading.outputs.items (nodes_of h.reading.items.items) in
    let after : ℕ → Type 0 = loops_in (names_of k.reading.signals.scope) k.reading.inputs.items k.reading.outputs.items (nodes_of k.reading.items.items) in
    let loops : before ≡ after = λ i. loops_in (same.names i) (same.inputs i) (same.outputs i) (nodes_of (same.items i)) in
    let node : h.node ≡ k.node = first_number before after h.node k.node loops h.first k.first in
    let place : slice_get (places_of h.reading.items.items) h.node ≡ slice_get (places_of k.reading.items.items) k.node = λ i. slice_get (places_of (same.items i)) (node i) in
    let found : Some x ≡ Some y = sym h.place ∙ place ∙ k.place in
    cc

-- a reason other than want of memory
as_reason : (m top : Module) (netlist : RawNetlist) (x : BenchError) → x ≢ e.Memory → IsRefusal m top netlist x → IsRefused m top netlist x ⊎ IsOnALoop m top netlist x
as_reason m top netlist e.Memory some h = absurd (some refl)
as_reason m top netlist (e.Unknown at) some h = h
as_reason m top netlist (e.Twice at) some h = h
as_reason m top netlist (e.NotConstant at) some h = h
as_reason m top netlist (e.DivideByZero at) some h = h
as_reason m top netlist (e.TooWide at) some h = h
as_reason m top netlist (e.Unsupported at feature) some h = h
as_reason m top netlist e.NoDesign some h = h
as_reason m top netlist (e.PortMismatch at) some h = h
as_reason m top netlist e.NoClock some h = h
as_reason m top netlist (e.TwoClocks at) some h = h

not_accepted : (m top : Module) (netlist : RawNetlist) (r : Reading) (x : BenchError) → IsRefused m top netlist x → IsRead m top netlist r → ¬ IsReason m r None
not_accepted m top netlist r x h read none =
    let is : Some x ≡ None = reason_once m h.reading r (Some x) None (read_once m top netlist h.reading r h.read read) h.reason none in
    cc

one : (m top : Module) (netlist : RawNetlist) (x y : BenchError) → IsRefused m top netlist x ⊎ IsOnALoop m top netlist x → IsRefused m top netlist y ⊎ IsOnALoop m top netlist y → x ≡ y
one m top netlist x y (inl h) (inl k) =
    let is : Some x ≡ Some y = reason_once m h.reading k.reading (Some x) (Some y) (read_once m top netlist h.reading k.reading h.read k.read) h.reason k.reason in
    cc
one m top netlist x y (inl h) (inr (at, is, loop)) = absurd (not_accepted m top netlist loop.reading x h loop.read loop.accepted)
one m top netlist x y (inr (at, is, loop)) (inl k) = absurd (not_accepted m top netlist loop.reading y k loop.read loop.accepted)
one m top netlist x y (inr (at, is, loop)) (inr (place, also, other)) = is ∙ ap (λ (p : Span). e.Unsupported p Helper) (place_once m top netlist at place loop other) ∙ sym also

pub refused_once : OneRefusal
refused_once m top netlist x y some other h k = one m top netlist x y (as_reason m top netlist x some h) (as_reason m top netlist y other k)

-- the nets of a bench that can run have no loop
no_loop : (m top : Module) (netlist : RawNetlist) (parts : Parts) (at : Span) → IsBenchOf m top netlist parts → IsRunnable parts → ¬ IsLoop m top netlist at
no_loop m top netlist parts at h runs loop =
    let same : ReadAlike h.reading loop.reading = read_once m top netlist h.reading loop.reading h.read loop.read in
    let names : names_of parts.scope ≡ names_of loop.reading.signals.scope = ap names_of h.parts.scope ∙ same.names in
    let inputs : parts.inputs ≡ loop.reading.inputs.items = h.parts.inputs ∙ same.inputs in
    let outputs : parts.outputs ≡ loop.reading.outputs.items = h.parts.outputs ∙ same.outputs in
    let nodes : parts.nets.nodes ≡ nodes_of loop.reading.items.items = h.parts.nets ∙ ap nodes_of same.items in
    let before : ℕ → Type 0 = loops_in (names_of parts.scope) parts.inputs parts.outputs parts.nets.nodes in
    let after : ℕ → Type 0 = loops_in (names_of loop.reading.signals.scope) loop.reading.inputs.items loop.reading.outputs.items (nodes_of loop.reading.items.items) in
    let loops : before ≡ after = λ i. loops_in (names i) (inputs i) (outputs i) (nodes i) in
    runs.nets.settled.never loop.node (subst (λ (P : ℕ → Type 0). P loop.node) (sym loops) loop.first.here)

pub none_refused : NoneRefused
none_refused m top netlist parts error some h runs refused = go (as_reason m top netlist error some refused)
  where
    go : IsRefused m top netlist error ⊎ IsOnALoop m top netlist error → ⊥
    go (inl reason) = not_accepted m top netlist h.reading error reason h.read h.accepted
    go (inr (at, is, loop)) = no_loop m top netlist parts at h runs loop
