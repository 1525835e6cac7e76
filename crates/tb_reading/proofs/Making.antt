-- What comes of a testbench, from what was read of it.
use Rattle.tb_reading.proofs.Common.{◌≡◌, ℕ, List, None, map, refl, sym, ap, ◌∙◌, subst, inl, slice_index, Span, Helper, Module, RawNetlist, Decl, names_of, BenchError, BenchItem, CanSettle, Nets}
use Rattle.tb_reading.proofs.Common.{IsFaultless, IsWired, Parts, widths, FitsDesign, Reading, IsRead, context_in, IsReason, HasParts, IsBenchOf, IsOnALoop, IsRefused, IsRefusal}
use Rattle.tb_faults.specs.declared.error.BenchError.TheVariants as e
use Rattle.tb_wired.specs.declared.wired.Wired.{Wired}
use Rattle.tb_wired.specs.declared.wired.Wired.TheVariants as w
use Rattle.tb_reading.proofs.Accepting.{accepted, hidden_fit}

-- a reason is a refusal
pub refused_so : (m top : Module) (netlist : RawNetlist) (error : BenchError) → IsRefused m top netlist error → IsRefusal m top netlist error
refused_so m top netlist (e.Unknown at) h = inl h
refused_so m top netlist (e.Twice at) h = inl h
refused_so m top netlist (e.NotConstant at) h = inl h
refused_so m top netlist (e.DivideByZero at) h = inl h
refused_so m top netlist (e.TooWide at) h = inl h
refused_so m top netlist (e.Unsupported at feature) h = inl h
refused_so m top netlist e.NoDesign h = inl h
refused_so m top netlist (e.PortMismatch at) h = inl h
refused_so m top netlist e.NoClock h = inl h
refused_so m top netlist (e.TwoClocks at) h = inl h
refused_so m top netlist e.Memory h = tt

-- items that are accepted have no fault
pub faultless_so : (m : Module) (r : Reading) (scope : List (List ℕ × Decl)) (outputs : List ℕ) (items : List BenchItem) → scope ≡ r.signals.scope → outputs ≡ r.outputs.items → items ≡ r.items.items → IsReason m r None → IsFaultless (names_of scope) outputs items
faultless_so m r scope outputs items same shown listed none =
    let P : List BenchItem → Type 0 = λ xs. IsFaultless (names_of scope) outputs xs in
    subst P (sym listed) (record { context = context_in r; names_are = ap names_of (sym same); outputs_are = sym shown; none = (accepted m r none).0 })

-- what was wired, by what was read
pub wired_so : (s0 s : List (List ℕ × Decl)) (i0 i o0 o : List ℕ) (xs0 xs : List BenchItem) (w0 v : Wired) → s0 ≡ s → i0 ≡ i → o0 ≡ o → xs0 ≡ xs → w0 ≡ v → IsWired (names_of s0) i0 o0 xs0 w0 → IsWired (names_of s) i o xs v
wired_so s0 s i0 i o0 o xs0 xs w0 v scope inputs outputs items is h =
    let A : List (List ℕ × Decl) → Type 0 = λ x. IsWired (names_of x) i0 o0 xs0 w0 in
    let B : List ℕ → Type 0 = λ x. IsWired (names_of s) x o0 xs0 w0 in
    let C : List ℕ → Type 0 = λ x. IsWired (names_of s) i x xs0 w0 in
    let D : List BenchItem → Type 0 = λ x. IsWired (names_of s) i o x w0 in
    let E : Wired → Type 0 = λ x. IsWired (names_of s) i o xs x in
    subst E is (subst D items (subst C outputs (subst B inputs (subst A scope h))))

pub settles_so : (m top : Module) (netlist : RawNetlist) (r : Reading) (nets : Nets) → IsRead m top netlist r → IsReason m r None → IsWired (names_of r.signals.scope) r.inputs.items r.outputs.items r.items.items (w.Nets nets) → CanSettle (names_of r.signals.scope) r.signals.widths r.inputs.items r.outputs.items nets
settles_so m top netlist r nets read none wired =
    let fit = hidden_fit m top netlist r read (accepted m r none).1 in
    wired.1 r.signals.widths fit.0.known fit.1.known

pub loops_so : (m top : Module) (netlist : RawNetlist) (r : Reading) (at : Span) → IsRead m top netlist r → IsReason m r None → IsWired (names_of r.signals.scope) r.inputs.items r.outputs.items r.items.items (w.Loop at) → IsOnALoop m top netlist (e.Unsupported at Helper)
loops_so m top netlist r at read none (node, first, place) = (at, refl, record { reading = r; read = read; accepted = none; node = node; first = first; place = place })

pub bench_so : (m top : Module) (netlist : RawNetlist) (r : Reading) (p : Parts) → IsRead m top netlist r → IsReason m r None → HasParts r p → IsBenchOf m top netlist p × FitsDesign p netlist
bench_so m top netlist r p read none parts =
    let fit = hidden_fit m top netlist r read (accepted m r none).1 in
    let inputs : map (slice_index (widths p)) p.inputs ≡ map (slice_index r.signals.widths) r.inputs.items = ap (λ (x : List ℕ). map (slice_index x) p.inputs) parts.widths_are ∙ ap (λ (x : List ℕ). map (slice_index r.signals.widths) x) parts.inputs in
    let outputs : map (slice_index (widths p)) p.outputs ≡ map (slice_index r.signals.widths) r.outputs.items = ap (λ (x : List ℕ). map (slice_index x) p.outputs) parts.widths_are ∙ ap (λ (x : List ℕ). map (slice_index r.signals.widths) x) parts.outputs in
    (record { reading = r; read = read; accepted = none; parts = parts }, record { inputs = inputs ∙ fit.0.widths_are; outputs = outputs ∙ fit.1.widths_are })
