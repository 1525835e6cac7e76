-- Each run of the netlist in which readers see the mutated bit is one of the mutant, with the bit's value at the new net.
use Rattle.mutation_sites.proofs.Common.{◌≡◌, ◌≢◌, ℕ, zero, suc, ◌+◌, ◌%◌, Bool, true, false, List, [], ◌∷◌, map, length, slice_get, Some, inl, inr, refl, sym, ap, subst, ◌∙◌, arith, slice_set}
use Rattle.mutation_sites.proofs.Common.{eqb_tells, Span, Bit, Fixed, Net, Gate, Not, Xor, Xnor, Flop, RawNetlist, number, cell_value, Nets, Port, Next, Outputs, bit_value, values, plain, bits_at}
use Rattle.mutation_sites.proofs.Common.{q_bits, d_bits, input_ports, output_port, ports_seen, Computes, port_numbers, Holds, shown, taken, IsRun, IsRunBy, outputs_by, times, times_at, drivers}
use Rattle.mutation_sites.proofs.Common.{readers, with_net, Plan, IsSound, Mode, Inv, Const0, Const1, Cnot0, Cnot1, Site, Readers, Change, Nothing, AtBit, AtNet, mutated, mutated_value, change_of}
use Rattle.mutation_sites.proofs.Common.{readers_at, port_at, seen, sight_at, with_mutated, HasEachRun, cell_connected, new_bit, new_cells, bit_of, control_of, span_at, mutant_of}
use Rattle.netlist_core.specs.declared.port.Port as port
use Rattle.netlist_core.proofs.Settles.{values-agree, ports-agree, with_net-same, with_net-other}
use Rattle.mutation_sites.proofs.Alike.{see_by, ports-seen, output-same, mutated_at-bits, q-same, taken-same, shown-same}
use Rattle.mutation_sites.proofs.Unread.{times-self, apart, apart-ports, bit-has, ports-split, place-has, cell-has, unread, cell-cases}

-- A value at a number that isn't there changes nothing.

bit-other : (nets : Nets) (n : ℕ) (v : Bool) (bit : Bit) → times n (bit ∷ []) ≡ 0 → bit_value (with_net nets n v) bit ≡ bit_value nets bit
bit-other nets n v (Fixed b) none = refl
bit-other nets n v (Net m) none = with_net-other nets n m v (apart n m (Net m ∷ []) none (omega (arith, times-self m)))

values-other : (nets : Nets) (n : ℕ) (v : Bool) (bits : List Bit) → times n bits ≡ 0 → values (with_net nets n v) bits ≡ values nets bits
values-other nets n v bits none = values-agree (with_net nets n v) nets bits (λ m some. with_net-other nets n m v (apart n m bits none some))

numbers-other : (nets : Nets) (n : ℕ) (v : Bool) (ports : List (List Bit)) → times_at n ports ≡ 0 → port_numbers (with_net nets n v) ports ≡ port_numbers nets ports
numbers-other nets n v ports none = ports-agree (with_net nets n v) nets ports (λ m some. with_net-other nets n m v (apart-ports n m ports none some))

over : (nets : Nets) (k n m : ℕ) (v w : Bool) → m ≢ n → with_net (with_net nets n w) k v m ≡ with_net nets k v m
over nets k n m v w other = elim (eqb_tells m k) [
  | inl same ↦ rw same.0 refl
  | inr differ ↦ rw differ.0 (with_net-other nets n m w other)
]

seen-other : (change : Change) (v : Bool) (nets : Nets) (n : ℕ) (w : Bool) (bits : List Bit) → times n bits ≡ 0 → seen change v (with_net nets n w) bits ≡ seen change v nets bits
seen-other Nothing v nets n w bits none = values-other nets n w bits none
seen-other (AtBit i) v nets n w bits none = ap (λ (seen_bits : List Bool). slice_set seen_bits i v) (values-other nets n w bits none)
seen-other (AtNet k) v nets n w bits none = values-agree (with_net (with_net nets n w) k v) (with_net nets k v) bits (λ m some. over nets k n m v w (apart n m bits none some))

ports-other : (taps : Readers) (v : Bool) (nets : Nets) (n : ℕ) (w : Bool) (c p : ℕ) (ports : List (List Bit)) → times_at n ports ≡ 0 → ports_seen (see_by taps v (with_net nets n w)) c p ports ≡ ports_seen (see_by taps v nets) c p ports
ports-other taps v nets n w c p [] none = refl
ports-other taps v nets n w c p (bits ∷ more) none =
    let first = seen-other (change_of taps (Port c p)) v nets n w bits (omega (arith, none)) in
    let rest = ports-other taps v nets n w c (p + 1) more (omega (arith, none)) in
    cc

taken-other : (taps : Readers) (v : Bool) (nets : Nets) (n : ℕ) (w : Bool) (r : ℕ) (registers : List Flop) → times_at n (d_bits registers) ≡ 0 → taken (see_by taps v (with_net nets n w)) r registers ≡ taken (see_by taps v nets) r registers
taken-other taps v nets n w r [] none = refl
taken-other taps v nets n w r (register ∷ more) none =
    let first = ap number (seen-other (change_of taps (Next r)) v nets n w register.d (omega (arith, none))) in
    let rest = taken-other taps v nets n w (r + 1) more (omega (arith, none)) in
    cc

shown-other : (taps : Readers) (v : Bool) (nets : Nets) (n : ℕ) (w : Bool) (outputs : List port.Port) → times_at n (bits_at outputs) ≡ 0 → map (λ bits. number (see_by taps v (with_net nets n w) Outputs bits)) (bits_at outputs) ≡ map (λ bits. number (see_by taps v nets Outputs bits)) (bits_at outputs)
shown-other taps v nets n w [] none = refl
shown-other taps v nets n w (p ∷ more) none =
    let first = ap number (seen-other (change_of taps Outputs) v nets n w p.bits (omega (arith, none))) in
    let rest = shown-other taps v nets n w more (omega (arith, none)) in
    cc

-- Cells compute.

old-computes : (nets : Nets) (taps : Readers) (new : Bit) (n : ℕ) (v : Bool) (c : ℕ) (cell : Gate) → bit_value (with_net nets n v) new ≡ v → times_at n cell.ports ≡ 0 → Computes (see_by taps v nets) nets c cell → Computes (plain (with_net nets n v)) (with_net nets n v) c (cell_connected taps new c cell)
old-computes nets taps new n v c cell is none h =
    let after = with_net nets n v in
    let ins = input_ports cell.ports in
    let split = ports-split n cell.ports in
    let out = output-same taps new c 0 cell.ports in
    let left = ap (λ (y : List Bit). number (values after y)) out ∙ ap number (values-other nets n v (output_port cell.ports) (omega (arith, none, split))) in
    let ports = ports-seen after taps new c 0 cell.ports ∙ ap (λ (b : Bool). ports_seen (see_by taps b after) c 0 ins) is ∙ ports-other taps v nets n v c 0 ins (omega (arith, none, split)) in
    let width = ap (λ (y : List Bit). cell_value cell.kind cell.is_signed (length y) (ports_seen (see_by taps v nets) c 0 ins)) out in
    let right = ap (cell_value cell.kind cell.is_signed (length (output_port (cell_connected taps new c cell).ports))) ports in
    left ∙ h ∙ sym width ∙ sym right

inv-value : (b k : Bool) → number (mutated Inv b k ∷ []) ≡ cell_value Not false 1 ((b ∷ []) ∷ [])
inv-value true k = refl
inv-value false k = refl

xnor-value : (b k : Bool) → number (mutated Cnot0 b k ∷ []) ≡ cell_value Xnor false 1 ((b ∷ []) ∷ (k ∷ []) ∷ [])
xnor-value true true = refl
xnor-value true false = refl
xnor-value false true = refl
xnor-value false false = refl

xor-value : (b k : Bool) → number (mutated Cnot1 b k ∷ []) ≡ cell_value Xor false 1 ((b ∷ []) ∷ (k ∷ []) ∷ [])
xor-value true true = refl
xor-value true false = refl
xor-value false true = refl
xor-value false false = refl

new-computes : (nets : Nets) (mode : Mode) (bit control : Bit) (fresh : ℕ) (span : Span) (c j : ℕ) (got : Gate) → nets fresh ≡ mutated mode (bit_value nets bit) (bit_value nets control) → slice_get (new_cells mode bit control fresh span) j ≡ Some got → Computes (plain nets) nets c got
new-computes nets Inv bit control fresh span c zero got value is =
    let made : Gate = record { kind = Not; is_signed = false; ports = (bit ∷ []) ∷ (Net fresh ∷ []) ∷ []; span = span } in
    let here : made ≡ got = cc in
    let computed : Computes (plain nets) nets c made = ap (λ (y : Bool). number (y ∷ [])) value ∙ inv-value (bit_value nets bit) (bit_value nets control) in
    subst (Computes (plain nets) nets c) here computed
new-computes nets Cnot0 bit control fresh span c zero got value is =
    let made : Gate = record { kind = Xnor; is_signed = false; ports = (bit ∷ []) ∷ (control ∷ []) ∷ (Net fresh ∷ []) ∷ []; span = span } in
    let here : made ≡ got = cc in
    let computed : Computes (plain nets) nets c made = ap (λ (y : Bool). number (y ∷ [])) value ∙ xnor-value (bit_value nets bit) (bit_value nets control) in
    subst (Computes (plain nets) nets c) here computed
new-computes nets Cnot1 bit control fresh span c zero got value is =
    let made : Gate = record { kind = Xor; is_signed = false; ports = (bit ∷ []) ∷ (control ∷ []) ∷ (Net fresh ∷ []) ∷ []; span = span } in
    let here : made ≡ got = cc in
    let computed : Computes (plain nets) nets c made = ap (λ (y : Bool). number (y ∷ [])) value ∙ xor-value (bit_value nets bit) (bit_value nets control) in
    subst (Computes (plain nets) nets c) here computed
new-computes nets Const0 bit control fresh span c j got value is = absurd (cc)
new-computes nets Const1 bit control fresh span c j got value is = absurd (cc)
new-computes nets Inv bit control fresh span c (suc j) got value is = absurd (cc)
new-computes nets Cnot0 bit control fresh span c (suc j) got value is = absurd (cc)
new-computes nets Cnot1 bit control fresh span c (suc j) got value is = absurd (cc)

-- the new bit has the value that is laid at the new net
new-value : (nets : Nets) (mode : Mode) (fresh : ℕ) (bit control : Bool) → bit_value (with_net nets fresh (mutated mode bit control)) (new_bit mode fresh) ≡ mutated mode bit control
new-value nets Inv fresh bit control = with_net-same nets fresh _
new-value nets Const0 fresh bit control = refl
new-value nets Const1 fresh bit control = refl
new-value nets Cnot0 fresh bit control = with_net-same nets fresh _
new-value nets Cnot1 fresh bit control = with_net-same nets fresh _

-- A cycle. The number is no net of the netlist.

record IsUnused (netlist : RawNetlist) (n : ℕ) : Type 0 where
  pub driven : drivers netlist n ≡ 0
  pub read : readers netlist n ≡ 0

value-laid : (netlist : RawNetlist) (site : Site) (fresh : ℕ) (nets : Nets) → bit_value (with_mutated netlist site fresh nets) (new_bit site.mode fresh) ≡ mutated_value netlist site nets
value-laid netlist site fresh nets =
    let bits = port_at netlist site.place site.port in
    subst (λ (v : Bool). bit_value (with_net nets fresh v) (new_bit site.mode fresh) ≡ v) (mutated_at-bits nets site.mode site.bit bits) (new-value nets site.mode fresh (bit_value nets (bit_of bits site.bit)) (bit_value nets (control_of bits site.bit)))

-- at the new net stands what the bit and its control bit make of it
laid-is : (netlist : RawNetlist) (site : Site) (fresh : ℕ) (nets : Nets) → IsUnused netlist fresh → with_mutated netlist site fresh nets fresh ≡ mutated site.mode (bit_value (with_mutated netlist site fresh nets) (bit_of (port_at netlist site.place site.port) site.bit)) (bit_value (with_mutated netlist site fresh nets) (control_of (port_at netlist site.place site.port) site.bit))
laid-is netlist site fresh nets unused =
    let bits = port_at netlist site.place site.port in
    let v = mutated_value netlist site nets in
    let there = place-has netlist site.place site.port fresh in
    let bit = bit-other nets fresh v (bit_of bits site.bit) (omega (arith, bit-has fresh bits site.bit, there, unused.driven, unused.read)) in
    let control = bit-other nets fresh v (control_of bits site.bit) (omega (arith, bit-has fresh bits ((site.bit + 1) % length bits), there, unused.driven, unused.read)) in
    let is = mutated_at-bits nets site.mode site.bit bits in
    with_net-same nets fresh v ∙ sym is ∙ sym (ap (λ (b : Bool). mutated site.mode b (bit_value nets (control_of bits site.bit))) bit) ∙ sym (ap (mutated site.mode (bit_value (with_mutated netlist site fresh nets) (bit_of bits site.bit))) control)

computed-back : (netlist : RawNetlist) (site : Site) (fresh : ℕ) (nets : Nets) (inputs state : List ℕ) → IsUnused netlist fresh → Holds (sight_at netlist site nets) nets netlist inputs state → (c : ℕ) (got : Gate) → slice_get (mutant_of netlist site fresh).cells c ≡ Some got → Computes (plain (with_mutated netlist site fresh nets)) (with_mutated netlist site fresh nets) c got
computed-back netlist site fresh nets inputs state unused h c got is =
    let taps = readers_at netlist site.place site.port site.bit in
    let new = new_bit site.mode fresh in
    let bits = port_at netlist site.place site.port in
    let bit = bit_of bits site.bit in
    let control = control_of bits site.bit in
    let span = span_at netlist site.place in
    let v = mutated_value netlist site nets in
    let after = with_mutated netlist site fresh nets in
    elim (cell-cases taps new 0 c netlist.cells (new_cells site.mode bit control fresh span) got is) [
      | inl old ↦ (
          let lacks : times_at fresh old.0.ports ≡ 0 = omega (arith, cell-has netlist c fresh old.0 old.1, unused.driven, unused.read) in
          let computed = old-computes nets taps new fresh v c old.0 (value-laid netlist site fresh nets) lacks (h.computed c old.0 old.1) in
          let number : c ≡ 0 + c = omega arith in
          let same : cell_connected taps new c old.0 ≡ got = ap (λ (j : ℕ). cell_connected taps new j old.0) number ∙ old.2 in
          subst (Computes (plain after) after c) same computed)
      | inr added ↦ new-computes after site.mode bit control fresh span c added.0 got (laid-is netlist site fresh nets unused) added.2
    ]

holds-back : (netlist : RawNetlist) (site : Site) (fresh : ℕ) (nets : Nets) (inputs state : List ℕ) → IsUnused netlist fresh → Holds (sight_at netlist site nets) nets netlist inputs state → Holds (plain (with_mutated netlist site fresh nets)) (with_mutated netlist site fresh nets) (mutant_of netlist site fresh) inputs state
holds-back netlist site fresh nets inputs state unused h =
    let taps = readers_at netlist site.place site.port site.bit in
    let new = new_bit site.mode fresh in
    let v = mutated_value netlist site nets in
    let after = with_mutated netlist site fresh nets in
    record {
      entered = numbers-other nets fresh v (bits_at netlist.inputs) (omega (arith, unused.driven)) ∙ h.entered;
      stored = ap (port_numbers after) (q-same taps new 0 netlist.registers) ∙ numbers-other nets fresh v (q_bits netlist.registers) (omega (arith, unused.driven)) ∙ h.stored;
      computed = computed-back netlist site fresh nets inputs state unused h;
    }

taken-back : (netlist : RawNetlist) (site : Site) (fresh : ℕ) (nets : Nets) → IsUnused netlist fresh → taken (plain (with_mutated netlist site fresh nets)) 0 (mutant_of netlist site fresh).registers ≡ taken (sight_at netlist site nets) 0 netlist.registers
taken-back netlist site fresh nets unused =
    let taps = readers_at netlist site.place site.port site.bit in
    let after = with_mutated netlist site fresh nets in
    taken-same after taps (new_bit site.mode fresh) 0 netlist.registers
    ∙ ap (λ (b : Bool). taken (see_by taps b after) 0 netlist.registers) (value-laid netlist site fresh nets)
    ∙ taken-other taps (mutated_value netlist site nets) nets fresh (mutated_value netlist site nets) 0 netlist.registers (omega (arith, unused.read))

shown-back : (netlist : RawNetlist) (site : Site) (fresh : ℕ) (nets : Nets) → IsUnused netlist fresh → shown (plain (with_mutated netlist site fresh nets)) (mutant_of netlist site fresh) ≡ shown (sight_at netlist site nets) netlist
shown-back netlist site fresh nets unused =
    let taps = readers_at netlist site.place site.port site.bit in
    let after = with_mutated netlist site fresh nets in
    shown-same after taps (new_bit site.mode fresh) netlist.outputs
    ∙ ap (λ (b : Bool). shown (see_by taps b after) netlist) (value-laid netlist site fresh nets)
    ∙ shown-other taps (mutated_value netlist site nets) nets fresh (mutated_value netlist site nets) netlist.outputs (omega (arith, unused.read))

-- Runs.

runs-back : (netlist : RawNetlist) (site : Site) (fresh : ℕ) → IsUnused netlist fresh → (state : List ℕ) (inputs : List (List ℕ)) (cycles : List Nets) → IsRunBy (sight_at netlist site) netlist state inputs cycles → IsRun (mutant_of netlist site fresh) state inputs (map (with_mutated netlist site fresh) cycles)
runs-back netlist site fresh unused state [] [] run = tt
runs-back netlist site fresh unused state [] (nets ∷ more) run = absurd run
runs-back netlist site fresh unused state (first ∷ later) [] run = absurd run
runs-back netlist site fresh unused state (first ∷ later) (nets ∷ more) run =
    let P : List ℕ → Type 0 = λ s. IsRun (mutant_of netlist site fresh) s later (map (with_mutated netlist site fresh) more) in
    (holds-back netlist site fresh nets first state unused run.0, subst P (sym (taken-back netlist site fresh nets unused)) (runs-back netlist site fresh unused (taken (sight_at netlist site nets) 0 netlist.registers) later more run.1))

outputs-back : (netlist : RawNetlist) (site : Site) (fresh : ℕ) → IsUnused netlist fresh → (cycles : List Nets) → outputs_by plain (mutant_of netlist site fresh) (map (with_mutated netlist site fresh) cycles) ≡ outputs_by (sight_at netlist site) netlist cycles
outputs-back netlist site fresh unused [] = refl
outputs-back netlist site fresh unused (nets ∷ more) =
    let first = shown-back netlist site fresh nets unused in
    let rest = outputs-back netlist site fresh unused more in
    cc

pub has-each-run : (plan : Plan) → IsSound plan → (site : Site) (fresh : ℕ) → drivers plan.raw fresh ≡ 0 → HasEachRun plan.raw (mutant_of plan.raw site fresh) site
has-each-run plan sound site fresh none =
    let unused : IsUnused plan.raw fresh = record { driven = none; read = unread plan sound fresh none } in
    record {
      fresh = fresh;
      unused = none;
      runs = runs-back plan.raw site fresh unused;
      outputs = outputs-back plan.raw site fresh unused;
      next = λ nets. taken-back plan.raw site fresh nets unused;
    }
