-- A netlist whose drivers are single and whose cells are in order has exactly one run.
use Rattle.netlist_core.proofs.Common.{◌≡◌, ◌≢◌, ℕ, zero, suc, ◌+◌, ◌^◌, ◌<◌, ◌≤◌, Bool, List, [], ◌∷◌, ◌++◌, map, length, take, drop, get_or, slice_get, Option, Some, None, refl, sym, ◌∙◌, ap, subst}
use Rattle.netlist_core.proofs.Common.{◌⊎◌, inl, inr, arith, Contains, eqb_tells, Contains-append_cases, cases_lt, get_or-take, get_or-drop, get_or_default, length-take-le, length-drop}
use Rattle.netlist_core.proofs.Common.{take-append-drop, drop_more, Bit, Cell, Register, RawNetlist, number, Nets, values, Next, Outputs, Sight, bits_at, q_bits, d_bits, input_ports, output_port}
use Rattle.netlist_core.proofs.Common.{ports_seen, Computes, port_numbers, Holds, shown, taken, IsRunBy, times, times_at, y_bits, drivers, readers, ports_of, Reads, IsLeastReady, IsOrder, AllNets}
use Rattle.netlist_core.proofs.Common.{AllPortsNets, AllRegistersFit, IsFormed, IsConnected, y_of, laid, laid_all, number_at, after_cell, after_order, all_zero}
use Rattle.netlist_core.specs.Cells.{cell_value}
use Rattle.netlist_core.specs.Solutions.{FitPorts, driving, StandTogether, IsCausal, settled, FitsInputs, FitsRegisters, AllFitInputs, AgreeDriven, HasOneRunBy}
use Rattle.netlist_core.proofs.Owners.{y-one, y-two}
use Rattle.netlist_core.proofs.CellPorts.{cell-at, cell-inside}
use Rattle.netlist_core.proofs.Reading.{cell-reads, driver-inside}
use Rattle.net_order.proofs.Reading.{Contains-head, Contains-tail}
use Rattle.netlist_core.proofs.Settles.{AgreeAt, agree-numbers, agree-ports, ports-agree, values-agree, seen-agree, number-fits, laid-other, laid-number, laid_all-other, laid_all-numbers}

-- Computing in an order.

after_cell-other : (sight : Nets → Sight) (c : ℕ) (o : Option Cell) (nets : Nets) (n : ℕ) → times n (output_port (ports_of o)) ≡ 0 → after_cell sight c o nets n ≡ nets n
after_cell-other sight c None nets n none = refl
after_cell-other sight c (Some cell) nets n none = laid-other nets (output_port cell.ports) (number_at (sight nets) c cell) n none

after_order-other : (sight : Nets → Sight) (netlist : RawNetlist) (order : List ℕ) (nets : Nets) (n : ℕ) → ((d : ℕ) → Contains order d → times n (y_of netlist d) ≡ 0) → after_order sight netlist.cells order nets n ≡ nets n
after_order-other sight netlist [] nets n none = refl
after_order-other sight netlist (c ∷ more) nets n none =
    after_order-other sight netlist more (after_cell sight c (slice_get netlist.cells c) nets) n (λ d h. none d (Contains-tail c d more h))
    ∙ after_cell-other sight c (slice_get netlist.cells c) nets n (none c (Contains-head c more))

after_order-split : (sight : Nets → Sight) (cells : List Cell) (xs ys : List ℕ) (nets : Nets) → after_order sight cells (xs ++ ys) nets ≡ after_order sight cells ys (after_order sight cells xs nets)
after_order-split sight cells [] ys nets = refl
after_order-split sight cells (c ∷ more) ys nets = after_order-split sight cells more ys (after_cell sight c (slice_get cells c) nets)

-- Who drives and who reads.

y-some : (cells : List Cell) (n : ℕ) → 1 ≤ times_at n (y_bits cells) → (d : ℕ) × (1 ≤ times n (output_port (ports_of (slice_get cells d))))
y-some [] n h = absurd (omega (arith, h))
y-some (cell ∷ more) n h = elim (cases_lt 0 (times n (output_port cell.ports))) [
  | inl here ↦ (0, omega (arith, here))
  | inr none ↦ (let rest = y-some more n (omega (arith, h, none)) in (suc rest.0, rest.1))
]

y-nets : (cells : List Cell) (c : ℕ) → AllPortsNets (y_bits cells) → AllNets (output_port (ports_of (slice_get cells c)))
y-nets [] c all = tt
y-nets (cell ∷ more) zero all = all.0
y-nets (cell ∷ more) (suc c) all = y-nets more c all.1

-- registers take what stands at their D
taken-agree : (netlist : RawNetlist) (sight : Nets → Sight) → IsCausal netlist sight → (a b : Nets) (k : ℕ) (registers : List Register) → ((n m : ℕ) → 1 ≤ times_at n (d_bits registers) → StandTogether netlist n m → a m ≡ b m) → taken (sight a) k registers ≡ taken (sight b) k registers
taken-agree netlist sight causal a b k [] h = refl
taken-agree netlist sight causal a b k (r ∷ more) h =
    let head : sight a (Next k) r.d ≡ sight b (Next k) r.d = causal.alike a b (Next k) r.d (λ n m t. h n m (omega (arith, t))) in
    let tail : taken (sight a) (k + 1) more ≡ taken (sight b) (k + 1) more = taken-agree netlist sight causal a b (k + 1) more (λ n m t. h n m (omega (arith, t))) in
    rw (head, tail) refl

-- what is read off at ports
shown-agree : (netlist : RawNetlist) (sight : Nets → Sight) → IsCausal netlist sight → (a b : Nets) (ports : List (List Bit)) → ((n m : ℕ) → 1 ≤ times_at n ports → StandTogether netlist n m → a m ≡ b m) → map (λ bits. number (sight a Outputs bits)) ports ≡ map (λ bits. number (sight b Outputs bits)) ports
shown-agree netlist sight causal a b [] h = refl
shown-agree netlist sight causal a b (bits ∷ more) h =
    let head : sight a Outputs bits ≡ sight b Outputs bits = causal.alike a b Outputs bits (λ n m t. h n m (omega (arith, t))) in
    let tail : map (λ bits. number (sight a Outputs bits)) more ≡ map (λ bits. number (sight b Outputs bits)) more = shown-agree netlist sight causal a b more (λ n m t. h n m (omega (arith, t))) in
    rw (head, tail) refl

-- what registers take fits them
taken-fits : (netlist : RawNetlist) (sight : Nets → Sight) → IsCausal netlist sight → (nets : Nets) (k : ℕ) (registers : List Register) → AllRegistersFit registers → FitPorts (q_bits registers) (taken (sight nets) k registers)
taken-fits netlist sight causal nets k [] fit = tt
taken-fits netlist sight causal nets k (r ∷ more) fit =
    let width : length (sight nets (Next k) r.d) ≡ length r.q = causal.wide nets (Next k) r.d ∙ fit.0 ∙ sym fit.1 in
    (subst (λ (w : ℕ). number (sight nets (Next k) r.d) < 2 ^ w) width (number-fits (sight nets (Next k) r.d)), taken-fits netlist sight causal nets (k + 1) more fit.2)

-- what ports have
has-at : (ports : List (List Bit)) (bits : List Bit) (n k : ℕ) → k < length ports → get_or ports k bits ≡ bits → times n bits ≤ times_at n ports
has-at [] bits n k inside e = absurd (omega (arith, inside))
has-at (port ∷ more) bits n zero inside e = (let same : times n port ≡ times n bits = ap (times n) e in omega (arith, same))
has-at (port ∷ more) bits n (suc k) inside e = (let rest = has-at more bits n k (omega (arith, inside)) e in omega (arith, rest))

ports-have : (ports : List (List Bit)) (bits : List Bit) (n : ℕ) → Contains ports bits → times n bits ≤ times_at n ports
ports-have ports bits n has = has-at ports bits n has.0 has.1 has.2

y-at : (cells : List Cell) (bits : List Bit) (k : ℕ) → k < length (y_bits cells) → get_or (y_bits cells) k bits ≡ bits → output_port (ports_of (slice_get cells k)) ≡ bits
y-at [] bits k inside e = absurd (omega (arith, inside))
y-at (cell ∷ more) bits zero inside e = e
y-at (cell ∷ more) bits (suc k) inside e = y-at more bits k (omega (arith, inside)) e

-- the nets of inputs and registers
abbrev pub source_times : RawNetlist → ℕ → ℕ
source_times netlist n = times_at n (bits_at netlist.inputs) + times_at n (q_bits netlist.registers)

module _ (netlist : RawNetlist) (formed : IsFormed netlist) (connected : IsConnected netlist) (order : List ℕ) (is : IsOrder (length netlist.cells) (Reads netlist) order) (sight : Nets → Sight) (causal : IsCausal netlist sight) where
  single : (n : ℕ) → source_times netlist n + times_at n (y_bits netlist.cells) ≤ 1
  single n = elim (cases_lt 1 (drivers netlist n)) [ inl two ↦ absurd (connected.driven.single n (omega (arith, two))) | inr few ↦ omega (arith, few) ]

  has_driver : (n : ℕ) → 1 ≤ readers netlist n → 1 ≤ drivers netlist n
  has_driver n h = elim (cases_lt 0 (drivers netlist n)) [ inl some ↦ omega (arith, some) | inr none ↦ absurd (connected.reads n (h, omega (arith, none))) ]

  -- a net is a source, or a cell drives it
  driver_of : (n : ℕ) → 1 ≤ drivers netlist n → (1 ≤ source_times netlist n) ⊎ ((d : ℕ) × (1 ≤ times n (y_of netlist d)))
  driver_of n h = elim (cases_lt 0 (times_at n (y_bits netlist.cells))) [ inl some ↦ inr (y-some netlist.cells n (omega (arith, some))) | inr none ↦ inl (omega (arith, h, none)) ]

  no_source : (n d : ℕ) → 1 ≤ source_times netlist n → times n (y_of netlist d) ≡ 0
  no_source n d h = omega (arith, h, single n, y-one netlist.cells d n)

  no_other : (n c d : ℕ) → c ≢ d → 1 ≤ times n (y_of netlist c) → times n (y_of netlist d) ≡ 0
  no_other n c d apart h = omega (arith, h, single n, y-two netlist.cells c d n apart)

  -- What stands together with a net.

  -- both are sources, or one cell drives both
  standing : (n m : ℕ) → (bits : List Bit) → Contains (driving netlist) bits → 1 ≤ times n bits → 1 ≤ times m bits → ((1 ≤ source_times netlist n) × (1 ≤ source_times netlist m)) ⊎ ((d : ℕ) × (1 ≤ times n (y_of netlist d)) × (1 ≤ times m (y_of netlist d)))
  standing n m bits has tn tm = elim (Contains-append_cases (bits_at netlist.inputs) (q_bits netlist.registers ++ y_bits netlist.cells) bits has) [
    | inl input ↦ inl (omega (arith, tn, ports-have (bits_at netlist.inputs) bits n input), omega (arith, tm, ports-have (bits_at netlist.inputs) bits m input))
    | inr more ↦ elim (Contains-append_cases (q_bits netlist.registers) (y_bits netlist.cells) bits more) [
      | inl state ↦ inl (omega (arith, tn, ports-have (q_bits netlist.registers) bits n state), omega (arith, tm, ports-have (q_bits netlist.registers) bits m state))
      | inr y ↦ (let is = y-at netlist.cells bits y.0 y.1 y.2 in inr (y.0, subst (λ (b : List Bit). 1 ≤ times n b) (sym is) tn, subst (λ (b : List Bit). 1 ≤ times m b) (sym is) tm))
    ]
  ]

  beside-source : (n m : ℕ) → StandTogether netlist n m → 1 ≤ source_times netlist n → 1 ≤ source_times netlist m
  beside-source n m (inl same) h = subst (λ (k : ℕ). 1 ≤ source_times netlist k) same h
  beside-source n m (inr there) h = elim (standing n m there.0 there.1 there.2 there.3) [
    | inl both ↦ both.1
    | inr cell ↦ absurd (omega (arith, no_source n cell.0 h, cell.1))
  ]

  beside-cell : (n m d : ℕ) → StandTogether netlist n m → 1 ≤ times n (y_of netlist d) → 1 ≤ times m (y_of netlist d)
  beside-cell n m d (inl same) h = subst (λ (k : ℕ). 1 ≤ times k (y_of netlist d)) same h
  beside-cell n m d (inr there) h = elim (standing n m there.0 there.1 there.2 there.3) [
    | inl both ↦ absurd (omega (arith, no_source n d both.0, h))
    | inr cell ↦ elim (eqb_tells cell.0 d) [
      | inl same ↦ subst (λ (e : ℕ). 1 ≤ times m (y_of netlist e)) same.1 cell.2
      | inr apart ↦ absurd (omega (arith, no_other n cell.0 d apart.1 cell.1, h))
    ]
  ]

  beside-driven : (n m : ℕ) → StandTogether netlist n m → 1 ≤ drivers netlist n → 1 ≤ drivers netlist m
  beside-driven n m t h = elim (driver_of n h) [
    | inl source ↦ (let s = beside-source n m t source in omega (arith, s))
    | inr d ↦ (let y = beside-cell n m d.0 t d.1 in omega (arith, y, y-one netlist.cells d.0 m))
  ]

  -- The place of a cell.

  at_place : (c : ℕ) (k : ℕ) → k < length order → get_or order k c ≡ c → IsLeastReady (length netlist.cells) (Reads netlist) (take k order) c
  at_place c k l e = subst (λ (d : ℕ). IsLeastReady (length netlist.cells) (Reads netlist) (take k order) d) (get_or_default order k 0 c l ∙ e) (is.places k l)

  earlier : (c j k : ℕ) → j < k → k < length order → get_or order j c ≡ c → get_or order k c ≡ c → ⊥
  earlier c j k l inside a b = (at_place c k inside b).ready.unlisted (j, omega (arith, l, length-take-le k order (omega (arith, inside))), get_or-take k order j c l ∙ a)

  -- a cell from place k on isn't one before it
  later : (k c d : ℕ) → k ≤ length order → Contains (take k order) c → Contains (drop k order) d → c ≢ d
  later k c d le before after same =
      let j : ℕ = before.0 in
      let below : j < k = omega (arith, before.1, length-take-le k order le) in
      let at : get_or order j c ≡ c = sym (get_or-take k order j c below) ∙ before.2 in
      let there : get_or order (k + after.0) d ≡ d = sym (get_or-drop k order after.0 d) ∙ after.2 in
      let inside : k + after.0 < length order = omega (arith, after.1, length-drop k order, le) in
      earlier c j (k + after.0) (omega (arith, below)) inside at (subst (λ (x : ℕ). get_or order (k + after.0) x ≡ x) (sym same) there)

  -- The solution.

  -- a source keeps its value
  pub kept-source : (start : Nets) (n : ℕ) → 1 ≤ source_times netlist n → after_order sight netlist.cells order start n ≡ start n
  kept-source start n h = after_order-other sight netlist order start n (λ d there. no_source n d h)

  pub computes-at : (start : Nets) (c : ℕ) (cell : Cell) → slice_get netlist.cells c ≡ Some cell → Computes (sight (after_order sight netlist.cells order start)) (after_order sight netlist.cells order start) c cell
  computes-at start c cell found =
      let there = is.each c (cell-inside netlist.cells c cell found) in
      let k : ℕ = there.0 in
      let inside : k < length order = there.1 in
      let ready : IsLeastReady (length netlist.cells) (Reads netlist) (take k order) c = at_place c k inside there.2 in
      let before : Nets = after_order sight netlist.cells (take k order) start in
      let y : List Bit = output_port cell.ports in
      let ins : List (List Bit) = input_ports cell.ports in
      let v : ℕ = number_at (sight before) c cell in
      let is_y : y_of netlist c ≡ y = ap (λ (o : Option Cell). output_port (ports_of o)) found in
      let is_in : input_ports (ports_of (slice_get netlist.cells c)) ≡ ins = ap (λ (o : Option Cell). input_ports (ports_of o)) found in
      let rest : List ℕ = drop (k + 1) order in
      let cut : drop k order ≡ c ∷ rest = drop_more order k c inside ∙ ap (λ (d : ℕ). d ∷ rest) there.2 in
      let whole : after_order sight netlist.cells order start ≡ after_order sight netlist.cells (drop k order) before = sym (ap (λ (l : List ℕ). after_order sight netlist.cells l start) (take-append-drop k order)) ∙ after_order-split sight netlist.cells (take k order) (drop k order) start in
      let step : after_order sight netlist.cells (drop k order) before ≡ after_order sight netlist.cells rest (laid before y v) = ap (λ (l : List ℕ). after_order sight netlist.cells l before) cut ∙ ap (λ (o : Option Cell). after_order sight netlist.cells rest (after_cell sight c o before)) found in
      let end : Nets = after_order sight netlist.cells order start in
      let once : (n : ℕ) → times n y ≤ 1 = λ n. (let same : times n (y_of netlist c) ≡ times n y = ap (times n) is_y in omega (arith, single n, y-one netlist.cells c n, same)) in
      let nets_y : AllNets y = subst AllNets is_y (y-nets netlist.cells c formed.computed) in
      let c_later : (d : ℕ) → Contains rest d → c ≢ d = λ d h. (λ same. earlier c k (k + 1 + h.0) (omega arith) (omega (arith, h.1, length-drop (k + 1) order, inside)) there.2 (subst (λ (x : ℕ). get_or order (k + 1 + h.0) x ≡ x) (sym same) (sym (get_or-drop (k + 1) order h.0 d) ∙ h.2))) in
      let same_y : values end y ≡ values (laid before y v) y = values-agree end (laid before y v) y (λ n h. ap (λ (f : Nets). f n) (whole ∙ step) ∙ after_order-other sight netlist rest (laid before y v) n (λ d h2. no_other n c d (c_later d h2) (subst (λ (b : List Bit). 1 ≤ times n b) (sym is_y) h))) in
      let reads : (n m : ℕ) → 1 ≤ times_at n ins → StandTogether netlist n m → end m ≡ before m = λ n m h t.
      (let read : 1 ≤ times_at n (input_ports (ports_of (slice_get netlist.cells c))) = subst (λ (p : List (List Bit)). 1 ≤ times_at n p) (sym is_in) h in
      let driven : 1 ≤ drivers netlist n = has_driver n (omega (arith, read, cell-reads netlist.cells c n)) in
      let none : (d : ℕ) → Contains (drop k order) d → times m (y_of netlist d) ≡ 0 = λ d h2. elim (driver_of n driven) [
        | inl source ↦ no_source m d (beside-source n m t source)
        | inr e ↦ no_other m e.0 d (later k e.0 d (omega (arith, inside)) (ready.ready.reads e.0 (n, read, e.1)) h2) (beside-cell n m e.0 t e.1)
      ] in
      ap (λ (f : Nets). f m) whole ∙ after_order-other sight netlist (drop k order) before m none) in
      let same_in : ports_seen (sight end) c 0 ins ≡ ports_seen (sight before) c 0 ins = seen-agree netlist sight causal end before c 0 ins reads in
      ap number same_y ∙ laid-number before y v nets_y once ∙ sym (ap (λ (seen : List (List Bool)). cell_value cell.kind cell.is_signed (length y) seen) same_in)

  -- the solution for inputs and a state, from any nets
  pub settles : (nets : Nets) (inputs state : List ℕ) → FitsInputs netlist inputs → FitsRegisters netlist state → Holds (sight (settled sight netlist order nets inputs state)) (settled sight netlist order nets inputs state) netlist inputs state
  settles nets inputs state fit_in fit_state =
      let ins : List (List Bit) = bits_at netlist.inputs in
      let qs : List (List Bit) = q_bits netlist.registers in
      let first : Nets = laid_all nets ins inputs in
      let start : Nets = laid_all first qs state in
      let end : Nets = settled sight netlist order nets inputs state in
      let kept_in : port_numbers end ins ≡ port_numbers first ins = ports-agree end first ins (λ n h. kept-source start n (omega (arith, h)) ∙ laid_all-other first qs state n (let few = single n in omega (arith, few, h))) in
      let kept_q : port_numbers end qs ≡ port_numbers start qs = ports-agree end start qs (λ n h. kept-source start n (omega (arith, h))) in
      record {
        entered = kept_in ∙ laid_all-numbers nets ins inputs formed.entered (λ n. let few = single n in omega (arith, few)) fit_in;
        stored = kept_q ∙ laid_all-numbers first qs state formed.stored (λ n. let few = single n in omega (arith, few)) fit_state;
        computed = λ c cell found. computes-at start c cell found;
      }

  -- Two solutions.

  module _ (inputs state : List ℕ) (a b : Nets) (in_a : Holds (sight a) a netlist inputs state) (in_b : Holds (sight b) b netlist inputs state) where
    agree-source : (n : ℕ) → 1 ≤ source_times netlist n → a n ≡ b n
    agree-source n h = elim (cases_lt 0 (times_at n (bits_at netlist.inputs))) [
      | inl some ↦ agree-ports a b (bits_at netlist.inputs) (in_a.entered ∙ sym in_b.entered) n (omega (arith, some))
      | inr none ↦ agree-ports a b (q_bits netlist.registers) (in_a.stored ∙ sym in_b.stored) n (omega (arith, h, none))
    ]

    agree-cell : (m k c : ℕ) → k < m → k < length order → get_or order k c ≡ c → AgreeAt (y_of netlist c) a b
    agree-cell zero k c l inside at = absurd (omega (arith, l))
    agree-cell (suc m) k c l inside at =
        let ready : IsLeastReady (length netlist.cells) (Reads netlist) (take k order) c = at_place c k inside at in
        let there = cell-at netlist.cells c ready.ready.node in
        let cell : Cell = there.0 in
        let found : slice_get netlist.cells c ≡ Some cell = there.1 in
        let y : List Bit = output_port cell.ports in
        let ins : List (List Bit) = input_ports cell.ports in
        let is_y : y_of netlist c ≡ y = ap (λ (o : Option Cell). output_port (ports_of o)) found in
        let is_in : input_ports (ports_of (slice_get netlist.cells c)) ≡ ins = ap (λ (o : Option Cell). input_ports (ports_of o)) found in
        let reads : (n p : ℕ) → 1 ≤ times_at n ins → StandTogether netlist n p → a p ≡ b p = λ n p h t.
        (let read : 1 ≤ times_at n (input_ports (ports_of (slice_get netlist.cells c))) = subst (λ (p : List (List Bit)). 1 ≤ times_at n p) (sym is_in) h in
        let driven : 1 ≤ drivers netlist n = has_driver n (omega (arith, read, cell-reads netlist.cells c n)) in
        elim (driver_of n driven) [
          | inl source ↦ agree-source p (beside-source n p t source)
          | inr e ↦
              let before = ready.ready.reads e.0 (n, read, e.1) in
              let below : before.0 < k = omega (arith, before.1, length-take-le k order (omega (arith, inside))) in
              agree-cell m before.0 e.0 (omega (arith, below, l)) (omega (arith, below, inside)) (sym (get_or-take k order before.0 e.0 below) ∙ before.2) p (beside-cell n p e.0 t e.1)
        ]) in
        let same_in : ports_seen (sight a) c 0 ins ≡ ports_seen (sight b) c 0 ins = seen-agree netlist sight causal a b c 0 ins reads in
        let same : number (values a y) ≡ number (values b y) = in_a.computed c cell found ∙ ap (λ (seen : List (List Bool)). cell_value cell.kind cell.is_signed (length y) seen) same_in ∙ sym (in_b.computed c cell found) in
        subst (λ (bits : List Bit). AgreeAt bits a b) (sym is_y) (agree-numbers a b y same)

    pub agree-driven : (n : ℕ) → 1 ≤ drivers netlist n → a n ≡ b n
    agree-driven n h = elim (driver_of n h) [
      | inl source ↦ agree-source n source
      | inr d ↦
          let inside = driver-inside netlist.cells d.0 n d.1 in
          let there = is.each d.0 inside in
          agree-cell (suc there.0) there.0 d.0 (omega arith) there.1 there.2 n d.1
    ]

    -- registers take the same
    pub same-taken : taken (sight a) 0 netlist.registers ≡ taken (sight b) 0 netlist.registers
    same-taken = taken-agree netlist sight causal a b 0 netlist.registers (λ n m h t. agree-driven m (beside-driven n m t (has_driver n (omega (arith, h)))))

    -- and the same is shown
    pub same-shown : shown (sight a) netlist ≡ shown (sight b) netlist
    same-shown = shown-agree netlist sight causal a b (bits_at netlist.outputs) (λ n m h t. agree-driven m (beside-driven n m t (has_driver n (omega (arith, h)))))

  -- The runs.

  pub some-run : (inputs : List (List ℕ)) (state : List ℕ) → FitsRegisters netlist state → AllFitInputs netlist inputs → (cycles : List Nets) × IsRunBy sight netlist state inputs cycles
  some-run [] state fit all = ([], tt)
  some-run (now ∷ more) state fit all =
      let here : Nets = settled sight netlist order all_zero now state in
      let rest = some-run more (taken (sight here) 0 netlist.registers) (taken-fits netlist sight causal here 0 netlist.registers formed.registers) all.1 in
      (here ∷ rest.0, (settles all_zero now state all.0 fit, rest.1))

  pub one-run : (inputs : List (List ℕ)) (state : List ℕ) (xs ys : List Nets) → IsRunBy sight netlist state inputs xs → IsRunBy sight netlist state inputs ys → AgreeDriven netlist xs ys
  one-run [] state [] [] in_x in_y = tt
  one-run [] state [] (y ∷ ys) in_x in_y = absurd in_y
  one-run [] state (x ∷ xs) ys in_x in_y = absurd in_x
  one-run (now ∷ more) state [] ys in_x in_y = absurd in_x
  one-run (now ∷ more) state (x ∷ xs) [] in_x in_y = absurd in_y
  one-run (now ∷ more) state (x ∷ xs) (y ∷ ys) in_x in_y =
      let next : taken (sight y) 0 netlist.registers ≡ taken (sight x) 0 netlist.registers = sym (same-taken now state x y in_x.0 in_y.0) in
      (agree-driven now state x y in_x.0 in_y.0, one-run more (taken (sight x) 0 netlist.registers) xs ys in_x.1 (subst (λ (t : List ℕ). IsRunBy sight netlist t more ys) next in_y.1))

  pub has-one-run : (state : List ℕ) (inputs : List (List ℕ)) → FitsRegisters netlist state → AllFitInputs netlist inputs → HasOneRunBy sight netlist state inputs
  has-one-run state inputs fit all = record { run = some-run inputs state fit all; one = λ xs ys in_x in_y. one-run inputs state xs ys in_x in_y }
