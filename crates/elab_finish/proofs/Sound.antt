-- The netlist of a builder is refused for nothing but limits and loops.
use Rattle.elab_finish.proofs.Common.{◌≡◌, ℕ, zero, suc, ◌<◌, ◌≤◌, List, [], ◌∷◌, map, length, slice_get, Option, Some, refl, sym, ◌∙◌, ap, subst, inl, inr, arith, Contains, cases_lt, Bit, Net, Cell}
use Rattle.elab_finish.proofs.Common.{Register, RawNetlist, bits_at, q_bits, d_bits, times, times_at, y_bits, drivers, cell_readers, HasTwoDrivers, IsUndriven, AllWide, AllPortsNets, AllRegistersFit}
use Rattle.elab_finish.proofs.Common.{AllCellsWide, IsFormed, HasBadShape, Building, PortsBelow, signal, IsStored, Design, IsBit, AreRegistersBelow, owners, no_signal, of_input, of_register}
use Rattle.elab_finish.proofs.Common.{unwritten, to_constant, to_net, all_led, led_cell, IsRegister, AreRegisters, Finishes, get_contains, contains_get, bits_in, times_get, times_in, nets_in}
use Rattle.elab_finish.proofs.Common.{ports_in, Left, OnlyLoops, IsWithin, AreKnown, CanFinish, IsEnding, IsRegisterOf, AreRegistersOf, registers_in, has_none, has_cases, length-led}
use Rattle.mcy_base.specs.declared.kind.Kind.TheVariants as k
use Rattle.netlist_core.specs.declared.netlist.NetError.TheVariants as e
use Rattle.flat_runs.specs.Finishing.{LeadsTo}
use Rattle.flat_runs.proofs.Registers.{first_is, stored_q}
use Rattle.flat_runs.proofs.Writing.{net_in, signal_net, signals_once}
use Rattle.elab_finish.proofs.Finishing.{own_design, is_own, ending_finishes}
use Rattle.elab_finish.proofs.Registering.{known_in, register_in, in_registers, registers_once, register_of, is_its}
use Rattle.elab_finish.proofs.Leading.{led_wide, led_ys, led_cells_wide, none_misshapen, ys_nets, led_net, led_port_net, cells_net, register_below, joint_below, length_map}

-- the ports of signals
signals_wide : (b : Building) → ((k : ℕ) → k < length b.signals → 1 ≤ length (signal b k)) → ((k : ℕ) → length (signal b k) ≤ 128) → (ks : List ℕ) → AreKnown b ks → AllWide (map (signal b) ks)
signals_wide b some narrow [] known = tt
signals_wide b some narrow (k ∷ ks) known = (some k known.0, narrow k, signals_wide b some narrow ks known.1)

signals_nets : (b : Building) → AllPortsNets b.signals → (ks : List ℕ) → AllPortsNets (map (signal b) ks)
signals_nets b nets [] = tt
signals_nets b nets (k ∷ ks) = (nets_in b.signals k nets, signals_nets b nets ks)

signals_below : (b : Building) → PortsBelow b.nets b.signals → (ks : List ℕ) → PortsBelow b.nets (map (signal b) ks)
signals_below b below [] = tt
signals_below b below (k ∷ ks) = (ports_in b.nets b.signals k below, signals_below b below ks)

shown_bits : (b : Building) (to : ℕ → Bit) (ks : List ℕ) → map (λ k. all_led to (signal b k)) ks ≡ map (all_led to) (map (signal b) ks)
shown_bits b to [] = refl
shown_bits b to (k ∷ ks) = ap (λ (rest : List (List Bit)). all_led to (signal b k) ∷ rest) (shown_bits b to ks)

signal_there : (b : Building) (ks : List ℕ) (k i n : ℕ) → Contains ks k → IsBit b k i n → 1 ≤ times_at n (map (signal b) ks)
signal_there b [] k i n has at = absurd (has_none k has)
signal_there b (j ∷ ks) k i n has at = elim (has_cases ks j k has) [
  | inl same ↦ (let one = times_get (signal b j) i n (ap (λ (x : ℕ). slice_get (signal b x) i) same ∙ at) in omega (arith, one))
  | inr later ↦ (let rest = signal_there b ks k i n later at in omega (arith, rest))
]

some_signal : (signals : List (List Bit)) (n : ℕ) → 1 ≤ times_at n signals → (k : ℕ) × (i : ℕ) × (slice_get (bits_in signals k) i ≡ Some (Net n))
some_signal [] n some = absurd (omega (arith, some))
some_signal (x ∷ signals) n some = elim (cases_lt (times n x) 1) [
  | inl none ↦ let t = some_signal signals n (omega (arith, some, none)) in (suc t.0, t.1, t.2)
  | inr here ↦ let at = contains_get x (Net n) (net_in n x here) in (zero, at.0, at.1)
]

registers_net : (b : Building) (design : Design) (to : ℕ → Bit) (m : ℕ) → AreRegistersBelow b.nets b.registers → (ks : List ℕ) (rs : List Register) → AreRegisters b design to ks rs → 1 ≤ times_at m (d_bits rs) → (n : ℕ) × (n < b.nets) × (to n ≡ Net m)
registers_net b design to m below [] [] are some = absurd (omega (arith, some))
registers_net b design to m below [] (r ∷ rs) are some = absurd are
registers_net b design to m below (k ∷ ks) [] are some = absurd are
registers_net b design to m below (k ∷ ks) (r ∷ rs) are some = elim (cases_lt (times m r.d) 1) [
  | inl none ↦ registers_net b design to m below ks rs are.1 (omega (arith, some, none))
  | inr here ↦
      let x : IsRegister b design to k r = are.0 in
      let low = register_below b.nets b.registers x.built below (first_is (signal b k) b.registers x.built x.first).0 in
      led_net to b.nets m x.built.d low.0 (subst (λ (bits : List Bit). 1 ≤ times m bits) x.d here)
]

registers_fit : (b : Building) (to : ℕ → Bit) → AreRegistersBelow b.nets b.registers → (ks : List ℕ) (rs : List Register) → AreRegistersOf b to ks rs → AllRegistersFit rs
registers_fit b to below [] [] are = tt
registers_fit b to below [] (r ∷ rs) are = absurd are
registers_fit b to below (k ∷ ks) [] are = absurd are
registers_fit b to below (k ∷ ks) (r ∷ rs) are =
    let x : IsRegisterOf b to k r = are.0 in
    let first = first_is (signal b k) b.registers x.built x.first in
    let low = register_below b.nets b.registers x.built below first.0 in (
      ap length x.d ∙ length-led to x.built.d ∙ low.1 ∙ ap length first.1 ∙ sym x.width,
      ap length x.q ∙ sym x.width,
      registers_fit b to below ks rs are.1,
    )

module _ (b : Building) (top : List ℕ) (clock : Option (List ℕ)) (ins outs declared : List ℕ) (lefts : List Left) (can : CanFinish b ins outs declared lefts) (netlist : RawNetlist) (ending : IsEnding b top clock ins outs declared netlist) where
  fin : Finishes b (own_design b ins outs declared) netlist
  fin = ending_finishes b ins outs declared lefts can (own_design b ins outs declared) (is_own b ins outs declared) top clock netlist ending

  -- A net of a Y leads to itself.

  y_apart : (n : ℕ) → 1 ≤ times_at n (y_bits b.cells) → (k i : ℕ) → IsBit b k i n → ⊥
  y_apart n some k i at =
      let one : 1 ≤ times_at n b.signals = times_in b.signals k i n at in
      elim (cases_lt n b.nets) [
        | inl less ↦ (let o : owners b n ≡ 1 = can.stands.owned n less in omega (arith, o, one, some))
        | inr over ↦ (let o : owners b n ≡ 0 = can.stands.outside n over in omega (arith, o, one, some))
      ]

  ys : y_bits netlist.cells ≡ y_bits b.cells
  ys = ap y_bits fin.cells ∙ led_ys fin.to b.cells can.stands.formed (λ n some. (fin.leads n (Net n)).0 (no_signal n (y_apart n some)))

  qs : q_bits netlist.registers ≡ map (signal b) (registers_in b declared)
  qs = stored_q b (own_design b ins outs declared) fin.to (registers_in b declared) netlist.registers fin.registers

  pub formed : IsFormed netlist
  formed = record {
    inputs = subst AllWide (sym fin.inputs) (signals_wide b can.some can.narrow ins can.entered);
    outputs = subst AllWide (sym (fin.outputs ∙ shown_bits b fin.to outs)) (led_wide fin.to (map (signal b) outs) (signals_wide b can.some can.narrow outs can.shown));
    registers = registers_fit b ending.to can.stands.registers (registers_in b declared) netlist.registers ending.registers;
    cells = subst AllCellsWide (sym fin.cells) (led_cells_wide fin.to b.cells can.stands.formed);
    entered = subst AllPortsNets (sym fin.inputs) (signals_nets b can.own.nets ins);
    stored = subst AllPortsNets (sym qs) (signals_nets b can.own.nets (registers_in b declared));
    computed = subst AllPortsNets (sym ys) (ys_nets b.cells can.stands.formed);
  }

  -- No net has two drivers.

  stored_of : (n k i : ℕ) → Contains (registers_in b declared) k → IsBit b k i n → IsStored b n
  stored_of n k i has at =
      let r = register_of b ins can.own can.writers k (register_in b declared k has).1 in
      (r.0, r.1, subst (λ (q : List Bit). Contains q (Net n)) (sym r.2) (get_contains (signal b k) i (Net n) at))

  single : (n : ℕ) → HasTwoDrivers netlist n → ⊥
  single n two =
      let i : times_at n (bits_at netlist.inputs) ≡ times_at n (map (signal b) ins) = ap (times_at n) fin.inputs in
      let q : times_at n (q_bits netlist.registers) ≡ times_at n (map (signal b) (registers_in b declared)) = ap (times_at n) qs in
      let y : times_at n (y_bits netlist.cells) ≡ times_at n (y_bits b.cells) = ap (times_at n) ys in
      let few_i : times_at n (map (signal b) ins) ≤ 1 = signals_once b can.own n ins can.entered_once in
      let few_q : times_at n (map (signal b) (registers_in b declared)) ≤ 1 = signals_once b can.own n (registers_in b declared) (registers_once b declared can.declared_once) in
      let few_y : times_at n (y_bits b.cells) ≤ 1 = elim (cases_lt n b.nets) [
        | inl less ↦ (let o : owners b n ≡ 1 = can.stands.owned n less in omega (arith, o))
        | inr over ↦ (let o : owners b n ≡ 0 = can.stands.outside n over in omega (arith, o))
      ] in
      elim (cases_lt (times_at n (map (signal b) ins)) 1) [
        | inl no_i ↦ elim (cases_lt (times_at n (map (signal b) (registers_in b declared))) 1) [
          | inl no_q ↦ omega (arith, two, i, q, y, no_i, no_q, few_y)
          | inr some_q ↦ (let t = signal_net b n (registers_in b declared) some_q in elim (cases_lt (times_at n (y_bits b.cells)) 1) [
            | inl no_y ↦ omega (arith, two, i, q, y, no_i, few_q, no_y)
            | inr some_y ↦ y_apart n some_y t.0 t.1 t.3
          ])
        ]
        | inr some_i ↦ (let t = signal_net b n ins some_i in elim (cases_lt (times_at n (map (signal b) (registers_in b declared))) 1) [
          | inl no_q ↦ elim (cases_lt (times_at n (y_bits b.cells)) 1) [
            | inl no_y ↦ omega (arith, two, i, q, y, few_i, no_q, no_y)
            | inr some_y ↦ y_apart n some_y t.0 t.1 t.3
          ]
          | inr some_q ↦ (let u = signal_net b n (registers_in b declared) some_q in can.writers.no_input n t.0 t.1 (inr (stored_of n u.0 u.1 u.2 u.3)) t.3 t.2)
        ])
      ]

  -- Each net that is read has a driver.

  by_input : (n : ℕ) → 1 ≤ times_at n (map (signal b) ins) → 1 ≤ drivers netlist n
  by_input n some = let i : times_at n (bits_at netlist.inputs) ≡ times_at n (map (signal b) ins) = ap (times_at n) fin.inputs in omega (arith, some, i)

  by_register : (n : ℕ) → 1 ≤ times_at n (map (signal b) (registers_in b declared)) → 1 ≤ drivers netlist n
  by_register n some = let q : times_at n (q_bits netlist.registers) ≡ times_at n (map (signal b) (registers_in b declared)) = ap (times_at n) qs in omega (arith, some, q)

  by_cell : (n : ℕ) → 1 ≤ times_at n (y_bits b.cells) → 1 ≤ drivers netlist n
  by_cell n some = let y : times_at n (y_bits netlist.cells) ≡ times_at n (y_bits b.cells) = ap (times_at n) ys in omega (arith, some, y)

  -- the net of a register
  of_stored : (n : ℕ) → IsStored b n → 1 ≤ times_at n (map (signal b) (registers_in b declared))
  of_stored n is =
      let r = can.registered is.0 is.1 in
      let wide : 1 ≤ length (signal b r.0) = can.some r.0 (known_in b declared r.0 can.declared_known r.1) in
      let has : Contains (registers_in b declared) r.0 = in_registers b declared r.0 r.1 (is_its b can.own r.0 wide is.0 is.1 r.2) in
      let at = contains_get is.0.q (Net n) is.2 in
      signal_there b (registers_in b declared) r.0 at.0 n has (ap (λ (q : List Bit). slice_get q at.0) (sym r.2) ∙ at.1)

  -- a net of no signal is one of a Y
  of_no_signal : (n : ℕ) → n < b.nets → ((k i : ℕ) → IsBit b k i n → ⊥) → 1 ≤ times_at n (y_bits b.cells)
  of_no_signal n less not = elim (cases_lt (times_at n b.signals) 1) [
    | inl none ↦ (let o : owners b n ≡ 1 = can.stands.owned n less in omega (arith, o, none))
    | inr some ↦ absurd (let t = some_signal b.signals n some in not t.0 t.1 t.2)
  ]

  driver : (n : ℕ) (end : Bit) → LeadsTo b (own_design b ins outs declared) n end → n < b.nets → (m : ℕ) → end ≡ Net m → 1 ≤ drivers netlist m
  driver n _ (no_signal _ not) less m is = let same : n ≡ m = cc in subst (λ (x : ℕ). 1 ≤ drivers netlist x) same (by_cell n (of_no_signal n less not))
  driver n _ (of_input _ k i at has) less m is = let same : n ≡ m = cc in subst (λ (x : ℕ). 1 ≤ drivers netlist x) same (by_input n (signal_there b ins k i n has at))
  driver n _ (of_register _ stored) less m is = let same : n ≡ m = cc in subst (λ (x : ℕ). 1 ≤ drivers netlist x) same (by_register n (of_stored n stored))
  driver n _ (unwritten _ k i v at no_input not start) less m is = absurd cc
  driver n _ (to_constant _ v has) less m is = absurd cc
  driver n _ (to_net _ k end has leads) less m is = driver k end leads (joint_below b.nets b.joints (record { net = n; bit = Net k }) can.stands.joints has).0 m is

  read : (m : ℕ) → (n : ℕ) × (n < b.nets) × (fin.to n ≡ Net m) → drivers netlist m ≡ 0 → ⊥
  read m t none = (let some = driver t.0 (Net m) ((fin.leads t.0 (Net m)).1 t.2) t.1 m refl in omega (arith, some, none))

  connected : (m : ℕ) → IsUndriven netlist m → ⊥
  connected m u = elim (cases_lt (cell_readers netlist.cells m) 1) [
    | inl no_cell ↦ elim (cases_lt (times_at m (d_bits netlist.registers)) 1) [
      | inl no_register ↦
          let out : 1 ≤ times_at m (bits_at netlist.outputs) = (let some = u.0 in omega (arith, some, no_cell, no_register)) in
          let led_out : 1 ≤ times_at m (map (all_led fin.to) (map (signal b) outs)) = subst (λ (ports : List (List Bit)). 1 ≤ times_at m ports) (fin.outputs ∙ shown_bits b fin.to outs) out in
          read m (led_port_net fin.to b.nets m (map (signal b) outs) (signals_below b can.own.below outs) led_out) u.1
      | inr some ↦ read m (registers_net b (own_design b ins outs declared) fin.to m can.stands.registers (registers_in b declared) netlist.registers fin.registers some) u.1
    ]
    | inr some ↦ read m (cells_net fin.to b.nets m b.cells can.stands.cells (subst (λ (cells : List Cell). 1 ≤ cell_readers cells m) fin.cells some)) u.1
  ]

  -- So it is refused for nothing but loops.

  pub only_loops : length b.cells ≤ 65535 → IsWithin netlist → OnlyLoops netlist
  only_loops few within (e.TooMany k.Cells) is = (let long : length netlist.cells ≡ length b.cells = ap length fin.cells ∙ length_map (led_cell fin.to) b.cells in omega (arith, is, long, few))
  only_loops few within (e.TooMany k.NetBits) is = (let small = within.nets in let large = is.1 in omega (arith, small, large))
  only_loops few within (e.TooMany k.Tokens) is = is
  only_loops few within (e.TooMany k.LoopTurns) is = is
  only_loops few within (e.TooMany k.RegisterBits) is = is
  only_loops few within (e.TooMany k.Sites) is = is
  only_loops few within (e.TooMany k.Gates) is = is
  only_loops few within (e.TooMany k.FreeBits) is = is
  only_loops few within (e.TooMany k.Scopes) is = is
  only_loops few within (e.BadShape c) is = none_misshapen fin.to b.cells c can.stands.formed (subst (λ (cells : List Cell). HasBadShape (slice_get cells c)) fin.cells is.1.here)
  only_loops few within (e.TwoDrivers n) is = single n is.1.here
  only_loops few within (e.Undriven n) is = connected n is.1.here
  only_loops few within (e.Loop c) is = tt
  only_loops few within e.Memory is = tt

  pub as_many : length netlist.cells ≡ length b.cells
  as_many = ap length fin.cells ∙ length_map (led_cell fin.to) b.cells
