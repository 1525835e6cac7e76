-- What a number that is put leaves as it should be, and the cycle that comes of all.
use Rattle.cycle_sim.proofs.Common.{◌≡◌, ◌≢◌, ℕ, ◌+◌, ◌%◌, ◌^◌, ◌<◌, ◌≤◌, Bool, List, [], ◌∷◌, ◌++◌, length, take, drop, get_or, set, slice_get, Option, Some, refl, sym, ◌∙◌, ap, subst, inl, inr}
use Rattle.cycle_sim.proofs.Common.{arith, All, Contains, eqb_tells, cases_lt, mod_below, pow_pos, get_or-set_same, get_or-set_other, get_or-take, length-take-le, get_or_default, take-map, drop-map}
use Rattle.cycle_sim.proofs.Common.{take_at, drop_at, take-set-le, Bit, Cell, RawNetlist, number, cell_number, Nets, plain, values, bits_at, q_bits, input_ports, output_port, ports_seen, port_numbers}
use Rattle.cycle_sim.proofs.Common.{Holds, times, times_at, y_bits, ports_of, Reads, Plan, IsSound, laid, number_at, all_zero, FitPorts, driving, values-agree, laid-other, nets_of, mark_at}
use Rattle.cycle_sim.proofs.Common.{ReadsDriver, AreReaders, IsComputed, IsCurrent, IsPut, AreHeld, front, found-inside}
use Rattle.std.proofs.lemmas.List.Elements.{Contains-get_or}
use Rattle.cycle_sim.proofs.PartNumbers.{driver-number}
use Rattle.cycle_sim.proofs.Laid.{set-lays}
use Rattle.cycle_sim.proofs.Plans.{driving-once, driving-y, table-numbers, fit-length, fit-set}
use Rattle.cycle_sim.proofs.Computed.{place, place-inside, item-some}

-- A cell that reads none of a driver's nets sees the same whatever the driver's number is.

seen-same : (a b : Nets) (c p : ℕ) (ports : List (List Bit)) → ((n : ℕ) → 1 ≤ times_at n ports → a n ≡ b n) → ports_seen (plain a) c p ports ≡ ports_seen (plain b) c p ports
seen-same a b c p [] same = refl
seen-same a b c p (bits ∷ more) same =
    let here : values a bits ≡ values b bits = values-agree a b bits (λ n some. same n (omega (arith, some))) in
    let rest : ports_seen (plain a) c (p + 1) more ≡ ports_seen (plain b) c (p + 1) more = seen-same a b c (p + 1) more (λ n some. same n (omega (arith, some))) in
    ap (λ (x : List Bool). x ∷ ports_seen (plain a) c (p + 1) more) here ∙ ap (λ (l : List (List Bool)). values b bits ∷ l) rest

module _ (plan : Plan) (sound : IsSound plan) (table : List ℕ) (fit : FitPorts (driving plan.raw) table) where
  abbrev raw : RawNetlist
  raw = plan.raw

  long : length table ≡ length (driving raw)
  long = fit-length (driving raw) table fit

  unread : (c d : ℕ) (g : Cell) → slice_get raw.cells c ≡ Some g → ¬ ReadsDriver raw c d → (n : ℕ) → 1 ≤ times_at n (input_ports g.ports) → times n (get_or (driving raw) d []) ≡ 0
  unread c d g found apart n reads = elim (cases_lt 0 (times n (get_or (driving raw) d []))) [
    | inl some ↦ absurd (apart (n, subst (λ (o : Option Cell). 1 ≤ times_at n (input_ports (ports_of o))) (sym found) reads, omega (arith, some)))
    | inr none ↦ omega (arith, none)
  ]

  number-same : (c d v : ℕ) (g : Cell) → slice_get raw.cells c ≡ Some g → ¬ ReadsDriver raw c d → d < length table → number_at (plain (nets_of raw table)) c g ≡ number_at (plain (nets_of raw (set table d v))) c g
  number-same c d v g found apart inside =
      let lays : nets_of raw (set table d v) ≡ laid (nets_of raw table) (get_or (driving raw) d []) v = set-lays all_zero (driving raw) table d v (driving-once plan sound) long (omega (arith, long, inside)) in
      let same : (n : ℕ) → 1 ≤ times_at n (input_ports g.ports) → nets_of raw table n ≡ nets_of raw (set table d v) n = λ n reads. sym (ap (λ (x : Nets). x n) lays ∙ laid-other (nets_of raw table) (get_or (driving raw) d []) v n (unread c d g found apart n reads)) in
      ap (λ (ports : List (List Bool)). cell_number g.kind g.is_signed (length (output_port g.ports)) ports) (seen-same (nets_of raw table) (nets_of raw (set table d v)) c 0 (input_ports g.ports) same)

  -- its number is still the right one
  pub kept-computed : (c d v : ℕ) → ¬ ReadsDriver raw c d → place raw c ≢ d → d < length table → IsComputed raw table c → IsComputed raw (set table d v) c
  kept-computed c d v apart other inside is g found =
      get_or-set_other table d (place raw c) v 0 other ∙ is g found ∙ ap (λ (x : ℕ). x % 2 ^ length (output_port g.ports)) (number-same c d v g found apart inside)

  -- and that of a cell that doesn't read itself is right where it was computed
  pub own-computed : (c v : ℕ) → ¬ ReadsDriver raw c (place raw c) → c < length raw.cells → ((g : Cell) → slice_get raw.cells c ≡ Some g → v ≡ number_at (plain (nets_of raw table)) c g % 2 ^ length (output_port g.ports)) → IsComputed raw (set table (place raw c) v) c
  own-computed c v apart inside is g found =
      let within = place-inside plan table c fit inside in
      get_or-set_same table (place raw c) v 0 within ∙ is g found ∙ ap (λ (x : ℕ). x % 2 ^ length (output_port g.ports)) (number-same c (place raw c) v g found apart within)

-- Places in the order.

module _ (plan : Plan) (sound : IsSound plan) where
  abbrev cell_at : ℕ → ℕ
  cell_at k = get_or plan.order k 0

  pub cell-inside : (k : ℕ) → k < length plan.order → cell_at k < length plan.raw.cells
  cell-inside k inside = (sound.order.places k inside).ready.node

  -- a cell that was listed has another number
  order-apart : (j k : ℕ) → j < k → k < length plan.order → cell_at j ≢ cell_at k
  order-apart j k less inside same =
      (sound.order.places k inside).ready.unlisted (j, (let l = length-take-le k plan.order (omega (arith, inside)) in omega (arith, l, less)), get_or-take k plan.order j (cell_at k) less ∙ get_or_default plan.order j (cell_at k) 0 (omega (arith, less, inside)) ∙ same)

  pub order-same : (j k : ℕ) → j < length plan.order → k < length plan.order → cell_at j ≡ cell_at k → j ≡ k
  order-same j k in_j in_k same = elim (cases_lt j k) [
    | inl less ↦ absurd (order-apart j k less in_k same)
    | inr le ↦ elim (cases_lt k j) [
      | inl more ↦ absurd (order-apart k j more in_j (sym same))
      | inr ge ↦ omega (arith, le, ge)
    ]
  ]

  reads-cell : (c e : ℕ) → e < length plan.raw.cells → ReadsDriver plan.raw c (place plan.raw e) → Reads plan.raw c e
  reads-cell c e inside reads =
      let some = item-some plan.raw.cells e inside in
      let y : get_or (driving plan.raw) (place plan.raw e) [] ≡ output_port (ports_of (slice_get plan.raw.cells e)) = driving-y plan.raw e some.0 some.1 ∙ ap (λ (o : Option Cell). output_port (ports_of o)) (sym some.1) in
      (reads.0, reads.1, subst (λ (b : List Bit). 1 ≤ times reads.0 b) y reads.2)

  -- what a cell reads stands before it
  pub reads-before : (p k : ℕ) → p < length plan.order → k < length plan.order → ReadsDriver plan.raw (cell_at k) (place plan.raw (cell_at p)) → p < k
  reads-before p k in_p in_k reads =
      let listed : Contains (take k plan.order) (cell_at p) = (sound.order.places k in_k).ready.reads (cell_at p) (reads-cell (cell_at k) (cell_at p) (cell-inside p in_p) reads) in
      let j : ℕ = listed.0 in
      let less : j < k = (let l = length-take-le k plan.order (omega (arith, in_k)) in let i = listed.1 in omega (arith, l, i)) in
      let is : cell_at j ≡ cell_at p = get_or_default plan.order j 0 (cell_at p) (omega (arith, less, in_k)) ∙ sym (get_or-take k plan.order j (cell_at p) less) ∙ listed.2 in
      let same = order-same j p (omega (arith, less, in_k)) in_p is in
      omega (arith, same, less)

  -- A number is put.

  module _ (readers : List (List ℕ)) (are : AreReaders plan readers) (table marks new new_marks : List ℕ) (d v : ℕ) (fit : FitPorts (driving plan.raw) table) (put : IsPut (get_or readers d []) d v table marks new new_marks) (inside : d < length table) where
    pub kept-place : (k : ℕ) → k < length plan.order → mark_at new_marks k ≡ 0 → place plan.raw (cell_at k) ≢ d → IsComputed plan.raw table (cell_at k) → IsComputed plan.raw new (cell_at k)
    kept-place k in_k unmarked other is = elim put.marked [
      | inl same ↦ subst (λ (t : List ℕ). IsComputed plan.raw t (cell_at k)) (sym same) is
      | inr all ↦
          (let apart : ¬ ReadsDriver plan.raw (cell_at k) d = λ reads. absurd (let one = all k (are.listed d k in_k reads) in omega (arith, one, unmarked)) in
          subst (λ (t : List ℕ). IsComputed plan.raw t (cell_at k)) (sym put.written) (kept-computed plan sound table fit (cell_at k) d v apart other inside is))
    ]

    -- the number of an input or a register
    pub source-held : d < length plan.raw.inputs + length plan.raw.registers → v < 2 ^ length (get_or (driving plan.raw) d []) → IsCurrent plan table marks → AreHeld plan new new_marks
    source-held source small current = record {
      fit = subst (FitPorts (driving plan.raw)) (sym put.written) (fit-set (driving plan.raw) table d v fit small);
      current = record {
        room = (let l = put.long in let r = current.room in omega (arith, l, r));
        small = (let l = put.long in let s = current.small in omega (arith, l, s));
        computed = λ k in_k unmarked. kept-place k in_k unmarked (λ e. absurd (omega (arith, e, source))) (current.computed k in_k (put.kept k unmarked));
      };
    }

  -- the number of the cell at a place that was marked
  module _ (readers : List (List ℕ)) (are : AreReaders plan readers) (table marks opened new new_marks : List ℕ) (p v : ℕ) (held : AreHeld plan table marks) (in_p : p < length plan.order) (value : (g : Cell) → slice_get plan.raw.cells (cell_at p) ≡ Some g → v ≡ number_at (plain (nets_of plan.raw table)) (cell_at p) g % 2 ^ length (output_port g.ports)) (same_long : length opened ≡ length marks) (others : (k : ℕ) → k ≢ p → mark_at opened k ≡ mark_at marks k) (here : mark_at opened p ≡ 0) (put : IsPut (get_or readers (place plan.raw (cell_at p)) []) (place plan.raw (cell_at p)) v table opened new new_marks) where
    abbrev c : ℕ
    c = cell_at p

    abbrev d : ℕ
    d = place plan.raw c

    inside_d : d < length table
    inside_d = place-inside plan table c held.fit (cell-inside p in_p)

    behind : (k : ℕ) → k ≤ p → ¬ Contains (get_or readers d []) k
    behind k le listed = absurd (let reads = are.only d k listed in let b = reads-before p k in_p reads.0 reads.1 in omega (arith, b, le))

    unread-self : ¬ ReadsDriver plan.raw c d
    unread-self reads = absurd (let b = reads-before p p in_p in_p reads in omega (arith, b))

    now-computed : (k : ℕ) → k < length plan.order → mark_at new_marks k ≡ 0 → IsComputed plan.raw new (cell_at k)
    now-computed k in_k unmarked = elim (eqb_tells k p) [
      | inl same ↦ subst (λ (j : ℕ). IsComputed plan.raw new (cell_at j)) (sym same.1) (subst (λ (t : List ℕ). IsComputed plan.raw t c) (sym put.written) (own-computed plan sound table held.fit c v unread-self (cell-inside p in_p) value))
      | inr other ↦
          (let apart : place plan.raw (cell_at k) ≢ d = λ e. other.1 (order-same k p in_k in_p (omega (arith, e))) in
          let was : mark_at marks k ≡ 0 = sym (others k other.1) ∙ put.kept k unmarked in
          kept-place readers are table opened new new_marks d v held.fit put inside_d k in_k unmarked apart (held.current.computed k in_k was))
    ]

    pub cell-held : v < 2 ^ length (get_or (driving plan.raw) d []) → AreHeld plan new new_marks
    cell-held small = record {
      fit = subst (FitPorts (driving plan.raw)) (sym put.written) (fit-set (driving plan.raw) table d v held.fit small);
      current = record {
        room = (let l = put.long in let r = held.current.room in omega (arith, l, r, same_long));
        small = (let l = put.long in let s = held.current.small in omega (arith, l, s, same_long));
        computed = now-computed;
      };
    }

    pub cell-here : mark_at new_marks p ≡ 0
    cell-here = put.others p (behind p (omega arith)) ∙ here

    pub cell-before : (k : ℕ) → k < p → mark_at new_marks k ≡ mark_at marks k
    cell-before k less = put.others k (behind k (omega (arith, less))) ∙ others k (λ e. absurd (omega (arith, e, less)))

  -- places in the lists of readers
  pub readers-room : (readers : List (List ℕ)) → AreReaders plan readers → (most d : ℕ) → length plan.order ≤ most → All (λ k. k < most) (get_or readers d [])
  readers-room readers are most d le = λ k e inside. (let o = are.only d (get_or (get_or readers d []) k e) (Contains-get_or (get_or readers d []) k e inside) in let i = o.0 in omega (arith, i, le))

  value-small : (table : List ℕ) (c v : ℕ) → c < length plan.raw.cells → ((g : Cell) → slice_get plan.raw.cells c ≡ Some g → v ≡ number_at (plain (nets_of plan.raw table)) c g % 2 ^ length (output_port g.ports)) → v < 2 ^ length (get_or (driving plan.raw) (place plan.raw c) [])
  value-small table c v inside value =
      let some = item-some plan.raw.cells c inside in
      let g : Cell = some.0 in
      let y : get_or (driving plan.raw) (place plan.raw c) [] ≡ output_port g.ports = driving-y plan.raw c g some.1 in
      let small : number_at (plain (nets_of plan.raw table)) c g % 2 ^ length (output_port g.ports) < 2 ^ length (output_port g.ports) = mod_below (number_at (plain (nets_of plan.raw table)) c g) (2 ^ length (output_port g.ports)) (pow_pos (length (output_port g.ports))) in
      subst (λ (b : List Bit). v < 2 ^ length b) (sym y) (subst (λ (x : ℕ). x < 2 ^ length (output_port g.ports)) (sym (value g some.1)) small)

  -- The cell at place p is computed: number n, driver d, and its number v from the numbers that were read.
  pub record IsSettled (p : ℕ) (table marks new new_marks : List ℕ) : Type 0 where
    pub held : AreHeld plan new new_marks
    pub same : front plan.raw new ≡ front plan.raw table
    pub here : mark_at new_marks p ≡ 0
    pub before : (k : ℕ) → k < p → mark_at new_marks k ≡ mark_at marks k

  pub cell-settled : (readers : List (List ℕ)) → AreReaders plan readers → (table marks opened new new_marks read : List ℕ) (p n d v : ℕ) → AreHeld plan table marks → p < length plan.order → n ≡ cell_at p → d ≡ place plan.raw n → read ≡ table → ((g : Cell) → slice_get plan.raw.cells n ≡ Some g → v ≡ number_at (plain (nets_of plan.raw read)) n g % 2 ^ length (output_port g.ports)) → length opened ≡ length marks → mark_at opened p ≡ 0 → ((k : ℕ) → k ≢ p → mark_at opened k ≡ mark_at marks k) → IsPut (get_or readers d []) d v table opened new new_marks → IsSettled p table marks new new_marks
  cell-settled readers are table marks opened new new_marks read p n d v held in_p n_is d_is read_is value same_long here others put =
      let there : d ≡ place plan.raw (cell_at p) = d_is ∙ ap (place plan.raw) n_is in
      let put_at : IsPut (get_or readers (place plan.raw (cell_at p)) []) (place plan.raw (cell_at p)) v table opened new new_marks = subst (λ (e : ℕ). IsPut (get_or readers e []) e v table opened new new_marks) there put in
      let value_at : (g : Cell) → slice_get plan.raw.cells (cell_at p) ≡ Some g → v ≡ number_at (plain (nets_of plan.raw table)) (cell_at p) g % 2 ^ length (output_port g.ports) =
      subst (λ (m : ℕ). (g : Cell) → slice_get plan.raw.cells m ≡ Some g → v ≡ number_at (plain (nets_of plan.raw table)) m g % 2 ^ length (output_port g.ports)) n_is
      (subst (λ (t : List ℕ). (g : Cell) → slice_get plan.raw.cells n ≡ Some g → v ≡ number_at (plain (nets_of plan.raw t)) n g % 2 ^ length (output_port g.ports)) read_is value) in
      record {
        held = cell-held readers are table marks opened new new_marks p v held in_p value_at same_long others here put_at (value-small table (cell_at p) v (cell-inside p in_p) value_at);
        same = ap (front plan.raw) put_at.written ∙ take-set-le (length plan.raw.inputs + length plan.raw.registers) table (place plan.raw (cell_at p)) v (omega arith);
        here = cell-here readers are table marks opened new new_marks p v held in_p value_at same_long others here put_at;
        before = cell-before readers are table marks opened new new_marks p v held in_p value_at same_long others here put_at;
      }

  -- where no place is marked, all cells are computed
  pub all-computed : (table marks : List ℕ) → IsCurrent plan table marks → ((k : ℕ) → k < length plan.order → mark_at marks k ≡ 0) → (c : ℕ) → c < length plan.raw.cells → IsComputed plan.raw table c
  all-computed table marks current none c inside =
      let listed : Contains plan.order c = sound.order.each c inside in
      let k : ℕ = listed.0 in
      let is : cell_at k ≡ c = get_or_default plan.order k 0 c listed.1 ∙ listed.2 in
      subst (λ (e : ℕ). IsComputed plan.raw table e) is (current.computed k listed.1 (none k listed.1))

-- The cycle.

module _ (plan : Plan) (sound : IsSound plan) (table : List ℕ) (fit : FitPorts (driving plan.raw) table) where
  abbrev nets : Nets
  nets = nets_of plan.raw table

  abbrev ins : List (List Bit)
  ins = bits_at plan.raw.inputs

  abbrev qs : List (List Bit)
  qs = q_bits plan.raw.registers

  abbrev ys : List (List Bit)
  ys = y_bits plan.raw.cells

  all-numbers : port_numbers nets (driving plan.raw) ≡ table
  all-numbers = table-numbers plan sound table fit

  pub cell-number : (c : ℕ) (g : Cell) → slice_get plan.raw.cells c ≡ Some g → number (values nets (output_port g.ports)) ≡ get_or table (place plan.raw c) 0
  cell-number c g found =
      ap (λ (b : List Bit). number (values nets b)) (sym (driving-y plan.raw c g found)) ∙ driver-number nets (driving plan.raw) (place plan.raw c) ∙ ap (λ (t : List ℕ). get_or t (place plan.raw c) 0) all-numbers

  entered : port_numbers nets ins ≡ take (length ins) table
  entered =
      ap (port_numbers nets) (sym (take_at ins (qs ++ ys) (length ins) refl)) ∙ sym (take-map (λ (bits : List Bit). number (values nets bits)) (length ins) (driving plan.raw)) ∙ ap (take (length ins)) all-numbers

  behind-ins : port_numbers nets (qs ++ ys) ≡ drop (length ins) table
  behind-ins =
      ap (port_numbers nets) (sym (drop_at ins (qs ++ ys) (length ins) refl)) ∙ sym (drop-map (λ (bits : List Bit). number (values nets bits)) (length ins) (driving plan.raw)) ∙ ap (drop (length ins)) all-numbers

  stored : port_numbers nets qs ≡ take (length qs) (drop (length ins) table)
  stored =
      ap (port_numbers nets) (sym (take_at qs ys (length qs) refl)) ∙ sym (take-map (λ (bits : List Bit). number (values nets bits)) (length qs) (qs ++ ys)) ∙ ap (take (length qs)) behind-ins

  pub cycle-of : ((c : ℕ) → c < length plan.raw.cells → IsComputed plan.raw table c) → (inputs registers : List ℕ) → take (length ins) table ≡ inputs → take (length qs) (drop (length ins) table) ≡ registers → Holds (plain nets) nets plan.raw inputs registers
  cycle-of computed inputs registers is_in is_q = record {
    entered = entered ∙ is_in;
    stored = stored ∙ is_q;
    computed = λ c g found. cell-number c g found ∙ computed c (found-inside plan.raw.cells c g found) g found;
  }
