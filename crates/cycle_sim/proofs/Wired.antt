-- What wires read.
use Rattle.cycle_sim.proofs.Common.{◌≡◌, ℕ, zero, suc, ◌+◌, ◌*◌, ◌/◌, ◌%◌, ◌^◌, ◌<◌, ◌≤◌, Bool, true, false, List, [], ◌∷◌, ◌++◌, map, length, drop, get_or, refl, sym, ◌∙◌, ap, subst, inl, inr, arith}
use Rattle.cycle_sim.proofs.Common.{All, cases_lt, length-append, length-map, length-take, length-drop, get_or_past, Bit, number, low_bits, Nets, values, plain, ports_seen, port_numbers}
use Rattle.cycle_sim.proofs.Common.{length-values, number-fits, AllWide, Source, Constant, Driver, Part, Reading, Number, Whole, Single, Several, Wires, source_bits, part_bits, all_bits, AllWhole}
use Rattle.cycle_sim.proofs.Common.{IsReading, IsWired, AllWired, parts_number, total, IsInside, AllInside, IsRead, IsReadable, AllReadable, wires_bits}
use Rattle.cycle_sim.proofs.PartNumbers.{parts-number, driver-number}

-- the drivers have at most 128 bits each
abbrev pub AllNarrow : List (List Bit) → Type 0
AllNarrow drivers = All (λ (bits : List Bit). length bits ≤ 128) drivers

total-length : (drivers : List (List Bit)) (parts : List Part) → AllWhole drivers parts → total parts ≡ length (all_bits drivers parts)
total-length drivers [] whole = refl
total-length drivers (part ∷ more) whole =
    let rest = total-length drivers more whole.2 in
    let both = length-append (part_bits drivers part) (all_bits drivers more) in
    omega (arith, rest, both, whole.1)

source-inside : (drivers : List (List Bit)) (source : Source) (w : ℕ) → AllNarrow drivers → 1 ≤ w → length (source_bits drivers source w) ≡ w → IsInside (length drivers) source
source-inside drivers (Constant b) w narrow some whole = tt
source-inside drivers (Driver place) w narrow some whole =
    let bits : List Bit = get_or drivers place.driver [] in
    let t = length-take w (drop place.bit bits) in
    let l = length-drop place.bit bits in
    let in_bits : place.bit < length bits = omega (arith, t, l, whole, some) in
    elim (cases_lt place.driver (length drivers)) [
      | inl inside ↦ (inside, (let few = narrow place.driver [] inside in omega (arith, few, in_bits)))
      | inr past ↦ absurd (let none : length bits ≡ 0 = ap length (get_or_past drivers place.driver [] past) in omega (arith, none, in_bits))
    ]

all-inside : (drivers : List (List Bit)) (parts : List Part) → AllNarrow drivers → AllWhole drivers parts → AllInside (length drivers) parts
all-inside drivers [] narrow whole = tt
all-inside drivers (part ∷ more) narrow whole = (whole.0, source-inside drivers part.first part.width narrow whole.0 whole.1, all-inside drivers more narrow whole.2)

-- what is read is the number at the parts
read-by : (drivers : List (List Bit)) (reading : Reading) (parts : List Part) (bits : List Bit) (w : ℕ) (nets : Nets) (table : List ℕ) → port_numbers nets drivers ≡ table → parts_number table parts ≡ number (values nets bits) → w ≡ length bits → 1 ≤ length bits → IsReading drivers reading bits parts → IsRead table reading w parts
read-by drivers (Number n) parts bits w nets table is same wide some reads =
    let fits : number (values nets bits) < 2 ^ w = subst (λ (k : ℕ). number (values nets bits) < 2 ^ k) (length-values nets bits ∙ sym wide) (number-fits (values nets bits)) in
    (same ∙ reads nets, subst (λ (x : ℕ). x < 2 ^ w) (reads nets) fits)
read-by drivers (Whole d) parts bits w nets table is same wide some reads =
    let there : number (values nets bits) ≡ get_or table d 0 = ap (λ (b : List Bit). number (values nets b)) (sym reads) ∙ driver-number nets drivers d ∙ ap (λ (t : List ℕ). get_or t d 0) is in
    let fits : number (values nets bits) < 2 ^ w = subst (λ (k : ℕ). number (values nets bits) < 2 ^ k) (length-values nets bits ∙ sym wide) (number-fits (values nets bits)) in
    let long : length table ≡ length drivers = ap (λ (l : List ℕ). length l) (sym is) ∙ length-map drivers (λ (b : List Bit). number (values nets b)) in
    let inside : d < length drivers = elim (cases_lt d (length drivers)) [
      | inl low ↦ low
      | inr past ↦ absurd (let none : length (get_or drivers d []) ≡ 0 = ap length (get_or_past drivers d [] past) in let e : length (get_or drivers d []) ≡ length bits = ap (λ (b : List Bit). length b) reads in omega (arith, none, e, some))
    ] in
    (omega (arith, inside, long), same ∙ there, subst (λ (x : ℕ). x < 2 ^ w) there fits)
read-by drivers (Single part) parts bits w nets table is same wide some reads = reads
read-by drivers Several parts bits w nets table is same wide some reads = tt

pub wired-readable : (nets : Nets) (drivers : List (List Bit)) (table : List ℕ) → port_numbers nets drivers ≡ table → (wires : Wires) (bits : List Bit) → AllNarrow drivers → IsWired drivers wires bits → 1 ≤ length bits → length bits ≤ 128 → IsReadable table wires
wired-readable nets drivers table is wires bits narrow wired some few = record {
  some = (let w = wired.width in omega (arith, w, some));
  narrow = (let w = wired.width in omega (arith, w, few));
  total = total-length drivers wires.parts wired.whole ∙ ap length wired.bits ∙ sym wired.width;
  inside = subst (λ (n : ℕ). AllInside n wires.parts) (sym (length-map drivers (λ (b : List Bit). number (values nets b))) ∙ ap (λ (l : List ℕ). length l) is) (all-inside drivers wires.parts narrow wired.whole);
  read = read-by drivers wires.reading wires.parts bits wires.width nets table is (parts-number nets drivers table wires.parts is wired.whole ∙ ap (λ (b : List Bit). number (values nets b)) wired.bits) wired.width some wired.reading;
}

pub all-readable : (nets : Nets) (drivers : List (List Bit)) (table : List ℕ) → port_numbers nets drivers ≡ table → (wires : List Wires) (ports : List (List Bit)) → AllNarrow drivers → AllWired drivers wires ports → AllWide ports → AllReadable table wires
all-readable nets drivers table is [] [] narrow wired wide = tt
all-readable nets drivers table is [] (bits ∷ ports) narrow wired wide = absurd wired
all-readable nets drivers table is (w ∷ more) [] narrow wired wide = absurd wired
all-readable nets drivers table is (w ∷ more) (bits ∷ ports) narrow wired wide =
    (wired-readable nets drivers table is w bits narrow wired.0 wide.0 wide.1, all-readable nets drivers table is more ports narrow wired.1 wide.2)

pub wired-length : (drivers : List (List Bit)) (wires : List Wires) (ports : List (List Bit)) → AllWired drivers wires ports → length wires ≡ length ports
wired-length drivers [] [] wired = refl
wired-length drivers [] (bits ∷ ports) wired = absurd wired
wired-length drivers (w ∷ more) [] wired = absurd wired
wired-length drivers (w ∷ more) (bits ∷ ports) wired = ap suc (wired-length drivers more ports wired.1)

pub wired-at : (drivers : List (List Bit)) (wires : List Wires) (ports : List (List Bit)) (i : ℕ) (d : Wires) (e : List Bit) → AllWired drivers wires ports → i < length wires → IsWired drivers (get_or wires i d) (get_or ports i e)
wired-at drivers [] ports i d e wired inside = absurd (omega (arith, inside))
wired-at drivers (w ∷ more) [] i d e wired inside = absurd wired
wired-at drivers (w ∷ more) (bits ∷ ports) zero d e wired inside = wired.0
wired-at drivers (w ∷ more) (bits ∷ ports) (suc i) d e wired inside = wired-at drivers more ports i d e wired.1 (omega (arith, inside))

pub wired-push : (drivers : List (List Bit)) (wires : List Wires) (ports : List (List Bit)) (w : Wires) (bits : List Bit) → AllWired drivers wires ports → IsWired drivers w bits → AllWired drivers (wires ++ w ∷ []) (ports ++ bits ∷ [])
wired-push drivers [] [] w bits wired is = (is, tt)
wired-push drivers [] (b ∷ ports) w bits wired is = absurd wired
wired-push drivers (v ∷ more) [] w bits wired is = absurd wired
wired-push drivers (v ∷ more) (b ∷ ports) w bits wired is = (wired.0, wired-push drivers more ports w bits wired.1 is)

-- what is read at wires is the number at their bits
pub wires-number : (nets : Nets) (drivers : List (List Bit)) (table : List ℕ) (wires : Wires) (bits : List Bit) → port_numbers nets drivers ≡ table → IsWired drivers wires bits → parts_number table wires.parts ≡ number (values nets bits)
wires-number nets drivers table wires bits is wired = parts-number nets drivers table wires.parts is wired.whole ∙ ap (λ (b : List Bit). number (values nets b)) wired.bits

-- the bits of their number are they
bits-number : (bits : List Bool) → low_bits (length bits) (number bits) ≡ bits
unfolding low_bits
bits-number [] = refl
bits-number (true ∷ more) =
    let odd : (1 + 2 * number more) % 2 ≡ 1 = omega arith in
    let half : (1 + 2 * number more) / 2 ≡ number more = omega arith in
    rw (odd, half, bits-number more) refl
bits-number (false ∷ more) =
    let even : (0 + 2 * number more) % 2 ≡ 0 = omega arith in
    let half : (0 + 2 * number more) / 2 ≡ number more = omega arith in
    rw (even, half, bits-number more) refl

-- the bits at a gate's wires are what its cell sees
pub wires-seen : (nets : Nets) (table : List ℕ) (drivers : List (List Bit)) (wires : List Wires) (ports : List (List Bit)) (c p : ℕ) → port_numbers nets drivers ≡ table → AllWired drivers wires ports → map (wires_bits table) wires ≡ ports_seen (plain nets) c p ports
wires-seen nets table drivers [] [] c p is wired = refl
wires-seen nets table drivers [] (bits ∷ ports) c p is wired = absurd wired
wires-seen nets table drivers (w ∷ more) [] c p is wired = absurd wired
wires-seen nets table drivers (w ∷ more) (bits ∷ ports) c p is wired =
    let wide : w.width ≡ length (values nets bits) = wired.0.width ∙ sym (length-values nets bits) in
    let same : parts_number table w.parts ≡ number (values nets bits) = wires-number nets drivers table w bits is wired.0 in
    let here : wires_bits table w ≡ values nets bits = ap (λ (k : ℕ). low_bits k (parts_number table w.parts)) wide ∙ ap (low_bits (length (values nets bits))) same ∙ bits-number (values nets bits) in
    let others : map (wires_bits table) more ≡ ports_seen (plain nets) c (p + 1) ports = wires-seen nets table drivers more ports c (p + 1) is wired.1 in
    ap (λ (b : List Bool). b ∷ map (wires_bits table) more) here ∙ ap (λ (l : List (List Bool)). values nets bits ∷ l) others

pub wires-widths : (drivers : List (List Bit)) (wires : List Wires) (ports : List (List Bit)) → AllWired drivers wires ports → map (λ (w : Wires). w.width) wires ≡ map length ports
wires-widths drivers [] [] wired = refl
wires-widths drivers [] (bits ∷ ports) wired = absurd wired
wires-widths drivers (w ∷ more) [] wired = absurd wired
wires-widths drivers (w ∷ more) (bits ∷ ports) wired =
    ap (λ (k : ℕ). k ∷ map (λ (x : Wires). x.width) more) wired.0.width ∙ ap (λ (l : List ℕ). length bits ∷ l) (wires-widths drivers more ports wired.1)
