-- A mutant has no loop: a way through its new cell is one of the netlist without it.
use Rattle.mutation_sites.proofs.Common.{◌≡◌, ℕ, zero, suc, ◌+◌, ◌%◌, ◌<◌, ◌≤◌, List, [], ◌∷◌, ◌++◌, length, get_or, slice_get, Option, ◌⊎◌, inl, inr, refl, sym, ap, subst, ◌∙◌, arith, cases_lt}
use Rattle.mutation_sites.proofs.Common.{eqb_tells, Span, Bit, Fixed, Net, Gate, RawNetlist, Port, input_ports, output_port, times, times_at, drivers, readers, ports_of, Reads, ReadsThrough, IsOnLoop}
use Rattle.mutation_sites.proofs.Common.{Never, Plan, IsSound, y-one, y-two, Mode, Inv, Const0, Const1, Cnot0, Cnot1, Place, Cell, Register, Site, Readers, Change, Nothing, port_at, readers_of_bit}
use Rattle.mutation_sites.proofs.Common.{readers_at, change_of, connected, ports_connected, cells_connected, new_bit, new_cells, bit_of, control_of, span_at, mutant_of}
use Rattle.netlist_core.proofs.Reading.{cell-reads, driver-inside, way-inside, through_more}
use Rattle.mutation_sites.specs.declared.readers.Readers.TheVariants.{Nobody, OfPort, OfNext, OfNet}
use Rattle.mutation_sites.proofs.Alike.{output-same}
use Rattle.mutation_sites.proofs.More.{length-cells, new-few}
use Rattle.mutation_sites.proofs.Unread.{times-self, bit-has, last-port, q-has, place-has, unread}
use Rattle.mutation_sites.proofs.Kept.{Tapped, connected-cases, new-other}
use Rattle.netlist_core.proofs.Sources.{some-of}

-- Who reads the new net.

-- a cell reads the mutated bit at an input port, counted from this port on
abbrev Touched : Readers → ℕ → ℕ → List (List Bit) → Type 0
Touched Nobody c p ports = ⊥
Touched (OfPort d q i) c p ports = (d ≡ c) × ((k : ℕ) × (q ≡ p + k) × (k + 1 < length ports))
Touched (OfNext r i) c p ports = ⊥
Touched (OfNet n) c p ports = 1 ≤ times_at n (input_ports ports)

-- where the change of a cell's port is at a bit, cell and port are that of the readers
at-port : (d q i c p : ℕ) (a : List Bit) → Tapped (change_of (OfPort d q i) (Port c p)) a → (d ≡ c) × (q ≡ p)
at-port d q i c p a tapped = elim (eqb_tells d c) [
  | inl cell ↦ elim (eqb_tells q p) [
    | inl place ↦ (cell.1, place.1)
    | inr other ↦ (
        let is : change_of (OfPort d q i) (Port c p) ≡ Nothing = rw (cell.0, other.0) refl in
        absurd (subst (λ (change : Change). Tapped change a) is tapped))
  ]
  | inr other ↦ (
      let is : change_of (OfPort d q i) (Port c p) ≡ Nothing = rw other.0 refl in
      absurd (subst (λ (change : Change). Tapped change a) is tapped))
]

touched-here : (taps : Readers) (c p : ℕ) (a b : List Bit) (more : List (List Bit)) → Tapped (change_of taps (Port c p)) a → Touched taps c p (a ∷ b ∷ more)
touched-here Nobody c p a b more tapped = tapped
touched-here (OfPort d q i) c p a b more tapped =
    let at = at-port d q i c p a tapped in
    let place : q ≡ p + 0 = omega (arith, at.1) in
    (at.0, (0, place, omega arith))
touched-here (OfNext r i) c p a b more tapped = tapped
touched-here (OfNet n) c p a b more tapped = omega (arith, tapped)

touched-later : (taps : Readers) (c p : ℕ) (a b : List Bit) (more : List (List Bit)) → Touched taps c (p + 1) (b ∷ more) → Touched taps c p (a ∷ b ∷ more)
touched-later Nobody c p a b more touched = touched
touched-later (OfPort d q i) c p a b more touched =
    let place : q ≡ p + suc touched.1.0 = omega (arith, touched.1.1) in
    (touched.0, (suc touched.1.0, place, omega (arith, touched.1.2)))
touched-later (OfNext r i) c p a b more touched = touched
touched-later (OfNet n) c p a b more touched = omega (arith, touched)

-- a net that a cell of the mutant reads is one that it read, or the new one
ports-cases : (n : ℕ) (taps : Readers) (new : Bit) (c p : ℕ) (ports : List (List Bit)) → 1 ≤ times_at n (input_ports (ports_connected taps new c p ports)) → (1 ≤ times_at n (input_ports ports)) ⊎ ((1 ≤ times n (new ∷ [])) × Touched taps c p ports)
ports-cases n taps new c p [] h = inl h
ports-cases n taps new c p (y ∷ []) h = inl h
ports-cases n taps new c p (a ∷ b ∷ []) h = elim (connected-cases n (change_of taps (Port c p)) new a (omega (arith, h))) [
  | inl old ↦ inl (omega (arith, old))
  | inr added ↦ inr (added.0, touched-here taps c p a b [] added.1)
]
ports-cases n taps new c p (a ∷ b ∷ d ∷ more) h = elim (some-of (times n (connected (change_of taps (Port c p)) new a)) (times_at n (input_ports (ports_connected taps new c (p + 1) (b ∷ d ∷ more)))) (omega (arith, h))) [
  | inl here ↦ elim (connected-cases n (change_of taps (Port c p)) new a here) [
    | inl old ↦ inl (omega (arith, old))
    | inr added ↦ inr (added.0, touched-here taps c p a b (d ∷ more) added.1)
  ]
  | inr there ↦ elim (ports-cases n taps new c (p + 1) (b ∷ d ∷ more) there) [
    | inl old ↦ inl (omega (arith, old))
    | inr added ↦ inr (added.0, touched-later taps c p a b (d ∷ more) added.1)
  ]
]

-- The cells of a mutant.

old-cell : (taps : Readers) (new : Bit) (k c : ℕ) (cells extra : List Gate) → c < length cells → ports_of (slice_get (cells_connected taps new k cells ++ extra) c) ≡ ports_connected taps new (k + c) 0 (ports_of (slice_get cells c))
old-cell taps new k c [] extra inside = absurd (omega (arith, inside))
old-cell taps new k zero (cell ∷ more) extra inside =
    let first : k ≡ k + zero = omega arith in
    ap (λ (j : ℕ). ports_connected taps new j 0 cell.ports) first
old-cell taps new k (suc c) (cell ∷ more) extra inside =
    let later : k + 1 + c ≡ k + suc c = omega arith in
    old-cell taps new (k + 1) c more extra (omega (arith, inside)) ∙ ap (λ (j : ℕ). ports_connected taps new j 0 (ports_of (slice_get more c))) later

new-cell : (taps : Readers) (new : Bit) (k j : ℕ) (cells extra : List Gate) → slice_get (cells_connected taps new k cells ++ extra) (length cells + j) ≡ slice_get extra j
new-cell taps new k j [] extra = let first : 0 + j ≡ j = omega arith in ap (slice_get extra) first
new-cell taps new k j (cell ∷ more) extra =
    let first : length (cell ∷ more) + j ≡ suc (length more + j) = omega arith in
    ap (slice_get (cells_connected taps new k (cell ∷ more) ++ extra)) first ∙ new-cell taps new (k + 1) j more extra

-- the new cell drives the new net, and reads the bit and its control bit
new-drives : (mode : Mode) (bit control : Bit) (fresh : ℕ) (span : Span) (n : ℕ) → 1 ≤ times n (output_port (ports_of (slice_get (new_cells mode bit control fresh span) 0))) → 1 ≤ times n (new_bit mode fresh ∷ [])
new-drives Inv bit control fresh span n h = h
new-drives Const0 bit control fresh span n h = absurd (omega (arith, h))
new-drives Const1 bit control fresh span n h = absurd (omega (arith, h))
new-drives Cnot0 bit control fresh span n h = h
new-drives Cnot1 bit control fresh span n h = h

new-reads : (mode : Mode) (bits : List Bit) (i fresh : ℕ) (span : Span) (n : ℕ) → 1 ≤ times_at n (input_ports (ports_of (slice_get (new_cells mode (bit_of bits i) (control_of bits i) fresh span) 0))) → 1 ≤ times n bits
new-reads Inv bits i fresh span n h = omega (arith, h, bit-has n bits i)
new-reads Const0 bits i fresh span n h = absurd (omega (arith, h))
new-reads Const1 bits i fresh span n h = absurd (omega (arith, h))
new-reads Cnot0 bits i fresh span n h = omega (arith, h, bit-has n bits i, bit-has n bits ((i + 1) % length bits))
new-reads Cnot1 bits i fresh span n h = omega (arith, h, bit-has n bits i, bit-has n bits ((i + 1) % length bits))

-- Through the new cell.

input-has : (n : ℕ) (ports : List (List Bit)) (k : ℕ) → k + 1 < length ports → times n (get_or ports k []) ≤ times_at n (input_ports ports)
input-has n [] k inside = absurd (omega (arith, inside))
input-has n (y ∷ []) k inside = absurd (omega (arith, inside))
input-has n (a ∷ b ∷ more) zero inside = omega arith
input-has n (a ∷ b ∷ more) (suc k) inside = let rest = input-has n (b ∷ more) k (omega (arith, inside)) in omega (arith, rest)

-- readers of a bit read its net
of-bit : (b : Bit) (c : ℕ) (ports : List (List Bit)) → Touched (readers_of_bit b) c 0 ports → (n : ℕ) × (b ≡ Net n) × (1 ≤ times_at n (input_ports ports))
of-bit (Fixed v) c ports touched = absurd touched
of-bit (Net n) c ports touched = (n, refl, touched)

-- a bit of a port is among its bits
among : (bits : List Bit) (i n : ℕ) → bit_of bits i ≡ Net n → 1 ≤ times n bits
among bits i n is =
    let one : times n (bit_of bits i ∷ []) ≡ 1 = ap (λ (b : Bit). times n (b ∷ [])) is ∙ times-self n in
    omega (arith, one, bit-has n bits i)

one-driver : (plan : Plan) → IsSound plan → (s d n : ℕ) → 1 ≤ times n (output_port (ports_of (slice_get plan.raw.cells s))) → 1 ≤ times n (output_port (ports_of (slice_get plan.raw.cells d))) → s ≡ d
one-driver plan sound s d n first second = elim (eqb_tells s d) [
  | inl same ↦ same.1
  | inr other ↦ absurd (sound.connected.driven.single n (omega (arith, first, second, y-two plan.raw.cells s d n other.1)))
]

-- a cell that reads the mutated bit at a cell's port read what drives the port's bits
through-cell : (plan : Plan) → IsSound plan → (s p i c n d : ℕ) → Touched (readers_at plan.raw (Cell s) p i) c 0 (ports_of (slice_get plan.raw.cells c)) → 1 ≤ times n (port_at plan.raw (Cell s) p) → 1 ≤ times n (output_port (ports_of (slice_get plan.raw.cells d))) → Reads plan.raw c d
through-cell plan sound s p i c n d touched there driven =
    let cells = plan.raw.cells in
    let ports = ports_of (slice_get cells s) in
    let mine = ports_of (slice_get cells c) in
    elim (eqb_tells (p + 1) (length ports)) [
      | inl last ↦ (
          let is : readers_at plan.raw (Cell s) p i ≡ readers_of_bit (bit_of (get_or ports p []) i) = rw last.0 refl in
          let read = of-bit (bit_of (get_or ports p []) i) c mine (subst (λ (taps : Readers). Touched taps c 0 mine) is touched) in
          let y : get_or ports p [] ≡ output_port ports = last-port ports p [] last.1 in
          let drives : 1 ≤ times read.0 (output_port ports) = subst (λ (bits : List Bit). 1 ≤ times read.0 bits) y (among (get_or ports p []) i read.0 read.1) in
          let own : 1 ≤ times n (output_port ports) = subst (λ (bits : List Bit). 1 ≤ times n bits) y there in
          subst (λ (e : ℕ). Reads plan.raw c e) (one-driver plan sound s d n own driven) (read.0, read.2, drives))
      | inr other ↦ (
          let is : readers_at plan.raw (Cell s) p i ≡ OfPort s p i = rw other.0 refl in
          let at : Touched (OfPort s p i) c 0 mine = subst (λ (taps : Readers). Touched taps c 0 mine) is touched in
          let place : at.1.0 ≡ p = omega (arith, at.1.1) in
          let mine_has : times n (get_or mine at.1.0 []) ≤ times_at n (input_ports mine) = input-has n mine at.1.0 at.1.2 in
          let same : times n (get_or ports p []) ≡ times n (get_or mine at.1.0 []) = ap (λ (e : ℕ). times n (get_or (ports_of (slice_get cells e)) p [])) at.0 ∙ ap (λ (k : ℕ). times n (get_or mine k [])) (sym place) in
          (n, omega (arith, there, same, mine_has), driven))
    ]

-- no cell reads the mutated bit of a D, and what a register drives no cell drives
through-register : (plan : Plan) → IsSound plan → (r p i c n d : ℕ) → Touched (readers_at plan.raw (Register r) p i) c 0 (ports_of (slice_get plan.raw.cells c)) → 1 ≤ times n (port_at plan.raw (Register r) p) → 1 ≤ times n (output_port (ports_of (slice_get plan.raw.cells d))) → Reads plan.raw c d
through-register plan sound r zero i c n d touched there driven = absurd touched
through-register plan sound r (suc p) i c n d touched there driven =
    absurd (sound.connected.driven.single n (omega (arith, there, driven, q-has n plan.raw.registers r p, y-one plan.raw.cells d n)))

through-place : (plan : Plan) → IsSound plan → (place : Place) (p i c n d : ℕ) → Touched (readers_at plan.raw place p i) c 0 (ports_of (slice_get plan.raw.cells c)) → 1 ≤ times n (port_at plan.raw place p) → 1 ≤ times n (output_port (ports_of (slice_get plan.raw.cells d))) → Reads plan.raw c d
through-place plan sound (Cell s) p i c n d touched there driven = through-cell plan sound s p i c n d touched there driven
through-place plan sound (Register r) p i c n d touched there driven = through-register plan sound r p i c n d touched there driven

-- What cells of a mutant read.

-- the mutant, from a netlist and a number that is no net of it
record IsFresh (plan : Plan) (fresh : ℕ) : Type 0 where
  pub sound : IsSound plan
  pub none : drivers plan.raw fresh ≡ 0

-- what an old cell drives
drives-old : (netlist : RawNetlist) (site : Site) (fresh c n : ℕ) → c < length netlist.cells → times n (output_port (ports_of (slice_get (mutant_of netlist site fresh).cells c))) ≡ times n (output_port (ports_of (slice_get netlist.cells c)))
drives-old netlist site fresh c n inside =
    let taps = readers_at netlist site.place site.port site.bit in
    let new = new_bit site.mode fresh in
    let bits = port_at netlist site.place site.port in
    let extra = new_cells site.mode (bit_of bits site.bit) (control_of bits site.bit) fresh (span_at netlist site.place) in
    ap (λ (ports : List (List Bit)). times n (output_port ports)) (old-cell taps new 0 c netlist.cells extra inside) ∙ ap (times n) (output-same taps new (0 + c) 0 (ports_of (slice_get netlist.cells c)))

-- what an old cell reads
reads-cases : (netlist : RawNetlist) (site : Site) (fresh c n : ℕ) → c < length netlist.cells → 1 ≤ times_at n (input_ports (ports_of (slice_get (mutant_of netlist site fresh).cells c))) → (1 ≤ times_at n (input_ports (ports_of (slice_get netlist.cells c)))) ⊎ ((1 ≤ times n (new_bit site.mode fresh ∷ [])) × Touched (readers_at netlist site.place site.port site.bit) c 0 (ports_of (slice_get netlist.cells c)))
reads-cases netlist site fresh c n inside h =
    let taps = readers_at netlist site.place site.port site.bit in
    let new = new_bit site.mode fresh in
    let bits = port_at netlist site.place site.port in
    let extra = new_cells site.mode (bit_of bits site.bit) (control_of bits site.bit) fresh (span_at netlist site.place) in
    let number : 0 + c ≡ c = omega arith in
    let is : ports_of (slice_get (mutant_of netlist site fresh).cells c) ≡ ports_connected taps new c 0 (ports_of (slice_get netlist.cells c)) = old-cell taps new 0 c netlist.cells extra inside ∙ ap (λ (j : ℕ). ports_connected taps new j 0 (ports_of (slice_get netlist.cells c))) number in
    ports-cases n taps new c 0 (ports_of (slice_get netlist.cells c)) (subst (λ (ports : List (List Bit)). 1 ≤ times_at n (input_ports ports)) is h)

-- the last cell
last-is : (netlist : RawNetlist) (site : Site) (fresh : ℕ) → slice_get (mutant_of netlist site fresh).cells (length netlist.cells) ≡ slice_get (new_cells site.mode (bit_of (port_at netlist site.place site.port) site.bit) (control_of (port_at netlist site.place site.port) site.bit) fresh (span_at netlist site.place)) 0
last-is netlist site fresh =
    let taps = readers_at netlist site.place site.port site.bit in
    let new = new_bit site.mode fresh in
    let bits = port_at netlist site.place site.port in
    let extra = new_cells site.mode (bit_of bits site.bit) (control_of bits site.bit) fresh (span_at netlist site.place) in
    let number : length netlist.cells ≡ length netlist.cells + 0 = omega arith in
    ap (slice_get (mutant_of netlist site fresh).cells) number ∙ new-cell taps new 0 0 netlist.cells extra

-- a net that a cell drives isn't the new one
driven-old : (plan : Plan) (fresh : ℕ) → IsFresh plan fresh → (mode : Mode) (d n : ℕ) → 1 ≤ times n (output_port (ports_of (slice_get plan.raw.cells d))) → times n (new_bit mode fresh ∷ []) ≡ 0
driven-old plan fresh is mode d n driven = new-other mode fresh n (λ same. let none : drivers plan.raw n ≡ 0 = subst (λ (k : ℕ). drivers plan.raw k ≡ 0) same is.none in omega (arith, none, driven, y-one plan.raw.cells d n))

-- an old cell reads an old cell as it did
reads-old : (plan : Plan) (site : Site) (fresh : ℕ) → IsFresh plan fresh → (c d : ℕ) → c < length plan.raw.cells → d < length plan.raw.cells → Reads (mutant_of plan.raw site fresh) c d → Reads plan.raw c d
reads-old plan site fresh is c d first second read =
    let driven : 1 ≤ times read.0 (output_port (ports_of (slice_get plan.raw.cells d))) = omega (arith, read.2, drives-old plan.raw site fresh d read.0 second) in
    elim (reads-cases plan.raw site fresh c read.0 first read.1) [
      | inl old ↦ (read.0, old, driven)
      | inr added ↦ absurd (omega (arith, added.0, driven-old plan fresh is site.mode d read.0 driven))
    ]

-- what the new cell reads stands at the site
last-reads : (netlist : RawNetlist) (site : Site) (fresh n : ℕ) → 1 ≤ times_at n (input_ports (ports_of (slice_get (mutant_of netlist site fresh).cells (length netlist.cells)))) → 1 ≤ times n (port_at netlist site.place site.port)
last-reads netlist site fresh n h = new-reads site.mode (port_at netlist site.place site.port) site.bit fresh (span_at netlist site.place) n (subst (λ (o : Option Gate). 1 ≤ times_at n (input_ports (ports_of o))) (last-is netlist site fresh) h)

last-drives : (netlist : RawNetlist) (site : Site) (fresh n : ℕ) → 1 ≤ times n (output_port (ports_of (slice_get (mutant_of netlist site fresh).cells (length netlist.cells)))) → 1 ≤ times n (new_bit site.mode fresh ∷ [])
last-drives netlist site fresh n h =
    let bits = port_at netlist site.place site.port in
    new-drives site.mode (bit_of bits site.bit) (control_of bits site.bit) fresh (span_at netlist site.place) n (subst (λ (o : Option Gate). 1 ≤ times n (output_port (ports_of o))) (last-is netlist site fresh) h)

-- what is the new net has no driver and no reader in the netlist
new-none : (plan : Plan) (fresh : ℕ) → IsFresh plan fresh → (mode : Mode) (n : ℕ) → 1 ≤ times n (new_bit mode fresh ∷ []) → (drivers plan.raw n ≡ 0) × (readers plan.raw n ≡ 0)
new-none plan fresh is mode n h = elim (eqb_tells fresh n) [
  | inl same ↦ (let none : drivers plan.raw n ≡ 0 = subst (λ (k : ℕ). drivers plan.raw k ≡ 0) same.1 is.none in (none, unread plan is.sound n none))
  | inr other ↦ absurd (omega (arith, h, new-other mode fresh n other.1))
]

-- what reads the new cell, which reads another, read that one
reads-through : (plan : Plan) (site : Site) (fresh : ℕ) → IsFresh plan fresh → (c d : ℕ) → c < length plan.raw.cells → d < length plan.raw.cells → Reads (mutant_of plan.raw site fresh) c (length plan.raw.cells) → Reads (mutant_of plan.raw site fresh) (length plan.raw.cells) d → Reads plan.raw c d
reads-through plan site fresh is c d first second to from =
    let new : 1 ≤ times to.0 (new_bit site.mode fresh ∷ []) = last-drives plan.raw site fresh to.0 to.2 in
    let gone = new-none plan fresh is site.mode to.0 new in
    let driven : 1 ≤ times from.0 (output_port (ports_of (slice_get plan.raw.cells d))) = omega (arith, from.2, drives-old plan.raw site fresh d from.0 second) in
    elim (reads-cases plan.raw site fresh c to.0 first to.1) [
      | inl old ↦ absurd (omega (arith, old, gone.1, cell-reads plan.raw.cells c to.0))
      | inr added ↦ through-place plan is.sound site.place site.port site.bit c from.0 d added.1 (last-reads plan.raw site fresh from.0 from.1) driven
    ]

-- the new cell doesn't read itself
last-self : (plan : Plan) (site : Site) (fresh : ℕ) → IsFresh plan fresh → ¬ Reads (mutant_of plan.raw site fresh) (length plan.raw.cells) (length plan.raw.cells)
last-self plan site fresh is read =
    let gone = new-none plan fresh is site.mode read.0 (last-drives plan.raw site fresh read.0 read.2) in
    omega (arith, gone.0, gone.1, last-reads plan.raw site fresh read.0 read.1, place-has plan.raw site.place site.port read.0)

-- Ways through the cells of a mutant.

-- a cell of the mutant is one of the netlist or the new one
inside-cases : (netlist : RawNetlist) (site : Site) (fresh c : ℕ) → c < length (mutant_of netlist site fresh).cells → (c < length netlist.cells) ⊎ (length netlist.cells ≡ c)
inside-cases netlist site fresh c inside =
    let taps = readers_at netlist site.place site.port site.bit in
    let new = new_bit site.mode fresh in
    let bits = port_at netlist site.place site.port in
    let bit = bit_of bits site.bit in
    let control = control_of bits site.bit in
    let span = span_at netlist site.place in
    elim (cases_lt c (length netlist.cells)) [
      | inl old ↦ inl old
      | inr past ↦ inr (omega (arith, inside, past, length-cells taps new 0 netlist.cells (new_cells site.mode bit control fresh span), new-few site.mode bit control fresh span))
    ]

-- what is read is a cell of the mutant
read-cases : (netlist : RawNetlist) (site : Site) (fresh c d : ℕ) → Reads (mutant_of netlist site fresh) c d → (d < length netlist.cells) ⊎ (length netlist.cells ≡ d)
read-cases netlist site fresh c d read = inside-cases netlist site fresh d (driver-inside (mutant_of netlist site fresh).cells d read.0 read.2)

-- a way from an old cell to an old cell, without the new one
shorter : (plan : Plan) (site : Site) (fresh : ℕ) → IsFresh plan fresh → (c : ℕ) (between : List ℕ) (e : ℕ) → c < length plan.raw.cells → e < length plan.raw.cells → ReadsThrough (Reads (mutant_of plan.raw site fresh)) c between e → (rest : List ℕ) × ReadsThrough (Reads plan.raw) c rest e
shorter plan site fresh is c [] e first last way = ([], reads-old plan site fresh is c e first last way)
shorter plan site fresh is c (d ∷ []) e first last way = elim (read-cases plan.raw site fresh c d way.0) [
  | inl old ↦ (d ∷ [], (reads-old plan site fresh is c d first old way.0, reads-old plan site fresh is d e old last way.1))
  | inr new ↦ (
      let to = subst (λ (k : ℕ). Reads (mutant_of plan.raw site fresh) c k) (sym new) way.0 in
      let from = subst (λ (k : ℕ). Reads (mutant_of plan.raw site fresh) k e) (sym new) way.1 in
      ([], reads-through plan site fresh is c e first last to from))
]
shorter plan site fresh is c (d ∷ f ∷ more) e first last way = elim (read-cases plan.raw site fresh c d way.0) [
  | inl old ↦ (
      let rest = shorter plan site fresh is d (f ∷ more) e old last way.1 in
      (d ∷ rest.0, (reads-old plan site fresh is c d first old way.0, rest.1)))
  | inr new ↦ (
      let to = subst (λ (k : ℕ). Reads (mutant_of plan.raw site fresh) c k) (sym new) way.0 in
      let from = subst (λ (k : ℕ). Reads (mutant_of plan.raw site fresh) k f) (sym new) way.1.0 in
      elim (read-cases plan.raw site fresh (length plan.raw.cells) f from) [
        | inl old ↦ (
            let rest = shorter plan site fresh is f more e old last way.1.1 in
            (f ∷ rest.0, (reads-through plan site fresh is c f first old to from, rest.1)))
        | inr again ↦ absurd (last-self plan site fresh is (subst (λ (k : ℕ). Reads (mutant_of plan.raw site fresh) (length plan.raw.cells) k) (sym again) from))
      ])
]

-- the new cell is on no loop
last-no_loop : (plan : Plan) (site : Site) (fresh : ℕ) → IsFresh plan fresh → (between : List ℕ) → ¬ ReadsThrough (Reads (mutant_of plan.raw site fresh)) (length plan.raw.cells) between (length plan.raw.cells)
last-no_loop plan site fresh is [] way = last-self plan site fresh is way
last-no_loop plan site fresh is (d ∷ more) way = elim (read-cases plan.raw site fresh (length plan.raw.cells) d way.0) [
  | inl old ↦ (
      let round = through_more (Reads (mutant_of plan.raw site fresh)) d more (length plan.raw.cells) d way.1 way.0 in
      let rest = shorter plan site fresh is d (more ++ length plan.raw.cells ∷ []) d old old round in
      is.sound.loops d (rest.0, rest.1))
  | inr again ↦ last-self plan site fresh is (subst (λ (k : ℕ). Reads (mutant_of plan.raw site fresh) (length plan.raw.cells) k) (sym again) way.0)
]

pub loops-kept : (plan : Plan) → IsSound plan → (site : Site) (fresh : ℕ) → drivers plan.raw fresh ≡ 0 → Never (IsOnLoop (Reads (mutant_of plan.raw site fresh)))
loops-kept plan sound site fresh none c loop =
    let is : IsFresh plan fresh = record { sound = sound; none = none } in
    elim (inside-cases plan.raw site fresh c (way-inside (mutant_of plan.raw site fresh) c loop.0 c loop.1)) [
      | inl old ↦ (let rest = shorter plan site fresh is c loop.0 c old old loop.1 in sound.loops c (rest.0, rest.1))
      | inr new ↦ last-no_loop plan site fresh is loop.0 (subst (λ (k : ℕ). ReadsThrough (Reads (mutant_of plan.raw site fresh)) k loop.0 k) (sym new) loop.1)
    ]
