-- The cells that drive what is read.
use Rattle.netlist_core.proofs.Common.{◌≡◌, ℕ, zero, suc, ◌+◌, ◌<◌, ◌≤◌, List, [], ◌∷◌, ◌⊎◌, length, slice_get, inl, inr, refl, sym, ◌∙◌, ap, subst, arith, All, Contains, get_or_default}
use Rattle.netlist_core.proofs.Common.{Contains-append_left, Contains-append_right, Contains-append_cases, Bit, Fixed, Net, Driver, Nothing, Source, Gate, RawNetlist, row_of, AreInside, Lists}
use Rattle.netlist_core.proofs.Common.{IsOnLoop, Never, IsFirst, input_ports, times, times_at, ports_of, Reads, max_cells, with_source, sources, sources_at, all_sources, IsLinked}
use Rattle.netlist_core.specs.declared.drivers.Driver.TheVariants.{Cell}
use Rattle.net_order.specs.Orders.{IsOrder}
use Rattle.net_order.proofs.Along.{never_along, order_along, first_along}
use Rattle.netlist_core.proofs.Counting.{one_at-same, one_at-cases}
use Rattle.netlist_core.proofs.Reading.{driver-inside, way-inside}
use Rattle.net_order.proofs.Reading.{Contains-head, Contains-tail, Contains-cases, Contains-empty}

with-cases : (k : Driver) (more : List ℕ) (d : ℕ) → Contains (with_source k more) d → (k ≡ Cell d) ⊎ Contains more d
with-cases Nothing more d has = inr has
with-cases Source more d has = inr has
with-cases (Cell c) more d has = elim (Contains-cases c d more has) [ inl same ↦ inl (ap Cell same) | inr old ↦ inr old ]

with-more : (k : Driver) (more : List ℕ) (d : ℕ) → Contains more d → Contains (with_source k more) d
with-more Nothing more d has = has
with-more Source more d has = has
with-more (Cell c) more d has = Contains-tail c d more has

with-head : (k : Driver) (more : List ℕ) (d : ℕ) → k ≡ Cell d → Contains (with_source k more) d
with-head k more d is = rw is (Contains-head d more)

sound : (driver : ℕ → Driver) (bits : List Bit) (d : ℕ) → Contains (sources driver bits) d → (n : ℕ) × (1 ≤ times n bits) × (driver n ≡ Cell d)
sound driver [] d has = absurd (Contains-empty d has)
sound driver (Fixed b ∷ more) d has = sound driver more d has
sound driver (Net m ∷ more) d has = elim (with-cases (driver m) (sources driver more) d has) [
  | inl is ↦ (m, omega (arith, one_at-same m), is)
  | inr old ↦ (let rest = sound driver more d old in (rest.0, omega (arith, rest.1), rest.2))
]

covers : (driver : ℕ → Driver) (bits : List Bit) (n d : ℕ) → 1 ≤ times n bits → driver n ≡ Cell d → Contains (sources driver bits) d
covers driver [] n d read is = absurd (omega (arith, read))
covers driver (Fixed b ∷ more) n d read is = covers driver more n d read is
covers driver (Net m ∷ more) n d read is = elim (one_at-cases m n) [
  | inl same ↦ with-head (driver m) (sources driver more) d (ap driver same.0 ∙ is)
  | inr other ↦ with-more (driver m) (sources driver more) d (covers driver more n d (omega (arith, read, other.1)) is)
]

at-sound : (driver : ℕ → Driver) (ports : List (List Bit)) (d : ℕ) → Contains (sources_at driver ports) d → (n : ℕ) × (1 ≤ times_at n ports) × (driver n ≡ Cell d)
at-sound driver [] d has = absurd (Contains-empty d has)
at-sound driver (bits ∷ more) d has = elim (Contains-append_cases (sources driver bits) (sources_at driver more) d has) [
  | inl here ↦ (let found = sound driver bits d here in (found.0, omega (arith, found.1), found.2))
  | inr later ↦ (let found = at-sound driver more d later in (found.0, omega (arith, found.1), found.2))
]

pub some-of : (a b : ℕ) → 1 ≤ a + b → (1 ≤ a) ⊎ (1 ≤ b)
some-of a b h = grind arith

at-covers : (driver : ℕ → Driver) (ports : List (List Bit)) (n d : ℕ) → 1 ≤ times_at n ports → driver n ≡ Cell d → Contains (sources_at driver ports) d
at-covers driver [] n d read is = absurd (omega (arith, read))
at-covers driver (bits ∷ more) n d read is = elim (some-of (times n bits) (times_at n more) read) [
  | inl here ↦ Contains-append_left (sources driver bits) (sources_at driver more) d (covers driver bits n d here is)
  | inr later ↦ Contains-append_right (sources driver bits) (sources_at driver more) d (at-covers driver more n d later is)
]

-- The lists of all cells tell which reads which.

row-source : (driver : ℕ → Driver) (cells : List Gate) (c : ℕ) → row_of (all_sources driver cells) c ≡ sources_at driver (input_ports (ports_of (slice_get cells c)))
row-source driver [] c = refl
row-source driver (cell ∷ more) zero = refl
row-source driver (cell ∷ more) (suc c) = row-source driver more c

rows-sources : (driver : ℕ → Driver) (cells : List Gate) → length (all_sources driver cells) ≡ length cells
rows-sources driver [] = refl
rows-sources driver (cell ∷ more) = ap suc (rows-sources driver more)

module _ (netlist : RawNetlist) (driver : ℕ → Driver) (linked : IsLinked netlist driver) (rows : List (List ℕ)) (are : rows ≡ all_sources driver netlist.cells) where
  row-is : (c : ℕ) → row_of rows c ≡ sources_at driver (input_ports (ports_of (slice_get netlist.cells c)))
  row-is c = ap (λ (l : List (List ℕ)). row_of l c) are ∙ row-source driver netlist.cells c

  count-is : length rows ≡ length netlist.cells
  count-is = ap length are ∙ rows-sources driver netlist.cells

  read-of : (c d : ℕ) → Lists rows c d → Reads netlist c d
  read-of c d has =
      let found = at-sound driver (input_ports (ports_of (slice_get netlist.cells c))) d (subst (λ (row : List ℕ). Contains row d) (row-is c) has) in
      (found.0, found.1, linked.drives found.0 d found.2)

  listed-of : (c d : ℕ) → Reads netlist c d → Lists rows c d
  listed-of c d r = subst (λ (row : List ℕ). Contains row d) (sym (row-is c)) (at-covers driver (input_ports (ports_of (slice_get netlist.cells c))) r.0 d r.1 (linked.driven r.0 d r.2))

  pub rows-inside : AreInside rows
  rows-inside c d has =
      let r : Reads netlist c d = read-of c d has in
      omega (arith, driver-inside netlist.cells d r.0 r.2, count-is)

  -- what comes of the lists is what comes of the cells
  pub order-of : (order : List ℕ) → IsOrder (length rows) (Lists rows) order → IsOrder (length netlist.cells) (Reads netlist) order
  order-of order h = subst (λ (count : ℕ). IsOrder count (Reads netlist) order) count-is (order_along (Lists rows) (Reads netlist) read-of listed-of (length rows) order h)

  pub never-of : Never (IsOnLoop (Lists rows)) → Never (IsOnLoop (Reads netlist))
  never-of = never_along (Lists rows) (Reads netlist) read-of listed-of

  pub first-of : (c : ℕ) → IsFirst (IsOnLoop (Lists rows)) c → IsFirst (IsOnLoop (Reads netlist)) c
  first-of = first_along (Lists rows) (Reads netlist) read-of listed-of

-- cells in order, and a cell on a loop, are cells
pub order-below : (netlist : RawNetlist) (order : List ℕ) → IsOrder (length netlist.cells) (Reads netlist) order → length netlist.cells ≤ max_cells → All (λ c. c < max_cells) order
order-below netlist order h few k c inside = subst (λ (d : ℕ). d < max_cells) (get_or_default order k 0 c inside) (let here = (h.places k inside).ready.node in omega (arith, here, few))

pub loop-below : (netlist : RawNetlist) (c : ℕ) → IsOnLoop (Reads netlist) c → length netlist.cells ≤ max_cells → c < max_cells
loop-below netlist c loop few = let inside = way-inside netlist c loop.0 c loop.1 in omega (arith, inside, few)
