-- The parts of a builder.
use Rattle.net_builder.proofs.Common.{◌≡◌, ℕ, zero, suc, ◌+◌, ◌≤◌, Bool, List, [], ◌∷◌, ◌++◌, length, slice_get, refl, sym, ◌∙◌, ap, subst, arith, append_assoc, add-zero, length-append, Bit, Fixed}
use Rattle.net_builder.proofs.Common.{Net, Cell, Nets, values, plain, input_ports, output_port, ports_seen, Computes, AllWide, Joint, Building, RunsIn, Grows, AreAdded, AllBelow, PortsBelow}
use Rattle.net_builder.proofs.Common.{fresh_bits, own_bits, with_cell, store}
use Rattle.std.specs.Prelude.{Some}
use Rattle.mcy_base.specs.declared.span.Span.{Span}
use Rattle.netlist_core.specs.declared.cell.CellKind.{CellKind}
use Rattle.netlist_core.specs.Numbers.{number}
use Rattle.netlist_core.specs.Cells.{cell_value}
use Rattle.netlist_core.specs.Shapes.{shape_of, widths, HasWidths}
use Rattle.net_builder.specs.declared.builder.Signal.{Signal}

-- one net more
pub fresh_step : (from k : ℕ) → fresh_bits from (suc k) ≡ fresh_bits from k ++ Net (from + k) ∷ []
fresh_step from zero = rw (add-zero from) refl
fresh_step from (suc k) =
    let e : from + 1 + k ≡ from + suc k = omega arith in
    ap (λ (t : List Bit). Net from ∷ t) (fresh_step (from + 1) k ∙ ap (λ (n : ℕ). fresh_bits (from + 1) k ++ Net n ∷ []) e)

pub length_fresh : (from k : ℕ) → length (fresh_bits from k) ≡ k
length_fresh from zero = refl
length_fresh from (suc k) = ap suc (length_fresh (from + 1) k)

-- one signal more
pub own_more : (xs : List Signal) (s : Signal) → own_bits (xs ++ s ∷ []) ≡ own_bits xs + s.width
own_more [] s = omega arith
own_more (x ∷ xs) s = let e = own_more xs s in omega (arith, e)

-- Nets that stand there.

pub below_later : (n m : ℕ) (bits : List Bit) → n ≤ m → AllBelow n bits → AllBelow m bits
below_later n m [] le h = tt
below_later n m (Fixed b ∷ more) le h = below_later n m more le h
below_later n m (Net k ∷ more) le h = (omega (arith, h.0), below_later n m more le h.1)

pub below_append : (n : ℕ) (xs ys : List Bit) → AllBelow n xs → AllBelow n ys → AllBelow n (xs ++ ys)
below_append n [] ys h k = k
below_append n (Fixed b ∷ xs) ys h k = below_append n xs ys h k
below_append n (Net i ∷ xs) ys h k = (h.0, below_append n xs ys h.1 k)

pub fresh_below : (from k : ℕ) → AllBelow (from + k) (fresh_bits from k)
fresh_below from zero = tt
fresh_below from (suc k) =
    let e : from + 1 + k ≡ from + suc k = omega arith in
    (omega arith, subst (λ (n : ℕ). AllBelow n (fresh_bits (from + 1) k)) e (fresh_below (from + 1) k))

pub nets_le : (from to : ℕ) (cells : List Cell) → AreAdded from cells to → from ≤ to
nets_le from to [] h = omega (arith, h)
nets_le from to (x ∷ more) h = let e = nets_le (from + length (output_port x.ports)) to more h.4 in omega (arith, e)

pub added_append : (from mid to : ℕ) (xs ys : List Cell) → AreAdded from xs mid → AreAdded mid ys to → AreAdded from (xs ++ ys) to
added_append from mid to [] ys h k = subst (λ (n : ℕ). AreAdded n ys to) (sym h) k
added_append from mid to (x ∷ xs) ys h k = (h.0, h.1, h.2, h.3, added_append (from + length (output_port x.ports)) mid to xs ys h.4 k)

-- Builders that grow.

pub grows_not : (b : Building) → Grows b b
grows_not b = record { more = []; is = ap (λ (l : List Cell). record b { cells = l }) (sym (append_nil b.cells)); added = refl }
  where
    append_nil : (l : List Cell) → l ++ [] ≡ l
    append_nil [] = refl
    append_nil (x ∷ l) = ap (λ (t : List Cell). x ∷ t) (append_nil l)

pub grows_not_more : (b : Building) → (grows_not b).more ≡ []
unfolding grows_not
grows_not_more b = refl

pub grown_nets : (a b : Building) → Grows a b → a.nets ≤ b.nets
grown_nets a b g = nets_le a.nets b.nets g.more g.added

pub grown_cells : (a b : Building) (g : Grows a b) → b.cells ≡ a.cells ++ g.more
grown_cells a b g = ap (λ (x : Building). x.cells) g.is

abbrev pub grows_again : (a b c : Building) → Grows a b → Grows b c → Grows a c
grows_again a b c g h = record {
  more = g.more ++ h.more;
  is = h.is ∙ ap (λ (x : Building). record x { cells = x.cells ++ h.more; nets = c.nets }) g.is ∙ ap (λ (l : List Cell). record a { cells = l; nets = c.nets }) (append_assoc a.cells g.more h.more);
  added = added_append a.nets b.nets c.nets g.more h.more g.added h.added;
}

-- the signals are what they were
pub store_same : (a b : Building) (nets : Nets) → Grows a b → store b nets ≡ store a nets
store_same a b nets g = ap (λ (x : Building). store x nets) g.is

pub earlier_cell : (cells more : List Cell) (k : ℕ) (cell : Cell) → slice_get cells k ≡ Some cell → slice_get (cells ++ more) k ≡ Some cell
earlier_cell [] more k cell e = cc
earlier_cell (x ∷ cells) more zero cell e = e
earlier_cell (x ∷ cells) more (suc k) cell e = earlier_cell cells more k cell e

-- a run of what grew is one of what it grew from
pub runs_before : (a b : Building) (nets : Nets) → Grows a b → RunsIn b nets → RunsIn a nets
runs_before a b nets g runs = record {
  computed = λ c cell at. runs.computed c cell (subst (λ (l : List Cell). slice_get l c ≡ Some cell) (sym (grown_cells a b g)) (earlier_cell a.cells g.more c cell at));
  joined = λ k joint at. runs.joined k joint (subst (λ (l : List Joint). slice_get l k ≡ Some joint) (sym (ap (λ (x : Building). x.joints) g.is)) at);
}

-- A cell that is added.

pub input_ports_push : (ports : List (List Bit)) (y : List Bit) → input_ports (ports ++ y ∷ []) ≡ ports
input_ports_push [] y = refl
input_ports_push (a ∷ []) y = refl
input_ports_push (a ∷ b ∷ more) y = ap (λ (t : List (List Bit)). a ∷ t) (input_ports_push (b ∷ more) y)

pub output_port_push : (ports : List (List Bit)) (y : List Bit) → output_port (ports ++ y ∷ []) ≡ y
output_port_push [] y = refl
output_port_push (a ∷ []) y = refl
output_port_push (a ∷ b ∷ more) y = output_port_push (b ∷ more) y

pub widths_push : (ports : List (List Bit)) (y : List Bit) → widths (ports ++ y ∷ []) ≡ widths ports ++ length y ∷ []
widths_push [] y = refl
widths_push (a ∷ more) y = ap (λ (t : List ℕ). length a ∷ t) (widths_push more y)

wide_push : (ports : List (List Bit)) (y : List Bit) → AllWide ports → 1 ≤ length y → length y ≤ 128 → AllWide (ports ++ y ∷ [])
wide_push [] y h some narrow = (some, narrow, tt)
wide_push (a ∷ more) y h some narrow = (h.0, h.1, wide_push more y h.2 some narrow)

-- the cell that is added next
abbrev pub next_cell : Building → CellKind → Bool → List (List Bit) → ℕ → Span → Cell
next_cell b kind signed inputs w span = record { kind = kind; is_signed = signed; ports = inputs ++ fresh_bits b.nets w ∷ []; span = span }

pub grows_cell : (b : Building) (kind : CellKind) (signed : Bool) (inputs : List (List Bit)) (w : ℕ) (span : Span) → HasWidths (shape_of kind) (widths inputs ++ w ∷ []) → AllWide inputs → 1 ≤ w → w ≤ 128 → PortsBelow b.nets inputs → Grows b (with_cell b kind signed inputs w span)
grows_cell b kind signed inputs w span shape wide some narrow below =
    let y = fresh_bits b.nets w in
    let long : length y ≡ w = length_fresh b.nets w in
    let out = output_port_push inputs y in
    record {
      more = next_cell b kind signed inputs w span ∷ [];
      is = refl;
      added = (
        subst (HasWidths (shape_of kind)) (sym (widths_push inputs y ∙ ap (λ (n : ℕ). widths inputs ++ n ∷ []) long)) shape,
        wide_push inputs y wide (omega (arith, long)) (omega (arith, long)),
        subst (PortsBelow b.nets) (sym (input_ports_push inputs y)) below,
        out ∙ ap (fresh_bits b.nets) (sym (ap length out ∙ long)),
        ap (λ (n : ℕ). b.nets + n) (ap length out ∙ long),
      );
    }

pub grows_cell_more : (b : Building) (kind : CellKind) (signed : Bool) (inputs : List (List Bit)) (w : ℕ) (span : Span) (shape : HasWidths (shape_of kind) (widths inputs ++ w ∷ [])) (wide : AllWide inputs) (some : 1 ≤ w) (narrow : w ≤ 128) (below : PortsBelow b.nets inputs) → (grows_cell b kind signed inputs w span shape wide some narrow below).more ≡ next_cell b kind signed inputs w span ∷ []
unfolding grows_cell
grows_cell_more b kind signed inputs w span shape wide some narrow below = refl

-- which cell it is plays no part where nothing is mutated
ports_any : (nets : Nets) (c d p : ℕ) (ports : List (List Bit)) → ports_seen (plain nets) c p ports ≡ ports_seen (plain nets) d p ports
ports_any nets c d p [] = refl
ports_any nets c d p (bits ∷ more) = ap (λ (t : List (List Bool)). values nets bits ∷ t) (ports_any nets c d (p + 1) more)

last_cell : (cells : List Cell) (cell : Cell) → slice_get (cells ++ cell ∷ []) (length cells) ≡ Some cell
last_cell [] cell = refl
last_cell (x ∷ more) cell = last_cell more cell

-- its Y has its value in every run
pub cell_computes : (b : Building) (kind : CellKind) (signed : Bool) (inputs : List (List Bit)) (w : ℕ) (span : Span) (nets : Nets) → RunsIn (with_cell b kind signed inputs w span) nets → number (values nets (fresh_bits b.nets w)) ≡ cell_value kind signed w (ports_seen (plain nets) 0 0 inputs)
cell_computes b kind signed inputs w span nets runs =
    let y = fresh_bits b.nets w in
    let cell : Cell = next_cell b kind signed inputs w span in
    let e : Computes (plain nets) nets (length b.cells) cell = runs.computed (length b.cells) cell (last_cell b.cells cell) in
    let out = output_port_push inputs y in
    let seen : ports_seen (plain nets) (length b.cells) 0 (input_ports (inputs ++ y ∷ [])) ≡ ports_seen (plain nets) 0 0 inputs = ap (ports_seen (plain nets) (length b.cells) 0) (input_ports_push inputs y) ∙ ports_any nets (length b.cells) 0 0 inputs in
    ap (λ (l : List Bit). number (values nets l)) (sym out) ∙ e ∙ ap (λ (n : ℕ). cell_value kind signed n (ports_seen (plain nets) (length b.cells) 0 (input_ports (inputs ++ y ∷ [])))) (ap length out ∙ length_fresh b.nets w) ∙ ap (cell_value kind signed w) seen

-- the same of lists to which one is added
pub signal_pushed : (xs ys : List Signal) (s : Signal) → ys ≡ xs ++ s ∷ [] → (own_bits ys ≡ own_bits xs + s.width) × (length ys ≡ length xs + 1)
signal_pushed xs ys s is = (ap own_bits is ∙ own_more xs s, ap length is ∙ simp length-append)

pub bits_pushed : (xs ys : List (List Bit)) (b : List Bit) → ys ≡ xs ++ b ∷ [] → length ys ≡ length xs + 1
bits_pushed xs ys b is = ap length is ∙ simp length-append

-- the Y of the cell that was added has the cell's value
pub shows : (old new : Building) (kind : CellKind) (signed : Bool) (ports : List (List Bit)) (w : ℕ) (span : Span) (y : List Bit) (nets : Nets) → y ≡ fresh_bits old.nets w → new ≡ with_cell old kind signed ports w span → RunsIn new nets → number (values nets y) ≡ cell_value kind signed w (ports_seen (plain nets) 0 0 ports)
shows old new kind signed ports w span y nets is_y is runs = ap (λ (l : List Bit). number (values nets l)) is_y ∙ cell_computes old kind signed ports w span nets (subst (λ (x : Building). RunsIn x nets) is runs)

-- what the call leaves is the builder with the cell
pub with_cell_is : (b : Building) (kind : CellKind) (signed : Bool) (inputs ports : List (List Bit)) (y : List Bit) (w n : ℕ) (span : Span) (after : List Cell) → ports ≡ inputs ++ y ∷ [] → after ≡ b.cells ++ record { kind = kind; is_signed = signed; ports = ports; span = span } ∷ [] → y ≡ fresh_bits b.nets w → n ≡ b.nets + w → record b { cells = after; nets = n } ≡ with_cell b kind signed inputs w span
with_cell_is b kind signed inputs ports y w n span after is_ports is_after is_y is_n =
    let cell : List (List Bit) → Cell = λ ps. record { kind = kind; is_signed = signed; ports = ps; span = span } in
    ap (λ (l : List Cell). record b { cells = l; nets = n }) (is_after ∙ ap (λ (ps : List (List Bit)). b.cells ++ cell ps ∷ []) (is_ports ∙ ap (λ (l : List Bit). inputs ++ l ∷ []) is_y))
    ∙ ap (λ (m : ℕ). record b { cells = b.cells ++ cell (inputs ++ fresh_bits b.nets w ∷ []) ∷ []; nets = m }) is_n

pub grown_by : (old new : Building) (kind : CellKind) (signed : Bool) (inputs : List (List Bit)) (w : ℕ) (span : Span) → new ≡ with_cell old kind signed inputs w span → HasWidths (shape_of kind) (widths inputs ++ w ∷ []) → AllWide inputs → 1 ≤ w → w ≤ 128 → PortsBelow old.nets inputs → Grows old new
grown_by old new kind signed inputs w span is shape wide some narrow below = subst (λ (x : Building). Grows old x) (sym is) (grows_cell old kind signed inputs w span shape wide some narrow below)
