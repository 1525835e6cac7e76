-- Cells that are added one after the other extend every run.
use Rattle.flat_runs.proofs.Common.{◌≡◌, ◌⊎◌, ℕ, zero, suc, ◌+◌, ◌%◌, ◌^◌, ◌<◌, ◌≤◌, Bool, List, [], ◌∷◌, ◌++◌, length, slice_get, Some, refl, sym, ◌∙◌, ap, subst, inl, inr, arith, append_assoc}
use Rattle.flat_runs.proofs.Common.{cases_lt, append-nil, Bit, Fixed, Net, Cell, number, cell_value, Nets, bit_value, values, plain, input_ports, output_port, ports_seen, Computes, Register, times}
use Rattle.flat_runs.proofs.Common.{times_at, y_bits, laid, number_at, laid-other, laid-number, Joint, Building, AllBelow, PortsBelow, AreAdded, empty, fresh_bits, with_declared, AgreeBelow, Extended}
use Rattle.flat_runs.proofs.Common.{Extends, AreCellsBelow, AreJointsBelow, AreRegistersBelow, AreFormed, owners, StandsBelow, CellsExtend, DeclaredStandBelow, StartsStandBelow, RegistersStandBelow}
use Rattle.netlist_core.specs.Shapes.{HasShape}
use Rattle.netlist_core.specs.Checked.{AllNets, AllWide}
use Rattle.flat_runs.proofs.Signals.{ports_more, times_push, fresh_nets, fresh_above, fresh_in, fresh_beyond, fresh_once}
use Rattle.flat_runs.proofs.Combining.{no_change}
use Rattle.net_builder.proofs.Parts.{below_later, fresh_below}

-- Values that agree below.

bits_agree : (limit : ℕ) (a b : Nets) → AgreeBelow limit a b → (bits : List Bit) → AllBelow limit bits → values b bits ≡ values a bits
bits_agree limit a b agree [] h = refl
bits_agree limit a b agree (Fixed v ∷ more) h = ap (λ (t : List Bool). v ∷ t) (bits_agree limit a b agree more h)
bits_agree limit a b agree (Net n ∷ more) h =
    let head : b n ≡ a n = agree n h.0 in
    let tail : values b more ≡ values a more = bits_agree limit a b agree more h.1 in
    cc

-- which cell it is plays no part
ports_agree : (limit : ℕ) (a b : Nets) → AgreeBelow limit a b → (c d p : ℕ) (ports : List (List Bit)) → PortsBelow limit ports → ports_seen (plain b) c p ports ≡ ports_seen (plain a) d p ports
ports_agree limit a b agree c d p [] h = refl
ports_agree limit a b agree c d p (bits ∷ more) h =
    let head : values b bits ≡ values a bits = bits_agree limit a b agree bits h.0 in
    let tail : ports_seen (plain b) c (p + 1) more ≡ ports_seen (plain a) d (p + 1) more = ports_agree limit a b agree c d (p + 1) more h.1 in
    rw (head, tail) refl

pub inputs_below : (limit : ℕ) (ports : List (List Bit)) → PortsBelow limit ports → PortsBelow limit (input_ports ports)
inputs_below limit [] h = tt
inputs_below limit (y ∷ []) h = tt
inputs_below limit (a ∷ b ∷ more) h = (h.0, inputs_below limit (b ∷ more) h.1)

output_below : (limit : ℕ) (ports : List (List Bit)) → PortsBelow limit ports → AllBelow limit (output_port ports)
output_below limit [] h = tt
output_below limit (y ∷ []) h = h.0
output_below limit (a ∷ b ∷ more) h = output_below limit (b ∷ more) h.1

all_below : (limit : ℕ) (ports : List (List Bit)) → PortsBelow limit (input_ports ports) → AllBelow limit (output_port ports) → PortsBelow limit ports
all_below limit [] h y = tt
all_below limit (x ∷ []) h y = (y, tt)
all_below limit (a ∷ b ∷ more) h y = (h.0, all_below limit (b ∷ more) h.1 y)

-- a cell whose ports are below computes where values agree below
computes_below : (limit : ℕ) (a b : Nets) → AgreeBelow limit a b → (c : ℕ) (cell : Cell) → PortsBelow limit cell.ports → Computes (plain a) a c cell → Computes (plain b) b c cell
computes_below limit a b agree c cell h computes =
    let y : List Bit = output_port cell.ports in
    let same_y : values b y ≡ values a y = bits_agree limit a b agree y (output_below limit cell.ports h) in
    let same_in : ports_seen (plain b) c 0 (input_ports cell.ports) ≡ ports_seen (plain a) c 0 (input_ports cell.ports) = ports_agree limit a b agree c c 0 (input_ports cell.ports) (inputs_below limit cell.ports h) in
    ap number same_y ∙ computes ∙ ap (cell_value cell.kind cell.is_signed (length y)) (sym same_in)

cell_below : (limit : ℕ) (cells : List Cell) (c : ℕ) (cell : Cell) → AreCellsBelow limit cells → slice_get cells c ≡ Some cell → PortsBelow limit cell.ports
cell_below limit [] c cell h at = absurd cc
cell_below limit (x ∷ more) zero cell h at = let same : x ≡ cell = cc in subst (λ (y : Cell). PortsBelow limit y.ports) same h.0
cell_below limit (x ∷ more) (suc c) cell h at = cell_below limit more c cell h.1 at

joint_agrees : (limit : ℕ) (a b : Nets) → AgreeBelow limit a b → (joints : List Joint) (k : ℕ) (joint : Joint) → AreJointsBelow limit joints → slice_get joints k ≡ Some joint → a joint.net ≡ bit_value a joint.bit → b joint.net ≡ bit_value b joint.bit
joint_agrees limit a b agree [] k joint h at held = absurd cc
joint_agrees limit a b agree (j ∷ more) zero joint h at held =
    let same : j ≡ joint = cc in
    let net : j.net < limit = h.0 in
    let P : Joint → Type 0 = λ (x : Joint). (x.net < limit) × AllBelow limit (x.bit ∷ []) in
    let below : (joint.net < limit) × AllBelow limit (joint.bit ∷ []) = subst P same (net, h.1) in
    let bit : bit_value b joint.bit ≡ bit_value a joint.bit = one_bit joint.bit below.1 in
    agree joint.net below.0 ∙ held ∙ sym bit
  where
    one_bit : (x : Bit) → AllBelow limit (x ∷ []) → bit_value b x ≡ bit_value a x
    one_bit (Fixed v) h = refl
    one_bit (Net n) h = agree n h.0
joint_agrees limit a b agree (j ∷ more) (suc k) joint h at held = joint_agrees limit a b agree more k joint h.2 at held

-- One cell more.

abbrev one_cell : Building → Cell → Building
one_cell b cell = record b { cells = b.cells ++ cell ∷ []; nets = b.nets + length (output_port cell.ports) }

-- values of the new nets: those of its Y
abbrev laid_cell : Nets → Cell → Nets
laid_cell nets cell = laid nets (output_port cell.ports) (number_at (plain nets) 0 cell)

laid_agrees : (b : Building) (cell : Cell) (nets : Nets) → output_port cell.ports ≡ fresh_bits b.nets (length (output_port cell.ports)) → AgreeBelow b.nets nets (laid_cell nets cell)
laid_agrees b cell nets fresh n less =
    let y : List Bit = output_port cell.ports in
    laid-other nets y (number_at (plain nets) 0 cell) n (ap (times n) fresh ∙ fresh_above b.nets (length y) n less)

laid_computes : (b : Building) (cell : Cell) (nets : Nets) (c : ℕ) → PortsBelow b.nets (input_ports cell.ports) → output_port cell.ports ≡ fresh_bits b.nets (length (output_port cell.ports)) → Computes (plain (laid_cell nets cell)) (laid_cell nets cell) c cell
laid_computes b cell nets c low fresh =
    let y : List Bit = output_port cell.ports in
    let w : ℕ = length y in
    let nets_y : AllNets y = subst AllNets (sym fresh) (fresh_nets b.nets w) in
    let once : (n : ℕ) → times n y ≤ 1 = λ n. subst (λ (bits : List Bit). times n bits ≤ 1) (sym fresh) (fresh_once b.nets w n) in
    let is : number (values (laid_cell nets cell) y) ≡ number_at (plain nets) 0 cell % 2 ^ w = laid-number nets y (number_at (plain nets) 0 cell) nets_y once in
    let seen : ports_seen (plain (laid_cell nets cell)) c 0 (input_ports cell.ports) ≡ ports_seen (plain nets) 0 0 (input_ports cell.ports) = ports_agree b.nets nets (laid_cell nets cell) (laid_agrees b cell nets fresh) c 0 0 (input_ports cell.ports) low in
    is ∙ ap (cell_value cell.kind cell.is_signed w) (sym seen)

last_or_earlier : (cells : List Cell) (cell other : Cell) (c : ℕ) → slice_get (cells ++ cell ∷ []) c ≡ Some other → (slice_get cells c ≡ Some other) ⊎ (cell ≡ other)
last_or_earlier [] cell other zero at = inr cc
last_or_earlier [] cell other (suc c) at = absurd cc
last_or_earlier (x ∷ more) cell other zero at = inl at
last_or_earlier (x ∷ more) cell other (suc c) at = last_or_earlier more cell other c at

earlier_at : (cells : List Cell) (cell other : Cell) (c : ℕ) → slice_get cells c ≡ Some other → slice_get (cells ++ cell ∷ []) c ≡ Some other
earlier_at [] cell other c at = absurd cc
earlier_at (x ∷ more) cell other zero at = at
earlier_at (x ∷ more) cell other (suc c) at = earlier_at more cell other c at

cell_extends : (b : Building) (cell : Cell) → StandsBelow b → PortsBelow b.nets (input_ports cell.ports) → output_port cell.ports ≡ fresh_bits b.nets (length (output_port cell.ports)) → Extends b (one_cell b cell)
cell_extends b cell stands low fresh = record {
  signals = refl;
  joints = refl;
  registers = refl;
  nets = omega arith;
  earlier = λ nets runs. record { computed = λ c other at. runs.computed c other (earlier_at b.cells cell other c at); joined = runs.joined };
  later = λ nets runs.
      let wider : Nets = laid_cell nets cell in
      let agree : AgreeBelow b.nets nets wider = laid_agrees b cell nets fresh in
      record {
        wider = wider;
        agree = agree;
        runs = record {
          computed = λ c other at. elim (last_or_earlier b.cells cell other c at) [
            | inl old ↦ computes_below b.nets nets wider agree c other (cell_below b.nets b.cells c other stands.cells old) (runs.computed c other old)
            | inr same ↦ subst (λ (x : Cell). Computes (plain wider) wider c x) same (laid_computes b cell nets c low fresh)
          ];
          joined = λ k joint at. joint_agrees b.nets nets wider agree b.joints k joint stands.joints at (runs.joined k joint at);
        };
      };
}

cells_more : (n m : ℕ) (cells : List Cell) → n ≤ m → AreCellsBelow n cells → AreCellsBelow m cells
cells_more n m [] le h = tt
cells_more n m (x ∷ more) le h = (ports_more n m x.ports le h.0, cells_more n m more le h.1)

joints_more : (n m : ℕ) (joints : List Joint) → n ≤ m → AreJointsBelow n joints → AreJointsBelow m joints
joints_more n m [] le h = tt
joints_more n m (j ∷ more) le h = (omega (arith, h.0), below_later n m (j.bit ∷ []) le h.1, joints_more n m more le h.2)

registers_more : (n m : ℕ) (registers : List Register) → n ≤ m → AreRegistersBelow n registers → AreRegistersBelow m registers
registers_more n m [] le h = tt
registers_more n m (r ∷ more) le h = (below_later n m r.d le h.0, h.1, registers_more n m more le h.2)

cells_push : (limit : ℕ) (cells : List Cell) (cell : Cell) → AreCellsBelow limit cells → PortsBelow limit cell.ports → AreCellsBelow limit (cells ++ cell ∷ [])
cells_push limit [] cell h k = (k, tt)
cells_push limit (x ∷ more) cell h k = (h.0, cells_push limit more cell h.1 k)

formed_push : (cells : List Cell) (cell : Cell) → AreFormed cells → HasShape cell → AllWide cell.ports → AllNets (output_port cell.ports) → AreFormed (cells ++ cell ∷ [])
formed_push [] cell h shape wide y = (shape, wide, y, tt)
formed_push (x ∷ more) cell h shape wide y = (h.0, h.1, h.2, formed_push more cell h.3 shape wide y)

times_y : (n : ℕ) (cells : List Cell) (cell : Cell) → times_at n (y_bits (cells ++ cell ∷ [])) ≡ times_at n (y_bits cells) + times n (output_port cell.ports)
times_y n [] cell = omega arith
times_y n (x ∷ more) cell = omega (arith, times_y n more cell)

-- what stands still does where `width` nets are added, each with one owner
pub owned_more : (from width n old : ℕ) → (n < from → old ≡ 1) → (from ≤ n → old ≡ 0) → n < from + width → old + times n (fresh_bits from width) ≡ 1
owned_more from width n old low high less = elim (cases_lt n from) [
  | inl before ↦ omega (arith, low before, fresh_above from width n before)
  | inr after ↦ omega (arith, high after, fresh_in from width n after less)
]

pub outside_more : (from width n old : ℕ) → (from ≤ n → old ≡ 0) → from + width ≤ n → old + times n (fresh_bits from width) ≡ 0
outside_more from width n old high over = omega (arith, high (omega arith), fresh_beyond from width n over)

cell_stands : (b : Building) (cell : Cell) → StandsBelow b → HasShape cell → AllWide cell.ports → PortsBelow b.nets (input_ports cell.ports) → output_port cell.ports ≡ fresh_bits b.nets (length (output_port cell.ports)) → StandsBelow (one_cell b cell)
cell_stands b cell stands shape wide low fresh =
    let w : ℕ = length (output_port cell.ports) in
    let le : b.nets ≤ b.nets + w = omega arith in
    let y : AllBelow (b.nets + w) (output_port cell.ports) = subst (AllBelow (b.nets + w)) (sym fresh) (fresh_below b.nets w) in
    let times_is : (n : ℕ) → owners (one_cell b cell) n ≡ owners b n + times n (fresh_bits b.nets w) = λ n.
    (let e : times n (output_port cell.ports) ≡ times n (fresh_bits b.nets w) = ap (times n) fresh in omega (arith, times_y n b.cells cell, e)) in
    record {
      cells = cells_push (b.nets + w) b.cells cell (cells_more b.nets (b.nets + w) b.cells le stands.cells) (all_below (b.nets + w) cell.ports (ports_more b.nets (b.nets + w) (input_ports cell.ports) le low) y);
      joints = joints_more b.nets (b.nets + w) b.joints le stands.joints;
      registers = registers_more b.nets (b.nets + w) b.registers le stands.registers;
      formed = formed_push b.cells cell stands.formed shape wide (subst AllNets (sym fresh) (fresh_nets b.nets w));
      owned = λ n less. times_is n ∙ owned_more b.nets w n (owners b n) (stands.owned n) (stands.outside n) less;
      outside = λ n over. times_is n ∙ outside_more b.nets w n (owners b n) (stands.outside n) over;
    }

-- Signals, start values and registers.

pub declared_stand : DeclaredStandBelow
declared_stand b name span width stands =
    let le : b.nets ≤ b.nets + width = omega arith in
    let new : Building = with_declared b name span width in
    let times_is : (n : ℕ) → owners new n ≡ owners b n + times n (fresh_bits b.nets width) = λ n. omega (arith, times_push n b.signals (fresh_bits b.nets width)) in
    record {
      cells = cells_more b.nets (b.nets + width) b.cells le stands.cells;
      joints = joints_more b.nets (b.nets + width) b.joints le stands.joints;
      registers = registers_more b.nets (b.nets + width) b.registers le stands.registers;
      formed = stands.formed;
      owned = λ n less. times_is n ∙ owned_more b.nets width n (owners b n) (stands.owned n) (stands.outside n) less;
      outside = λ n over. times_is n ∙ outside_more b.nets width n (owners b n) (stands.outside n) over;
    }

pub starts_stand : StartsStandBelow
starts_stand b k start stands = record { cells = stands.cells; joints = stands.joints; registers = stands.registers; formed = stands.formed; owned = stands.owned; outside = stands.outside }

registers_append : (limit : ℕ) (rs more : List Register) → AreRegistersBelow limit rs → AreRegistersBelow limit more → AreRegistersBelow limit (rs ++ more)
registers_append limit [] more h k = k
registers_append limit (r ∷ rs) more h k = (h.0, h.1, registers_append limit rs more h.2 k)

pub registers_stand : RegistersStandBelow
registers_stand b registers stands below = record {
  cells = stands.cells;
  joints = stands.joints;
  registers = registers_append b.nets b.registers registers stands.registers below;
  formed = stands.formed;
  owned = stands.owned;
  outside = stands.outside;
}

pub empty_stands : StandsBelow empty
empty_stands = record { cells = tt; joints = tt; registers = tt; formed = tt; owned = λ n less. absurd (omega (arith, less)); outside = λ n over. omega arith }

-- Cells, one after the other.

extends_again : (a b c : Building) → Extends a b → Extends b c → Extends a c
extends_again a b c e f = record {
  signals = f.signals ∙ e.signals;
  joints = f.joints ∙ e.joints;
  registers = f.registers ∙ e.registers;
  nets = omega (arith, e.nets, f.nets);
  earlier = λ nets runs. e.earlier nets (f.earlier nets runs);
  later = λ nets runs.
      let x : Extended a.nets nets b = e.later nets runs in
      let y : Extended b.nets x.wider c = f.later x.wider x.runs in
      record { wider = y.wider; agree = λ n less. y.agree n (omega (arith, less, e.nets)) ∙ x.agree n less; runs = y.runs };
}

abbrev Grown : Building → Building → Type 0
Grown old new = Extends old new × StandsBelow new

grown : (b : Building) (more : List Cell) (to : ℕ) → StandsBelow b → AreAdded b.nets more to → Grown b (record b { cells = b.cells ++ more; nets = to })
grown b [] to stands added =
    let P : Building → Type 0 = λ (x : Building). Grown b x in
    let same : b ≡ record b { cells = b.cells ++ []; nets = to } = ap (λ (cs : List Cell). record b { cells = cs }) (sym (append-nil b.cells)) ∙ ap (λ (n : ℕ). record b { cells = b.cells ++ []; nets = n }) added in
    subst P same (no_change b, stands)
grown b (cell ∷ more) to stands added =
    let next : Building = one_cell b cell in
    let e : Extends b next = cell_extends b cell stands added.2 added.3 in
    let there : StandsBelow next = cell_stands b cell stands added.0 added.1 added.2 added.3 in
    let rest : Grown next (record next { cells = next.cells ++ more; nets = to }) = grown next more to there added.4 in
    let P : List Cell → Type 0 = λ (cs : List Cell). Grown b (record b { cells = cs; nets = to }) in
    subst P (append_assoc b.cells (cell ∷ []) more) (extends_again b next (record next { cells = next.cells ++ more; nets = to }) e rest.0, rest.1)

pub cells_extend : CellsExtend
cells_extend old new stands grows = subst (λ (x : Building). Grown old x) (sym grows.is) (grown old grows.more new.nets stands grows.added)
