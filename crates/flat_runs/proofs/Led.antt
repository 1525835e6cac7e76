-- Reading a finished netlist is reading each bit at its end.
use Rattle.flat_runs.proofs.Common.{◌≡◌, ℕ, zero, suc, ◌+◌, List, [], ◌∷◌, map, length, slice_get, Some, refl, sym, ◌∙◌, ap, Bit, Fixed, Net, Cell, number, cell_value, Nets, bit_value, values, plain}
use Rattle.flat_runs.proofs.Common.{input_ports, output_port, ports_seen, Computes, led, all_led, led_cell}
use Rattle.flat_runs.proofs.Signals.{bits_in, store_in}

-- each net with the value of its end
abbrev pub full : (ℕ → Bit) → Nets → Nets
full to nets n = bit_value nets (to n)

pub led-value : (to : ℕ → Bit) (nets : Nets) (b : Bit) → bit_value nets (led to b) ≡ bit_value (full to nets) b
led-value to nets (Fixed b) = refl
led-value to nets (Net n) = refl

pub led-values : (to : ℕ → Bit) (nets : Nets) (bits : List Bit) → values nets (all_led to bits) ≡ values (full to nets) bits
led-values to nets [] = refl
led-values to nets (b ∷ more) =
    let head : bit_value nets (led to b) ≡ bit_value (full to nets) b = led-value to nets b in
    let tail : values nets (all_led to more) ≡ values (full to nets) more = led-values to nets more in
    cc

pub input-led : (to : ℕ → Bit) (ports : List (List Bit)) → input_ports (map (all_led to) ports) ≡ map (all_led to) (input_ports ports)
input-led to [] = refl
input-led to (a ∷ []) = refl
input-led to (a ∷ b ∷ more) = ap (λ (t : List (List Bit)). all_led to a ∷ t) (input-led to (b ∷ more))

pub output-led : (to : ℕ → Bit) (ports : List (List Bit)) → output_port (map (all_led to) ports) ≡ all_led to (output_port ports)
output-led to [] = refl
output-led to (a ∷ []) = refl
output-led to (a ∷ b ∷ more) = output-led to (b ∷ more)

ports-led : (to : ℕ → Bit) (nets : Nets) (c p : ℕ) (ports : List (List Bit)) → ports_seen (plain nets) c p (map (all_led to) ports) ≡ ports_seen (plain (full to nets)) c p ports
ports-led to nets c p [] = refl
ports-led to nets c p (bits ∷ more) =
    let head : values nets (all_led to bits) ≡ values (full to nets) bits = led-values to nets bits in
    let tail : ports_seen (plain nets) c (p + 1) (map (all_led to) more) ≡ ports_seen (plain (full to nets)) c (p + 1) more = ports-led to nets c (p + 1) more in
    rw (head, tail) refl

pub length-led : (to : ℕ → Bit) (bits : List Bit) → length (all_led to bits) ≡ length bits
length-led to [] = refl
length-led to (b ∷ more) = ap suc (length-led to more)

left_side : (to : ℕ → Bit) (nets : Nets) (ports : List (List Bit)) → number (values nets (output_port (map (all_led to) ports))) ≡ number (values (full to nets) (output_port ports))
left_side to nets ports = ap (λ (bits : List Bit). number (values nets bits)) (output-led to ports) ∙ ap number (led-values to nets (output_port ports))

right_side : (to : ℕ → Bit) (nets : Nets) (c : ℕ) (cell : Cell) → cell_value cell.kind cell.is_signed (length (output_port (map (all_led to) cell.ports))) (ports_seen (plain nets) c 0 (input_ports (map (all_led to) cell.ports))) ≡ cell_value cell.kind cell.is_signed (length (output_port cell.ports)) (ports_seen (plain (full to nets)) c 0 (input_ports cell.ports))
right_side to nets c cell =
    let wide : length (output_port (map (all_led to) cell.ports)) ≡ length (output_port cell.ports) = ap length (output-led to cell.ports) ∙ length-led to (output_port cell.ports) in
    let ins : ports_seen (plain nets) c 0 (input_ports (map (all_led to) cell.ports)) ≡ ports_seen (plain (full to nets)) c 0 (input_ports cell.ports) = ap (λ (ports : List (List Bit)). ports_seen (plain nets) c 0 ports) (input-led to cell.ports) ∙ ports-led to nets c 0 (input_ports cell.ports) in
    ap (λ (w : ℕ). cell_value cell.kind cell.is_signed w (ports_seen (plain nets) c 0 (input_ports (map (all_led to) cell.ports)))) wide
    ∙ ap (cell_value cell.kind cell.is_signed (length (output_port cell.ports))) ins

-- a cell computes in the netlist exactly where it computes in the builder
pub computes_full : (to : ℕ → Bit) (nets : Nets) (c : ℕ) (cell : Cell) → Computes (plain nets) nets c (led_cell to cell) → Computes (plain (full to nets)) (full to nets) c cell
computes_full to nets c cell h = sym (left_side to nets cell.ports) ∙ h ∙ right_side to nets c cell

pub computes_led : (to : ℕ → Bit) (nets : Nets) (c : ℕ) (cell : Cell) → Computes (plain (full to nets)) (full to nets) c cell → Computes (plain nets) nets c (led_cell to cell)
computes_led to nets c cell h = left_side to nets cell.ports ∙ h ∙ sym (right_side to nets c cell)

-- what is read off
pub shown_led : (to : ℕ → Bit) (nets : Nets) (signals : List (List Bit)) (ks : List ℕ) → map (λ bits. number (values nets bits)) (map (λ k. all_led to (bits_in signals k)) ks) ≡ map (store_in signals (full to nets)) ks
shown_led to nets signals [] = refl
shown_led to nets signals (k ∷ more) =
    let head : values nets (all_led to (bits_in signals k)) ≡ values (full to nets) (bits_in signals k) = led-values to nets (bits_in signals k) in
    let tail : map (λ bits. number (values nets bits)) (map (λ k. all_led to (bits_in signals k)) more) ≡ map (store_in signals (full to nets)) more = shown_led to nets signals more in
    rw (head, tail) refl

pub get_map : (to : ℕ → Bit) (cells : List Cell) (c : ℕ) (cell : Cell) → slice_get cells c ≡ Some cell → slice_get (map (led_cell to) cells) c ≡ Some (led_cell to cell)
get_map to [] c cell e = absurd cc
get_map to (x ∷ more) zero cell e = let same : x ≡ cell = cc in ap (λ (y : Cell). Some (led_cell to y)) same
get_map to (x ∷ more) (suc c) cell e = get_map to more c cell e

pub mapped_at : (to : ℕ → Bit) (cells : List Cell) (c : ℕ) (cell : Cell) → slice_get (map (led_cell to) cells) c ≡ Some cell → (before : Cell) × (slice_get cells c ≡ Some before) × (cell ≡ led_cell to before)
mapped_at to [] c cell e = absurd cc
mapped_at to (x ∷ more) zero cell e = (x, refl, (let same : led_cell to x ≡ cell = cc in sym same))
mapped_at to (x ∷ more) (suc c) cell e = mapped_at to more c cell e
