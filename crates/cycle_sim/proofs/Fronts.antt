-- What is laid for inputs and registers, and what readers find at the front of a table.
use Rattle.cycle_sim.proofs.Common.{◌≡◌, ℕ, zero, suc, ◌+◌, ◌^◌, ◌<◌, ◌≤◌, List, [], ◌∷◌, ◌++◌, map, length, take, drop, get_or, sym, ◌∙◌, ap, subst, arith, length-append, length-map, length-take-le}
use Rattle.cycle_sim.proofs.Common.{take_at, drop_at, get_or-map, get_or_append_left, get_or-append-add, take-take, drop-take, slice_index, Word, Bit, Register, RawNetlist, bits_at, q_bits, y_bits}
use Rattle.cycle_sim.proofs.Common.{FitPorts, driving, numbers_of, HaveWidths}
use Rattle.netlist_core.specs.declared.port.Port as port
use Rattle.cycle_sim.proofs.Plans.{fit-words, words-length}

-- Where inputs and registers stand among the drivers.

pub input-driver : (raw : RawNetlist) (i : ℕ) → i < length raw.inputs → get_or (driving raw) i [] ≡ get_or (bits_at raw.inputs) i []
input-driver raw i inside = get_or_append_left (bits_at raw.inputs) (q_bits raw.registers ++ y_bits raw.cells) [] i (let long = length-map raw.inputs (λ (p : port.Port). p.bits) in omega (arith, inside, long))

pub register-driver : (raw : RawNetlist) (i : ℕ) → i < length raw.registers → get_or (driving raw) (length raw.inputs + i) [] ≡ get_or (q_bits raw.registers) i []
register-driver raw i inside =
    let a : length raw.inputs + i ≡ length (bits_at raw.inputs) + i = (let long = length-map raw.inputs (λ (p : port.Port). p.bits) in omega (arith, long)) in
    ap (λ (k : ℕ). get_or (driving raw) k []) a
    ∙ get_or-append-add (bits_at raw.inputs) (q_bits raw.registers ++ y_bits raw.cells) i []
    ∙ get_or_append_left (q_bits raw.registers) (y_bits raw.cells) [] i (let long = length-map raw.registers (λ (r : Register). r.q) in omega (arith, inside, long))

fit-at : (ports : List (List Bit)) (vs : List ℕ) (i : ℕ) → FitPorts ports vs → i < length ports → get_or vs i 0 < 2 ^ length (get_or ports i [])
fit-at [] vs i fit inside = absurd (omega (arith, inside))
fit-at (bits ∷ more) [] i fit inside = absurd fit
fit-at (bits ∷ more) (v ∷ vs) zero fit inside = fit.0
fit-at (bits ∷ more) (v ∷ vs) (suc i) fit inside = fit-at more vs i fit.1 (omega (arith, inside))

-- A word of the inputs.

pub word-inside : (raw : RawNetlist) (words : List Word) → HaveWidths (bits_at raw.inputs) words → length words ≡ length raw.inputs
word-inside raw words have = words-length (bits_at raw.inputs) words have ∙ length-map raw.inputs (λ (p : port.Port). p.bits)

pub word-small : (raw : RawNetlist) (words : List Word) (i : ℕ) (w : Word) → HaveWidths (bits_at raw.inputs) words → i < length words → w ≡ get_or words i w → w.bits < 2 ^ length (get_or (driving raw) i [])
word-small raw words i w have inside is =
    let count = word-inside raw words have in
    let long = length-map raw.inputs (λ (p : port.Port). p.bits) in
    let v : get_or (numbers_of words) i 0 ≡ w.bits = get_or-map (λ (x : Word). x.bits) words i w 0 inside ∙ sym (ap (λ (x : Word). x.bits) is) in
    let small : get_or (numbers_of words) i 0 < 2 ^ length (get_or (bits_at raw.inputs) i []) = fit-at (bits_at raw.inputs) (numbers_of words) i (fit-words (bits_at raw.inputs) words have) (omega (arith, inside, count, long)) in
    subst (λ (b : List Bit). w.bits < 2 ^ length b) (sym (input-driver raw i (omega (arith, inside, count)))) (subst (λ (x : ℕ). x < 2 ^ length (get_or (bits_at raw.inputs) i [])) v small)

-- A word of a store.

pub named-inside : (raw : RawNetlist) (widths numbers : List ℕ) → map (slice_index widths) numbers ≡ map length (bits_at raw.inputs) → length numbers ≡ length raw.inputs
named-inside raw widths numbers is = sym (length-map numbers (slice_index widths)) ∙ ap (λ (l : List ℕ). length l) is ∙ length-map (bits_at raw.inputs) length ∙ length-map raw.inputs (λ (p : port.Port). p.bits)

pub named-small : (raw : RawNetlist) (store : List Word) (numbers : List ℕ) (i : ℕ) (w : Word) → map (slice_index (map (λ w. w.width) store)) numbers ≡ map length (bits_at raw.inputs) → i < length numbers → get_or numbers i 0 < length store → w ≡ get_or store (get_or numbers i 0) w → w.bits < 2 ^ length (get_or (driving raw) i [])
named-small raw store numbers i w is inside there at =
    let count = named-inside raw (map (λ (x : Word). x.width) store) numbers is in
    let long = length-map raw.inputs (λ (p : port.Port). p.bits) in
    let k : ℕ = get_or numbers i 0 in
    let width : get_or (map (λ (x : Word). x.width) store) k 0 ≡ w.width = get_or-map (λ (x : Word). x.width) store k w 0 there ∙ sym (ap (λ (x : Word). x.width) at) in
    let same : w.width ≡ length (get_or (bits_at raw.inputs) i []) =
    sym width
    ∙ sym (get_or-map (slice_index (map (λ (x : Word). x.width) store)) numbers i 0 0 inside)
    ∙ ap (λ (l : List ℕ). get_or l i 0) is
    ∙ get_or-map (λ (b : List Bit). length b) (bits_at raw.inputs) i [] 0 (omega (arith, inside, count, long)) in
    subst (λ (b : List Bit). w.bits < 2 ^ length b) (sym (input-driver raw i (omega (arith, inside, count)))) (subst (λ (n : ℕ). w.bits < 2 ^ n) same w.fits)

pub named-bits : (store : List Word) (numbers : List ℕ) (i : ℕ) (w : Word) → i < length numbers → get_or numbers i 0 < length store → w ≡ get_or store (get_or numbers i 0) w → w.bits ≡ get_or (map (slice_index (numbers_of store)) numbers) i 0
named-bits store numbers i w inside there at =
    ap (λ (x : Word). x.bits) at ∙ sym (get_or-map (λ (x : Word). x.bits) store (get_or numbers i 0) w 0 there) ∙ sym (get_or-map (slice_index (numbers_of store)) numbers i 0 0 inside)

-- A register.

pub stored-inside : (raw : RawNetlist) (vs : List ℕ) → length vs ≡ length (q_bits raw.registers) → length vs ≡ length raw.registers
stored-inside raw vs same = same ∙ length-map raw.registers (λ (r : Register). r.q)

pub stored-small : (raw : RawNetlist) (vs : List ℕ) (i : ℕ) → FitPorts (q_bits raw.registers) vs → length vs ≡ length (q_bits raw.registers) → i < length vs → get_or vs i 0 < 2 ^ length (get_or (driving raw) (length raw.inputs + i) [])
stored-small raw vs i fit same inside =
    let count = stored-inside raw vs same in
    subst (λ (b : List Bit). get_or vs i 0 < 2 ^ length b) (sym (register-driver raw i (omega (arith, inside, count)))) (fit-at (q_bits raw.registers) vs i fit (omega (arith, inside, same)))

-- The front of a table.

-- where the first numbers are those of a table with the registers laid
pub front-of : (n m : ℕ) (old registers laid new : List ℕ) → take (n + m) new ≡ take (n + m) laid → laid ≡ (take n old ++ registers) ++ drop (n + length registers) old → length registers ≡ m → n ≤ length old → (take n new ≡ take n old) × (take m (drop n new) ≡ registers)
front-of n m old registers laid new same is count long =
    let a = length-append (take n old) registers in
    let b = length-take-le n old long in
    let whole : take (n + m) new ≡ take n old ++ registers = same ∙ ap (take (n + m)) is ∙ take_at (take n old ++ registers) (drop (n + length registers) old) (n + m) (omega (arith, a, b, count)) in
    (sym (take-take n (n + m) new (omega arith)) ∙ ap (take n) whole ∙ take_at (take n old) registers n b, sym (drop-take n m new) ∙ ap (drop n) whole ∙ drop_at (take n old) registers n b)

-- where numbers were laid at the front
pub laid-front-is : (n k : ℕ) (numbers old table : List ℕ) → table ≡ numbers ++ drop k old → length numbers ≡ n → take n table ≡ numbers
laid-front-is n k numbers old table is count = ap (take n) is ∙ take_at numbers (drop k old) n count
