-- Each update gives bits of a declared signal a value that fits, and nothing is written where no bit is in range.
use Rattle.tb_assigns.proofs.Common.{◌≡◌, zero, suc, ℕ, ◌+◌, ◌-◌, ◌/◌, ◌<◌, ◌≤◌, ◌^◌, min, List, [], ◌∷◌, ◌++◌, refl, ap, ◌∙◌, arith, Option, None, Some, ℤ, pos, negsuc, ◌+ℤ◌, ◌-ℤ◌, mod-lt, ints}
use Rattle.tb_assigns.proofs.Common.{pow_pos, Lcg, Names, Store, sense, assigned, Select, Part, Vector, vector_of, part_vector, parts_of, parts_width, bit_at, Update, evaluated, Window, some_bits}
use Rattle.tb_assigns.proofs.Common.{clipped, window_update, total_size, updates_of, window_drawn, windows_drawn, AreOfSignals, UpdatesFit, OutsideStays}
use Rattle.std.proofs.lemmas.Bool.{lt-ltb, le-leb}

-- a window of a declared signal

abbrev IsDeclared : Names → Window → Type 0
IsDeclared names w = (name : List ℕ) × (vector_of (names name) ≡ Some w.vector)

abbrev AreDeclared : Names → List Window → Type 0
AreDeclared names [] = Unit {0}
AreDeclared names (w ∷ more) = IsDeclared names w × AreDeclared names more

declared_append : (names : Names) (ws us : List Window) → AreDeclared names ws → AreDeclared names us → AreDeclared names (ws ++ us)
declared_append names [] us a b = b
declared_append names (w ∷ ws) us a b = (a.0, declared_append names ws us a.1 b)

window_declared : (names : Names) (phase : ℕ) (store : Store) (name : List ℕ) (s : Select) (o : Option Vector) (g : Lcg) → vector_of (names name) ≡ o → AreDeclared names (window_drawn names phase store s o g).0
window_declared names phase store name s None g is = tt
window_declared names phase store name s (Some v) g is = ((name, is), tt)

windows_declared : (names : Names) (phase : ℕ) (store : Store) (ps : List Part) (g : Lcg) → AreDeclared names (windows_drawn names phase store ps g).0
windows_declared names phase store [] g = tt
windows_declared names phase store (p ∷ ps) g =
    let a : List Window × Lcg = window_drawn names phase store p.select (part_vector names p) g in
    declared_append names a.0 (windows_drawn names phase store ps a.1).0 (window_declared names phase store p.name.name p.select (part_vector names p) g refl) (windows_declared names phase store ps a.1)

-- updates

fit_append : (names : Names) (us vs : List Update) → AreOfSignals names us → AreOfSignals names vs → AreOfSignals names (us ++ vs)
fit_append names [] vs a b = b
fit_append names (u ∷ us) vs a b = (a.0, fit_append names us vs a.1 b)

bits_fit : (names : Names) (name : List ℕ) (x : Vector) (low size v : ℕ) → vector_of (names name) ≡ Some x → low + size ≤ x.width → AreOfSignals names (some_bits x.number low size v)
bits_fit names name x low zero v is within = tt
bits_fit names name x low (suc n) v is within = (record { name = name; vector = x; declared = is; signal = refl; some = omega arith; within = within; value = mod-lt v (pow_pos (suc n)) }, tt)

from_fit : (names : Names) (name : List ℕ) (x : Vector) (at size v m : ℕ) → vector_of (names name) ≡ Some x → m ≡ min size (x.width - at) → AreOfSignals names (some_bits x.number at m v)
from_fit names name x at size v zero is e = tt
from_fit names name x at size v (suc n) is e = bits_fit names name x at (suc n) v is (omega arith)

clipped_fits : (names : Names) (name : List ℕ) (x : Vector) (z : ℤ) (size v : ℕ) → vector_of (names name) ≡ Some x → AreOfSignals names (clipped x z size v)
clipped_fits names name x (pos at) size v is = from_fit names name x at size v (min size (x.width - at)) is refl
clipped_fits names name x (negsuc n) size v is = bits_fit names name x 0 (min (size - (n + 1)) x.width) (v / 2 ^ (n + 1)) is (omega arith)

updates_fit : (names : Names) (ws : List Window) (v : ℕ) → AreDeclared names ws → AreOfSignals names (updates_of ws v)
updates_fit names [] v d = tt
updates_fit names (w ∷ ws) v d = fit_append names (updates_of ws v) (window_update w (v / 2 ^ total_size ws)) (updates_fit names ws v d.1) (clipped_fits names d.0.0 w.vector (w.base -ℤ pos w.vector.low) w.size (v / 2 ^ total_size ws) d.0.1)

pub all_fit : UpdatesFit
all_fit names phase a store g =
    let right : ℕ × Lcg = evaluated names phase a.value store (assigned (sense names a.value) (parts_width names (parts_of a.left))) g in
    updates_fit names (windows_drawn names phase store (parts_of a.left) right.1).0 right.0 (windows_declared names phase store (parts_of a.left) right.1)

-- Nothing is written where no bit is in range.

in_range : (x : Vector) (k : ℕ) → x.low ≤ k → k - x.low < x.width → bit_at x (pos k) ≡ Some (k - x.low)
in_range x k le lt = rw (le-leb x.low k le, lt-ltb (k - x.low) x.width lt) refl

not_none : (o : Option ℕ) (i : ℕ) → o ≡ Some i → o ≡ None → ⊥
not_none o i is none = absurd cc

abbrev AllOutside : Vector → ℤ → ℕ → Type 0
AllOutside x base size = (i : ℕ) → i < size → bit_at x (base +ℤ pos i) ≡ None

outside_from : (x : Vector) (base : ℤ) (at size v m : ℕ) → base -ℤ pos x.low ≡ pos at → m ≡ min size (x.width - at) → AllOutside x base size → some_bits x.number at m v ≡ []
outside_from x base at size v zero is e out = refl
outside_from x base at size v (suc n) is e out =
    let here : base +ℤ pos 0 ≡ pos (x.low + at) = omega (arith, ints, is) in
    absurd (not_none (bit_at x (base +ℤ pos 0)) (x.low + at - x.low) (ap (bit_at x) here ∙ in_range x (x.low + at) (omega arith) (omega arith)) (out 0 (omega arith)))

outside_below : (x : Vector) (base : ℤ) (n size v m : ℕ) → base -ℤ pos x.low ≡ negsuc n → m ≡ min (size - (n + 1)) x.width → AllOutside x base size → some_bits x.number 0 m v ≡ []
outside_below x base n size v zero is e out = refl
outside_below x base n size v (suc k) is e out =
    let here : base +ℤ pos (n + 1) ≡ pos x.low = omega (arith, ints, is) in
    absurd (not_none (bit_at x (base +ℤ pos (n + 1))) (x.low - x.low) (ap (bit_at x) here ∙ in_range x x.low (omega arith) (omega arith)) (out (n + 1) (omega arith)))

outside_at : (x : Vector) (base : ℤ) (size v : ℕ) (z : ℤ) → base -ℤ pos x.low ≡ z → AllOutside x base size → clipped x z size v ≡ []
outside_at x base size v (pos at) is out = outside_from x base at size v (min size (x.width - at)) is refl out
outside_at x base size v (negsuc n) is out = outside_below x base n size (v / 2 ^ (n + 1)) (min (size - (n + 1)) x.width) is refl out

pub outside_stays : OutsideStays
outside_stays w v out = outside_at w.vector w.base w.size v (w.base -ℤ pos w.vector.low) refl out
