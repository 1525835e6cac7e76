-- Assignments of a testbench (IEEE 1364-2005, 9.2): the right side is evaluated, at the greater of both widths, and then the
-- indices of the left side from the left. Each part of the left side takes its bits of the value, the last one the lowest, and
-- the parts are written from the right end. A bit outside the declared range is not written.
use Rattle.std.specs.Prelude.{◌≡◌, ◌≤◌, ℕ, zero, suc, ◌+◌, ◌-◌, ◌/◌, ◌%◌, ◌^◌, min, ℤ, pos, negsuc, ◌-ℤ◌, List, [], ◌∷◌, ◌++◌, Option, Some, None}
use Rattle.rand_pcg.specs.Lcg.{Lcg}
use Rattle.vlog_syntax.specs.declared.expr.Expr.{Expr}
use Rattle.vlog_syntax.specs.declared.stmt.Assignment.{Assignment}
use Rattle.vlog_meaning.specs.Integers.{integer}
use Rattle.vlog_meaning.specs.Scopes.{Names, Store}
use Rattle.vlog_meaning.specs.Senses.{sense, assigned, IsWhole}
use Rattle.vlog_effects.specs.Expressions.{bound_of}
use Rattle.vlog_effects.specs.LeftSides.{Select, Whole, Bit, Range, Indexed, Part, Vector, parts_of, part_vector, parts_width, select_width}
use Rattle.tb_values.specs.Values.{evaluated, own_evaluated}
use Rattle.tb_machine.specs.declared.update.Update.{Update}

-- the integer that an index is by its sign, where it stands for itself
abbrev pub index_drawn : Names → ℕ → Store → Expr → Lcg → ℤ × Lcg
index_drawn names phase store i g = let a = own_evaluated names phase i store g in (integer (sense names i).shape a.0, a.1)

-- the declared number of the lowest bit that a select writes
abbrev pub base_drawn : Names → ℕ → Store → Vector → Select → Lcg → ℤ × Lcg
base_drawn names phase store v Whole g = (pos v.low, g)
base_drawn names phase store v (Bit at i) g = index_drawn names phase store i g
base_drawn names phase store v (Range at msb lsb) g = (bound_of names lsb, g)
base_drawn names phase store v (Indexed at base count) g = index_drawn names phase store base g

-- what a part writes: so many bits of a signal, from the one with this declared number on
pub record Window : Type 0 where
  pub vector : Vector
  pub base : ℤ
  pub size : ℕ

abbrev pub window_drawn : Names → ℕ → Store → Select → Option Vector → Lcg → List Window × Lcg
window_drawn names phase store s None g = ([], g)
window_drawn names phase store s (Some v) g = let b = base_drawn names phase store v s g in (record { vector = v; base = b.0; size = select_width names v s } ∷ [], b.1)

abbrev pub windows_drawn : Names → ℕ → Store → List Part → Lcg → List Window × Lcg
windows_drawn names phase store [] g = ([], g)
windows_drawn names phase store (p ∷ more) g =
    let a = window_drawn names phase store p.select (part_vector names p) g in
    let rest = windows_drawn names phase store more a.1 in
    (a.0 ++ rest.0, rest.1)

-- the update of so many bits of a signal, if they are any, with the lowest bits of a value
abbrev pub some_bits : (signal low size value : ℕ) → List Update
some_bits signal low zero v = []
some_bits signal low (suc n) v = record { signal = signal; low = low; width = suc n; value = v % 2 ^ suc n } ∷ []

-- the update of so many bits from a place on, which may lie outside the signal, with a value
abbrev pub clipped : Vector → ℤ → ℕ → ℕ → List Update
clipped x (pos at) size v = some_bits x.number at (min size (x.width - at)) v
clipped x (negsuc n) size v = some_bits x.number 0 (min (size - (n + 1)) x.width) (v / 2 ^ (n + 1))

abbrev pub window_update : Window → ℕ → List Update
window_update p v = clipped p.vector (p.base -ℤ pos p.vector.low) p.size v

abbrev pub total_size : List Window → ℕ
total_size [] = 0
total_size (p ∷ more) = p.size + total_size more

-- the first window has the highest bits, and is written last
abbrev pub updates_of : List Window → ℕ → List Update
updates_of [] v = []
updates_of (p ∷ more) v = updates_of more v ++ window_update p (v / 2 ^ total_size more)

-- the updates of an assignment, and the generator after its evaluations
abbrev pub updates : Names → ℕ → Assignment → Store → Lcg → List Update × Lcg
updates names phase a store g =
    let right = evaluated names phase a.value store (assigned (sense names a.value) (parts_width names (parts_of a.left))) g in
    let windows = windows_drawn names phase store (parts_of a.left) right.1 in
    (updates_of windows.0 right.0, windows.1)

-- What can be written.

-- the expressions of a select have shapes
abbrev pub IsWholeSelect : Names → Select → Type 0
IsWholeSelect names Whole = Unit {0}
IsWholeSelect names (Bit at i) = IsWhole names i
IsWholeSelect names (Range at msb lsb) = IsWhole names msb × IsWhole names lsb
IsWholeSelect names (Indexed at base count) = IsWhole names base × IsWhole names count

-- a part of a signal, with 1 to 128 bits
pub record IsPart (names : Names) (p : Part) (v : Vector) : Type 0 where
  pub vector : part_vector names p ≡ Some v
  pub some : 1 ≤ select_width names v p.select
  pub narrow : select_width names v p.select ≤ 128
  pub whole : IsWholeSelect names p.select

abbrev pub AreParts : Names → List Part → Type 0
AreParts names [] = Unit {0}
AreParts names (p ∷ more) = ((v : Vector) × IsPart names p v) × AreParts names more

-- an assignment whose expressions have shapes, to at most 128 bits of signals
pub record CanAssign (names : Names) (a : Assignment) : Type 0 where
  pub parts : AreParts names (parts_of a.left)
  pub narrow : parts_width names (parts_of a.left) ≤ 128
  pub right : IsWhole names a.value
