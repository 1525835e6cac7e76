-- Netlists that are built by hand.
use Rattle.flat_runs.proofs.Common.{◌≡◌, ℕ, zero, suc, ◌+◌, ◌%◌, ◌≤◌, true, false, List, [], ◌∷◌, length, refl, sym, ◌∙◌, ap, subst, inl, inr, arith, Contains, Bit, Fixed, Net, Register, Store, Joint}
use Rattle.flat_runs.proofs.Common.{Building, Grows, empty, with_declared, with_cell, signal, Assign, Clocked, HasOwnNets, IsBit, Means, Extends, AddsItem, with_joints, with_registers, StandsBelow}
use Rattle.flat_runs.proofs.Common.{places_from, Begins, LeadsTo, no_signal, of_input, of_register, unwritten, to_constant, to_net, Finishes, has_first, has_more, has_none, has_cases}
use Rattle.mcy_base.specs.declared.word.Word.{Word}
use Rattle.netlist_core.specs.declared.cell.CellKind.TheVariants.{Add}
use Rattle.flat_runs.specs.Examples.{at, place, with_value, counter, counter_netlist, CounterIsOneCell, wire, wire_netlist, WireIsOneNet}
use Rattle.flat_runs.proofs.Signals.{declared_own, empty_owns}
use Rattle.flat_runs.proofs.Joining.{assigns_add}
use Rattle.flat_runs.proofs.Storing.{clocked_add}
use Rattle.flat_runs.proofs.Growing.{cells_extend, declared_stand, empty_stands}
use Rattle.flat_runs.proofs.Combining.{no_change}
use Rattle.flat_runs.proofs.Law.{built_runs}

-- `assign y = a;`: two signals, and one joint.

abbrev two_signals : Building
two_signals = with_declared (with_declared empty (97 ∷ []) place 1) (121 ∷ []) place 1

abbrev joint : Joint
joint = record { net = 1; bit = Net 0 }

abbrev joined_signals : Building
joined_signals = with_joints two_signals (joint ∷ [])

signals_own : HasOwnNets two_signals
signals_own = declared_own (with_declared empty (97 ∷ []) place 1) (121 ∷ []) place 1 (declared_own empty (97 ∷ []) place 1 empty_owns)

wire_begins : Begins two_signals wire
wire_begins = record { cells = refl; joints = refl; registers = refl; own = signals_own; widths = widths; some = λ k has. absurd (has_none k has) } where
  widths : (k : ℕ) → length (signal two_signals k) ≡ at (1 ∷ 1 ∷ []) k
  widths zero = refl
  widths (suc zero) = refl
  widths (suc (suc k)) = refl

wire_is_added : AddsItem two_signals joined_signals (Assign (places_from 1 0 1) (λ s. s 0))
wire_is_added = assigns_add two_signals two_signals (places_from 1 0 1) (λ s. s 0) (Net 0 ∷ []) (joint ∷ []) signals_own (no_change two_signals) (λ nets runs. refl) (refl, refl, tt)

-- the input's net stays, and the output's leads to it
abbrev to : ℕ → Bit
to zero = Net 0
to (suc zero) = Net 0
to (suc (suc n)) = Net (suc (suc n))

input_leads : LeadsTo joined_signals wire 0 (Net 0)
input_leads = of_input 0 0 0 refl (has_first [] 0)

other_net : (n k i : ℕ) → ¬ IsBit joined_signals k i (suc (suc n))
other_net n zero zero e = absurd cc
other_net n zero (suc i) e = absurd cc
other_net n (suc zero) zero e = absurd cc
other_net n (suc zero) (suc i) e = absurd cc
other_net n (suc (suc k)) i e = absurd cc

led_to : (n : ℕ) (end : Bit) → to n ≡ end → LeadsTo joined_signals wire n end
led_to zero end e = subst (λ (b : Bit). LeadsTo joined_signals wire 0 b) e input_leads
led_to (suc zero) end e = subst (λ (b : Bit). LeadsTo joined_signals wire 1 b) e (to_net 1 0 (Net 0) (has_first [] joint) input_leads)
led_to (suc (suc n)) end e = subst (λ (b : Bit). LeadsTo joined_signals wire (suc (suc n)) b) e (no_signal (suc (suc n)) (other_net n))

joint_is : (n : ℕ) (b : Bit) → Contains (joint ∷ []) (record { net = n; bit = b }) → (1 ≡ n) × (Net 0 ≡ b)
joint_is n b has = elim (has_cases [] joint (record { net = n; bit = b }) has) [
  | inl same ↦ (ap (λ (j : Joint). j.net) same, ap (λ (j : Joint). j.bit) same)
  | inr none ↦ absurd (has_none (record { net = n; bit = b }) none)
]

own_end : (n : ℕ) → ((k i : ℕ) → ¬ IsBit joined_signals k i n) → to n ≡ Net n
own_end zero none = refl
own_end (suc zero) none = absurd (none 1 0 refl)
own_end (suc (suc n)) none = refl

input_end : (n k i : ℕ) → IsBit joined_signals k i n → Contains (0 ∷ []) k → to n ≡ Net n
input_end n k i at_bit has = elim (has_cases [] 0 k has) [
  | inl same ↦ first i (subst (λ (j : ℕ). IsBit joined_signals j i n) (sym same) at_bit)
  | inr none ↦ absurd (has_none k none)
] where
  first : (i : ℕ) → IsBit joined_signals 0 i n → to n ≡ Net n
  first zero e = let is : 0 ≡ n = cc in subst (λ (m : ℕ). to m ≡ Net m) is refl
  first (suc i) e = absurd cc

all_written : (n k i : ℕ) → IsBit joined_signals k i n → ¬ Contains (0 ∷ []) k → (k ≡ 1) × (n ≡ 1)
all_written n zero i e no_input = absurd (no_input (has_first [] 0))
all_written n (suc zero) zero e no_input = (refl, (let is : 1 ≡ n = cc in sym is))
all_written n (suc zero) (suc i) e no_input = absurd cc
all_written n (suc (suc k)) i e no_input = absurd cc

ends_at : (n : ℕ) (end : Bit) → LeadsTo joined_signals wire n end → to n ≡ end
ends_at n _ (no_signal _ none) = own_end n none
ends_at n _ (of_input _ k i e has) = input_end n k i e has
ends_at n _ (of_register _ stored) = absurd (has_none stored.0 stored.1)
ends_at n _ (unwritten _ k i v e no_input free is) =
    let here = all_written n k i e no_input in
    absurd (free (n, e, inl (Net 0, subst (λ (m : ℕ). Contains (joint ∷ []) (record { net = m; bit = Net 0 })) (sym here.1) (has_first [] joint))))
ends_at n _ (to_constant _ v has) = absurd (let e : Net 0 ≡ Fixed v = (joint_is n (Fixed v) has).1 in cc)
ends_at n _ (to_net _ m end has more) =
    let is = joint_is n (Net m) has in
    let zero_is : 0 ≡ m = (let e : Net 0 ≡ Net m = is.1 in cc) in
    ap to (sym is.0) ∙ ap to zero_is ∙ ends_at m end more

wire_finishes : Finishes joined_signals wire wire_netlist
wire_finishes = record {
  to = to;
  leads = λ n end. (ends_at n end, led_to n end);
  cells = refl;
  inputs = refl;
  outputs = refl;
  registers = tt;
}

pub wire_is_one_net : WireIsOneNet
wire_is_one_net = built_runs two_signals joined_signals wire wire_netlist wire_begins (joined_signals, wire_is_added, refl) wire_finishes

-- `count <= count + 1;`: a signal, a cell, and a register.

abbrev count_signal : Building
count_signal = with_declared empty (99 ∷ []) place 2

abbrev one : List Bit
one = Fixed true ∷ Fixed false ∷ []

abbrev count_cell : Building
count_cell = with_cell count_signal Add false ((Net 0 ∷ Net 1 ∷ []) ∷ one ∷ []) 2 place

abbrev count_register : Word → Register
count_register start = record { name = 99 ∷ []; span = place; d = Net 2 ∷ Net 3 ∷ []; q = Net 0 ∷ Net 1 ∷ []; start = start }

abbrev count_last : Word → Building
count_last start = with_registers count_cell (count_register start ∷ [])

abbrev count_effect : Store → Store
count_effect s = with_value 0 ((s 0 + 1) % 4) s

count_own : HasOwnNets count_signal
count_own = declared_own empty (99 ∷ []) place 2 empty_owns

count_stands : StandsBelow count_signal
count_stands = declared_stand empty (99 ∷ []) place 2 empty_stands

count_grows : Grows count_signal count_cell
count_grows = record {
  more = record { kind = Add; is_signed = false; ports = (Net 0 ∷ Net 1 ∷ []) ∷ one ∷ (Net 2 ∷ Net 3 ∷ []) ∷ []; span = place } ∷ [];
  is = refl;
  added = ((refl, refl), (omega arith, omega arith, (omega arith, omega arith, (omega arith, omega arith, tt))), ((omega arith, (omega arith, tt)), (tt, tt)), refl, refl);
}

count_extends : Extends count_signal count_cell
count_extends = (cells_extend count_signal count_cell count_stands count_grows).0

count_means : Means count_signal count_cell (Net 2 ∷ Net 3 ∷ []) (λ s. count_effect s 0)
count_means nets runs = runs.computed 0 (record { kind = Add; is_signed = false; ports = (Net 0 ∷ Net 1 ∷ []) ∷ one ∷ (Net 2 ∷ Net 3 ∷ []) ∷ []; span = place }) refl

count_begins : Begins count_signal counter
count_begins = record { cells = refl; joints = refl; registers = refl; own = count_own; widths = widths; some = some } where
  widths : (k : ℕ) → length (signal count_signal k) ≡ at (2 ∷ []) k
  widths zero = refl
  widths (suc k) = refl

  some : (k : ℕ) → Contains (0 ∷ []) k → 1 ≤ at (2 ∷ []) k
  some k has = elim (has_cases [] 0 k has) [
    | inl same ↦ subst (λ (j : ℕ). 1 ≤ at (2 ∷ []) j) same (omega arith)
    | inr none ↦ absurd (has_none k none)
  ]

count_is_added : (start : Word) → AddsItem count_signal (count_last start) (Clocked (0 ∷ []) count_effect)
count_is_added start = clocked_add count_signal count_cell (0 ∷ []) count_effect ((Net 2 ∷ Net 3 ∷ []) ∷ []) (count_register start ∷ []) count_own count_extends (count_means, tt) (refl, refl, tt)

-- nets of the register, and the others
count_stored : (start : Word) (n : ℕ) → Contains (Net 0 ∷ Net 1 ∷ []) (Net n) → LeadsTo (count_last start) counter n (Net n)
count_stored start n has = of_register n (count_register start, has_first [] (count_register start), has)

count_other : (start : Word) (n k i : ℕ) → ¬ IsBit (count_last start) k i (suc (suc n))
count_other start n zero zero e = absurd cc
count_other start n zero (suc zero) e = absurd cc
count_other start n zero (suc (suc i)) e = absurd cc
count_other start n (suc k) i e = absurd cc

count_leads : (start : Word) (n : ℕ) → LeadsTo (count_last start) counter n (Net n)
count_leads start zero = count_stored start 0 (has_first (Net 1 ∷ []) (Net 0))
count_leads start (suc zero) = count_stored start 1 (has_more (Net 1 ∷ []) (Net 0) (Net 1) (has_first [] (Net 1)))
count_leads start (suc (suc n)) = no_signal (suc (suc n)) (count_other start n)

-- each bit of a signal is the register's
count_bit : (start : Word) (n k i : ℕ) → IsBit (count_last start) k i n → Contains (Net 0 ∷ Net 1 ∷ []) (Net n)
count_bit start n zero zero e = subst (λ (b : Bit). Contains (Net 0 ∷ Net 1 ∷ []) b) (cc) (has_first (Net 1 ∷ []) (Net 0))
count_bit start n zero (suc zero) e = subst (λ (b : Bit). Contains (Net 0 ∷ Net 1 ∷ []) b) (cc) (has_more (Net 1 ∷ []) (Net 0) (Net 1) (has_first [] (Net 1)))
count_bit start n zero (suc (suc i)) e = absurd cc
count_bit start n (suc k) i e = absurd cc

count_end : (start : Word) (n : ℕ) (end : Bit) → LeadsTo (count_last start) counter n end → Net n ≡ end
count_end start n _ (no_signal _ none) = refl
count_end start n _ (of_input _ k i e has) = refl
count_end start n _ (of_register _ stored) = refl
count_end start n _ (unwritten _ k i v e no_input free is) = absurd (free (n, e, inr (count_register start, has_first [] (count_register start), count_bit start n k i e)))
count_end start n _ (to_constant _ v has) = absurd (has_none (record { net = n; bit = Fixed v }) has)
count_end start n _ (to_net _ m end has more) = absurd (has_none (record { net = n; bit = Net m }) has)

count_finishes : (start : Word) → start.bits ≡ 0 → Finishes (count_last start) counter (counter_netlist start)
count_finishes start is_0 = record {
  to = λ n. Net n;
  leads = λ n end. (count_end start n end, λ e. subst (λ (b : Bit). LeadsTo (count_last start) counter n b) e (count_leads start n));
  cells = refl;
  inputs = refl;
  outputs = refl;
  registers = (record { built = count_register start; first = inl (refl, refl); q = refl; d = refl; start = is_0 }, tt);
}

pub counter_is_one_cell : CounterIsOneCell
counter_is_one_cell start is_0 = built_runs count_signal (count_last start) counter (counter_netlist start) count_begins (count_last start, count_is_added start, refl) (count_finishes start is_0)
