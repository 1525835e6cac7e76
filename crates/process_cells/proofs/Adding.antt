-- What a process adds is the process.
use Rattle.process_cells.proofs.Common.{◌≡◌, ℕ, ◌<◌, ◌^◌, true, false, List, [], ◌∷◌, ◌++◌, map, length, Option, Some, None, sym, ap, ◌∙◌, subst, Contains, length-map, Bit, Decl, Signal, Constant}
use Rattle.process_cells.proofs.Common.{Names, Store, Values, HasWidth, HaveWidths, left_by, bits_of, value_of, targets, is_assigned, Steps, steps_of, number-small, length-bits_of, Building, RunsIn}
use Rattle.process_cells.proofs.Common.{Grows, AreAdded, IsSignal, HasSignals, signal, store, AddsItem, Means, AllMean, IsSettled, combinational_add, cells_extend, Work, Builds, distinct, Keeps}
use Rattle.process_cells.proofs.Common.{last_held, known-distinct, keeps, leaves-the-effect, CombinationalAreAdded, ClockedAreAdded, AllKnown, variables, bits_by, process_effect, given_own, blank}
use Rattle.process_cells.proofs.Common.{last_seen, has_blocking, last_bits, has_first, has_more}
use Rattle.netlist_core.specs.Numbers.{number}
use Rattle.netlist_core.specs.Runs.{Nets, bit_value, values}
use Rattle.vlog_effects.proofs.Unlatched.{leaves-one}
use Rattle.flat_runs.specs.Meanings.{Combinational, Clocked}
use Rattle.flat_runs.proofs.Storing.{clocked_add}
use Rattle.proc_muxes.specs.Shows.{Adds}
use Rattle.proc_muxes.proofs.Bits.{number-same, bits_of-number}
use Rattle.process_cells.proofs.Blanking.{known_numbers, blank_count, blank_is, blank_wide, blank_other}
use Rattle.process_cells.proofs.Assigned.{unassigned, blocking_conform, waits_at}
use Rattle.process_cells.proofs.Widths.{left_wide}

-- Cells are added to the builder before the process.

pub grown : (old : Building) (b : Work) (mid : Building) → mid ≡ record old { signals = mid.signals } → Adds mid b.building → Grows old (given_own old b)
grown old b mid is adds = record {
  more = adds.more;
  is = λ i. record {
    cells = (adds.cells ∙ ap (λ (x : Building). x.cells ++ adds.more) is) i;
    joints = (adds.joints ∙ ap (λ (x : Building). x.joints) is) i;
    registers = (adds.registers ∙ ap (λ (x : Building). x.registers) is) i;
    declared = (adds.declared ∙ ap (λ (x : Building). x.declared) is) i;
    signals = old.signals;
    starts = (adds.starts ∙ ap (λ (x : Building). x.starts) is) i;
    nets = b.building.nets;
  };
  added = subst (λ (n : ℕ). AreAdded n adds.more b.building.nets) (ap (λ (x : Building). x.nets) is) adds.added;
}

runs_of : (old : Building) (b : Work) (nets : Nets) → RunsIn (given_own old b) nets → RunsIn b.building nets
runs_of old b nets runs = record { computed = runs.computed; joined = runs.joined }

-- The values of signals as bits.

bits_there : (old : Building) (nets : Nets) (n : ℕ) → bits_by old (store old nets) n ≡ values nets (signal old n)
bits_there old nets n =
    ap (λ (w : ℕ). bits_of w (number (values nets (signal old n)))) (sym (length-map (signal old n) (bit_value nets))) ∙ bits_of-number (values nets (signal old n))

wide_there : (old : Building) (x : Values) (d : Option Decl) → ((n : ℕ) → length (x n) ≡ length (signal old n)) → IsSignal old d → HasWidth x d
wide_there old x (Some (Signal width low is_signed n)) wide h = wide n ∙ h.1
wide_there old x (Some (Constant value low is_signed)) wide h = tt
wide_there old x None wide h = tt

have_widths : (names : Names) (old : Building) (x : Values) → HasSignals names old → ((n : ℕ) → length (x n) ≡ length (signal old n)) → HaveWidths names x
have_widths names old x has wide name = wide_there old x (names name) wide (has name)

-- each of the variables has the bits of what is left to it
all_mean : (old mid : Building) (ks : List ℕ) (bits : ℕ → List Bit) (effect : Store → Store) → ((k : ℕ) → Contains ks k → Means old mid (bits k) (λ s. effect s k)) → AllMean old mid ks (map bits ks) effect
all_mean old mid [] bits effect h = tt
all_mean old mid (k ∷ ks) bits effect h = (h k (has_first ks k), all_mean old mid ks bits effect (λ j has. h j (has_more ks k j has)))

-- what is left has as many bits as the signal
fits : (old : Building) (steps : Steps) (s : Store) (k : ℕ) → process_effect old steps s k < 2 ^ length (signal old k)
fits old steps s k =
    let long : length (left_by steps (bits_by old s) k) ≡ length (signal old k) = left_wide steps (bits_by old s) k ∙ length-bits_of (length (signal old k)) (s k) in
    subst (λ (w : ℕ). value_of (left_by steps (bits_by old s) k) < 2 ^ w) long (number-small (left_by steps (bits_by old s) k))

pub combinational_added : CombinationalAreAdded
combinational_added s names old new has own stands blocking unlatched built =
    let a : Work = built.begun in
    let b : Work = built.done in
    let begins : a.building ≡ blank (variables (steps_of s names)) old = built.blank_is in
    let f : Builds (steps_of s names) a b = built.built in
    let steps : Steps = steps_of s names in
    let ks : List ℕ = variables steps in
    let kept : Keeps (targets steps) a b = keeps steps a b f in
    let count : length a.building.signals ≡ length old.signals = ap (λ (x : Building). length x.signals) begins ∙ blank_count ks old in
    let known : AllKnown (length old.signals) ks = subst (λ (n : ℕ). AllKnown n ks) count (known_numbers (length a.building.signals) (distinct (targets steps)) (known-distinct (length a.building.signals) [] (targets steps) kept.known)) in
    let is : a.building ≡ record old { signals = a.building.signals } = begins ∙ blank_is ks old ∙ ap (λ (x : Building). record old { signals = x.signals }) (sym begins) in
    let grows : Grows old (given_own old b) = grown old b a.building is kept.adds in
    let first : (n : ℕ) → length (signal a.building n) ≡ length (signal old n) = λ n. ap (λ (x : Building). length (signal x n)) begins ∙ blank_wide ks old n known in
    let other : (n : ℕ) → is_assigned (targets steps) n ≡ false → signal a.building n ≡ signal old n = λ n e. ap (λ (x : Building). signal x n) begins ∙ blank_other ks old n known (unassigned steps n e) in
    let own_bits : (s : Store) (n : ℕ) → length (bits_by old s n) ≡ length (signal old n) = λ s n. length-bits_of (length (signal old n)) (s n) in
    let one : (x y : Values) → ((n : ℕ) → length (x n) ≡ length (signal old n)) → ((n : ℕ) → length (y n) ≡ length (signal old n)) → ((n : ℕ) → is_assigned (targets steps) n ≡ false → x n ≡ y n) → (n : ℕ) → left_by steps x n ≡ left_by steps y n =
    λ x y xs ys same. leaves-one s names x y (have_widths names old x has xs) (have_widths names old y has ys) blocking unlatched same in
    let settled : IsSettled old ks (process_effect old steps) = record {
      fits = λ s k within. fits old steps s k;
      by_others = λ s t same k within. ap value_of (one (bits_by old s) (bits_by old t) (own_bits s) (own_bits t) (λ n e. ap (bits_of (length (signal old n))) (same n (unassigned steps n e))) k);
    } in
    let mean : AllMean old (given_own old b) ks (last_seen b ks) (process_effect old steps) = all_mean old (given_own old b) ks (signal b.building) (process_effect old steps) (λ k within nets runs.
    let shown : values nets (signal b.building k) ≡ left_by steps (λ j. values nets (signal a.building j)) k = leaves-the-effect nets (λ n. true) steps a b f (blocking_conform steps blocking) (runs_of old b nets runs) (λ n e. absurd cc) k in
    let same : left_by steps (λ j. values nets (signal a.building j)) k ≡ left_by steps (bits_by old (store old nets)) k =
    one (λ j. values nets (signal a.building j)) (bits_by old (store old nets)) (λ n. length-map (signal a.building n) (bit_value nets) ∙ first n) (own_bits (store old nets)) (λ n e. ap (values nets) (other n e) ∙ sym (bits_there old nets n)) k in
    sym (number-same (values nets (signal b.building k))) ∙ ap value_of (shown ∙ same)) in
    subst (λ (x : Building). AddsItem old x (Combinational ks (process_effect old steps))) (sym built.is) (combinational_add old (given_own old b) ks (process_effect old steps) (last_seen b ks) built.joints own settled (cells_extend old (given_own old b) stands grows).0 mean built.joined)

pub clocked_added : ClockedAreAdded
clocked_added steps old new own stands kinds built =
    let a : Work = built.begun in
    let b : Work = built.done in
    let begins : a.building ≡ old = built.begun_is in
    let f : Builds steps a b = built.built in
    let ks : List ℕ = variables steps in
    let kept : Keeps (targets steps) a b = keeps steps a b f in
    let is : a.building ≡ record old { signals = a.building.signals } = begins ∙ ap (λ (x : Building). record old { signals = x.signals }) (sym begins) in
    let grows : Grows old (given_own old b) = grown old b a.building is kept.adds in
    let mean : AllMean old (given_own old b) ks (last_bits steps b ks) (process_effect old steps) = all_mean old (given_own old b) ks (last_held (has_blocking steps) b) (process_effect old steps) (λ k within nets runs.
    let shown : values nets (last_held (has_blocking steps) b k) ≡ left_by steps (λ j. values nets (signal a.building j)) k = leaves-the-effect nets (has_blocking steps) steps a b f kinds (runs_of old b nets runs) (λ n e. waits_at a (targets steps) n built.waits e) k in
    let start : (λ j. values nets (signal a.building j)) ≡ bits_by old (store old nets) = λ i n. (ap (λ (x : Building). values nets (signal x n)) begins ∙ sym (bits_there old nets n)) i in
    sym (number-same (values nets (last_held (has_blocking steps) b k))) ∙ ap value_of (shown ∙ ap (λ (x : Values). left_by steps x k) start)) in
    subst (λ (x : Building). AddsItem old x (Clocked ks (process_effect old steps))) (sym built.is) (clocked_add old (given_own old b) ks (process_effect old steps) (last_bits steps b ks) built.registers own (cells_extend old (given_own old b) stands grows).0 mean built.stored)
