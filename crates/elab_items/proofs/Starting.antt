-- Start values are given one item after the other.
use Rattle.elab_items.proofs.Common.{◌≡◌, ℕ, zero, suc, ◌≤◌, Bool, List, [], ◌∷◌, ◌++◌, get_or, length, None, refl, sym, ap, subst, arith, length-append, Expr, Process, Names, Store, nothing, Signal}
use Rattle.elab_items.proofs.Common.{Building, empty, fresh_bits, signal, start_bits, with_declared, process_refusals, Widths, widths_in, SameButStarts, StartsWith, assigned_value, process_starts}
use Rattle.elab_items.proofs.Common.{Place, FlatItem, Stands, declared, AllStart, CanStart, names_at, start_error, started, starts_from, with_value}
use Rattle.std.proofs.lemmas.Nat.{pow_pos}
use Rattle.flat_instances.specs.declared.item.FlatItem.TheVariants as f
use Rattle.elab_items.proofs.Standing.{same_signal, widths_from}

-- What stands of a builder does not rest on start values.

stands_with : (places : List Place) (b : Building) (starts : List ℕ) → Stands places b → Stands places (record b { starts = starts })
stands_with places b starts h = record {
  ready = record {
    own = record { nets = h.ready.own.nets; below = h.ready.own.below; once = h.ready.own.once };
    stands = record { cells = h.ready.stands.cells; joints = h.ready.stands.joints; registers = h.ready.stands.registers; formed = h.ready.stands.formed; owned = h.ready.stands.owned; outside = h.ready.stands.outside };
  };
  signals = λ k name. same_signal b (record b { starts = starts }) (names_at places k name) refl (omega arith) (h.signals k name);
  some = h.some;
  narrow = h.narrow;
}

pub starts_stand : (places : List Place) (old new : Building) → SameButStarts old new → Stands places old → Stands places new
starts_stand places old new same h = subst (Stands places) (sym same) (stands_with places old new.starts h)

pub same_starts : (b : Building) → SameButStarts b b
same_starts b = refl

pub same_widths : (old new : Building) → SameButStarts old new → widths_in new ≡ widths_in old
same_widths old new same = widths_from old new (ap (λ (b : Building). b.signals) same)

-- Signals that are declared start with 0.

zero_more : (xs : List ℕ) (k : ℕ) → ((j : ℕ) → get_or xs j 0 ≡ 0) → get_or (xs ++ 0 ∷ []) k 0 ≡ 0
zero_more [] zero h = refl
zero_more [] (suc k) h = refl
zero_more (x ∷ xs) zero h = h 0
zero_more (x ∷ xs) (suc k) h = zero_more xs k (λ j. h (suc j))

zeros : (ss : List Signal) (b : Building) → ((j : ℕ) → start_bits b j ≡ 0) → (k : ℕ) → start_bits (declared ss b) k ≡ 0
zeros [] b h k = h k
zeros (s ∷ more) b h k = zeros more (with_declared b s.name s.span s.bits.width) (λ j. zero_more b.starts j h) k

counted : (ss : List Signal) (b : Building) → length b.starts ≡ length b.signals → length (declared ss b).starts ≡ length (declared ss b).signals
counted [] b h = h
counted (s ∷ more) b h =
    let next = with_declared b s.name s.span s.bits.width in
    let long : length next.starts ≡ length next.signals = (let e = length-append b.starts (0 ∷ []) in let e2 = length-append b.signals (fresh_bits b.nets s.bits.width ∷ []) in omega (arith, e, e2, h)) in
    counted more next long

none_started : (k : ℕ) → start_bits empty k ≡ 0
none_started k = refl

pub declared_start : (ss : List Signal) → StartsWith (declared ss empty) nothing
declared_start ss = record {
  count = counted ss empty refl;
  start = zeros ss empty none_started;
  fits = λ k. pow_pos (length (signal (declared ss empty) k));
}

-- One value.

-- Items.

pub declared_started : (places : List Place) (b new : Building) (number k : ℕ) (value : Expr) (names : Names) (store : Store) → names_at places k ≡ names
    → (start_error names value (widths_in b number) ≡ None → StartsWith b store → StartsWith new (with_value number (assigned_value names value (widths_in b number)) store))
    → CanStart (widths_in b) places (f.Starts number k value) → StartsWith b store → StartsWith new (started (widths_in b) places (f.Starts number k value) store)
declared_started places b new number k value names store is h can start =
    subst (λ (x : Names). StartsWith new (with_value number (assigned_value x value (widths_in b number)) store)) (sym is) (h (subst (λ (x : Names). start_error x value (widths_in b number) ≡ None) is can) start)

pub run_started : (places : List Place) (b new : Building) (k : ℕ) (p : Process) (names : Names) (store : Store) → names_at places k ≡ names
    → ((written : List Bool) (s : Store) → process_refusals names written p ≡ [] → StartsWith b s → StartsWith new (process_starts (widths_in b) names p s))
    → CanStart (widths_in b) places (f.Runs k p) → StartsWith b store → StartsWith new (started (widths_in b) places (f.Runs k p) store)
run_started places b new k p names store is h can start =
    subst (λ (x : Names). StartsWith new (process_starts (widths_in b) x p store)) (sym is) (h can.0 store (subst (λ (x : Names). process_refusals x can.0 p ≡ []) is can.1) start)

-- What the rest of the items does, in terms of all items.

pub rest_started : (places : List Place) (width : Widths) (item : FlatItem) (more : List FlatItem) (old mid new : Building)
    → ((store : Store) → CanStart width places item → StartsWith old store → StartsWith mid (started width places item store))
    → ((store : Store) → AllStart width places more → StartsWith mid store → StartsWith new (starts_from width places more store))
    → (store : Store) → AllStart width places (item ∷ more) → StartsWith old store → StartsWith new (starts_from width places (item ∷ more) store)
rest_started places width item more old mid new one rest store all start = rest (started width places item store) all.1 (one store all.0 start)

-- no items are left
pub last_started : (places : List Place) (width : Widths) (rest : List FlatItem) (b : Building) → length rest ≤ 0 → (store : Store) → AllStart width places rest → StartsWith b store → StartsWith b (starts_from width places rest store)
last_started places width [] b none store all start = start
last_started places width (x ∷ rest) b none store all start = absurd (omega (arith, none))
