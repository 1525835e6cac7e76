-- The builder in which all signals are declared.
use Rattle.elab_items.proofs.Common.{◌≡◌, ℕ, zero, suc, ◌+◌, ◌<◌, ◌≤◌, List, [], ◌∷◌, ◌++◌, map, length, refl, sym, ap, ◌∙◌, subst, arith, slice_index_or, Contains, append-nil, append_assoc}
use Rattle.elab_items.proofs.Common.{map-append, Bit, Signal, Building, empty, fresh_bits, own_bits, signal, with_declared, HasOwnNets, Design, Begins, declared_own, empty_owns, AreSized, bits_of}
use Rattle.elab_items.proofs.Common.{declared, max_bits, widths_of, length_fresh, own_more}

abbrev pub bits_width : Signal → ℕ
bits_width s = s.bits.width

pub owns : (ss : List Signal) (b : Building) → HasOwnNets b → HasOwnNets (declared ss b)
owns [] b h = h
owns (s ∷ more) b h = owns more (with_declared b s.name s.span s.bits.width) (declared_own b s.name s.span s.bits.width h)

pub no_cells : (ss : List Signal) (b : Building) → (declared ss b).cells ≡ b.cells
no_cells [] b = refl
no_cells (s ∷ more) b = no_cells more (with_declared b s.name s.span s.bits.width)

pub no_joints : (ss : List Signal) (b : Building) → (declared ss b).joints ≡ b.joints
no_joints [] b = refl
no_joints (s ∷ more) b = no_joints more (with_declared b s.name s.span s.bits.width)

pub no_registers : (ss : List Signal) (b : Building) → (declared ss b).registers ≡ b.registers
no_registers [] b = refl
no_registers (s ∷ more) b = no_registers more (with_declared b s.name s.span s.bits.width)

pub lengths : (ss : List Signal) (b : Building) → map length (declared ss b).signals ≡ map length b.signals ++ map bits_width ss
lengths [] b = sym (append-nil (map length b.signals))
lengths (s ∷ more) b =
    let next = with_declared b s.name s.span s.bits.width in
    let here : map length next.signals ≡ map length b.signals ++ s.bits.width ∷ [] = map-append length b.signals (fresh_bits b.nets s.bits.width ∷ []) ∙ ap (λ (n : ℕ). map length b.signals ++ n ∷ []) (length_fresh b.nets s.bits.width) in
    lengths more next ∙ ap (λ (ns : List ℕ). ns ++ map bits_width more) here ∙ append_assoc (map length b.signals) (s.bits.width ∷ []) (map bits_width more)

length_at : (xs : List (List Bit)) (k : ℕ) → slice_index_or (map length xs) k 0 ≡ length (slice_index_or xs k [])
length_at [] k = refl
length_at (x ∷ more) zero = refl
length_at (x ∷ more) (suc k) = length_at more k

width_at : (ss : List Signal) (k : ℕ) → slice_index_or (map bits_width ss) k 0 ≡ widths_of ss k
width_at [] k = refl
width_at (s ∷ more) zero = refl
width_at (s ∷ more) (suc k) = width_at more k

pub widths_are : (ss : List Signal) (k : ℕ) → length (signal (declared ss empty) k) ≡ widths_of ss k
widths_are ss k = sym (length_at (declared ss empty).signals k) ∙ ap (λ (ns : List ℕ). slice_index_or ns k 0) (lengths ss empty) ∙ width_at ss k

pub some_bits : (ss : List Signal) (k : ℕ) → AreSized ss → k < length ss → 1 ≤ widths_of ss k
some_bits [] k h less = absurd (omega arith)
some_bits (s ∷ more) zero h less = h.0
some_bits (s ∷ more) (suc k) h less = some_bits more k h.2 (omega (arith, less))

pub begun : (ss : List Signal) (b : Building) (design : Design) → AreSized ss → b ≡ declared ss empty → ((k : ℕ) → design.width k ≡ widths_of ss k) → ((k : ℕ) → Contains design.registers k → k < length ss) → Begins b design
begun ss b design sized is widths registers = subst (λ (x : Building). Begins x design) (sym is) (record {
  cells = no_cells ss empty;
  joints = no_joints ss empty;
  registers = no_registers ss empty;
  own = owns ss empty empty_owns;
  widths = λ k. widths_are ss k ∙ sym (widths k);
  some = λ k has. subst (λ (n : ℕ). 1 ≤ n) (sym (widths k)) (some_bits ss k sized (registers k has));
})

-- What is left to be declared.

pub left_more : (ss l more : List Signal) (b new : Building) (s : Signal) → l ≡ s ∷ more → new ≡ with_declared b s.name s.span s.bits.width → own_bits b.declared + s.bits.width ≤ max_bits
    → AreSized l → declared l b ≡ declared ss empty → own_bits b.declared + bits_of l ≡ bits_of ss
    → AreSized more × (declared more new ≡ declared ss empty) × (own_bits new.declared + bits_of more ≡ bits_of ss) × (own_bits new.declared ≤ max_bits)
left_more ss l more b new s split is fits sized same count =
    let next = with_declared b s.name s.span s.bits.width in
    let long = own_more b.declared (record { name = s.name; span = s.span; first = b.nets; width = s.bits.width }) in
    let all : AreSized (s ∷ more) = subst AreSized split sized in
    let ends : declared (s ∷ more) b ≡ declared ss empty = subst (λ (x : List Signal). declared x b ≡ declared ss empty) split same in
    let bits : own_bits b.declared + bits_of (s ∷ more) ≡ bits_of ss = subst (λ (x : List Signal). own_bits b.declared + bits_of x ≡ bits_of ss) split count in
    subst (λ (x : Building). AreSized more × (declared more x ≡ declared ss empty) × (own_bits x.declared + bits_of more ≡ bits_of ss) × (own_bits x.declared ≤ max_bits)) (sym is) (all.2, ends, omega (arith, long, bits), omega (arith, long, fits))

pub left_last : (ss l : List Signal) (b : Building) → length l ≤ 0 → declared l b ≡ declared ss empty → own_bits b.declared + bits_of l ≡ bits_of ss → own_bits b.declared ≤ max_bits → (b ≡ declared ss empty) × (bits_of ss ≤ max_bits)
left_last ss [] b none same count fits = (same, omega (arith, count, fits))
left_last ss (x ∷ l) b none same count fits = absurd (omega (arith, none))
