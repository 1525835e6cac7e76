-- What stands before the statements of a combinational process are built.
use Rattle.process_cells.proofs.Common.{◌≡◌, ℕ, ◌<◌, Bool, true, false, List, [], ◌∷◌, length, Option, Some, None, sym, ap, ◌∙◌, subst, inl, inr, eqb_tells, Bit, Stmt, Decl, Signal, Constant, Names}
use Rattle.process_cells.proofs.Common.{steps_of, Target, targets, AreSized, Building, AllBelow, IsSignal, HasSignals, signal, with_signal, HasOwnNets, ports_in, Work, distinct, AreHeld, IsReady}
use Rattle.process_cells.proofs.Common.{Conforms, Known, StandsBelow, work, known-distinct, signal-with, AllKnown, variables, zeros, blank, AllWait, IsAccepted, HasPlaces}
use Rattle.process_cells.proofs.Accepted.{accepted_ready, accepted_blocking}
use Rattle.process_cells.proofs.Assigned.{blocking_conform}
use Rattle.process_cells.proofs.Blanking.{known_numbers, blank_count, blank_is, blank_wide}

-- what is asked before
pub record Given (comb : Bool) (names : Names) (s : Stmt) (old : Building) (waiting : List (List Bit)) : Type 0 where
  pub accepted : IsAccepted comb (steps_of s names)
  pub sized : AreSized names
  pub signals : HasSignals names old
  pub own : HasOwnNets old
  pub places : HasPlaces old waiting

blocking_waits : (a : Work) (ts : List Target) → Conforms (λ n. true) ts → AllWait a ts
blocking_waits a [] k = tt
blocking_waits a (x ∷ more) k = ((λ e. absurd (let f : true ≡ false = sym k.0 ∙ e in cc)), blocking_waits a more k.1)

pub held_known : (a : Work) (ts : List Target) → AreHeld a ts → Known (length a.building.signals) ts
held_known a [] h = tt
held_known a (x ∷ more) h = (h.0.known, held_known a more h.1)

pub own_below : (b : Building) → HasOwnNets b → (n : ℕ) → AllBelow b.nets (signal b n)
own_below b own n = ports_in b.nets b.signals n own.below

ready : (names : Names) (s : Stmt) (b : Building) (waiting : List (List Bit)) → IsAccepted true (steps_of s names) → AreSized names → HasSignals names b → StandsBelow (work b waiting) → IsReady names (steps_of s names) (work b waiting)
ready names s b waiting accepted sized signals stands =
    accepted_ready true accepted.0 s names (work b waiting) accepted.1 sized signals stands
    (blocking_waits (work b waiting) (targets (steps_of s names)) (blocking_conform (steps_of s names) (accepted_blocking accepted.0 (steps_of s names) accepted.1)))

pub known_variables : (names : Names) (s : Stmt) (old : Building) (waiting : List (List Bit)) → Given true names s old waiting → AllKnown (length old.signals) (variables (steps_of s names))
known_variables names s old waiting g =
    let ts : List Target = targets (steps_of s names) in
    let r = ready names s old waiting g.accepted g.sized g.signals (record { seen = own_below old g.own; later = g.places.below }) in
    known_numbers (length old.signals) (distinct ts) (known-distinct (length old.signals) [] ts (held_known (work old waiting) ts r.held))

-- Zeros.

zeros_below : (n : ℕ) (bits : List Bit) → AllBelow n (zeros bits)
zeros_below n [] = tt
zeros_below n (x ∷ bits) = zeros_below n bits

blank_nets : (ks : List ℕ) (b : Building) → (blank ks b).nets ≡ b.nets
blank_nets ks b = ap (λ (x : Building). x.nets) (blank_is ks b)

one_below : (k : ℕ) (b : Building) (n : ℕ) → k < length b.signals → AllBelow b.nets (signal b n) → AllBelow b.nets (signal (with_signal k (zeros (signal b k)) b) n)
one_below k b n known h =
    subst (AllBelow b.nets) (sym (signal-with b k n (zeros (signal b k)) known)) (elim (eqb_tells n k) [ inl e ↦ rw e.0 (zeros_below b.nets (signal b k)) | inr e ↦ rw e.0 h ])

known_on : (ks : List ℕ) (a b : Building) → length b.signals ≡ length a.signals → AllKnown (length a.signals) ks → AllKnown (length b.signals) ks
known_on ks a b same h = subst (λ (n : ℕ). AllKnown n ks) (sym same) h

blank_below : (ks : List ℕ) (b : Building) → AllKnown (length b.signals) ks → ((n : ℕ) → AllBelow b.nets (signal b n)) → (n : ℕ) → AllBelow b.nets (signal (blank ks b) n)
blank_below [] b known h n = h n
blank_below (k ∷ ks) b known h n =
    let next : Building = with_signal k (zeros (signal b k)) b in
    blank_below ks next (known_on ks b next (blank_count (k ∷ []) b) known.1) (λ m. one_below k b m known.0 (h m)) n

blank_signal : (ks : List ℕ) (b : Building) (d : Option Decl) → AllKnown (length b.signals) ks → ((n : ℕ) → AllBelow b.nets (signal b n)) → IsSignal b d → IsSignal (blank ks b) d
blank_signal ks b (Some (Signal width low is_signed number)) known below h = (
  subst (λ (n : ℕ). number < n) (sym (blank_count ks b)) h.0,
  blank_wide ks b number known ∙ h.1,
  subst (λ (n : ℕ). AllBelow n (signal (blank ks b) number)) (sym (blank_nets ks b)) (blank_below ks b known below number),
)
blank_signal ks b (Some (Constant value low is_signed)) known below h = tt
blank_signal ks b None known below h = tt

pub blank_stands : (ks : List ℕ) (b : Building) (waiting : List (List Bit)) → AllKnown (length b.signals) ks → HasOwnNets b → HasPlaces b waiting → StandsBelow (work (blank ks b) waiting)
blank_stands ks b waiting known own places = record {
  seen = λ n. subst (λ (m : ℕ). AllBelow m (signal (blank ks b) n)) (sym (blank_nets ks b)) (blank_below ks b known (own_below b own) n);
  later = λ n. subst (λ (m : ℕ). AllBelow m ((work b waiting).pending n)) (sym (blank_nets ks b)) (places.below n);
}

pub ready_blank : (names : Names) (s : Stmt) (old begun : Building) (waiting : List (List Bit)) → Given true names s old waiting → begun ≡ blank (variables (steps_of s names)) old → IsReady names (steps_of s names) (work begun waiting)
ready_blank names s old begun waiting g is =
    let ks : List ℕ = variables (steps_of s names) in
    let known = known_variables names s old waiting g in
    let signals : HasSignals names (blank ks old) = λ name. blank_signal ks old (names name) known (own_below old g.own) (g.signals name) in
    subst (λ (b : Building). IsReady names (steps_of s names) (work b waiting)) (sym is) (ready names s (blank ks old) waiting g.accepted g.sized signals (blank_stands ks old waiting known g.own g.places))

pub blank_places : (ks : List ℕ) (old begun : Building) (waiting : List (List Bit)) → HasPlaces old waiting → begun ≡ blank ks old → length waiting ≡ length begun.signals
blank_places ks old begun waiting places is = places.count ∙ sym (ap (λ (b : Building). length b.signals) is ∙ blank_count ks old)

pub blank_cells : (ks : List ℕ) (old begun : Building) → begun ≡ blank ks old → length begun.cells ≡ length old.cells
blank_cells ks old begun is = ap (λ (b : Building). length b.cells) (is ∙ blank_is ks old)
