-- What building leaves as it is: earlier cells, the widths of all signals, and the bits of signals that are no targets.
use Rattle.proc_muxes.proofs.Common.{◌≡◌, ℕ, ◌<◌, ◌≤◌, Bool, true, false, ◌&&◌, ◌||◌, List, [], ◌∷◌, ◌++◌, length, Some, nat_eq, slice_get, refl, sym, ◌∙◌, ap, subst, inl, inr, append-nil}
use Rattle.proc_muxes.proofs.Common.{append_assoc, if◌then◌else◌, length-set, get_or-set_same, get_or-set_other, eqb_tells, Bit, Nets, bit_same, Target, or-left, or-right, and-left, and-right}
use Rattle.proc_muxes.proofs.Common.{Building, RunsIn, Grows, AllBelow, signal, with_signal, below_later, nets_le, added_append, earlier_cell, Work, held, with_held, stands, distinct_after, distinct}
use Rattle.proc_muxes.proofs.Common.{restored, Known, Adds, StandsBelow, Keeps, or_end, exact_unsigned_eq}
use Rattle.netlist_core.specs.declared.cell.Cell.{Cell}
use Rattle.net_builder.specs.declared.builder.Joint.{Joint}

-- Truth values.

pub bit_same-true : (a b : Bool) → bit_same a b ≡ true → a ≡ b
bit_same-true true true e = refl
bit_same-true true false e = cc
bit_same-true false true e = cc
bit_same-true false false e = refl

pub number-false : (a b : ℕ) → nat_eq a b ≡ false → nat_eq b a ≡ false
number-false a b e = elim (eqb_tells b a) [
  | inl h ↦ elim (eqb_tells a b) [ inl g ↦ let f = g.0 in cc | inr g ↦ absurd (g.1 (sym h.1)) ]
  | inr h ↦ h.0
]

-- Signals.

pub signal-with : (bld : Building) (k n : ℕ) (bits : List Bit) → k < length bld.signals → signal (with_signal k bits bld) n ≡ (if nat_eq n k then bits else signal bld n)
signal-with bld k n bits h = elim (eqb_tells n k) [
  | inl e ↦ rw (e.0, e.1) (get_or-set_same bld.signals k bits [] h)
  | inr e ↦ rw e.0 (get_or-set_other bld.signals k n bits [] e.1)
]

pub signals-grown : (a b : Building) → Grows a b → b.signals ≡ a.signals
signals-grown a b g = ap (λ (x : Building). x.signals) g.is

pub signal-grown : (a b : Building) → Grows a b → (n : ℕ) → signal b n ≡ signal a n
signal-grown a b g n = ap (λ (x : Building). signal x n) g.is

-- Cells that are added.

pub adds-same : (a : Building) → Adds a a
adds-same a = record { more = []; cells = sym (append-nil a.cells); joints = refl; registers = refl; starts = refl; declared = refl; count = refl; added = refl }

pub adds-grown : (a b : Building) → Grows a b → Adds a b
adds-grown a b g = record {
  more = g.more;
  cells = ap (λ (x : Building). x.cells) g.is;
  joints = ap (λ (x : Building). x.joints) g.is;
  registers = ap (λ (x : Building). x.registers) g.is;
  starts = ap (λ (x : Building). x.starts) g.is;
  declared = ap (λ (x : Building). x.declared) g.is;
  count = ap (λ (x : Building). length x.signals) g.is;
  added = g.added;
}

pub adds-again : (a b c : Building) → Adds a b → Adds b c → Adds a c
adds-again a b c g h = record {
  more = g.more ++ h.more;
  cells = h.cells ∙ ap (λ (cells : List Cell). cells ++ h.more) g.cells ∙ append_assoc a.cells g.more h.more;
  joints = h.joints ∙ g.joints;
  registers = h.registers ∙ g.registers;
  starts = h.starts ∙ g.starts;
  declared = h.declared ∙ g.declared;
  count = h.count ∙ g.count;
  added = added_append a.nets b.nets c.nets g.more h.more g.added h.added;
}

pub adds-set : (a : Building) (k : ℕ) (bits : List Bit) → Adds a (with_signal k bits a)
adds-set a k bits = record { more = []; cells = sym (append-nil a.cells); joints = refl; registers = refl; starts = refl; declared = refl; count = length-set a.signals k bits; added = refl }

pub nets-added : (a b : Building) → Adds a b → a.nets ≤ b.nets
nets-added a b g = nets_le a.nets b.nets g.more g.added

-- a run of what a builder grew to is one of what it was
pub runs-before : (old new : Building) (nets : Nets) → Adds old new → RunsIn new nets → RunsIn old nets
runs-before old new nets grows runs = record {
  computed = λ c cell at. runs.computed c cell (subst (λ (cells : List Cell). slice_get cells c ≡ Some cell) (sym grows.cells) (earlier_cell old.cells grows.more c cell at));
  joined = λ k joint at. runs.joined k joint (subst (λ (joints : List Joint). slice_get joints k ≡ Some joint) (sym grows.joints) at);
}

-- Targets.

pub known-append : (count : ℕ) (xs ys : List Target) → Known count xs → Known count ys → Known count (xs ++ ys)
known-append count [] ys k l = l
known-append count (x ∷ xs) ys k l = (k.0, known-append count xs ys k.1 l)

pub known-left : (count : ℕ) (xs ys : List Target) → Known count (xs ++ ys) → Known count xs
known-left count [] ys k = tt
known-left count (x ∷ xs) ys k = (k.0, known-left count xs ys k.1)

pub known-right : (count : ℕ) (xs ys : List Target) → Known count (xs ++ ys) → Known count ys
known-right count [] ys k = k
known-right count (x ∷ xs) ys k = known-right count xs ys k.1

known-skip : (count : ℕ) (b : Bool) (x : Target) (xs : List Target) (ys : List Target) → x.number < count → Known count xs → Known count ys → Known count (if b then xs else x ∷ ys)
known-skip count true x xs ys here k l = k
known-skip count false x xs ys here k l = (here, l)

pub known-distinct : (count : ℕ) (seen xs : List Target) → Known count xs → Known count (distinct_after seen xs)
known-distinct count seen [] k = tt
known-distinct count seen (x ∷ more) k = known-skip count (stands x.is_blocking seen x.number) x (distinct_after seen more) (distinct_after (x ∷ seen) more) k.0 (known-distinct count seen more k.1) (known-distinct count (x ∷ seen) more k.1)

pub stands-append : (kind : Bool) (xs ys : List Target) (n : ℕ) → stands kind (xs ++ ys) n ≡ (stands kind xs n || stands kind ys n)
stands-append kind [] ys n = refl
stands-append kind (x ∷ xs) ys n = or-step (nat_eq x.number n && bit_same kind x.is_blocking) (stands kind (xs ++ ys) n) (stands kind xs n) (stands kind ys n) (stands-append kind xs ys n) where
  or-step : (b p q r : Bool) → p ≡ (q || r) → (b || p) ≡ ((b || q) || r)
  or-step true p q r e = refl
  or-step false p q r e = e

or-turned : (p q : Bool) → (p || q) ≡ (q || p)
or-turned true true = refl
or-turned true false = refl
or-turned false true = refl
or-turned false false = refl

pub stands-turned : (kind : Bool) (xs ys : List Target) (n : ℕ) → stands kind (xs ++ ys) n ≡ stands kind (ys ++ xs) n
stands-turned kind xs ys n = stands-append kind xs ys n ∙ or-turned (stands kind xs n) (stands kind ys n) ∙ sym (stands-append kind ys xs n)

-- Leaving out repetitions changes no set.
abbrev is_this : Bool → Target → ℕ → Bool
is_this kind x n = nat_eq x.number n && bit_same kind x.is_blocking

when-seen : (h d m s : Bool) → (h ≡ true → s ≡ true) → (d || s) ≡ (m || s) → (d || s) ≡ ((h || m) || s)
when-seen false d m s k e = e
when-seen true true m s k e = refl
when-seen true false m s k e = k refl

when-new : (h d m s : Bool) → (d || (h || s)) ≡ (m || (h || s)) → ((h || d) || s) ≡ ((h || m) || s)
when-new true d m s e = refl
when-new false d m s e = e

this-stands : (kind : Bool) (seen : List Target) (x : Target) (n : ℕ) → is_this kind x n ≡ true → stands kind seen n ≡ stands x.is_blocking seen x.number
this-stands kind seen x n h =
    let same : x.number ≡ n = exact_unsigned_eq x.number n (and-left (nat_eq x.number n) (bit_same kind x.is_blocking) h) in
    let alike : kind ≡ x.is_blocking = bit_same-true kind x.is_blocking (and-right (nat_eq x.number n) (bit_same kind x.is_blocking) h) in
    rw (alike, ← same) refl

skipped : (kind : Bool) (seen : List Target) (x : Target) (more : List Target) (n : ℕ) →
    (stands kind (distinct_after seen more) n || stands kind seen n) ≡ (stands kind more n || stands kind seen n) →
    (stands kind (distinct_after (x ∷ seen) more) n || stands kind (x ∷ seen) n) ≡ (stands kind more n || stands kind (x ∷ seen) n) →
    (stands kind (distinct_after seen (x ∷ more)) n || stands kind seen n) ≡ (stands kind (x ∷ more) n || stands kind seen n)
skipped kind seen x more n dropped added = go (stands x.is_blocking seen x.number) refl where
  go : (b : Bool) → stands x.is_blocking seen x.number ≡ b → (stands kind (if b then distinct_after seen more else x ∷ distinct_after (x ∷ seen) more) n || stands kind seen n) ≡ (stands kind (x ∷ more) n || stands kind seen n)
  go true e = when-seen (is_this kind x n) (stands kind (distinct_after seen more) n) (stands kind more n) (stands kind seen n) (λ h. this-stands kind seen x n h ∙ e) dropped
  go false e = when-new (is_this kind x n) (stands kind (distinct_after (x ∷ seen) more) n) (stands kind more n) (stands kind seen n) added

distinct-same : (kind : Bool) (seen xs : List Target) (n : ℕ) → (stands kind (distinct_after seen xs) n || stands kind seen n) ≡ (stands kind xs n || stands kind seen n)
distinct-same kind seen [] n = refl
distinct-same kind seen (x ∷ more) n = skipped kind seen x more n (distinct-same kind seen more n) (distinct-same kind (x ∷ seen) more n)

pub stands-distinct : (kind : Bool) (xs : List Target) (n : ℕ) → stands kind (distinct xs) n ≡ stands kind xs n
stands-distinct kind xs n = sym (or_end (stands kind (distinct xs) n)) ∙ distinct-same kind [] xs n ∙ or_end (stands kind xs n)

-- What building keeps.

-- what stands below stands below later nets too
pub below-grown : (a b : Building) (pending : ℕ → List Bit) → a.nets ≤ b.nets → ((n : ℕ) → signal b n ≡ signal a n) → StandsBelow (record { building = a; pending = pending }) → StandsBelow (record { building = b; pending = pending })
below-grown a b pending le same h = record {
  seen = λ n. subst (AllBelow b.nets) (sym (same n)) (below_later a.nets b.nets (signal a n) le (h.seen n));
  later = λ n. below_later a.nets b.nets (pending n) le (h.later n);
}

pub keeps-same : (a : Work) → Keeps [] a a
keeps-same a = record { adds = adds-same a.building; seen_wide = λ n. refl; later_wide = λ n. refl; below = λ h. h; known = tt; seen_kept = λ n e. refl; later_kept = λ n e. refl }

pub keeps-grown : (a : Work) (mid : Building) → Grows a.building mid → Keeps [] a (record a { building = mid })
keeps-grown a mid g = record {
  adds = adds-grown a.building mid g;
  seen_wide = λ n. ap (λ (xs : List Bit). length xs) (signal-grown a.building mid g n);
  later_wide = λ n. refl;
  below = below-grown a.building mid a.pending (nets-added a.building mid (adds-grown a.building mid g)) (signal-grown a.building mid g);
  known = tt;
  seen_kept = λ n e. signal-grown a.building mid g n;
  later_kept = λ n e. refl;
}

pub keeps-again : (ts us : List Target) (a b c : Work) → Keeps ts a b → Keeps us b c → Keeps (ts ++ us) a c
keeps-again ts us a b c k l = record {
  adds = adds-again a.building b.building c.building k.adds l.adds;
  seen_wide = λ n. l.seen_wide n ∙ k.seen_wide n;
  later_wide = λ n. l.later_wide n ∙ k.later_wide n;
  below = λ h. l.below (k.below h);
  known = known-append (length a.building.signals) ts us k.known (rw k.adds.count at l.known);
  seen_kept = λ n e.
      let both : (stands true ts n || stands true us n) ≡ false = sym (stands-append true ts us n) ∙ e in
      l.seen_kept n (or-right (stands true ts n) (stands true us n) both) ∙ k.seen_kept n (or-left (stands true ts n) (stands true us n) both);
  later_kept = λ n e.
      let both : (stands false ts n || stands false us n) ≡ false = sym (stands-append false ts us n) ∙ e in
      l.later_kept n (or-right (stands false ts n) (stands false us n) both) ∙ k.later_kept n (or-left (stands false ts n) (stands false us n) both);
}

-- the order of the targets plays no part
pub keeps-turned : (ts us : List Target) (a b : Work) → Keeps (ts ++ us) a b → Keeps (us ++ ts) a b
keeps-turned ts us a b k = record {
  adds = k.adds;
  seen_wide = k.seen_wide;
  later_wide = k.later_wide;
  below = k.below;
  known = known-append (length a.building.signals) us ts (known-right (length a.building.signals) ts us k.known) (known-left (length a.building.signals) ts us k.known);
  seen_kept = λ n e. k.seen_kept n (stands-turned true ts us n ∙ e);
  later_kept = λ n e. k.later_kept n (stands-turned false ts us n ∙ e);
}

-- what the second has, with the bits of the first
pub keeps-restored : (ts : List Target) (a b : Work) → Keeps ts a b → Keeps [] a (restored a b)
keeps-restored ts a b k = record {
  adds = record { more = k.adds.more; cells = k.adds.cells; joints = k.adds.joints; registers = k.adds.registers; starts = k.adds.starts; declared = k.adds.declared; count = refl; added = k.adds.added };
  seen_wide = λ n. refl;
  later_wide = λ n. refl;
  below = λ h. record {
    seen = λ n. below_later a.building.nets b.building.nets (signal a.building n) (nets-added a.building b.building k.adds) (h.seen n);
    later = λ n. below_later a.building.nets b.building.nets (a.pending n) (nets-added a.building b.building k.adds) (h.later n);
  };
  known = tt;
  seen_kept = λ n e. refl;
  later_kept = λ n e. refl;
}

-- One target gets other bits.

choice-held : (n k : ℕ) (g : ℕ → List Bit) (bits : List Bit) → length bits ≡ length (g k) → length (if nat_eq n k then bits else g n) ≡ length (g n)
choice-held n k g bits long = elim (eqb_tells n k) [
  | inl e ↦ rw (e.0, e.1) long
  | inr e ↦ rw e.0 refl
]

below-choice : (m : ℕ) (b : Bool) (xs ys : List Bit) → AllBelow m xs → AllBelow m ys → AllBelow m (if b then xs else ys)
below-choice m true xs ys h k = h
below-choice m false xs ys h k = k

seen-wide : (kind : Bool) (k : ℕ) (bits : List Bit) (a : Work) → k < length a.building.signals → length bits ≡ length (held a kind k) → (n : ℕ) → length (signal (with_held kind k bits a).building n) ≡ length (signal a.building n)
seen-wide true k bits a known long n = ap (λ (xs : List Bit). length xs) (signal-with a.building k n bits known) ∙ choice-held n k (signal a.building) bits long
seen-wide false k bits a known long n = refl

later-wide : (kind : Bool) (k : ℕ) (bits : List Bit) (a : Work) → length bits ≡ length (held a kind k) → (n : ℕ) → length ((with_held kind k bits a).pending n) ≡ length (a.pending n)
later-wide true k bits a long n = refl
later-wide false k bits a long n = choice-held n k a.pending bits long

below-held : (kind : Bool) (k : ℕ) (bits : List Bit) (a : Work) → k < length a.building.signals → (StandsBelow a → AllBelow a.building.nets bits) → StandsBelow a → StandsBelow (with_held kind k bits a)
below-held true k bits a known stood h = record {
  seen = λ n. subst (AllBelow a.building.nets) (sym (signal-with a.building k n bits known)) (below-choice a.building.nets (nat_eq n k) bits (signal a.building n) (stood h) (h.seen n));
  later = h.later;
}
below-held false k bits a known stood h = record {
  seen = h.seen;
  later = λ n. below-choice a.building.nets (nat_eq n k) bits (a.pending n) (stood h) (h.later n);
}

and-true : (b : Bool) → (b && true || false) ≡ false → b ≡ false
and-true true e = e
and-true false e = refl

seen-held : (kind : Bool) (k : ℕ) (bits : List Bit) (a : Work) → k < length a.building.signals → (n : ℕ) → (nat_eq k n && kind || false) ≡ false → signal (with_held kind k bits a).building n ≡ signal a.building n
seen-held true k bits a known n e = signal-with a.building k n bits known ∙ rw (number-false k n (and-true (nat_eq k n) e)) refl
seen-held false k bits a known n e = refl

later-held : (kind : Bool) (k : ℕ) (bits : List Bit) (a : Work) → (n : ℕ) → (nat_eq k n && bit_same false kind || false) ≡ false → (with_held kind k bits a).pending n ≡ a.pending n
later-held true k bits a n e = refl
later-held false k bits a n e = rw (number-false k n (and-true (nat_eq k n) e)) refl

adds-held : (kind : Bool) (k : ℕ) (bits : List Bit) (a : Work) → Adds a.building (with_held kind k bits a).building
adds-held true k bits a = adds-set a.building k bits
adds-held false k bits a = adds-same a.building

pub keeps-held : (x : Target) (bits : List Bit) (a : Work) → x.number < length a.building.signals → length bits ≡ length (held a x.is_blocking x.number) → (StandsBelow a → AllBelow a.building.nets bits) → Keeps (x ∷ []) a (with_held x.is_blocking x.number bits a)
keeps-held x bits a known long stood = record {
  adds = adds-held x.is_blocking x.number bits a;
  seen_wide = seen-wide x.is_blocking x.number bits a known long;
  later_wide = later-wide x.is_blocking x.number bits a long;
  below = below-held x.is_blocking x.number bits a known stood;
  known = (known, tt);
  seen_kept = seen-held x.is_blocking x.number bits a known;
  later_kept = later-held x.is_blocking x.number bits a;
}

-- what is held where cells were added
pub held-grown : (a : Work) (mid : Building) (kind : Bool) (n : ℕ) → Grows a.building mid → held (record a { building = mid }) kind n ≡ held a kind n
held-grown a mid true n g = signal-grown a.building mid g n
held-grown a mid false n g = refl

pub stands-held : (a : Work) (kind : Bool) (n : ℕ) → StandsBelow a → AllBelow a.building.nets (held a kind n)
stands-held a true n h = h.seen n
stands-held a false n h = h.later n

-- both have the same widths
pub keeps-widths : (ts : List Target) (a b : Work) → Keeps ts a b → (kind : Bool) (n : ℕ) → length (held b kind n) ≡ length (held a kind n)
keeps-widths ts a b k true n = k.seen_wide n
keeps-widths ts a b k false n = k.later_wide n

pub runs-held : (kind : Bool) (k : ℕ) (bits : List Bit) (a : Work) (nets : Nets) → RunsIn (with_held kind k bits a).building nets → RunsIn a.building nets
runs-held kind k bits a nets r = runs-before a.building (with_held kind k bits a).building nets (adds-held kind k bits a) r
