-- How what holds of propagation begins, and is kept where a clause is taken in.
use Rattle.sat_solver.proofs.Common.{◌≡◌, ℕ, zero, suc, ◌+◌, ◌*◌, ◌^◌, ◌<◌, ◌≤◌, Bool, true, false, List, [], ◌∷◌, ◌++◌, length, take, get_or, replicate, ℤ, Option, Some, None, refl, ap, sym, ◌∙◌}
use Rattle.sat_solver.proofs.Common.{subst, arith, All, Contains, count_by, take_more, length-take-le, variable, Known, IsQuiet, known_of, Propagator, Pair, Watches, assigned, IsOpened, times}
use Rattle.sat_solver.proofs.Common.{numbered, list_of, IsAdded, valued, IsSettled, pair_of, IsPair, AreGuarded, AreGuards, AreWatched, IsSafe, IsIndexed, IsKept}
use Rattle.sat_solver.proofs.Pushes.{take-all}
use Rattle.sat_solver.proofs.Settled.{IsBelow, below-take, settled-quiet}
use Rattle.sat_solver.proofs.Indexed.{indexed-added}
use Rattle.sat_solver.proofs.Watched.{HaveMore, IsTaken, added-in, some-same, watched-pushed, watched-more}
use Rattle.sat_solver.proofs.Guarded.{guarded-same, guarded-pushed}
use Rattle.sat_solver.proofs.Hunts.{ready-opened}

-- One more clause is taken in.

pub kept-taken : (clauses : List (List ℤ)) (old new : Propagator) (clause c : List ℤ) (pair : Option Pair) → IsKept clauses old → new.trail ≡ old.trail → new.head ≡ old.head → new.taken ≡ old.taken + 1 → new.taken ≤ length clauses → get_or clauses old.taken [] ≡ clause → All (λ l. 0 < variable l) c → length c < 2 ^ 32 → IsQuiet (known_of old.trail.values.items) clause → IsAdded (old.taken + 1) c old.occurrences new.occurrences → new.counts.falses.items ≡ old.counts.falses.items ++ valued (known_of old.trail.values.items) false c ∷ [] → new.counts.trues.items ≡ old.counts.trues.items ++ valued (known_of old.trail.values.items) true c ∷ [] → new.watches.pairs.items ≡ old.watches.pairs.items ++ pair ∷ [] → length new.watches.lists ≡ length old.watches.lists → HaveMore old.watches.lists new.watches.lists → IsTaken clause c (old.taken + 1) new.watches.lists pair → ((p : Pair) → pair ≡ Some p → IsSafe old.trail.literals.items old.trail.starts.items p) → IsKept clauses new
kept-taken clauses old new clause c pair kept trail head taken few at positive short quiet added falses trues pushed lists_len have is_taken safe =
    let more : take new.taken clauses ≡ take old.taken clauses ++ clause ∷ [] = ap (λ (n : ℕ). take n clauses) taken ∙ take_more clauses old.taken [] (omega (arith, few, taken)) ∙ ap (λ (c' : List ℤ). take old.taken clauses ++ c' ∷ []) at in
    let number : length (take old.taken clauses) ≡ old.taken = length-take-le old.taken clauses kept.few in
    let count : length kept.counted + 1 ≡ old.taken + 1 = ap (λ (n : ℕ). n + 1) (kept.watched.len ∙ number) in
    let A : ℕ → Type 0 = λ n. IsAdded n c old.occurrences new.occurrences in
    let T : ℕ → Type 0 = λ n. IsTaken clause c n new.watches.lists pair in
    let below : IsBelow (assigned (take old.head old.trail.literals.items)) (known_of old.trail.values.items) = (let Q : Known → Type 0 = λ k. IsBelow (assigned (take old.head old.trail.literals.items)) k in subst Q (sym kept.unwound.known) (below-take (length old.trail.values.items) old.trail.literals.items old.head kept.unwound.apart kept.within)) in
    let long : length new.occurrences ≡ length old.occurrences = added.len in
    record {
      few = few;
      counted = kept.counted ++ c ∷ [];
      watched = rw more (watched-pushed (take old.taken clauses) kept.counted old.watches new.watches clause c pair kept.watched pushed have (subst T (ap (λ (n : ℕ). n + 1) (sym number)) is_taken));
      indexed = rw (trail, falses, trues) (indexed-added kept.counted c (known_of old.trail.values.items) old.occurrences new.occurrences old.counts.falses.items old.counts.trues.items kept.indexed positive short (subst A (sym count) added));
      guarded = rw (trail, head) (guarded-pushed (length old.trail.values.items) old.watches new.watches old.trail.literals.items old.trail.starts.items old.head pair kept.unwound.apart kept.within pushed safe kept.guarded);
      wide = rw (long, trail) kept.wide;
      lists_wide = rw (lists_len, trail) kept.lists_wide;
      begun = rw trail kept.begun;
      unwound = rw trail kept.unwound;
      within = rw (head, trail) kept.within;
      settled = rw (more, head, trail) (Rattle.std.proofs.lemmas.List.Elements.All-push (IsSettled (assigned (take old.head old.trail.literals.items)) (known_of old.trail.values.items)) (take old.taken clauses) clause kept.settled (settled-quiet (assigned (take old.head old.trail.literals.items)) (known_of old.trail.values.items) clause below quiet));
    }

-- nothing but the room of some tables has changed, and numbers were added to the lists of watched clauses
pub kept-roomy : (clauses : List (List ℤ)) (old new : Propagator) → IsKept clauses old → new.trail ≡ old.trail → new.occurrences ≡ old.occurrences → new.taken ≡ old.taken → new.head ≡ old.head → new.counts.falses.items ≡ old.counts.falses.items → new.counts.trues.items ≡ old.counts.trues.items → new.watches.pairs.items ≡ old.watches.pairs.items → length new.watches.lists ≡ length old.watches.lists → HaveMore old.watches.lists new.watches.lists → IsKept clauses new
kept-roomy clauses old new kept trail occurrences taken head falses trues pairs lists more = record {
  few = rw taken kept.few;
  counted = kept.counted;
  watched = rw taken (watched-more (take old.taken clauses) kept.counted old.watches new.watches kept.watched pairs more);
  indexed = rw (occurrences, trail, falses, trues) kept.indexed;
  guarded = rw (trail, head) (guarded-same old.watches new.watches old.trail.literals.items old.trail.starts.items old.head pairs kept.guarded);
  wide = rw (occurrences, trail) kept.wide;
  lists_wide = rw (lists, trail) kept.lists_wide;
  begun = rw trail kept.begun;
  unwound = rw trail kept.unwound;
  within = rw (head, trail) kept.within;
  settled = rw (taken, head, trail) kept.settled;
}

no-pair : {P : Type 0} (p : Pair) → None ≡ Some p → P
no-pair p e = absurd (let wrong : None ≡ Some p = e in cc)

-- a clause is counted
pub taken-counted : (clause : List ℤ) (number : ℕ) (lists : List (List ℕ)) → IsTaken clause clause number lists None
taken-counted clause number lists = record {
  alone = λ e. refl;
  empty = λ p e. no-pair p e;
  of_clause = λ p e. no-pair p e;
  first_listed = λ p e. no-pair p e;
  second_listed = λ p e. no-pair p e;
}

pub safe-none : (literals : List ℤ) (starts : List ℕ) (p : Pair) → None ≡ Some p → IsSafe literals starts p
safe-none literals starts p e = no-pair p e

-- a clause is watched at a pair
pub taken-watched : (clause : List ℤ) (number : ℕ) (old new : List (List ℕ)) (pair : Pair) → IsPair clause pair → IsAdded number (pair.first ∷ pair.second ∷ []) old new → IsTaken clause [] number new (Some pair)
taken-watched clause number old new pair is added = record {
  alone = λ e. absurd (let wrong : Some pair ≡ None = e in cc);
  empty = λ p e. refl;
  of_clause = λ p e. (let P : Pair → Type 0 = IsPair clause in subst P (some-same (Some pair) pair p refl e) is);
  first_listed = λ p e. (let P : Pair → Type 0 = λ q. Contains (list_of new q.first) number in subst P (some-same (Some pair) pair p refl e) (added-in number (pair.first ∷ pair.second ∷ []) old new pair.first added (0, omega arith, refl)));
  second_listed = λ p e. (let P : Pair → Type 0 = λ q. Contains (list_of new q.second) number in subst P (some-same (Some pair) pair p refl e) (added-in number (pair.first ∷ pair.second ∷ []) old new pair.second added (1, omega arith, refl)));
}

pub safe-some : (literals : List ℤ) (starts : List ℕ) (pair p : Pair) → IsSafe literals starts pair → Some pair ≡ Some p → IsSafe literals starts p
safe-some literals starts pair p safe e = let P : Pair → Type 0 = IsSafe literals starts in subst P (some-same (Some pair) pair p refl e) safe

-- the pairs and their lists have changed
pub kept-watches : (clauses : List (List ℤ)) (old : Propagator) (w : Watches) (kept : IsKept clauses old) → AreWatched (take old.taken clauses) kept.counted w → AreGuarded w old.trail.literals.items old.trail.starts.items old.head → length w.lists ≡ length old.watches.lists → IsKept clauses (record old { watches = w })
kept-watches clauses old w kept watched guarded len = record {
  few = kept.few;
  counted = kept.counted;
  watched = watched;
  indexed = kept.indexed;
  guarded = guarded;
  wide = kept.wide;
  lists_wide = rw len kept.lists_wide;
  begun = kept.begun;
  unwound = kept.unwound;
  within = kept.within;
  settled = kept.settled;
}

-- Nothing is taken in yet.

numbered-none : (n : ℕ) → numbered [] n ≡ []
numbered-none zero = refl
numbered-none (suc k) = refl

empty-lists : (count k : ℕ) → (let none_ : List ℕ = [] in get_or (replicate count none_) k []) ≡ []
empty-lists zero k = refl
empty-lists (suc n) zero = refl
empty-lists (suc n) (suc k) = empty-lists n k

indexed-none : (known : Known) (count : ℕ) → IsIndexed [] known (replicate count []) (0 ∷ []) (0 ∷ [])
indexed-none known count = record {
  holders = λ l n. ap (count_by (Rattle.std.proofs.Common.nat_eq n)) (empty-lists count (Rattle.sat_solver.specs.Occurrences.place_of l)) ∙ ap (times l) (sym (numbered-none n));
  false_counts = record { len = refl; each = none-counted false };
  true_counts = record { len = refl; each = none-counted true };
  positive = λ k d h. absurd (omega (arith, h));
  short = λ k d h. absurd (omega (arith, h));
} where
  none-counted : (b : Bool) (n : ℕ) → get_or (0 ∷ []) n 0 ≡ valued known b (numbered [] n)
  none-counted b zero = refl
  none-counted b (suc k) = refl

watched-none : (w : Watches) → w.pairs.items ≡ None ∷ [] → AreWatched [] [] w
watched-none w pairs =
    let alone : (n : ℕ) → pair_of w n ≡ None = λ n. ap (λ (xs : List (Option Pair)). get_or xs n None) pairs ∙ no-pair n in
    record {
      len = refl;
      pairs = ap (length {A = Option Pair}) pairs;
      others = λ n e. refl;
      watched = λ n pair e. absurd (let wrong : None ≡ Some pair = sym (alone n) ∙ e in cc);
    } where
      no-pair : (n : ℕ) → (let none_ : Option Pair = None in get_or (none_ ∷ []) n None) ≡ None
      no-pair zero = refl
      no-pair (suc n) = refl

guards-none : (before now : Known) (w : Watches) → AreWatched [] [] w → AreGuards before now w
guards-none before now w are n pair e = let is = are.watched n pair e in absurd (omega (arith, is.low, is.high))

pub kept-new : (clauses : List (List ℤ)) (p : Propagator) (greatest : ℕ) → IsOpened (greatest + 1) p.trail → p.occurrences ≡ replicate (2 * greatest + 1) [] → p.counts.falses.items ≡ 0 ∷ [] → p.counts.trues.items ≡ 0 ∷ [] → p.watches.pairs.items ≡ None ∷ [] → p.watches.lists ≡ replicate (2 * greatest + 1) [] → p.taken ≡ 0 → p.head ≡ 0 → IsKept clauses p
kept-new clauses p greatest opened lists falses trues pairs watch_lists taken head =
    let ready = ready-opened [] 0 (greatest + 1) p.trail opened in
    let none_ : take p.taken clauses ≡ [] = ap (λ (n : ℕ). take n clauses) taken in
    let wide : length p.occurrences ≡ 2 * greatest + 1 = ap (length {A = List ℕ}) lists ∙ Rattle.std.proofs.lemmas.List.length-replicate (2 * greatest + 1) [] in
    let lists_wide : length p.watches.lists ≡ 2 * greatest + 1 = ap (length {A = List ℕ}) watch_lists ∙ Rattle.std.proofs.lemmas.List.length-replicate (2 * greatest + 1) [] in
    let open_value : Option Bool = None in
    let len : length p.trail.values.items ≡ greatest + 1 = ap (length {A = Option Bool}) opened.values ∙ Rattle.std.proofs.lemmas.List.length-replicate (greatest + 1) open_value in
    let watched : AreWatched [] [] p.watches = watched-none p.watches pairs in
    record {
      few = omega (arith, taken);
      counted = [];
      watched = rw none_ watched;
      indexed = rw (lists, falses, trues) (indexed-none (known_of p.trail.values.items) (2 * greatest + 1));
      guarded = record {
        now = guards-none (assigned (take p.head p.trail.literals.items)) (assigned p.trail.literals.items) p.watches watched;
        levels = λ s has. guards-none (assigned (take s p.trail.literals.items)) (assigned (take s p.trail.literals.items)) p.watches watched;
      };
      wide = omega (arith, wide, len);
      lists_wide = omega (arith, lists_wide, len);
      begun = ready.trail.starts_;
      unwound = record { known = ready.trail.known; apart = ready.trail.apart; counted = ready.trail.counted; first = sym (take-all p.trail.literals.items) };
      within = omega (arith, head);
      settled = rw none_ (λ k d h. absurd (omega (arith, h)));
    }
