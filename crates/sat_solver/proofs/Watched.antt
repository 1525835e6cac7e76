-- Which clauses are watched, as pairs and lists change.
use Rattle.sat_solver.proofs.Common.{◌≡◌, ◌≢◌, ℕ, zero, suc, ◌+◌, ◌-◌, ◌<◌, ◌≤◌, cond, List, [], ◌∷◌, ◌++◌, length, get_or, set, replicate, ℤ, Option, Some, None, refl, ap, sym, ◌∙◌, inl, inr, subst}
use Rattle.sat_solver.proofs.Common.{arith, All, Contains, swap_remove, eqb_tells, leb_tells, length_push, length-set, length-take-le, get_or-take, get_or_append_left, get_or_push, get_or-set_same}
use Rattle.sat_solver.proofs.Common.{get_or-set_other, get_or_default, get_or-replicate, length-replicate, Contains-append_left, Contains-append_right, get_or-le-sum_by, Pair, Watches, place_of}
use Rattle.sat_solver.proofs.Common.{is_literal, times, numbered, list_of, IsAdded, pair_of, IsPair, IsOther, IsWatched, AreWatched, StandsFrom}
use Rattle.std.proofs.Math.ListN.{get_or-eq_default}
use Rattle.sat_solver.proofs.Listed.{self-count}
use Rattle.sat_solver.proofs.Indexed.{numbered-same, numbered-other}
use Rattle.sat_solver.proofs.Guards.{place-tells, option-or}

-- Numbers in lists.

-- what a list has it keeps
abbrev pub HaveMore : List (List ℕ) → List (List ℕ) → Type 0
HaveMore old new = (l : ℤ) (n : ℕ) → Contains (list_of old l) n → Contains (list_of new l) n

pub more-added : (number : ℕ) (clause : List ℤ) (old new : List (List ℕ)) → IsAdded number clause old new → HaveMore old new
more-added number clause old new added l n has = let P : List ℕ → Type 0 = λ xs. Contains xs n in subst P (sym (added.lists l)) (Contains-append_left (list_of old l) (replicate (times l clause) number) n has)

times-in : (l : ℤ) (clause : List ℤ) → Contains clause l → 1 ≤ times l clause
times-in l clause (k, h, e) =
    let f : ℤ → ℕ = λ m. cond (is_literal l m) 1 0 in
    let one : f (get_or clause k l) ≡ 1 = ap f e ∙ self-count (place_of l) in
    let least : f (get_or clause k l) ≤ times l clause = get_or-le-sum_by f clause k l h in
    omega (arith, one, least)

-- the list of a clause's literal has the clause's number
pub added-in : (number : ℕ) (clause : List ℤ) (old new : List (List ℕ)) (l : ℤ) → IsAdded number clause old new → Contains clause l → Contains (list_of new l) number
added-in number clause old new l added has =
    let some : 1 ≤ times l clause = times-in l clause has in
    let there : Contains (replicate (times l clause) number) number = (0, (let e : length (replicate (times l clause) number) ≡ times l clause = length-replicate (times l clause) number in omega (arith, e, some)), get_or-replicate (times l clause) 0 number number (omega (arith, some))) in
    let P : List ℕ → Type 0 = λ xs. Contains xs number in
    subst P (sym (added.lists l)) (Contains-append_right (list_of old l) (replicate (times l clause) number) number there)

pub two-places : (a b : ℤ) (count : ℕ) → place_of a < count → place_of b < count → All (λ l. place_of l < count) (a ∷ b ∷ [])
two-places a b count first second zero d h = first
two-places a b count first second (suc zero) d h = second
two-places a b count first second (suc (suc k)) d h = absurd (omega (arith, h))

-- a number that stands elsewhere in a list stands there after one was taken out
pub stands-removed : (xs : List ℕ) (place from n : ℕ) → place < length xs → from ≤ place → n ≢ get_or xs place 0 → StandsFrom from xs n → StandsFrom from (swap_remove xs place 0) n
stands-removed xs place from n inside low apart (k, least, within, e) =
    let last : ℕ = get_or xs (length xs - 1) 0 in
    let len : length (set xs place (get_or xs (length xs - 1) 0)) ≡ length xs = length-set xs place (get_or xs (length xs - 1) 0) in
    let count : length (swap_remove xs place 0) ≡ length xs - 1 = length-take-le (length xs - 1) (set xs place (get_or xs (length xs - 1) 0)) (omega (arith, len)) in
    let elsewhere : k ≢ place = λ same. apart (sym e ∙ ap (λ (i : ℕ). get_or xs i 0) same) in
    elim (eqb_tells k (length xs - 1)) [
      | inl is ↦ (
        place,
        low,
        omega (arith, count, elsewhere, is.1, inside, within),
        get_or-take (length xs - 1) (set xs place (get_or xs (length xs - 1) 0)) place 0 (omega (arith, elsewhere, is.1, inside, within)) ∙ get_or-set_same xs place (get_or xs (length xs - 1) 0) 0 inside ∙ ap (λ (i : ℕ). get_or xs i 0) (sym is.1) ∙ e,
      )
      | inr other ↦ (
        k,
        least,
        omega (arith, count, other.1, within),
        get_or-take (length xs - 1) (set xs place (get_or xs (length xs - 1) 0)) k 0 (omega (arith, other.1, within)) ∙ get_or-set_other xs place k (get_or xs (length xs - 1) 0) 0 elsewhere ∙ e,
      )
    ]

pub stands-in : (xs : List ℕ) (n : ℕ) → Contains xs n → StandsFrom 0 xs n
stands-in xs n (k, h, e) = (k, omega arith, h, get_or_default xs k 0 n h ∙ e)

in-stands : (xs : List ℕ) (n : ℕ) → StandsFrom 0 xs n → Contains xs n
in-stands xs n (k, low, h, e) = (k, h, get_or_default xs k n 0 h ∙ e)

-- Pairs by number.

pairs-same : (old new : Watches) → new.pairs.items ≡ old.pairs.items → (n : ℕ) → pair_of new n ≡ pair_of old n
pairs-same old new same n = ap (λ (xs : List (Option Pair)). get_or xs n None) same

pub pairs-pushed : (old new : Watches) (pair : Option Pair) → new.pairs.items ≡ old.pairs.items ++ pair ∷ [] → pair_of new (length old.pairs.items) ≡ pair
pairs-pushed old new pair same = ap (λ (xs : List (Option Pair)). get_or xs (length old.pairs.items) None) same ∙ get_or_push old.pairs.items pair None (length old.pairs.items) refl

pub pairs-before : (old new : Watches) (pair : Option Pair) (n : ℕ) → new.pairs.items ≡ old.pairs.items ++ pair ∷ [] → n ≢ length old.pairs.items → pair_of new n ≡ pair_of old n
pairs-before old new pair n same other = ap (λ (xs : List (Option Pair)). get_or xs n None) same ∙ elim (leb_tells (length old.pairs.items) n) [
  | inl past ↦
      let long : length (old.pairs.items ++ pair ∷ []) ≤ n = (let e : length (old.pairs.items ++ pair ∷ []) ≡ length old.pairs.items + 1 = length_push old.pairs.items pair in omega (arith, e, other, past.1)) in
      get_or-eq_default (old.pairs.items ++ pair ∷ []) None long ∙ sym (get_or-eq_default old.pairs.items None past.1)
  | inr within ↦ get_or_append_left old.pairs.items (pair ∷ []) None n within.1
]

pub pairs-changed : (old new : Watches) (number : ℕ) (pair : Pair) → new.pairs.items ≡ set old.pairs.items number (Some pair) → number < length old.pairs.items → pair_of new number ≡ Some pair
pairs-changed old new number pair same within = ap (λ (xs : List (Option Pair)). get_or xs number None) same ∙ get_or-set_same old.pairs.items number (Some pair) None within

pub pairs-others : (old new : Watches) (number n : ℕ) (pair : Pair) → new.pairs.items ≡ set old.pairs.items number (Some pair) → n ≢ number → pair_of new n ≡ pair_of old n
pairs-others old new number n pair same other = ap (λ (xs : List (Option Pair)). get_or xs n None) same ∙ get_or-set_other old.pairs.items number n (Some pair) None other

pub some-same : {X : Type 0} (o : Option X) (x y : X) → o ≡ Some x → o ≡ Some y → x ≡ y
some-same o x y a b = let e : Some x ≡ Some y = sym a ∙ b in cc

-- Which clauses are watched.

watched-lists : (clauses counted : List (List ℤ)) (n : ℕ) (old new : List (List ℕ)) (pair : Pair) → HaveMore old new → IsWatched clauses counted n old pair → IsWatched clauses counted n new pair
watched-lists clauses counted n old new pair more is = record {
  low = is.low;
  high = is.high;
  empty = is.empty;
  of_clause = is.of_clause;
  first_listed = more pair.first n is.first_listed;
  second_listed = more pair.second n is.second_listed;
}

-- numbers were added to lists
pub watched-more : (clauses counted : List (List ℤ)) (old new : Watches) → AreWatched clauses counted old → new.pairs.items ≡ old.pairs.items → HaveMore old.lists new.lists → AreWatched clauses counted new
watched-more clauses counted old new are same more = record {
  len = are.len;
  pairs = ap (length {A = Option Pair}) same ∙ are.pairs;
  others = λ n e. are.others n (sym (pairs-same old new same n) ∙ e);
  watched = λ n pair e. watched-lists clauses counted n old.lists new.lists pair more (are.watched n pair (sym (pairs-same old new same n) ∙ e));
}

-- a clause is watched at another literal in place of one
pub watched-changed : (clauses counted : List (List ℤ)) (old new : Watches) (number : ℕ) (l other next : ℤ) (pair : Pair) → AreWatched clauses counted old → pair_of old number ≡ Some pair → IsOther pair l other → Contains (numbered clauses number) next → next ≢ other → new.pairs.items ≡ set old.pairs.items number (Some (record { first = other; second = next })) → IsAdded number (next ∷ []) old.lists new.lists → AreWatched clauses counted new
watched-changed clauses counted old new number l other next pair are at is has apart changed added =
    let was : IsWatched clauses counted number old.lists pair = are.watched number pair at in
    let moved : Pair = record { first = other; second = next } in
    let within : number < length old.pairs.items = omega (arith, was.high, are.pairs) in
    let here : pair_of new number ≡ Some (record { first = other; second = next }) = pairs-changed old new number (record { first = other; second = next }) changed within in
    let more : HaveMore old.lists new.lists = more-added number (next ∷ []) old.lists new.lists added in
    let now : IsWatched clauses counted number new.lists (record { first = other; second = next }) = record {
      low = was.low;
      high = was.high;
      empty = was.empty;
      of_clause = record { different = was.of_clause.different; apart = λ e. apart (sym e); first_in = other-in is was.of_clause; second_in = has };
      first_listed = more other number (other-listed is was);
      second_listed = added-in number (next ∷ []) old.lists new.lists next added (0, omega arith, refl);
    } in
    record {
      len = are.len;
      pairs = ap (length {A = Option Pair}) changed ∙ length-set old.pairs.items number (Some (record { first = other; second = next })) ∙ are.pairs;
      others = λ n e. elim (eqb_tells n number) [
        | inl same ↦ absurd (let wrong : None ≡ Some (record { first = other; second = next }) = sym e ∙ ap (pair_of new) same.1 ∙ here in cc)
        | inr apart_ ↦ are.others n (sym (pairs-others old new number n (record { first = other; second = next }) changed apart_.1) ∙ e)
      ];
      watched = λ n p e. elim (eqb_tells n number) [
        | inl same ↦
            let it : record { first = other; second = next } ≡ p = some-same (pair_of new number) (record { first = other; second = next }) p here (ap (pair_of new) (sym same.1) ∙ e) in
            let P : Pair → Type 0 = λ q. IsWatched clauses counted n new.lists q in
            let Q : ℕ → Type 0 = λ i. IsWatched clauses counted i new.lists (record { first = other; second = next }) in
            subst P it (subst Q (sym same.1) now)
        | inr apart_ ↦ watched-lists clauses counted n old.lists new.lists p more (are.watched n p (sym (pairs-others old new number n (record { first = other; second = next }) changed apart_.1) ∙ e))
      ];
    } where
      other-in : IsOther pair l other → IsPair (numbered clauses number) pair → Contains (numbered clauses number) other
      other-in (inl w) of_ = let P : ℤ → Type 0 = Contains (numbered clauses number) in subst P w.1 of_.second_in
      other-in (inr w) of_ = let P : ℤ → Type 0 = Contains (numbered clauses number) in subst P w.1 of_.first_in

      other-listed : IsOther pair l other → IsWatched clauses counted number old.lists pair → Contains (list_of old.lists other) number
      other-listed (inl w) was = let P : ℤ → Type 0 = λ m. Contains (list_of old.lists m) number in subst P w.1 was.second_listed
      other-listed (inr w) was = let P : ℤ → Type 0 = λ m. Contains (list_of old.lists m) number in subst P w.1 was.first_listed

-- a number was taken out of the list of a literal at which the clause isn't watched
pub watched-removed : (clauses counted : List (List ℤ)) (old new : Watches) (l : ℤ) (place : ℕ) → AreWatched clauses counted old → new.pairs.items ≡ old.pairs.items → place < length (list_of old.lists l) → list_of new.lists l ≡ swap_remove (list_of old.lists l) place 0 → ((m : ℤ) → place_of m ≢ place_of l → list_of new.lists m ≡ list_of old.lists m) → ((pair : Pair) → pair_of old (get_or (list_of old.lists l) place 0) ≡ Some pair → (pair.first ≢ l) × (pair.second ≢ l)) → AreWatched clauses counted new
watched-removed clauses counted old new l place are same inside list others apart =
    record {
      len = are.len;
      pairs = ap (length {A = Option Pair}) same ∙ are.pairs;
      others = λ n e. are.others n (sym (pairs-same old new same n) ∙ e);
      watched = λ n pair e.
          let before : pair_of old n ≡ Some pair = sym (pairs-same old new same n) ∙ e in
          let is : IsWatched clauses counted n old.lists pair = are.watched n pair before in
          record {
            low = is.low;
            high = is.high;
            empty = is.empty;
            of_clause = is.of_clause;
            first_listed = stays n pair.first (λ w. λ it. (apart pair (ap (pair_of old) (sym w) ∙ before)).0 it) is.first_listed;
            second_listed = stays n pair.second (λ w. λ it. (apart pair (ap (pair_of old) (sym w) ∙ before)).1 it) is.second_listed;
          };
    } where
      stays : (n : ℕ) (m : ℤ) → (n ≡ get_or (list_of old.lists l) place 0 → m ≢ l) → Contains (list_of old.lists m) n → Contains (list_of new.lists m) n
      stays n m elsewhere has =
          let P : List ℕ → Type 0 = λ xs. Contains xs n in
          elim (place-tells m l) [
            | inl same ↦
                let Q : ℤ → Type 0 = λ k. Contains (list_of old.lists k) n in
                let R : ℤ → Type 0 = λ k. Contains (list_of new.lists k) n in
                let left_ : StandsFrom 0 (swap_remove (list_of old.lists l) place 0) n = stands-removed (list_of old.lists l) place 0 n inside (omega arith) (λ w. elsewhere w same) (stands-in (list_of old.lists l) n (subst Q same has)) in
                subst R (sym same) (subst P (sym list) (in-stands (swap_remove (list_of old.lists l) place 0) n left_))
            | inr other ↦ subst P (sym (others m other)) has
          ]

-- how the next clause is taken in: it is counted, or watched and counted as an empty one
pub record IsTaken (clause counted : List ℤ) (number : ℕ) (lists : List (List ℕ)) (pair : Option Pair) : Type 0 where
  pub alone : pair ≡ None → counted ≡ clause
  pub empty : (p : Pair) → pair ≡ Some p → counted ≡ []
  pub of_clause : (p : Pair) → pair ≡ Some p → IsPair clause p
  pub first_listed : (p : Pair) → pair ≡ Some p → Contains (list_of lists p.first) number
  pub second_listed : (p : Pair) → pair ≡ Some p → Contains (list_of lists p.second) number

-- one more clause is taken in
pub watched-pushed : (clauses counted : List (List ℤ)) (old new : Watches) (clause c : List ℤ) (pair : Option Pair) → AreWatched clauses counted old → new.pairs.items ≡ old.pairs.items ++ pair ∷ [] → HaveMore old.lists new.lists → IsTaken clause c (length clauses + 1) new.lists pair → AreWatched (clauses ++ clause ∷ []) (counted ++ c ∷ []) new
watched-pushed clauses counted old new clause c pair are pushed more taken =
    let longer : length (clauses ++ clause ∷ []) ≡ length clauses + 1 = length_push clauses clause in
    let place : length old.pairs.items ≡ length clauses + 1 = are.pairs in
    let last : pair_of new (length clauses + 1) ≡ pair = ap (pair_of new) (sym place) ∙ pairs-pushed old new pair pushed in
    let before : (n : ℕ) → n ≢ length clauses + 1 → pair_of new n ≡ pair_of old n = λ n other. pairs-before old new pair n pushed (λ e. other (e ∙ place)) in
    let here : (n : ℕ) → n ≡ length clauses + 1 → numbered (clauses ++ clause ∷ []) n ≡ clause = λ n e. numbered-same clauses clause n e in
    let counted_here : (n : ℕ) → n ≡ length clauses + 1 → numbered (counted ++ c ∷ []) n ≡ c = λ n e. numbered-same counted c n (e ∙ ap (λ (i : ℕ). i + 1) (sym are.len)) in
    let counted_before : (n : ℕ) → n ≢ length clauses + 1 → numbered (counted ++ c ∷ []) n ≡ numbered counted n = λ n other. numbered-other counted c n (λ e. other (e ∙ ap (λ (i : ℕ). i + 1) are.len)) in
    record {
      len = length_push counted c ∙ ap (λ (i : ℕ). i + 1) are.len ∙ sym longer;
      pairs = ap (length {A = Option Pair}) pushed ∙ length_push old.pairs.items pair ∙ ap (λ (i : ℕ). i + 1) (place ∙ sym longer);
      others = λ n e. elim (eqb_tells n (length clauses + 1)) [
        | inl same ↦ counted_here n same.1 ∙ taken.alone (sym last ∙ ap (pair_of new) (sym same.1) ∙ e) ∙ sym (here n same.1)
        | inr other ↦ counted_before n other.1 ∙ are.others n (sym (before n other.1) ∙ e) ∙ sym (numbered-other clauses clause n other.1)
      ];
      watched = λ n p e. elim (eqb_tells n (length clauses + 1)) [
        | inl same ↦
            let it : pair ≡ Some p = sym last ∙ ap (pair_of new) (sym same.1) ∙ e in
            let P : List ℤ → Type 0 = λ xs. IsPair xs p in
            let Q : ℕ → Type 0 = λ i. Contains (list_of new.lists p.first) i in
            let R : ℕ → Type 0 = λ i. Contains (list_of new.lists p.second) i in
            record {
              low = omega (arith, same.1);
              high = omega (arith, same.1, longer);
              empty = counted_here n same.1 ∙ taken.empty p it;
              of_clause = subst P (sym (here n same.1)) (taken.of_clause p it);
              first_listed = subst Q (sym same.1) (taken.first_listed p it);
              second_listed = subst R (sym same.1) (taken.second_listed p it);
            }
        | inr other ↦
            let was : IsWatched clauses counted n old.lists p = are.watched n p (sym (before n other.1) ∙ e) in
            let P : List ℤ → Type 0 = λ xs. IsPair xs p in
            record {
              low = was.low;
              high = omega (arith, was.high, longer);
              empty = counted_before n other.1 ∙ was.empty;
              of_clause = subst P (sym (numbered-other clauses clause n other.1)) was.of_clause;
              first_listed = more p.first n was.first_listed;
              second_listed = more p.second n was.second_listed;
            }
      ];
    }

-- a clause that a list of occurrences names is counted
pub counted-none : (clauses counted : List (List ℤ)) (w : Watches) (l : ℤ) (n : ℕ) → AreWatched clauses counted w → 0 < times l (numbered counted n) → pair_of w n ≡ None
counted-none clauses counted w l n are some = elim (option-or (pair_of w n)) [
  | inl none_ ↦ none_
  | inr is ↦ absurd (let none_ : times l (numbered counted n) ≡ 0 = ap (times l) (are.watched n is.0 is.1).empty in omega (arith, some, none_))
]
