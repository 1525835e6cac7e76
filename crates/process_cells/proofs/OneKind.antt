-- Each variable has one kind of assignments in a process in which no second kind is refused.
use Rattle.process_cells.proofs.Common.{◌≡◌, ℕ, Bool, true, false, not, ◌&&◌, ◌||◌, List, [], ◌∷◌, map, refl, sym, ap, ◌∙◌, subst, nat_eq, arith, ◌==◌, nat_lt, if◌then◌else◌, flat_map, nat_tests}
use Rattle.process_cells.proofs.Common.{Span, left_nil, right_nil, bit_same, Target, MixedAssign, Unsupported, stands, Conforms, Write, same_kind, lesser, first_place, mixed_after, mixed_at, writes}
use Rattle.process_cells.proofs.Common.{target_of, targets_are, MixedAreRefused, nat_eq_same, or_right, exact_unsigned_eq, bit-self, number-turned}
use Rattle.std.specs.Prelude.{Option, None, Some}
use Rattle.mcy_base.specs.Places.{stands_before}

-- Places.

less_not : (a b : ℕ) → nat_lt a b ≡ true → nat_lt b a ≡ true → ⊥
less_not a b h k = grind (arith, nat_tests)

lower : (a b : ℕ) (x y : Bool) → (if a == b then x else nat_lt a b) ≡ true → (if b == a then y else nat_lt b a) ≡ true → (x ≡ true) × (y ≡ true)
lower a b x y h k = go (a == b) (b == a) (number-turned a b) h k
  where
    go : (e f : Bool) → e ≡ f → (if e then x else nat_lt a b) ≡ true → (if f then y else nat_lt b a) ≡ true → (x ≡ true) × (y ≡ true)
    go true true same h k = (h, k)
    go true false same h k = cc
    go false true same h k = cc
    go false false same h k = absurd (less_not a b h k)

-- of two places one at most stands before the other
not_both : (p q : Span) → stands_before p q ≡ true → stands_before q p ≡ true → ⊥
not_both p q h k =
    let lines = lower p.file q.file (if p.line == q.line then nat_lt p.col q.col else nat_lt p.line q.line) (if q.line == p.line then nat_lt q.col p.col else nat_lt q.line p.line) h k in
    let cols = lower p.line q.line (nat_lt p.col q.col) (nat_lt q.col p.col) lines.0 lines.1 in
    less_not p.col q.col cols.0 cols.1

-- The first place of a kind.

abbrev found : Span → Option Span → Span
found d None = d
found d (Some p) = p

same_some : (p q : Span) → Some p ≡ Some q → p ≡ q
same_some p q e = ap (found p) e

-- what holds of one place and of the others holds of the least
module _ (P : Span → Type 0) where
  of_lesser : (t : Bool) (first : Span) (o : Option Span) (p : Span) → (t ≡ true → P first) → ((q : Span) → o ≡ Some q → P q) → (if t then lesser first o else o) ≡ Some p → P p
  of_lesser false first o p h k e = k p e
  of_lesser true first None p h k e = subst P (same_some first p e) (h refl)
  of_lesser true first (Some q) p h k e = go (stands_before q first) e
    where
      go : (b : Bool) → Some (if b then q else first) ≡ Some p → P p
      go true e = subst P (same_some q p e) (k q refl)
      go false e = subst P (same_some first p e) (h refl)

-- nothing is refused in assignments among all
abbrev AllFree : List Write → List Write → Type 0
AllFree all [] = Unit {0}
AllFree all (w ∷ ws) = (mixed_at all w ≡ []) × AllFree all ws

all_free : (all ws : List Write) → flat_map (mixed_at all) ws ≡ [] → AllFree all ws
all_free all [] e = tt
all_free all (w ∷ ws) e = (left_nil (mixed_at all w) (flat_map (mixed_at all) ws) e, all_free all ws (right_nil (mixed_at all w) (flat_map (mixed_at all) ws) e))

both_true : (a b : Bool) → (a && b) ≡ true → (a ≡ true) × (b ≡ true)
both_true true true e = (refl, refl)
both_true true false e = cc
both_true false b e = cc

kinds_same : (a b : Bool) → same_kind a b ≡ true → a ≡ b
kinds_same true true e = refl
kinds_same true false e = cc
kinds_same false true e = cc
kinds_same false false e = refl

-- what is refused at the first place of a kind is refused of an assignment
first_free : (all ws : List Write) → AllFree all ws → (n : ℕ) (b : Bool) (p : Span) → first_place ws n b ≡ Some p → mixed_after (first_place all n (not b)) p ≡ []
first_free all [] free n b p e = cc
first_free all (w ∷ ws) free n b p e =
    of_lesser (λ (q : Span). mixed_after (first_place all n (not b)) q ≡ []) (nat_eq w.number n && same_kind w.is_blocking b) w.first (first_place ws n b) p here (first_free all ws free.1 n b) e
  where
    here : (nat_eq w.number n && same_kind w.is_blocking b) ≡ true → mixed_after (first_place all n (not b)) w.first ≡ []
    here t =
        let is = both_true (nat_eq w.number n) (same_kind w.is_blocking b) t in
        let by_kind : mixed_after (first_place all w.number (not b)) w.first ≡ [] = subst (λ (k : Bool). mixed_after (first_place all w.number (not k)) w.first ≡ []) (kinds_same w.is_blocking b is.1) free.0 in
        subst (λ (m : ℕ). mixed_after (first_place all m (not b)) w.first ≡ []) (exact_unsigned_eq w.number n is.0) by_kind

lesser_some : (first : Span) (o : Option Span) → (p : Span) × (lesser first o ≡ Some p)
lesser_some first None = (first, refl)
lesser_some first (Some q) = (if stands_before q first then q else first, refl)

kinds_turned : (a b : Bool) → bit_same b a ≡ same_kind a b
kinds_turned true true = refl
kinds_turned true false = refl
kinds_turned false true = refl
kinds_turned false false = refl

place_of : (t s rest : Bool) (first : Span) (o : Option Span) → s ≡ t → (rest ≡ true → (q : Span) × (o ≡ Some q)) → (s || rest) ≡ true → (p : Span) × ((if t then lesser first o else o) ≡ Some p)
place_of true s rest first o e k h = lesser_some first o
place_of false s rest first o e k h = k (ap (λ (x : Bool). x || rest) (sym e) ∙ h)

-- a kind of which a variable has assignments has a first place
first_some : (ws : List Write) (n : ℕ) (b : Bool) → stands b (map target_of ws) n ≡ true → (p : Span) × (first_place ws n b ≡ Some p)
first_some [] n b h = cc
first_some (w ∷ ws) n b h =
    place_of (nat_eq w.number n && same_kind w.is_blocking b) (nat_eq w.number n && bit_same b w.is_blocking) (stands b (map target_of ws) n) w.first (first_place ws n b)
    (ap (λ (k : Bool). nat_eq w.number n && k) (kinds_turned w.is_blocking b)) (first_some ws n b) h

before_is : (o : Option Span) (p at : Span) → o ≡ Some p → mixed_after o at ≡ [] → stands_before at p ≡ true
before_is o p at is free = go (stands_before at p) (subst (λ (x : Option Span). mixed_after x at ≡ []) is free)
  where
    go : (b : Bool) → (if b then [] else Unsupported at MixedAssign ∷ []) ≡ [] → b ≡ true
    go true e = refl
    go false e = cc

-- no variable has assignments of both kinds
not_mixed : (ws : List Write) → AllFree ws ws → (n : ℕ) → stands true (map target_of ws) n ≡ true → stands false (map target_of ws) n ≡ true → ⊥
not_mixed ws free n h k =
    let p = first_some ws n true h in
    let q = first_some ws n false k in
    not_both p.0 q.0
    (before_is (first_place ws n false) q.0 p.0 q.1 (first_free ws ws free n true p.0 p.1))
    (before_is (first_place ws n true) p.0 q.0 p.1 (first_free ws ws free n false q.0 q.1))

-- Each target has the kind of its variable.

is_there : (b : Bool) (n : ℕ) (rest : Bool) → ((nat_eq n n && bit_same b b) || rest) ≡ true
is_there b n rest = rw (nat_eq_same n, bit-self b) refl

-- targets of which all are among those that have one kind
conforms : (all xs : List Target) → ((n : ℕ) → stands true all n ≡ true → stands false all n ≡ true → ⊥) → ((b : Bool) (n : ℕ) → stands b xs n ≡ true → stands b all n ≡ true) → Conforms (λ n. not (stands false all n)) xs
conforms all [] apart among = tt
conforms all (x ∷ xs) apart among =
    (kind x.is_blocking (among x.is_blocking x.number (is_there x.is_blocking x.number (stands x.is_blocking xs x.number))) (stands false all x.number) refl, conforms all xs apart (λ b n h. among b n (or_right (nat_eq x.number n && bit_same b x.is_blocking) (stands b xs n) h)))
  where
    kind : (b : Bool) → stands b all x.number ≡ true → (s : Bool) → s ≡ stands false all x.number → b ≡ not s
    kind true here true is = absurd (apart x.number here (sym is))
    kind true here false is = refl
    kind false here true is = refl
    kind false here false is = cc

pub one_kind : MixedAreRefused
one_kind steps e =
    let ws : List Write = writes steps in
    let free : AllFree ws ws = all_free ws ws e in
    subst (λ (ts : List Target). Conforms (λ n. not (stands false ts n)) ts) (targets_are steps) (conforms (map target_of ws) (map target_of ws) (not_mixed ws free) (λ b n h. h))
