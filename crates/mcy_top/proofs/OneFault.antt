-- A book is refused for one fault.
use Rattle.mcy_top.proofs.Common.{◌≡◌, ◌≢◌, inl, inr, arith, ℕ, zero, suc, ◌<◌, Bool, List, [], ◌∷◌, ◌++◌, length, drop, take, slice_get, Option, Some, refl, sym, ap, subst, ◌∙◌, append_assoc}
use Rattle.mcy_top.proofs.Common.{append-nil, Entry, Book, is_first, Campaign, BookError, Meta, Mutation, Row, Stray, mark_of, tags_of, ask_on, meta_in_second, AreRowsIn, IsRowIn, not_both}
use Rattle.result_book.specs.declared.check.RowFault.{RowFault}
use Rattle.result_book.specs.declared.check.RowFault.TheVariants.{Seq, NoMutation, NoTest, Twice, NotAsked, BadWord, Mark, Tags, Bound}
use Rattle.result_book.specs.declared.check.BookError.TheVariants.{Memory}
use Rattle.result_book.specs.Campaigns.{IsWordOf}
use Rattle.result_book.specs.BookFaults.{DifferFirst, IsAsked, IsAskedOn, IsBoundFault, IsFirstFault, IsOnce, IsPlaced, IsRefused, IsRowFault}
use Rattle.result_book.proofs.Refusals.{faulty, twice_once}

-- Lists differ first at one place.

same_before : {X : Type 0} (n k : ℕ) (xs ys : List X) → take n xs ≡ take n ys → k < n → slice_get xs k ≡ slice_get ys k
same_before zero k xs ys same below = absurd (omega (arith, below))
same_before (suc n) k [] [] same below = refl
same_before (suc n) k [] (y ∷ ys) same below = cc
same_before (suc n) k (x ∷ xs) [] same below = cc
same_before (suc n) zero (x ∷ xs) (y ∷ ys) same below = let both : x ∷ take n xs ≡ y ∷ take n ys = same in cc
same_before (suc n) (suc k) (x ∷ xs) (y ∷ ys) same below =
    let both : x ∷ take n xs ≡ y ∷ take n ys = same in
    let rest : take n xs ≡ take n ys = cc in
    same_before n k xs ys rest (omega (arith, below))

not_earlier : (kept derived : List (List ℕ)) (p q : ℕ) (old new old' new' : Option (List ℕ)) → DifferFirst kept derived p old new → DifferFirst kept derived q old' new' → ¬ (p < q)
not_earlier kept derived p q old new old' new' one two below = one.differ (one.old_is ∙ same_before q p kept derived two.same below ∙ sym one.new_is)

-- the place, and what the lists have there
record IsOneDifference (p q : ℕ) (old new old' new' : Option (List ℕ)) : Type 0 where
  place : p ≡ q
  old_is : old ≡ old'
  new_is : new ≡ new'

differ_once : (kept derived : List (List ℕ)) (p q : ℕ) (old new old' new' : Option (List ℕ)) → DifferFirst kept derived p old new → DifferFirst kept derived q old' new' → IsOneDifference p q old new old' new'
differ_once kept derived p q old new old' new' one two =
    let before : ¬ (p < q) = not_earlier kept derived p q old new old' new' one two in
    let after : ¬ (q < p) = not_earlier kept derived q p old' new' old new two one in
    let place : p ≡ q = omega (arith, before, after) in
    record {
      place = place;
      old_is = one.old_is ∙ ap (slice_get kept) place ∙ sym two.old_is;
      new_is = one.new_is ∙ ap (slice_get derived) place ∙ sym two.new_is;
    }

differ_not : (kept derived : List (List ℕ)) (p : ℕ) (old new : Option (List ℕ)) → DifferFirst kept derived p old new → kept ≢ derived
differ_not kept derived p old new differ same = differ.differ (differ.old_is ∙ ap (λ (l : List (List ℕ)). slice_get l p) same ∙ sym differ.new_is)

-- A row fails at one of its tests first.

-- what is tested of a row, in its order
abbrev tests : Bool → Campaign → List Entry → Entry → List (Type 0)
tests first c earlier e =
    (e.seq ≡ length earlier)
    ∷ (e.mutation < length c.mutations)
    ∷ (e.test < length c.kinds)
    ∷ IsOnce first earlier e
    ∷ IsAskedOn c earlier e
    ∷ IsWordOf c e.test e.word
    ∷ (e.mark ≡ mark_of (ask_on c e.mutation (earlier ++ e ∷ [])))
    ∷ (e.tags ≡ tags_of (ask_on c e.mutation (earlier ++ e ∷ [])))
    ∷ ((n : ℕ) → ¬ IsBoundFault first c earlier e n)
    ∷ []

-- the fault of each, where the bound's names this one
abbrev faults : ℕ → Campaign → List Entry → Entry → List RowFault
faults bound c earlier e =
    Seq (length earlier) ∷ NoMutation ∷ NoTest ∷ Twice ∷ NotAsked ∷ BadWord ∷ Mark (mark_of (ask_on c e.mutation (earlier ++ e ∷ []))) ∷ Tags (tags_of (ask_on c e.mutation (earlier ++ e ∷ []))) ∷ Bound bound ∷ []

-- the place of a fault among them
abbrev place_of : RowFault → ℕ
place_of (Seq n) = 0
place_of NoMutation = 1
place_of NoTest = 2
place_of Twice = 3
place_of NotAsked = 4
place_of BadWord = 5
place_of (Mark n) = 6
place_of (Tags n) = 7
place_of (Bound n) = 8

-- the test at this place fails, and all before it hold
abbrev FailsAt : List (Type 0) → ℕ → Type 0
FailsAt [] k = ⊥
FailsAt (t ∷ more) zero = ¬ t
FailsAt (t ∷ more) (suc k) = t × FailsAt more k

fails_once : (all : List (Type 0)) (k j : ℕ) → FailsAt all k → FailsAt all j → k ≡ j
fails_once [] k j h g = absurd h
fails_once (t ∷ more) zero zero h g = refl
fails_once (t ∷ more) zero (suc j) h g = absurd (h g.0)
fails_once (t ∷ more) (suc k) zero h g = absurd (g h.0)
fails_once (t ∷ more) (suc k) (suc j) h g = ap suc (fails_once more k j h.1 g.1)

-- the tests of a row after those of its place, and after those of what is asked
behind_placed : (first : Bool) (c : Campaign) (earlier : List Entry) (e : Entry) (k : ℕ) → IsPlaced c earlier e → FailsAt (drop 3 (tests first c earlier e)) k → FailsAt (tests first c earlier e) (suc (suc (suc k)))
behind_placed first c earlier e k placed fails = (placed.seq, (placed.mutation, (placed.test, fails)))

behind_asked : (first : Bool) (c : Campaign) (earlier : List Entry) (e : Entry) (k : ℕ) → IsAsked first c earlier e → FailsAt (drop 5 (tests first c earlier e)) k → FailsAt (tests first c earlier e) (suc (suc (suc (suc (suc k)))))
behind_asked first c earlier e k asked fails = behind_placed first c earlier e (suc (suc k)) asked.placed (asked.once, (asked.asked, fails))

fault_fails : (first : Bool) (c : Campaign) (earlier : List Entry) (e : Entry) (f : RowFault) → IsRowFault first c earlier e f → FailsAt (tests first c earlier e) (place_of f)
fault_fails first c earlier e (Seq n) (is, bad) = λ right. bad (right ∙ sym is)
fault_fails first c earlier e NoMutation (seq, bad) = (seq, λ right. omega (arith, right, bad))
fault_fails first c earlier e NoTest (seq, mutation, bad) = (seq, (mutation, λ right. omega (arith, right, bad)))
fault_fails first c earlier e Twice (placed, bad) = behind_placed first c earlier e 0 placed (twice_once first earlier e bad)
fault_fails first c earlier e NotAsked (placed, once, bad) = behind_placed first c earlier e 1 placed (once, bad)
fault_fails first c earlier e BadWord (asked, bad) = behind_asked first c earlier e 0 asked bad
fault_fails first c earlier e (Mark n) (answered, is, bad) = behind_asked first c earlier e 1 answered.asked (answered.word, λ right. bad (right ∙ sym is))
fault_fails first c earlier e (Tags n) (answered, mark, is, bad) = behind_asked first c earlier e 2 answered.asked (answered.word, (mark, λ right. bad (right ∙ sym is)))
fault_fails first c earlier e (Bound n) (marked, bad) = behind_asked first c earlier e 3 marked.answered.asked (marked.answered.word, (marked.mark, (marked.tags, λ none. none n bad)))

-- a fault of the bound names one number
bound_once : (first : Bool) (c : Campaign) (earlier : List Entry) (e : Entry) (n k : ℕ) → IsBoundFault first c earlier e n → IsBoundFault first c earlier e k → n ≡ k
bound_once first c earlier e n k (inl h) (inl g) = h.1 ∙ sym g.1
bound_once first c earlier e n k (inl h) (inr g) = absurd (not_both e.mutation e.test earlier h.0 g.0)
bound_once first c earlier e n k (inr h) (inl g) = absurd (not_both e.mutation e.test earlier g.0 h.0)
bound_once first c earlier e n k (inr h) (inr g) = h.1 ∙ sym g.1

-- whether a fault of the bound names this one
abbrev Names : ℕ → RowFault → Type 0
Names n (Bound k) = n ≡ k
Names n other = Unit {0}

fault_at : (first : Bool) (c : Campaign) (earlier : List Entry) (e : Entry) (n : ℕ) (f : RowFault) → Names n f → IsRowFault first c earlier e f → slice_get (faults n c earlier e) (place_of f) ≡ Some f
fault_at first c earlier e n (Seq k) names bad = ap (λ (k : ℕ). Some (Seq k)) (sym bad.0)
fault_at first c earlier e n NoMutation names bad = refl
fault_at first c earlier e n NoTest names bad = refl
fault_at first c earlier e n Twice names bad = refl
fault_at first c earlier e n NotAsked names bad = refl
fault_at first c earlier e n BadWord names bad = refl
fault_at first c earlier e n (Mark k) names bad = ap (λ (k : ℕ). Some (Mark k)) (sym bad.1)
fault_at first c earlier e n (Tags k) names bad = ap (λ (k : ℕ). Some (Tags k)) (sym bad.2)
fault_at first c earlier e n (Bound k) names bad = ap (λ (k : ℕ). Some (Bound k)) names

-- there is a number that both name, as far as they name one
both_name : (first : Bool) (c : Campaign) (earlier : List Entry) (e : Entry) (f g : RowFault) → IsRowFault first c earlier e f → IsRowFault first c earlier e g → (n : ℕ) × (Names n f × Names n g)
both_name first c earlier e (Bound n) (Bound k) h i = (n, (refl, bound_once first c earlier e n k h.1 i.1))
both_name first c earlier e (Bound n) g h i = (n, (refl, tt))
both_name first c earlier e f (Bound k) h i = (k, (tt, refl))
both_name first c earlier e f g h i = (0, (tt, tt))

fault_once : (first : Bool) (c : Campaign) (earlier : List Entry) (e : Entry) (f g : RowFault) → IsRowFault first c earlier e f → IsRowFault first c earlier e g → f ≡ g
fault_once first c earlier e f g h k =
    let both : (n : ℕ) × (Names n f × Names n g) = both_name first c earlier e f g h k in
    let place : place_of f ≡ place_of g = fails_once (tests first c earlier e) (place_of f) (place_of g) (fault_fails first c earlier e f h) (fault_fails first c earlier e g k) in
    let same : Some f ≡ Some g = sym (fault_at first c earlier e both.0 f both.1.0 h) ∙ ap (slice_get (faults both.0 c earlier e)) place ∙ fault_at first c earlier e both.0 g both.1.1 k in
    cc

-- The first row with a fault is one.

-- the faults at the ends of two first parts
abbrev Fails : Bool → Campaign → List Entry → List Entry → Entry → RowFault → Type 0
Fails first c earlier before e f = AreRowsIn first c earlier before × IsRowFault first c (earlier ++ before) e f

rows_once : (first : Bool) (c : Campaign) (earlier b b' a a' : List Entry) (e e' : Entry) (f f' : RowFault) → b ++ e ∷ a ≡ b' ++ e' ∷ a' → Fails first c earlier b e f → Fails first c earlier b' e' f' → Row e f ≡ Row e' f'
rows_once first c earlier [] [] a a' e e' f f' same h k =
    let row : e ≡ e' = cc in
    let fault : f ≡ f' = fault_once first c (earlier ++ []) e' f f' (subst (λ (x : Entry). IsRowFault first c (earlier ++ []) x f) row h.1) k.1 in
    cc
rows_once first c earlier [] (y ∷ b') a a' e e' f f' same h k =
    let row : e ≡ y = cc in
    absurd (faulty first c earlier e f (subst (λ (l : List Entry). IsRowFault first c l e f) (append-nil earlier) h.1) (subst (IsRowIn first c earlier) (sym row) k.0.0))
rows_once first c earlier (x ∷ b) [] a a' e e' f f' same h k =
    let row : x ≡ e' = cc in
    absurd (faulty first c earlier e' f' (subst (λ (l : List Entry). IsRowFault first c l e' f') (append-nil earlier) k.1) (subst (IsRowIn first c earlier) row h.0.0))
rows_once first c earlier (x ∷ b) (y ∷ b') a a' e e' f f' same h k =
    let row : x ≡ y = cc in
    let rest : b ++ e ∷ a ≡ b' ++ e' ∷ a' = cc in
    let moved : Fails first c (earlier ++ x ∷ []) b e f = (h.0.1, subst (λ (l : List Entry). IsRowFault first c l e f) (sym (append_assoc earlier (x ∷ []) b)) h.1) in
    let other : Fails first c (earlier ++ y ∷ []) b' e' f' = (k.0.1, subst (λ (l : List Entry). IsRowFault first c l e' f') (sym (append_assoc earlier (y ∷ []) b')) k.1) in
    rows_once first c (earlier ++ x ∷ []) b b' a a' e e' f f' rest moved (subst (λ (z : Entry). Fails first c (earlier ++ z ∷ []) b' e' f') (sym row) other)

first_once : (first : Bool) (c : Campaign) (rows : List Entry) (e e' : Entry) (f f' : RowFault) → IsFirstFault first c rows e f → IsFirstFault first c rows e' f' → Row e f ≡ Row e' f'
first_once first c rows e e' f f' h k = rows_once first c [] h.before k.before h.after k.after e e' f f' (sym h.rows_are ∙ k.rows_are) (h.good, h.bad) (k.good, k.bad)

-- For all that a check finds, it finds one.
pub refused_for_one : (c : Campaign) (book : Book) (error other : BookError) → IsRefused c book error → IsRefused c book other → error ≢ Memory → other ≢ Memory → error ≡ other
refused_for_one c book (Meta p old new) (Meta q old' new') h k some more = let one = differ_once (meta_in_second book.meta) c.meta p q old new old' new' h k in λ i. Meta (one.place i) (one.old_is i) (one.new_is i)
refused_for_one c book (Mutation p old new) (Mutation q old' new') h k some more =
    let one = differ_once book.mutations c.mutations p q old new old' new' h.1 k.1 in λ i. Mutation (one.place i) (one.old_is i) (one.new_is i)
refused_for_one c book (Row e f) (Row e' f') h k some more = first_once (is_first book) c book.journal e e' f f' h.2 k.2
refused_for_one c book Memory other h k some more = absurd (some refl)
refused_for_one c book error Memory h k some more = absurd (more refl)
refused_for_one c book (Stray m r) other h k some more = absurd h
refused_for_one c book error (Stray m r) h k some more = absurd k
refused_for_one c book (Meta p old new) (Mutation q old' new') h k some more = absurd (differ_not (meta_in_second book.meta) c.meta p old new h k.0)
refused_for_one c book (Meta p old new) (Row e f) h k some more = absurd (differ_not (meta_in_second book.meta) c.meta p old new h k.0)
refused_for_one c book (Mutation p old new) (Meta q old' new') h k some more = absurd (differ_not (meta_in_second book.meta) c.meta q old' new' k h.0)
refused_for_one c book (Row e f) (Meta q old' new') h k some more = absurd (differ_not (meta_in_second book.meta) c.meta q old' new' k h.0)
refused_for_one c book (Mutation p old new) (Row e f) h k some more = absurd (differ_not book.mutations c.mutations p old new h.1 k.1)
refused_for_one c book (Row e f) (Mutation q old' new') h k some more = absurd (differ_not book.mutations c.mutations q old' new' k.1 h.1)
