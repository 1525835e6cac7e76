-- The read tests of a mutation: they tell all, are found one after the other, and are those that the script asks for where they have no
-- word.
use Rattle.result_book.proofs.Common.{◌≡◌, ◌≢◌, ◌↔◌, inl, inr, arith, ℕ, zero, suc, ◌<◌, Bool, true, false, ◌==◌, List, [], ◌∷◌, ◌++◌, Option, None, Some, refl, sym, ◌∙◌, ap, subst, set, length}
use Rattle.result_book.proofs.Common.{if◌then◌else◌, ◌⊎◌, find, is_none, slice_index_or, option_or, All, Any, Decides-eqb, eqb_tells, All-cons, All-nil, Ask, Need, Done, AssertFailed, Unexpected}
use Rattle.result_book.proofs.Common.{course_of, script_outcome, told, word_at, AreBelow, Campaign, IsFit, answer_known, answer_needed, next_read, Answer, IsRead, ask, ask_by, asked_on, filled}
use Rattle.result_book.proofs.Common.{known_first, known_of, read_answers, word_in, words_of}
use Rattle.result_book.proofs.Asking.{among_filled, need_by}
use Rattle.result_book.proofs.Asked.{AreApart, AreSome, all_some, ask_first, asked_apart, asked_fit, few_asked, find_below, find_lacks, is_missing, need_found, some_among}
use Rattle.result_book.proofs.Known.{AreOf, are_some, find_alike, known_alike, known_among, known_are, part_are, read_alike, rest_are}
use Rattle.result_book.proofs.Words.{word_at-words_of}

-- the words of the read tests are some of the last words
pub read_some : (c : Campaign) (answers : List Answer) → AreSome (words_of (read_answers c answers)) (words_of answers)
read_some c answers = are_some (words_of answers) (read_answers c answers) (known_are (words_of answers) (asked_on c (words_of answers)))

-- on the read tests alone the script asks for the same
pub read_asks : (c : Campaign) (answers : List Answer) → IsFit c → ask c (read_answers c answers) ≡ ask c answers
unfolding ask_by told asked_on
read_asks c answers fit =
    let last : List (Option ℕ) = words_of answers in
    ask_first c (words_of (read_answers c answers)) last (find (is_missing last) (asked_on c last)) (read_some c answers)
    (find_alike (words_of (read_answers c answers)) last (asked_on c last) (read_alike last (asked_on c last) (few_asked c last fit)))

-- and they are the read ones among themselves
pub read_again : (c : Campaign) (answers : List Answer) → IsFit c → read_answers c (read_answers c answers) ≡ read_answers c answers
unfolding asked_on script_outcome
read_again c answers fit =
    let last : List (Option ℕ) = words_of answers in
    let some : List (Option ℕ) = words_of (read_answers c answers) in
    known_among c.expect some (filled some) (filled last) (course_of c.script) (among_filled some) (some_among some last (read_some c answers))
    ∙ known_alike some last (asked_on c last) (read_alike last (asked_on c last) (few_asked c last fit))

-- They are found one after the other.

first_is : (t : ℕ) (o : Option ℕ) (rest : List Answer) (a : Answer) (more : List Answer) → known_first t o rest ≡ a ∷ more → (a.test ≡ t) × (rest ≡ more)
first_is t None rest a more is = absurd (let never : [] ≡ a ∷ more = is in cc)
first_is t (Some word) rest a more is =
    let both : record { test = t; word = word } ∷ rest ≡ a ∷ more = is in
    let here : record { test = t; word = word } ≡ a = cc in
    (sym (ap (λ (x : Answer). x.test) here), cc)

has_word : (done : List Answer) (d : Answer) (t : ℕ) → d.test ≡ t → is_none (word_in (d ∷ done) t) ≡ false
has_word done d t same = by (word_in done t)
  where
    is : (d.test == t) ≡ true
    is = (Decides-eqb d.test t).1 same

    by : (o : Option ℕ) → is_none (option_or o (if d.test == t then Some d.word else None)) ≡ false
    by None = ap (λ (b : Bool). is_none (if b then Some d.word else None)) is
    by (Some word) = refl

same_word : (done : List Answer) (d : Answer) (t x : ℕ) → d.test ≡ t → x ≢ t → is_none (word_in (d ∷ done) x) ≡ is_none (word_in done x)
same_word done d t x same other = elim (eqb_tells d.test x) [
  | inl h ↦ absurd (other (sym h.1 ∙ same))
  | inr h ↦ by (word_in done x) h.0
]
  where
    by : (o : Option ℕ) → (d.test == x) ≡ false → is_none (option_or o (if d.test == x then Some d.word else None)) ≡ is_none o
    by None never = ap (λ (b : Bool). is_none (if b then Some d.word else None)) never
    by (Some word) never = refl

found_done : (last : List (Option ℕ)) (tests : List ℕ) (done : List Answer) (a : Answer) (more : List Answer) → AreApart tests → known_of last tests ≡ done ++ a ∷ more → find (λ t. is_none (word_in done t)) tests ≡ Some a.test
found_done last [] [] a more apart is = absurd (let never : [] ≡ a ∷ more = is in cc)
found_done last [] (d ∷ done) a more apart is = absurd (let never : [] ≡ d ∷ (done ++ a ∷ more) = is in cc)
found_done last (t ∷ tests) [] a more apart is = ap Some (sym (first_is t (word_at last t) (known_of last tests) a more is).0)
found_done last (t ∷ tests) (d ∷ done) a more apart is =
    let first = first_is t (word_at last t) (known_of last tests) d (done ++ a ∷ more) is in
    let behind : find (λ x. is_none (word_in (d ∷ done) x)) tests ≡ find (λ x. is_none (word_in done x)) tests = find_lacks t (λ x. is_none (word_in (d ∷ done) x)) (λ x. is_none (word_in done x)) (λ x other. same_word done d t x first.0 other) tests apart.0 in
    ap (λ (b : Bool). if b then Some t else find (λ x. is_none (word_in (d ∷ done) x)) tests) (has_word done d t first.0) ∙ behind ∙ found_done last tests done a more apart.1 first.1

-- each read test is the one that the script asks for on those before it
pub read_next : (c : Campaign) (answers done : List Answer) (a : Answer) (more : List Answer) → IsFit c → read_answers c answers ≡ done ++ a ∷ more → ask c done ≡ Need a.test
read_next c answers done a more fit is =
    let last : List (Option ℕ) = words_of answers in
    let tests : List ℕ = asked_on c last in
    let all : AreOf last done = part_are last done (a ∷ more) (subst (AreOf last) is (known_are last tests)) in
    ask_first c (words_of done) last (Some a.test) (are_some last done all)
    (find_below 16 (is_missing (words_of done)) (λ t. is_none (word_in done t)) (λ t inside. ap (λ (o : Option ℕ). is_none o) (word_at-words_of done t inside)) tests (few_asked c last fit)
    ∙ found_done last tests done a more (asked_apart c last) is)

none_needed : (last : List (Option ℕ)) (stands : Ask) → ((t : ℕ) → stands ≡ Need t → word_at last t ≡ None) → answer_needed last stands ≡ None
none_needed last (Need t) new = ap (answer_known t) (new t refl)
none_needed last (Done tags) new = refl
none_needed last (AssertFailed line) new = refl
none_needed last (Unexpected t) new = refl

-- none comes behind the last
pub read_end : (c : Campaign) (answers : List Answer) → IsFit c → next_read c (words_of answers) (words_of (read_answers c answers)) ≡ None
read_end c answers fit =
    ap (answer_needed (words_of answers)) (read_asks c answers fit) ∙ none_needed (words_of answers) (ask c answers) (need_by c (words_of answers))

-- and else the next one
pub read_more : (c : Campaign) (answers done : List Answer) (a : Answer) (more : List Answer) → IsFit c → read_answers c answers ≡ done ++ a ∷ more → next_read c (words_of answers) (words_of done) ≡ Some a
read_more c answers done a more fit is =
    let last : List (Option ℕ) = words_of answers in
    let all : AreOf last (a ∷ more) = rest_are last done (a ∷ more) (subst (AreOf last) is (known_are last (asked_on c last))) in
    ap (answer_needed last) (read_next c answers done a more fit is) ∙ ap (answer_known a.test) all.0

-- A test is read, or the next that is needed, exactly where the script asks for it as soon as it has no word.

abbrev pub Reads : ℕ → List Answer → Type 0
Reads t [] = ⊥
Reads t (a ∷ more) = (a.test ≡ t) ⊎ Reads t more

pub reads_any : (t : ℕ) (answers : List Answer) → Reads t answers → Any (λ answer. answer.test ≡ t) answers
reads_any t [] h = absurd h
reads_any t (a ∷ more) h = elim h [
  | inl here ↦ (0, a, omega arith, refl, here)
  | inr there ↦ (let any = reads_any t more there in (suc any.0, any.1, omega (arith, any.2), any.3, any.4))
]

reads_at : (t : ℕ) (answers : List Answer) (k : ℕ) (a : Answer) → k < length answers → slice_index_or answers k a ≡ a → a.test ≡ t → Reads t answers
reads_at t [] k a inside at is = absurd (omega (arith, inside))
reads_at t (b ∷ more) zero a inside at is = inl (ap (λ (x : Answer). x.test) at ∙ is)
reads_at t (b ∷ more) (suc k) a inside at is = inr (reads_at t more k a (omega (arith, inside)) at is)

pub any_reads : (t : ℕ) (answers : List Answer) → Any (λ answer. answer.test ≡ t) answers → Reads t answers
any_reads t answers any = reads_at t answers any.0 any.1 any.2 any.3 any.4

without_itself : (last : List (Option ℕ)) (t : ℕ) → word_at (set last t None) t ≡ None
without_itself [] t = refl
without_itself (x ∷ last) zero = refl
without_itself (x ∷ last) (suc t) = without_itself last t

without_other : (last : List (Option ℕ)) (t x : ℕ) → x ≢ t → word_at (set last t None) x ≡ word_at last x
without_other [] t x other = refl
without_other (w ∷ last) zero zero other = absurd (other refl)
without_other (w ∷ last) zero (suc x) other = refl
without_other (w ∷ last) (suc t) zero other = refl
without_other (w ∷ last) (suc t) (suc x) other = without_other last t x (λ same. other (ap suc same))

without_some : (last : List (Option ℕ)) (t : ℕ) → AreSome (set last t None) last
without_some last t = record {
  same = λ x word at. elim (eqb_tells x t) [
    | inl h ↦ absurd (let never : None ≡ Some word = sym (ap (word_at (set last t None)) h.1 ∙ without_itself last t) ∙ at in cc)
    | inr h ↦ sym (without_other last t x h.1) ∙ at
  ];
}

found_here : (x t : ℕ) (o : Option ℕ) (rest : List Answer) (behind : Option ℕ) → x ≡ t → Reads t (known_first x o rest) ⊎ ((if is_none o then Some x else behind) ≡ Some t)
found_here x t None rest behind same = inr (ap Some same)
found_here x t (Some word) rest behind same = inl (inl same)

found_there : (x t : ℕ) (o : Option ℕ) (rest : List Answer) (before behind : Option ℕ) → x ≢ t → (if is_none o then Some x else before) ≡ Some t → (before ≡ Some t → Reads t rest ⊎ (behind ≡ Some t))
    → Reads t (known_first x o rest) ⊎ ((if is_none o then Some x else behind) ≡ Some t)
found_there x t None rest before behind other is more = absurd (other (let e : Some x ≡ Some t = is in let same : x ≡ t = cc in same))
found_there x t (Some word) rest before behind other is more = elim (more is) [ inl read ↦ inl (inr read) | inr found ↦ inr found ]

found_without : (last : List (Option ℕ)) (t : ℕ) (tests : List ℕ) → find (is_missing (set last t None)) tests ≡ Some t → Reads t (known_of last tests) ⊎ (find (is_missing last) tests ≡ Some t)
found_without last t [] is = absurd (let never : None ≡ Some t = is in cc)
found_without last t (x ∷ tests) is = elim (eqb_tells x t) [
  | inl h ↦ found_here x t (word_at last x) (known_of last tests) (find (is_missing last) tests) h.1
  | inr h ↦ found_there x t (word_at last x) (known_of last tests) (find (is_missing (set last t None)) tests) (find (is_missing last) tests) h.1
      (sym (ap (λ (o : Option ℕ). if is_none o then Some x else find (is_missing (set last t None)) tests) (without_other last t x h.1)) ∙ is) (found_without last t tests)
]

back_there : (x t : ℕ) (o : Option ℕ) (rest : List Answer) (before behind : Option ℕ) → x ≢ t → Reads t (known_first x o rest) ⊎ ((if is_none o then Some x else behind) ≡ Some t) → (Reads t rest ⊎ (behind ≡ Some t) → before ≡ Some t)
    → (if is_none o then Some x else before) ≡ Some t
back_there x t None rest before behind other h more = elim h [
  | inl read ↦ absurd read
  | inr found ↦ absurd (other (let e : Some x ≡ Some t = found in let same : x ≡ t = cc in same))
]
back_there x t (Some word) rest before behind other h more = elim h [
  | inl read ↦ elim read [ inl same ↦ absurd (other same) | inr there ↦ more (inl there) ]
  | inr found ↦ more (inr found)
]

without_found : (last : List (Option ℕ)) (t : ℕ) (tests : List ℕ) → Reads t (known_of last tests) ⊎ (find (is_missing last) tests ≡ Some t) → find (is_missing (set last t None)) tests ≡ Some t
without_found last t [] h = elim h [ inl read ↦ absurd read | inr found ↦ absurd (let never : None ≡ Some t = found in cc) ]
without_found last t (x ∷ tests) h = elim (eqb_tells x t) [
  | inl g ↦ ap (λ (o : Option ℕ). if is_none o then Some x else find (is_missing (set last t None)) tests) (ap (word_at (set last t None)) g.1 ∙ without_itself last t) ∙ ap Some g.1
  | inr g ↦ ap (λ (o : Option ℕ). if is_none o then Some x else find (is_missing (set last t None)) tests) (without_other last t x g.1)
      ∙ back_there x t (word_at last x) (known_of last tests) (find (is_missing (set last t None)) tests) (find (is_missing last) tests) g.1 h (without_found last t tests)
]

pub asked_without : (c : Campaign) (answers : List Answer) (t : ℕ) → (ask_by c (set (words_of answers) t None) ≡ Need t) ↔ (IsRead c answers t ⊎ (ask c answers ≡ Need t))
asked_without c answers t = (
  λ is. elim (found_without (words_of answers) t (asked_on c (words_of answers)) (need_found c (set (words_of answers) t None) (words_of answers) t (without_some (words_of answers) t) is)) [
    | inl read ↦ inl (reads_any t (read_answers c answers) read)
    | inr found ↦ inr (ask_first c (words_of answers) (words_of answers) (Some t) (all_some (words_of answers)) found)
  ],
  λ h. ask_first c (set (words_of answers) t None) (words_of answers) (Some t) (without_some (words_of answers) t) (without_found (words_of answers) t (asked_on c (words_of answers)) (elim h [
    | inl read ↦ inl (any_reads t (read_answers c answers) read)
    | inr need ↦ inr (need_found c (words_of answers) (words_of answers) t (all_some (words_of answers)) need)
  ])),
)

-- Each read test is one of the campaign.

first_below : (n t : ℕ) (o : Option ℕ) (behind : List Answer) → t < n → All (λ answer. answer.test < n) behind → All (λ answer. answer.test < n) (known_first t o behind)
first_below n t None behind few rest = All-nil (λ answer. answer.test < n)
first_below n t (Some word) behind few rest = All-cons (λ answer. answer.test < n) (record { test = t; word = word }) behind few rest

known_below : (n : ℕ) (last : List (Option ℕ)) (tests : List ℕ) → AreBelow n tests → All (λ answer. answer.test < n) (known_of last tests)
known_below n last [] few = All-nil (λ answer. answer.test < n)
known_below n last (t ∷ tests) few = first_below n t (word_at last t) (known_of last tests) few.0 (known_below n last tests few.1)

pub read_below : (c : Campaign) (answers : List Answer) → IsFit c → All (λ answer. answer.test < length c.kinds) (read_answers c answers)
read_below c answers fit = known_below (length c.kinds) (words_of answers) (asked_on c (words_of answers)) (asked_fit c (words_of answers) fit)
