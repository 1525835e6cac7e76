-- The tests that a script asks on all words of a mutation, and what it asks for on some of them.
use Rattle.result_book.proofs.Common.{◌≡◌, ◌≢◌, arith, ℕ, ◌<◌, ◌≤◌, Bool, true, false, not, ◌==◌, List, [], ◌∷◌, Option, None, Some, refl, sym, ◌∙◌, ap, length, if◌then◌else◌, find, filter, is_none}
use Rattle.result_book.proofs.Common.{slice_index, Decides-eqb, Need, Course, course_of, ended, failed, reads, AreAmong, End, Outcome, asking, first_told, is_expected, outcome_of, script_outcome}
use Rattle.result_book.proofs.Common.{told, unexpected, word_at, AreBelow, asked_below, told_heard, Campaign, IsFit, ask_by, asked_on, filled}
use Rattle.result_book.proofs.Asking.{among_filled, ask_heard, found_by}

-- Some of the words are the same as all of them where they are there.
pub record AreSome (some all : List (Option ℕ)) : Type 0 where
  pub same : (test word : ℕ) → word_at some test ≡ Some word → word_at all test ≡ Some word

pub all_some : (all : List (Option ℕ)) → AreSome all all
all_some all = record { same = λ test word at. at }

-- they are among what fills all
pub some_among : (some all : List (Option ℕ)) → AreSome some all → AreAmong some (filled all)
some_among some all are = record { same = λ test word at. (among_filled all).same test word (are.same test word at) }

-- the test has no word
abbrev pub is_missing : List (Option ℕ) → ℕ → Bool
is_missing words test = is_none (word_at words test)

-- how the script ends on these words
abbrev pub ends_on : Campaign → List (Option ℕ) → End
ends_on c words = (script_outcome c.expect (filled words) c.script).ends

ask_some : (c : Campaign) (some all : List (Option ℕ)) → AreSome some all → ask_by c some ≡ told some (script_outcome c.expect (filled all) c.script)
unfolding script_outcome
ask_some c some all are = ask_heard c some ∙ sym (told_heard c.expect some (filled all) (course_of c.script) (some_among some all are))

-- On some of the words the script asks for the first test without one in the order in which it asks them on all, or ends as it does.
pub ask_first : (c : Campaign) (some all : List (Option ℕ)) (found : Option ℕ) → AreSome some all → find (is_missing some) (asked_on c all) ≡ found → ask_by c some ≡ first_told found (ends_on c all)
unfolding told asked_on
ask_first c some all found are is = ask_some c some all are ∙ ap (λ (o : Option ℕ). first_told o (ends_on c all)) is

pub need_found : (c : Campaign) (some all : List (Option ℕ)) (test : ℕ) → AreSome some all → ask_by c some ≡ Need test → find (is_missing some) (asked_on c all) ≡ Some test
unfolding told asked_on
need_found c some all test are is = found_by (find (is_missing some) (asked_on c all)) (ends_on c all) test (sym (ask_some c some all are) ∙ is)

-- The first number with a property, where two properties agree on numbers below a limit, or on all but one that is not there.

pub find_below : (n : ℕ) (p q : ℕ → Bool) → ((x : ℕ) → x < n → p x ≡ q x) → (xs : List ℕ) → AreBelow n xs → find p xs ≡ find q xs
find_below n p q same [] few = refl
find_below n p q same (x ∷ xs) few = rw (same x few.0, find_below n p q same xs few.1) refl

-- none of the numbers is this one
abbrev pub Lacks : ℕ → List ℕ → Type 0
Lacks t [] = Unit {0}
Lacks t (x ∷ more) = (x ≢ t) × Lacks t more

pub find_lacks : (t : ℕ) (p q : ℕ → Bool) → ((x : ℕ) → x ≢ t → p x ≡ q x) → (xs : List ℕ) → Lacks t xs → find p xs ≡ find q xs
find_lacks t p q same [] lacks = refl
find_lacks t p q same (x ∷ xs) lacks = rw (same x lacks.0, find_lacks t p q same xs lacks.1) refl

-- Each test is asked once.

abbrev pub AreApart : List ℕ → Type 0
AreApart [] = Unit {0}
AreApart (t ∷ more) = Lacks t more × AreApart more

lacks_kept : (t x : ℕ) (b : Bool) (kept : List ℕ) → x ≢ t → Lacks t kept → Lacks t (if b then x ∷ kept else kept)
lacks_kept t x true kept other rest = (other, rest)
lacks_kept t x false kept other rest = rest

lacks_filter : (t : ℕ) (p : ℕ → Bool) (xs : List ℕ) → Lacks t xs → Lacks t (filter p xs)
lacks_filter t p [] lacks = tt
lacks_filter t p (x ∷ xs) lacks = lacks_kept t x (p x) (filter p xs) lacks.0 (lacks_filter t p xs lacks.1)

lacks_not : (t x : ℕ) (b : Bool) (kept : List ℕ) → (x ≡ t → b ≡ true) → Lacks t kept → Lacks t (if not b then x ∷ kept else kept)
lacks_not t x true kept tells rest = rest
lacks_not t x false kept tells rest = ((λ same. let never : false ≡ true = tells same in cc), rest)

lacks_itself : (t : ℕ) (xs : List ℕ) → Lacks t (filter (λ other. not (other == t)) xs)
lacks_itself t [] = tt
lacks_itself t (x ∷ xs) = lacks_not t x (x == t) (filter (λ other. not (other == t)) xs) ((Decides-eqb x t).1) (lacks_itself t xs)

apart_kept : (x : ℕ) (b : Bool) (kept : List ℕ) → Lacks x kept → AreApart kept → AreApart (if b then x ∷ kept else kept)
apart_kept x true kept lacks apart = (lacks, apart)
apart_kept x false kept lacks apart = apart

apart_filter : (p : ℕ → Bool) (xs : List ℕ) → AreApart xs → AreApart (filter p xs)
apart_filter p [] apart = tt
apart_filter p (x ∷ xs) apart = apart_kept x (p x) (filter p xs) (lacks_filter x p xs apart.0) (apart_filter p xs apart.1)

-- what is asked where a test is read that the project expects so, or does not
abbrev pub read_out : ℕ → Bool → Outcome → Outcome
read_out test expected behind = if expected then asking test behind else record { asked = test ∷ []; ends = unexpected test }

out_apart : (test : ℕ) (b : Bool) (behind : Outcome) → AreApart behind.asked → AreApart (read_out test b behind).asked
out_apart test true behind apart = (lacks_itself test behind.asked, apart_filter (λ other. not (other == test)) behind.asked apart)
out_apart test false behind apart = (tt, tt)

course_apart : (expect words : List ℕ) (c : Course ℕ) → AreApart (outcome_of expect words c).asked
unfolding outcome_of
course_apart expect words (ended tags) = tt
course_apart expect words (failed line) = tt
course_apart expect words (reads test goes) =
    let word : ℕ = slice_index words test in
    out_apart test (is_expected expect test word) (outcome_of expect words (goes word)) (course_apart expect words (goes word))

pub asked_apart : (c : Campaign) (words : List (Option ℕ)) → AreApart (asked_on c words)
unfolding asked_on script_outcome
asked_apart c words = course_apart c.expect (filled words) (course_of c.script)

-- and is one of the campaign
pub asked_fit : (c : Campaign) (words : List (Option ℕ)) → IsFit c → AreBelow (length c.kinds) (asked_on c words)
unfolding asked_on
asked_fit c words fit = asked_below (length c.kinds) (length c.tags) c.expect (filled words) c.script fit.script

below_more : (n m : ℕ) (xs : List ℕ) → n ≤ m → AreBelow n xs → AreBelow m xs
below_more n m [] more few = tt
below_more n m (x ∷ xs) more few = (omega (arith, more, few.0), below_more n m xs more few.1)

pub few_asked : (c : Campaign) (words : List (Option ℕ)) → IsFit c → AreBelow 16 (asked_on c words)
few_asked c words fit = below_more (length c.kinds) 16 (asked_on c words) fit.few_tests (asked_fit c words fit)

found_by_if : (n x : ℕ) (b : Bool) (rest : Option ℕ) (t : ℕ) → x < n → (rest ≡ Some t → t < n) → (if b then Some x else rest) ≡ Some t → t < n
found_by_if n x true rest t few behind is = (let same : Some x ≡ Some t = is in let here : x ≡ t = cc in omega (arith, few, here))
found_by_if n x false rest t few behind is = behind is

-- what is found is one of them
pub found_below : (n : ℕ) (p : ℕ → Bool) (xs : List ℕ) (t : ℕ) → AreBelow n xs → find p xs ≡ Some t → t < n
found_below n p [] t few is = absurd (let never : None ≡ Some t = is in cc)
found_below n p (x ∷ xs) t few is = found_by_if n x (p x) (find p xs) t few.0 (found_below n p xs t few.1) is
