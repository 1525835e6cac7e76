-- A project and its source have one campaign, and what a campaign defines is one.
use Rattle.mcy_top.proofs.Common.{◌≡◌, ◌⊎◌, inl, inr, arith, ℕ, ◌+◌, Bool, true, false, MatchBool, ◌&&◌, List, [], ◌∷◌, ◌++◌, length, slice_get, Option, None, Some, refl, sym, ap, subst, ◌∙◌, Book}
use Rattle.mcy_top.proofs.Common.{Entry, Parts, Site, Prepared, Ask, Need, Answer, ask, is_ended, IsPlan, IsSame, SameTests, plan_once, Campaign, groups, history, IsWellFormed, AreRight}
use Rattle.mcy_top.proofs.Common.{IsBlankOrGood, IsGivenUpAt, IsRightWord, IsSaid, IsTrueWord, IsTrueWordAt, Command, answers_text, text_of, misses, misses_on, Trial, Equality, Simulation, limit_once}
use Rattle.mcy_top.proofs.Common.{IsSimulated, given_up, is_equality, is_given_up, AreAllAnswers, AreAnswers, IsFinalText, IsWordOf, Pair}
use Rattle.mcy_top.proofs.Simulating.{BenchesSayOnce}
use Rattle.mcy_top.specs.Once.{GaveUpSame, IsEnded, SayTheSame}
use Rattle.mcy_top.proofs.Finishing.{final_is, groups_are}

-- The campaign.

-- a word that a test may have is one that a test may have which is the same but for parts of its bench
test_alike : (d : Prepared) (trials : List Trial) (cycles t : ℕ) (site : Option Site) (x y : Option Trial) (bound word : ℕ) → SameTests x y → (IsTrueWordAt (record d { trials = trials; cycles = cycles }) t site x word ⊎ IsGivenUpAt (record d { trials = trials; cycles = cycles }) site x bound word) → (IsTrueWordAt d t site y word ⊎ IsGivenUpAt d site y bound word)
test_alike d trials cycles t None x y bound word alike (inl h) = absurd h
test_alike d trials cycles t None x y bound word alike (inr h) = absurd h
test_alike d trials cycles t (Some site) None y bound word alike (inl h) = absurd h
test_alike d trials cycles t (Some site) None y bound word alike (inr h) = absurd h
test_alike d trials cycles t (Some site) (Some Equality) (Some Equality) bound word alike h = h
test_alike d trials cycles t (Some site) (Some (Simulation a p f)) (Some (Simulation b q g)) bound word alike (inl h) = inl h
test_alike d trials cycles t (Some site) (Some (Simulation a p f)) (Some (Simulation b q g)) bound word alike (inr h) = absurd h
test_alike d trials cycles t (Some site) (Some Equality) (Some (Simulation b q g)) bound word alike h = absurd alike
test_alike d trials cycles t (Some site) (Some (Simulation a p f)) (Some Equality) bound word alike h = absurd alike
test_alike d trials cycles t (Some site) (Some Equality) None bound word alike h = absurd alike
test_alike d trials cycles t (Some site) (Some (Simulation a p f)) None bound word alike h = absurd alike

word_alike : (d : Prepared) (m t bound word : ℕ) (trials : List Trial) (cycles : ℕ) → SameTests (slice_get trials t) (slice_get d.trials t) → IsRightWord (record d { trials = trials; cycles = cycles }) m t bound word → IsRightWord d m t bound word
word_alike d m t bound word trials cycles alike right = test_alike d trials cycles t (slice_get d.sites m) (slice_get trials t) (slice_get d.trials t) bound word alike right

-- and their words are the same
same_words : (c d : Prepared) → IsSame c d → SayTheSame c d
same_words c d same m t bound word right = word_alike d m t bound word c.trials c.cycles (same.1 t) (subst (λ (x : Prepared). IsRightWord x m t bound word) same.0 right)

pub campaigns_once : (c d : Prepared) → IsPlan c → IsPlan d → c.campaign.meta ≡ d.campaign.meta → (c ≡ record d { trials = c.trials; cycles = c.cycles }) × SayTheSame c d
campaigns_once c d one two meta = let same = plan_once c d one two meta in (same.0, same_words c d same)

-- each row is right for the other campaign
all_right : (c d : Prepared) (rows : List Entry) → SayTheSame c d → AreRight c rows → AreRight d rows
all_right c d [] same right = tt
all_right c d (e ∷ more) same right = (same e.mutation e.test e.bound e.word right.0, all_right c d more same right.1)

-- a good book's words are right for the campaign that it is well-formed for
pub right_of : (c : Prepared) (book : Book) → IsPlan c → IsWellFormed c.campaign book → IsBlankOrGood book → AreRight c (history c.campaign book).journal
right_of c book plan form (inl empty) = subst (λ (b : Book). AreRight c (history c.campaign b).journal) (sym empty) tt
right_of c book plan form (inr good) =
    let one = campaigns_once good.prepared c good.plan plan (sym good.form.meta ∙ form.meta) in
    let same : good.prepared.campaign ≡ c.campaign = ap (λ (p : Prepared). p.campaign) one.0 in
    subst (λ (a : Campaign). AreRight c (history a book).journal) same (all_right good.prepared c (history good.prepared.campaign book).journal one.1 good.words_right)

-- What it defines.

-- what the benches of two campaigns that are the same say is one word
same_said : BenchesSayOnce → (c d : Prepared) (t : ℕ) (site : Site) (a b : Parts) (p q f g : List ℕ) (word other : ℕ) → IsSame c d → c.cycles ≡ d.cycles → slice_get c.trials t ≡ Some (Simulation a p f) → slice_get d.trials t ≡ Some (Simulation b q g)
    → IsSimulated c.netlist site (record { bench = a; seed = c.word_seed; cycles = c.cycles; pass = p; fail = f }) word → IsSimulated d.netlist site (record { bench = b; seed = d.word_seed; cycles = d.cycles; pass = q; fail = g }) other → word ≡ other
same_said once c d t site a b p q f g word other same cycles at there h k =
    let tests : SameTests (Some (Simulation a p f)) (Some (Simulation b q g)) = subst (λ (y : Option Trial). SameTests (Some (Simulation a p f)) y) there (subst (λ (x : Option Trial). SameTests x (slice_get d.trials t)) at (same.1 t)) in
    let moved : IsSimulated d.netlist site (record { bench = a; seed = d.word_seed; cycles = c.cycles; pass = p; fail = f }) word = subst (λ (x : Prepared). IsSimulated x.netlist site (record { bench = a; seed = x.word_seed; cycles = c.cycles; pass = p; fail = f }) word) same.0 h in
    let first : IsSimulated d.netlist site (record { bench = a; seed = d.word_seed; cycles = d.cycles; pass = p; fail = f }) word = subst (λ (n : ℕ). IsSimulated d.netlist site (record { bench = a; seed = d.word_seed; cycles = n; pass = p; fail = f }) word) cycles moved in
    let second : IsSimulated d.netlist site (record { bench = a; seed = d.word_seed; cycles = d.cycles; pass = q; fail = f }) word = subst (λ (x : List ℕ). IsSimulated d.netlist site (record { bench = a; seed = d.word_seed; cycles = d.cycles; pass = x; fail = f }) word) tests.1 first in
    let third : IsSimulated d.netlist site (record { bench = a; seed = d.word_seed; cycles = d.cycles; pass = q; fail = g }) word = subst (λ (x : List ℕ). IsSimulated d.netlist site (record { bench = a; seed = d.word_seed; cycles = d.cycles; pass = q; fail = x }) word) tests.2 second in
    once.say d.netlist site a b d.word_seed d.cycles q g word other tests.0 third k

said_once : BenchesSayOnce → (meta : List (List ℕ)) (t : ℕ) (site : Site) (a b : ℕ) → IsSaid meta t site a → IsSaid meta t site b → a ≡ b
said_once once meta t site a b h k =
    let same : h.other.campaign.meta ≡ k.other.campaign.meta = h.same ∙ sym k.same in
    same_said once h.other k.other t site h.bench k.bench h.pass k.pass h.fail k.fail a b (plan_once h.other k.other h.plan k.plan same) (limit_once once.baselines h.other k.other h.plan k.plan same h.limit k.limit) h.at k.at h.said k.said

true_word_once : BenchesSayOnce → (c : Prepared) (t : ℕ) (site : Option Site) (trial : Option Trial) (a b : ℕ) → IsTrueWordAt c t site trial a → IsTrueWordAt c t site trial b → a ≡ b
true_word_once once c t (Some site) (Some Equality) a b (inl h) (inl k) = h.0 ∙ sym k.0
true_word_once once c t (Some site) (Some Equality) a b (inl h) (inr k) = absurd (k.1 h.1)
true_word_once once c t (Some site) (Some Equality) a b (inr h) (inl k) = absurd (h.1 k.1)
true_word_once once c t (Some site) (Some Equality) a b (inr h) (inr k) = h.0 ∙ sym k.0
true_word_once once c t (Some site) (Some (Simulation bench pass fail)) a b h k = said_once once c.campaign.meta t site a b h k
true_word_once once c t (Some site) None a b h k = absurd h
true_word_once once c t None trial a b h k = absurd h

-- the same pairs are given up
abbrev SamePairs : List Pair → List Pair → ℕ → Type 0
SamePairs pairs others m = (t : ℕ) → is_given_up pairs m t ≡ is_given_up others m t

pub word_once : BenchesSayOnce → (c : Prepared) (pairs others : List Pair) (m t a b : ℕ) → is_given_up pairs m t ≡ is_given_up others m t → IsWordOf c pairs m t a → IsWordOf c others m t b → a ≡ b
word_once once c pairs others m t a b same h k = go (is_equality (slice_get c.trials t) && is_given_up others m t) (subst (λ (x : Bool). MatchBool (is_equality (slice_get c.trials t) && x) (a ≡ 3) (IsTrueWord c m t a)) same h) k
  where
    go : (x : Bool) → MatchBool x (a ≡ 3) (IsTrueWord c m t a) → MatchBool x (b ≡ 3) (IsTrueWord c m t b) → a ≡ b
    go true h k = h ∙ sym k
    go false h k = true_word_once once c t (slice_get c.sites m) (slice_get c.trials t) a b h k

-- a script that needs a test has not ended
pub not_ended : (asked : Ask) (t : ℕ) → asked ≡ Need t → ¬ (is_ended asked ≡ true)
not_ended asked t needs ended = let is : is_ended (Need t) ≡ true = subst (λ (x : Ask). is_ended x ≡ true) needs ended in cc

answers_once : BenchesSayOnce → (c : Prepared) (pairs others : List Pair) (m : ℕ) (earlier xs ys : List Answer) → SamePairs pairs others m → AreAnswers c pairs m earlier xs → AreAnswers c others m earlier ys → xs ≡ ys
answers_once once c pairs others m earlier [] [] same h k = refl
answers_once once c pairs others m earlier [] (b ∷ ys) same h k = absurd (not_ended (ask c.campaign earlier) b.test k.0 h)
answers_once once c pairs others m earlier (a ∷ xs) [] same h k = absurd (not_ended (ask c.campaign earlier) a.test h.0 k)
answers_once once c pairs others m earlier (a ∷ xs) (b ∷ ys) same h k =
    let asked : Need a.test ≡ Need b.test = sym h.0 ∙ k.0 in
    let test : a.test ≡ b.test = cc in
    let word : a.word ≡ b.word = word_once once c pairs others m a.test a.word b.word (same a.test) h.1 (subst (λ (t : ℕ). IsWordOf c others m t b.word) (sym test) k.1) in
    let first : a ≡ b = λ i. record { test = test i; word = word i } in
    let rest : xs ≡ ys = answers_once once c pairs others m (earlier ++ a ∷ []) xs ys same h.2 (subst (λ (x : Answer). AreAnswers c others m (earlier ++ x ∷ []) ys) (sym first) k.2) in
    cc

count_all : (c : Prepared) (pairs : List Pair) (m : ℕ) (all : List (List Answer)) → AreAllAnswers c pairs m all → m + length all ≡ length c.campaign.mutations
count_all c pairs m [] h = let is : m ≡ length c.campaign.mutations = h in omega arith
count_all c pairs m (answers ∷ more) h = omega (arith, count_all c pairs (m + 1) more h.1)

all_once : BenchesSayOnce → (c : Prepared) (pairs others : List Pair) (m : ℕ) (xs ys : List (List Answer)) → ((k : ℕ) → SamePairs pairs others k) → AreAllAnswers c pairs m xs → AreAllAnswers c others m ys → xs ≡ ys
all_once once c pairs others m [] [] same h k = refl
all_once once c pairs others m [] (b ∷ ys) same h k = let is : m ≡ length c.campaign.mutations = h in absurd (omega (arith, count_all c others m (b ∷ ys) k))
all_once once c pairs others m (a ∷ xs) [] same h k = let is : m ≡ length c.campaign.mutations = k in absurd (omega (arith, count_all c pairs m (a ∷ xs) h))
all_once once c pairs others m (a ∷ xs) (b ∷ ys) same h k =
    let first : a ≡ b = answers_once once c pairs others m [] a b (same m) h.0 k.0 in
    let rest : xs ≡ ys = all_once once c pairs others (m + 1) xs ys same h.1 k.1 in
    cc

pub all_answers_once : BenchesSayOnce → (c : Prepared) (pairs : List Pair) (all others : List (List Answer)) → AreAllAnswers c pairs 0 all → AreAllAnswers c pairs 0 others → all ≡ others
all_answers_once once c pairs all others h k = all_once once c pairs pairs 0 all others (λ m t. refl) h k

-- a text depends on which pairs are given up alone
final_text_by_pairs : BenchesSayOnce → (command : Command) (c : Prepared) (pairs others : List Pair) (text other : List ℕ) → ((m t : ℕ) → is_given_up pairs m t ≡ is_given_up others m t) → IsFinalText command c pairs text → IsFinalText command c others other → text ≡ other
final_text_by_pairs once command c pairs others text other same h k = h.is ∙ ap (answers_text command c) (all_once once c pairs others 0 h.all k.all same h.defined k.defined) ∙ sym k.is

pub final_text_once : BenchesSayOnce → (command : Command) (c : Prepared) (pairs : List Pair) (text other : List ℕ) → IsFinalText command c pairs text → IsFinalText command c pairs other → text ≡ other
final_text_once once command c pairs text other h k = final_text_by_pairs once command c pairs pairs text other (λ m t. refl) h k

-- the text that the campaign defines for a finished book
ended_text : (command : Command) (c : Prepared) (book : Book) → IsPlan c → IsEnded c book → IsFinalText command c (given_up book.journal) (text_of command c book)
ended_text command c book plan ended = final_is command c book plan (right_of c book plan ended.form (inr ended.good)) ended.finished

pub finished_text_once : BenchesSayOnce → (command : Command) (c : Prepared) (book other : Book) → IsPlan c → IsEnded c book → IsEnded c other → GaveUpSame book other → text_of command c book ≡ text_of command c other
finished_text_once once command c book other plan ended done same =
    final_text_by_pairs once command c (given_up book.journal) (given_up other.journal) (text_of command c book) (text_of command c other) same (ended_text command c book plan ended) (ended_text command c other plan done)

-- and the answers by mutations are the same, so that the same is missed
finished_groups_once : BenchesSayOnce → (c : Prepared) (book other : Book) → IsPlan c → IsEnded c book → IsEnded c other → GaveUpSame book other → groups c.campaign book.journal ≡ groups c.campaign other.journal
finished_groups_once once c book other plan ended done same =
    all_once once c (given_up book.journal) (given_up other.journal) 0 (groups c.campaign book.journal) (groups c.campaign other.journal) same
    (groups_are c book plan (right_of c book plan ended.form (inr ended.good)) ended.finished) (groups_are c other plan (right_of c other plan done.form (inr done.good)) done.finished)

pub finished_misses_once : BenchesSayOnce → (command : Command) (c : Prepared) (book other : Book) → IsPlan c → IsEnded c book → IsEnded c other → GaveUpSame book other → misses_on command c book ≡ misses_on command c other
finished_misses_once once command c book other plan ended done same = ap (misses command c) (finished_groups_once once c book other plan ended done same)
