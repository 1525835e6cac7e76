-- The read tests of a mutation are a first part of what the campaign defines for it: so there are no more of them, and fewer where the
-- script needs another test.
use Rattle.mcy_top.proofs.Common.{◌≡◌, arith, ℕ, zero, suc, ◌+◌, ◌<◌, ◌≤◌, true, false, List, [], ◌∷◌, ◌++◌, length, Option, None, Some, refl, sym, ap, subst, ◌∙◌, append_assoc, if◌then◌else◌}
use Rattle.mcy_top.proofs.Common.{is_some, ⊤, append-nil, Entry, Book, Ask, Need, Answer, Goal, Want, wanted, IsGoal, answers_of, ask_on, groups_from, read_on, AreRows, ask, is_ended, read_asks}
use Rattle.mcy_top.proofs.Common.{read_next, want_follows, Prepared, IsPlan, plan_fit, AreRight, book_of, book_second, given_up, AreAllAnswers, AreAnswers, IsWordOf, Pair, wanting_from, tests_in}
use Rattle.mcy_top.proofs.Advancing.{history_second}
use Rattle.mcy_top.proofs.Finishing.{read_right}
use Rattle.mcy_top.proofs.Fresh.{new_of, wanted_first}
use Rattle.mcy_top.proofs.Once.{not_ended, word_once}
use Rattle.mcy_top.proofs.Simulating.{BenchesSayOnce}

-- each is of the test that the script asks for on those before it, and has the word of its pair
abbrev ArePart : Prepared → List Pair → ℕ → (earlier answers : List Answer) → Type 0
ArePart c pairs m earlier [] = ⊤
ArePart c pairs m earlier (a ∷ more) = (ask c.campaign earlier ≡ Need a.test) × IsWordOf c pairs m a.test a.word × ArePart c pairs m (earlier ++ a ∷ []) more

-- there are no more, and fewer where the script needs another
record IsWithin (c : Prepared) (earlier part all : List Answer) : Type 0 where
  few : length part ≤ length all
  fewer : is_ended (ask c.campaign (earlier ++ part)) ≡ false → suc (length part) ≤ length all

within : BenchesSayOnce → (c : Prepared) (pairs : List Pair) (m : ℕ) (earlier part all : List Answer) → ArePart c pairs m earlier part → AreAnswers c pairs m earlier all → IsWithin c earlier part all
within once c pairs m earlier [] [] h k = record {
  few = omega arith;
  fewer = λ needs. absurd (let ended : is_ended (ask c.campaign earlier) ≡ true = k in
      let never : true ≡ false = sym ended ∙ ap (λ (l : List Answer). is_ended (ask c.campaign l)) (sym (append-nil earlier)) ∙ needs in cc);
}
within once c pairs m earlier [] (b ∷ all) h k = record { few = omega arith; fewer = λ needs. omega arith }
within once c pairs m earlier (a ∷ part) [] h k = absurd (not_ended (ask c.campaign earlier) a.test h.0 k)
within once c pairs m earlier (a ∷ part) (b ∷ all) h k =
    let asked : Need a.test ≡ Need b.test = sym h.0 ∙ k.0 in
    let test : a.test ≡ b.test = cc in
    let word : a.word ≡ b.word = word_once once c pairs pairs m a.test a.word b.word refl h.1 (subst (λ (t : ℕ). IsWordOf c pairs m t b.word) (sym test) k.1) in
    let first : a ≡ b = λ i. record { test = test i; word = word i } in
    let rest : IsWithin c (earlier ++ a ∷ []) part all = within once c pairs m (earlier ++ a ∷ []) part all h.2 (subst (λ (x : Answer). AreAnswers c pairs m (earlier ++ x ∷ []) all) (sym first) k.2) in
    record {
      few = omega (arith, rest.few);
      fewer = λ needs. (let more = rest.fewer (ap (λ (l : List Answer). is_ended (ask c.campaign l)) (append_assoc earlier (a ∷ []) part) ∙ needs) in omega (arith, more));
    }

module _ (once : BenchesSayOnce) (c : Prepared) (goal : Goal) (rows : List Entry) (plan : IsPlan c) (form : AreRows c.campaign [] rows) (right : AreRight c rows) (aim : IsGoal goal) (never : goal.retry ≡ 0) where
  -- the read tests are
  read_part : (m : ℕ) (done rest : List Answer) → read_on c.campaign m rows ≡ done ++ rest → ArePart c (given_up rows) m done rest
  read_part m done [] is = tt
  read_part m done (a ∷ rest) is = (
    read_next c.campaign (answers_of m rows) done a rest (plan_fit c plan) is,
    read_right c (book_of c rows) m (subst (λ (b : Book). AreRight c b.journal) (sym (history_second c (book_of c rows) (book_second c rows plan))) right) done a rest is,
    read_part m (done ++ a ∷ []) rest (is ∙ sym (append_assoc done (a ∷ []) rest)),
  )

  -- where a test is wanted, the script needs one
  needs_one : (m : ℕ) (want : Want) → m < length c.campaign.mutations → wanted c.campaign rows m goal ≡ Some want → is_ended (ask c.campaign (read_on c.campaign m rows)) ≡ false
  needs_one m want below is =
      let follows = want_follows c.campaign rows m goal want (plan_fit c plan) aim form below is in
      let first = wanted_first c.campaign rows m goal want never is in
      let new = new_of c.campaign rows m want.test want.bound (omega (arith, follows.0, (plan_fit c plan).few_tests)) first.0 follows.1 in
      let asked : ask_on c.campaign m rows ≡ Need want.test = new.asked in
      ap (λ (a : Ask). is_ended a) (read_asks c.campaign (answers_of m rows) (plan_fit c plan) ∙ asked)

  one_mutation : (m : ℕ) (all : List Answer) → m < length c.campaign.mutations → AreAnswers c (given_up rows) m [] all → length (read_on c.campaign m rows) + (if is_some (wanted c.campaign rows m goal) then 1 else 0) ≤ length all
  one_mutation m all below defined = by (wanted c.campaign rows m goal) refl
    where
      is : IsWithin c [] (read_on c.campaign m rows) all
      is = within once c (given_up rows) m [] (read_on c.campaign m rows) all (read_part m [] (read_on c.campaign m rows) refl) defined

      by : (o : Option Want) → wanted c.campaign rows m goal ≡ o → length (read_on c.campaign m rows) + (if is_some o then 1 else 0) ≤ length all
      by None at = omega (arith, is.few)
      by (Some want) at = let more = is.fewer (needs_one m want below at) in omega (arith, more)

  -- all mutations from m on
  pub all_mutations : (m n : ℕ) (all : List (List Answer)) → m + n ≡ length c.campaign.mutations → AreAllAnswers c (given_up rows) m all → tests_in (groups_from c.campaign m n rows) + wanting_from c goal rows m n ≤ tests_in all
  all_mutations m zero all whole defined = omega arith
  all_mutations m (suc n) [] whole defined = let is : m ≡ length c.campaign.mutations = defined in absurd (omega (arith, is, whole))
  all_mutations m (suc n) (answers ∷ all) whole defined =
      let here = one_mutation m answers (omega (arith, whole)) defined.0 in
      let rest = all_mutations (m + 1) n all (omega (arith, whole)) defined.1 in
      omega (arith, here, rest)
