-- What a command aims at is a goal: its retry is under a limit, or it asks nothing again. Its slots are 1 to 64. And what is no demo works
-- on the book.
use Rattle.mcy_top.proofs.Common.{◌≡◌, ◌⊎◌, inl, inr, arith, ℕ, ◌%◌, Bool, true, List, [], Option, None, Some, refl, sym, ap, subst, ◌∙◌, option_map, is_in, IsGoal, asked_of, command_of, mutations_of}
use Rattle.mcy_top.proofs.Common.{Command, Init, Run, Listing, Status, Source, Baseline, Demo, jobs_are_few, retry_is_limit, aim_of, goal_of, retry_of, run_goal, AimsAtAll, AsksBaseline, AsksDemo}
use Rattle.mcy_top.proofs.Common.{AsksNoDemo, HasSlots, OnBook, OnlyReads, Runs}
use Rattle.command_words.specs.declared.asked.Asked.{Asked}

-- The command and the mutations that the words give.

pub given_is : (words : List (List ℕ)) (asked : Asked) → asked_of words ≡ Some asked → command_of words ≡ Some asked.command
given_is words asked is = ap (option_map (λ (given : Asked). given.command)) is

pub numbers_are : (words : List (List ℕ)) (asked : Asked) → asked_of words ≡ Some asked → mutations_of words ≡ asked.mutations
numbers_are words asked is = rw (is, mutations_of) refl

-- Where none is named, all are aimed at.
pub in_all : (retry : Option ℕ) (m : ℕ) → is_in (run_goal retry []) m ≡ true
in_all retry m = let rest : m % 1 ≡ 0 = omega arith in rw rest refl

pub aims_at_all : (words : List (List ℕ)) (command : Command) → mutations_of words ≡ [] → AimsAtAll (aim_of words command)
aims_at_all words command none m = subst (λ (numbers : List ℕ). is_in (goal_of command numbers) m ≡ true) (sym none) (in_all (retry_of command) m)

-- a command with such a number, or with none, aims at a goal
pub none_again : (numbers : List ℕ) → IsGoal (run_goal None numbers)
none_again numbers = record { some = omega arith; part = omega arith; retry = inl refl }

-- the words of a command do
pub goal_is : (words : List (List ℕ)) (command : Command) (numbers : List ℕ) → command_of words ≡ Some command → IsGoal (goal_of command numbers)
goal_is words Init numbers is = none_again numbers
goal_is words (Run jobs stop None) numbers is = none_again numbers
goal_is words (Run jobs stop (Some limit)) numbers is = record { some = omega arith; part = omega arith; retry = inr (retry_is_limit words jobs stop limit is) }
goal_is words Listing numbers is = none_again numbers
goal_is words (Status strict) numbers is = none_again numbers
goal_is words Source numbers is = none_again numbers
goal_is words Baseline numbers is = none_again numbers
goal_is words (Demo seed cells) numbers is = none_again numbers

-- and have 1 to 64 slots
pub slots_are : (words : List (List ℕ)) (command : Command) → command_of words ≡ Some command → HasSlots command
slots_are words Init is = tt
slots_are words (Run jobs stop retry) is = jobs_are_few words jobs stop retry is
slots_are words Listing is = tt
slots_are words (Status strict) is = tt
slots_are words Source is = tt
slots_are words Baseline is = tt
slots_are words (Demo seed cells) is = tt

-- what is no demo, and does not ask for the benches' words of the design, works on the book
pub works_on : (command : Command) → ((seed cells : ℕ) → command ≡ Demo seed cells → ⊥) → (command ≡ Baseline → ⊥) → OnBook command
works_on Init none other = tt
works_on (Run jobs stop retry) none other = tt
works_on Listing none other = tt
works_on (Status strict) none other = tt
works_on Source none other = tt
works_on Baseline none other = other refl
works_on (Demo seed cells) none other = none seed cells refl

-- and of the others these only read it
pub tells_only : (command : Command) → OnBook command → ((command ≡ Listing) ⊎ (((strict : Bool) × (command ≡ Status strict)) ⊎ ((command ≡ Source) ⊎ ((command ≡ Baseline) ⊎ ((seed : ℕ) × (cells : ℕ) × (command ≡ Demo seed cells)))))) → OnlyReads command
tells_only command on (inl is) = subst OnlyReads (sym is) tt
tells_only command on (inr (inl status)) = subst OnlyReads (sym status.1) tt
tells_only command on (inr (inr (inl is))) = subst OnlyReads (sym is) tt
tells_only command on (inr (inr (inr (inl is)))) = absurd (subst OnBook is on)
tells_only command on (inr (inr (inr (inr demo)))) = absurd (subst OnBook demo.2 on)

-- words ask for a demo or for none
pub asks_none : (words : List (List ℕ)) (command : Command) → command_of words ≡ Some command → ((seed cells : ℕ) → command ≡ Demo seed cells → ⊥) → AsksNoDemo words
asks_none words command asked none seed cells demo = none seed cells (let is : Some command ≡ Some (Demo seed cells) = sym asked ∙ demo in cc)

-- and for one demo
pub demo_is : (words : List (List ℕ)) (a b seed cells : ℕ) (P : ℕ → ℕ → Type 0) → command_of words ≡ Some (Demo a b) → AsksDemo words seed cells → P a b → P seed cells
demo_is words a b seed cells P asked demo h =
    let is : Some (Demo a b) ≡ Some (Demo seed cells) = sym asked ∙ demo in
    let first : a ≡ seed = cc in
    let second : b ≡ cells = cc in
    subst (λ (x : ℕ). P x cells) first (subst (λ (y : ℕ). P a y) second h)

-- words that ask for the benches' words ask for no demo, and the other way round
pub asks_no_baseline : (words : List (List ℕ)) (command : Command) → command_of words ≡ Some command → (command ≡ Baseline → ⊥) → ¬ AsksBaseline words
asks_no_baseline words command asked none other = none (let is : Some command ≡ Some Baseline = sym asked ∙ other in cc)

pub demo_no_baseline : (words : List (List ℕ)) (seed cells : ℕ) → AsksDemo words seed cells → ¬ AsksBaseline words
demo_no_baseline words seed cells demo baseline = let never : Some (Demo seed cells) ≡ Some Baseline = sym demo ∙ baseline in cc

-- a run runs tests
pub run_runs : (command : Command) (jobs : ℕ) (stop retry : Option ℕ) → command ≡ Run jobs stop retry → Runs command
run_runs command jobs stop retry is = subst Runs (sym is) tt

-- and what holds of it under any number of that option holds of the command
pub run_so : (command : Command) (jobs : ℕ) (stop retry : Option ℕ) (P : Command → Type 0) → command ≡ Run jobs stop retry → ((again : Option ℕ) → P (Run jobs stop again)) → P command
run_so command jobs stop retry P is all = subst P (sym is) (all retry)
