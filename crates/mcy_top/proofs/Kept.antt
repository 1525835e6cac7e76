-- The work of a command that leaves the book as it is, or begins it, put together.
use Rattle.mcy_top.proofs.Common.{◌≡◌, ◌≢◌, ◌⊎◌, inl, inr, arith, ℕ, ◌≤◌, Bool, List, [], ◌∷◌, length, refl, sym, ap, subst, ◌∙◌, Option, None, Some, Result, Ok, Err, OnErr, IsErrOf, Entry, Book}
use Rattle.mcy_top.proofs.Common.{KeepError, KeepFault, KeepMemory, blank, IsBlank, IsSecond, Keeps, LeavesEither, LeavesNothingNew, LeavesOnly, groups, history, IsWellFormed, has_history, Command}
use Rattle.mcy_top.proofs.Common.{Init, Run, Listing, Status, Source, Baseline, Demo, Prepared, Ending, Written, Refused, NoMemory, BookRefusal, RefusedNone, RefusedBegun, RefusedBook}
use Rattle.mcy_top.proofs.Common.{RefusedMutation, Outcome, Done, NoCampaign, AlreadyBegun, BookBad, KeeperFault, WriteFault, Memory, NoMutation, slots_of, stop_of, OnlyReads, Runs, IsPlan}
use Rattle.mcy_top.proofs.Common.{IsBlankOrGood, IsGood, IsPrefix, IsWithinOne, Course, IsNear, opened, book_of, IsWithin, Goal, answers_text, init_text, text_of, misses, misses_on, book_outcome}
use Rattle.mcy_top.proofs.Common.{RefusesBook, done_outcome, ended_outcome, failed_outcome, Delivers, Answers, Carried, DidAll, GainsWanted, Grew, StartsFew, Takes, Work, Wrote, IsInOrder}
use Rattle.mcy_top.proofs.Common.{either_books, only_books, book_second, plan_fit, plan_meta}
use Rattle.mcy_top.specs.declared.refusal.BookRefusal.TheVariants.{Memory as RefusedMemory}
use Rattle.mcy_top.proofs.Gaining.{gains_none, gains_opened}
use Rattle.mcy_top.proofs.InOrder.{none_in_order}
use Rattle.mcy_top.proofs.Advancing.{good_rows, history_second, opened_form, within_itself}
use Rattle.mcy_top.proofs.Doing.{all_answers, text_wrote}
use Rattle.mcy_top.proofs.Completing.{form_meta}

-- a begun book has meta
pub plan_begun : (c : Prepared) → IsPlan c → c.campaign.meta ≢ []
plan_begun c plan none = let made = sym none ∙ plan_meta c plan in cc

-- a crash leaves the sure book and nothing else
pub grew_exact : (leaves : Option Book → Type 0) (command : Command) (aim : Goal) (c : Prepared) (loaded sure : Book) (changes : List Book) (outcome : Outcome) → Course c loaded changes sure → LeavesOnly leaves sure → IsPrefix loaded sure
    → (IsBlankOrGood loaded → IsGood sure ⊎ (IsBlank sure × IsBlank loaded)) → (OnlyReads command → sure ≡ loaded) → (¬ Runs command → sure.journal ≡ loaded.journal) → IsWithin (stop_of command) (length loaded.journal) (length sure.journal) → (Carried outcome → sure.meta ≢ []) → GainsWanted c aim loaded sure
    → (Runs command → IsInOrder c aim (slots_of command) loaded sure) → (Carried outcome → Runs command → IsSecond sure) → Grew leaves command aim c loaded sure outcome
grew_exact leaves command aim c loaded sure changes outcome course only grown good reads idle within meta wants order second = record {
  grown = grown;
  within_one = only_books leaves (IsWithinOne sure) sure only (within_itself sure);
  good = λ was. only_books leaves (λ b. IsGood b ⊎ (IsBlank b × IsBlank loaded)) sure only (good was);
  reads = λ h. subst (λ (b : Book). LeavesOnly leaves b) (reads h) only;
  no_entry = λ h. only_books leaves (λ b. b.journal ≡ loaded.journal) sure only (idle h);
  gained = within;
  wanted_only = wants;
  order = λ runs. only_books leaves (IsInOrder c aim (slots_of command) loaded) sure only (order runs);
  stops = only_books leaves (λ b. IsWithin (stop_of command) (length loaded.journal) (length b.journal)) sure only within;
  exact = λ h. only;
  is_begun = meta;
  second = second;
  changes = changes;
  course = course;
  near = only_books leaves (IsNear c sure) sure only (inl refl);
}

pub within_same : (stop : Option ℕ) (n : ℕ) → IsWithin stop n n
within_same None n = tt
within_same (Some stop) n = omega arith

-- no test was started
pub few_kept : (stop : Option ℕ) (slots n : ℕ) → 1 ≤ slots → StartsFew stop slots n n
few_kept None slots n some = tt
few_kept (Some stop) slots n some = omega (arith, some)

-- the loaded book stays
pub work_kept : (holds : Book → Type 0) (leaves : Option Book → Type 0) (written written' : Option (List ℕ)) (n : ℕ) (command : Command) (aim : Goal) (c : Prepared) (loaded : Book) (outcome : Outcome) → Keeps holds leaves loaded
    → Wrote written written' (text_of command c loaded) outcome → Answers command aim c loaded loaded outcome → (Carried outcome → loaded.meta ≢ []) → (Carried outcome → Runs command → IsSecond loaded) → Work leaves written written' n n command aim c loaded outcome
work_kept holds leaves written written' n command aim c loaded outcome kept wrote answer meta second = record {
  sure = loaded;
  book = grew_exact leaves command aim c loaded loaded [] outcome refl kept.crash (within_itself loaded).prefix stays (λ h. refl) (λ h. refl) (within_same (stop_of command) (length loaded.journal)) meta (gains_none c aim loaded)
      (λ runs. none_in_order c aim (slots_of command) loaded loaded refl) second;
  steps = record { least = omega arith; bound = omega arith; wants = omega arith; stops = few_kept (stop_of command) (slots_of command) n; equal = λ is. refl; idle = λ h. refl };
  text = wrote;
  answer = answer;
}
  where
    stays : IsBlankOrGood loaded → IsGood loaded ⊎ (IsBlank loaded × IsBlank loaded)
    stays (inl is) = inr (is, is)
    stays (inr good) = inl good

-- the loaded book is refused
pub work_refused : (holds : Book → Type 0) (leaves : Option Book → Type 0) (written : Option (List ℕ)) (n : ℕ) (command : Command) (aim : Goal) (c : Prepared) (loaded : Book) (refusal : BookRefusal) → Keeps holds leaves loaded → RefusesBook command aim c loaded refusal → Work leaves written written n n command aim c loaded (book_outcome refusal)
work_refused holds leaves written n command aim c loaded RefusedNone kept why = work_kept holds leaves written written n command aim c loaded NoCampaign kept refl why (λ h. absurd h) (λ h. absurd h)
work_refused holds leaves written n command aim c loaded RefusedBegun kept why = work_kept holds leaves written written n command aim c loaded AlreadyBegun kept refl why (λ h. absurd h) (λ h. absurd h)
work_refused holds leaves written n command aim c loaded (RefusedBook error) kept why = work_kept holds leaves written written n command aim c loaded (BookBad error) kept refl why (λ h. absurd h) (λ h. absurd h)
work_refused holds leaves written n command aim c loaded (RefusedMutation number) kept why = work_kept holds leaves written written n command aim c loaded (NoMutation number) kept refl why (λ h. absurd h) (λ h. absurd h)
work_refused holds leaves written n command aim c loaded RefusedMemory kept why = work_kept holds leaves written written n command aim c loaded Memory kept refl tt (λ h. absurd h) (λ h. absurd h)

-- what holds of a command that only reads the book
reads_takes : (command : Command) (aim : Goal) (c : Prepared) (book : Book) → OnlyReads command → IsWellFormed c.campaign book → Takes command aim c book
reads_takes Init aim c book reads form = absurd reads
reads_takes (Run jobs stop retry) aim c book reads form = absurd reads
reads_takes Listing aim c book reads form = form
reads_takes (Status strict) aim c book reads form = form
reads_takes Source aim c book reads form = form
reads_takes Baseline aim c book reads form = absurd reads
reads_takes (Demo seed cells) aim c book reads form = absurd reads

pub reads_not_runs : (command : Command) → OnlyReads command → ¬ Runs command
reads_not_runs Init reads runs = runs
reads_not_runs (Run jobs stop retry) reads runs = reads
reads_not_runs Listing reads runs = runs
reads_not_runs (Status strict) reads runs = runs
reads_not_runs Source reads runs = runs
reads_not_runs Baseline reads runs = runs
reads_not_runs (Demo seed cells) reads runs = runs

pub reads_not_init : (command : Command) → OnlyReads command → command ≢ Init
reads_not_init Init reads is = reads
reads_not_init (Run jobs stop retry) reads is = reads
reads_not_init Listing reads is = cc
reads_not_init (Status strict) reads is = cc
reads_not_init Source reads is = cc
reads_not_init Baseline reads is = reads
reads_not_init (Demo seed cells) reads is = reads

-- the text of a command by the read tests of the book alone, which are those of its history
text_by_groups : (command : Command) (c : Prepared) (book other : Book) → groups c.campaign other.journal ≡ groups c.campaign book.journal → text_of command c other ≡ text_of command c book
text_by_groups command c book other same = ap (answers_text command c) same

pub text_of_history : (command : Command) (c : Prepared) (book : Book) → IsPlan c → IsWellFormed c.campaign book → text_of command c book ≡ text_of command c (book_of c (history c.campaign book).journal)
text_of_history command c book plan form = sym (text_by_groups command c book (book_of c (history c.campaign book).journal) (has_history c.campaign book (plan_fit c plan) form).groups)

-- and so is what it misses
pub misses_history : (command : Command) (c : Prepared) (book : Book) (rows : List Entry) → IsPlan c → IsWellFormed c.campaign book → rows ≡ (history c.campaign book).journal → misses_on command c book ≡ misses command c (groups c.campaign rows)
misses_history command c book rows plan form are = ap (misses command c) (sym (ap (groups c.campaign) are ∙ (has_history c.campaign book (plan_fit c plan) form).groups))

-- what a command tells that only reads the book
told_all : (command : Command) (aim : Goal) (c : Prepared) (loaded : Book) → OnlyReads command → IsWellFormed c.campaign loaded → DidAll command aim c loaded loaded
told_all command aim c loaded reads form = record { takes = reads_takes command aim c loaded reads form; form = form; whole = λ runs. absurd (reads_not_runs command reads runs) }

pub work_told : (holds : Book → Type 0) (leaves : Option Book → Type 0) (written written' : Option (List ℕ)) (n : ℕ) (command : Command) (aim : Goal) (c : Prepared) (loaded : Book) (missed : Bool) (ending : Ending) → OnlyReads command → IsPlan c → IsWellFormed c.campaign loaded → Keeps holds leaves loaded
    → misses_on command c loaded ≡ missed → Delivers written written' (text_of command c loaded) ending → Work leaves written written' n n command aim c loaded (ended_outcome (done_outcome missed) ending)
work_told holds leaves written written' n command aim c loaded missed Written reads plan form kept is wrote = work_kept holds leaves written written' n command aim c loaded (done_outcome missed) kept (text_wrote written written' (text_of command c loaded) missed wrote)
    (all_answers command aim c loaded loaded missed is (told_all command aim c loaded reads form)) (λ h. form_meta c loaded plan form) (λ h runs. absurd (reads_not_runs command reads runs))
work_told holds leaves written written' n command aim c loaded missed Refused reads plan form kept is wrote = work_kept holds leaves written written' n command aim c loaded WriteFault kept wrote (reads_takes command aim c loaded reads form) (λ h. absurd h) (λ h. absurd h)
work_told holds leaves written written' n command aim c loaded missed NoMemory reads plan form kept is wrote = work_kept holds leaves written written' n command aim c loaded Memory kept wrote tt (λ h. absurd h) (λ h. absurd h)

-- the book was begun, and nothing more
pub opened_good : (c : Prepared) → IsPlan c → IsGood (opened c)
opened_good c plan = good_rows c [] plan (opened_form c plan) tt

work_begun : (holds : Book → Type 0) (leaves : Option Book → Type 0) (written written' : Option (List ℕ)) (n : ℕ) (aim : Goal) (c : Prepared) (outcome : Outcome) → IsPlan c → Keeps holds leaves (opened c)
    → Wrote written written' (init_text c) outcome → Answers Init aim c blank (opened c) outcome → Work leaves written written' n n Init aim c blank outcome
work_begun holds leaves written written' n aim c outcome plan kept wrote answer = record {
  sure = opened c;
  book = grew_exact leaves Init aim c blank (opened c) (opened c ∷ []) outcome (inl (refl, refl), refl) kept.crash (inl refl) (λ was. inl (opened_good c plan)) (λ h. absurd h) (λ h. refl) tt (λ h. plan_begun c plan) (gains_opened c aim) (λ runs. absurd runs) (λ h runs. absurd runs);
  steps = record { least = omega arith; bound = omega arith; wants = omega arith; stops = λ some. tt; equal = λ is. refl; idle = λ h. refl };
  text = wrote;
  answer = answer;
}

pub work_init : (holds : Book → Type 0) (leaves : Option Book → Type 0) (written written' : Option (List ℕ)) (n : ℕ) (aim : Goal) (c : Prepared) (ending : Ending) → IsPlan c → Keeps holds leaves (opened c)
    → Delivers written written' (init_text c) ending → Work leaves written written' n n Init aim c blank (ended_outcome Done ending)
work_init holds leaves written written' n aim c Written plan kept wrote = work_begun holds leaves written written' n aim c Done plan kept wrote (record { takes = refl; form = opened_form c plan; whole = λ h. absurd h }, refl)
work_init holds leaves written written' n aim c Refused plan kept wrote = work_begun holds leaves written written' n aim c WriteFault plan kept wrote refl
work_init holds leaves written written' n aim c NoMemory plan kept wrote = work_begun holds leaves written written' n aim c Memory plan kept wrote tt

-- what a begin leaves that failed
pub begin_left : (holds : Book → Type 0) (leaves leaves' : Option Book → Type 0) (result : Result (Unit {0}) KeepError) (c : Prepared) → Keeps holds leaves blank
    → (IsErrOf result KeepFault → (was : Book) → holds was → LeavesEither leaves' was (opened c)) → (IsErrOf result KeepMemory → LeavesNothingNew leaves leaves') → OnErr result (LeavesEither leaves' blank (opened c))
begin_left holds leaves leaves' (Ok done) c kept either refused = tt
begin_left holds leaves leaves' (Err KeepFault) c kept either refused = either refl blank kept.told
begin_left holds leaves leaves' (Err KeepMemory) c kept either refused = λ left is. inl (kept.crash.nothing_else left (refused refl left is))

-- the history of the book that has just begun has no rows
pub opened_rows : (c : Prepared) → IsPlan c → (history c.campaign (opened c)).journal ≡ []
opened_rows c plan = ap (λ (b : Book). b.journal) (history_second c (opened c) (book_second c [] plan))

-- the begin was cut short
grew_unopened : (leaves : Option Book → Type 0) (command : Command) (aim : Goal) (c : Prepared) (outcome : Outcome) → IsPlan c → ¬ OnlyReads command → ¬ Carried outcome → LeavesEither leaves blank (opened c) → Grew leaves command aim c blank blank outcome
grew_unopened leaves command aim c outcome plan writes not either = record {
  grown = inl refl;
  within_one = either_books leaves (IsWithinOne blank) blank (opened c) either (within_itself blank) (record { prefix = inl refl; one = omega arith });
  good = λ was. either_books leaves (λ b. IsGood b ⊎ (IsBlank b × IsBlank blank)) blank (opened c) either (inr (refl, refl)) (inl (opened_good c plan));
  reads = λ h. absurd (writes h);
  no_entry = λ h. either_books leaves (λ b. b.journal ≡ []) blank (opened c) either refl refl;
  gained = within_same (stop_of command) 0;
  wanted_only = gains_none c aim blank;
  order = λ runs. either_books leaves (IsInOrder c aim (slots_of command) blank) blank (opened c) either (none_in_order c aim (slots_of command) blank blank refl)
      (none_in_order c aim (slots_of command) blank (opened c) (opened_rows c plan));
  stops = either_books leaves (λ b. IsWithin (stop_of command) 0 (length b.journal)) blank (opened c) either (within_same (stop_of command) 0) (within_same (stop_of command) 0);
  exact = λ h. absurd (not h);
  is_begun = λ h. absurd (not h);
  second = λ h. absurd (not h);
  changes = [];
  course = refl;
  near = either_books leaves (IsNear c blank) blank (opened c) either (inl refl) (inr (inl (refl, refl)));
}

pub work_unopened : (leaves : Option Book → Type 0) (written : Option (List ℕ)) (n : ℕ) (command : Command) (aim : Goal) (c : Prepared) (e : KeepError) → IsPlan c → ¬ OnlyReads command → Takes command aim c blank → LeavesEither leaves blank (opened c) → Work leaves written written n n command aim c blank (failed_outcome e)
work_unopened leaves written n command aim c KeepFault plan writes takes either = record {
  sure = blank;
  book = grew_unopened leaves command aim c KeeperFault plan writes (λ h. h) either;
  steps = record { least = omega arith; bound = omega arith; wants = omega arith; stops = few_kept (stop_of command) (slots_of command) n; equal = λ is. absurd is; idle = λ h. refl };
  text = refl;
  answer = takes;
}
work_unopened leaves written n command aim c KeepMemory plan writes takes either = record {
  sure = blank;
  book = grew_unopened leaves command aim c Memory plan writes (λ h. h) either;
  steps = record { least = omega arith; bound = omega arith; wants = omega arith; stops = few_kept (stop_of command) (slots_of command) n; equal = λ is. absurd is; idle = λ h. refl };
  text = refl;
  answer = tt;
}
