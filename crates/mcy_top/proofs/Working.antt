-- The work of a run, put together, and how the work of a command ends.
use Rattle.mcy_top.proofs.Common.{◌≡◌, ◌≢◌, ◌⊎◌, inl, inr, arith, ℕ, ◌+◌, ◌≤◌, List, [], ◌∷◌, ◌++◌, length, refl, sym, ap, subst, Option, None, Some, eqb_tells, Rose, Entry, Book, KeepError}
use Rattle.mcy_top.proofs.Common.{KeepFault, KeepMemory, blank, IsBlank, Keeps, with_entry, BookError, Meta, Mutation, Row, Stray, NoBookMemory, groups, history, IsFinished, IsWellFormed, status_text}
use Rattle.mcy_top.proofs.Common.{Command, Init, Run, Prepared, Ending, Written, Refused, NoMemory, Outcome, Done, Unfinished, NoCampaign, AlreadyBegun, BookBad, KeeperFault, WriteFault, Memory}
use Rattle.mcy_top.proofs.Common.{BaselineBad, RequirementMissed, NoMutation, AimsAtAll, Runs, IsPlan, AreRight, IsBlankOrGood, IsGood, IsNextRow, IsWithinOne, IsNear, opened, book_of, AreWanted}
use Rattle.mcy_top.proofs.Common.{Broke, IsWithin, Ran, Reached, WantsNone, Goal, wanted, IsGoal, unwanted_ended, LeavesBooks, falls_short, HasNamed, IsBookBad, ended_outcome, failed_outcome}
use Rattle.mcy_top.proofs.Common.{run_outcome, Delivers, Ends, wanting, Answers, AreEnded, Carried, DidAll, GainsWanted, Grew, IsCounted, StartsFew, Work, Wrote, IsInOrder, weaker_books, book_second}
use Rattle.mcy_top.proofs.Common.{length_more}
use Rattle.mcy_top.proofs.Gaining.{gains_ran}
use Rattle.mcy_top.proofs.Prefixes.{prefix_on}
use Rattle.mcy_top.proofs.InOrder.{order_from}
use Rattle.mcy_top.proofs.Advancing.{good_more, good_rows, history_second, opened_form, within_itself, within_more}
use Rattle.mcy_top.proofs.Counting.{counted_none, none_counted}
use Rattle.mcy_top.proofs.Doing.{all_answers, done_carried, text_wrote}
use Rattle.mcy_top.proofs.Finishing.{final_is}
use Rattle.mcy_top.proofs.Once.{right_of}
use Rattle.mcy_top.proofs.Kept.{plan_begun, grew_exact, opened_good, opened_rows}

-- a row was to be added still
few_broke : (stop : Option ℕ) (slots start rows before now : ℕ) → IsWithin stop start (rows + 1) → now + start ≤ before + rows + slots → StartsFew stop slots before now
few_broke None slots start rows before now within bound = tt
few_broke (Some stop) slots start rows before now within bound = omega (arith, within, bound)

within_less : (stop : Option ℕ) (before now : ℕ) → IsWithin stop before (now + 1) → IsWithin stop before now
within_less None before now within = tt
within_less (Some stop) before now within = omega (arith, within)

-- the words of a book of the second format, and those of its history
right_start : (c : Prepared) (rows : List Entry) → IsPlan c → IsWellFormed c.campaign (book_of c rows) → IsBlankOrGood (book_of c rows) → AreRight c rows
right_start c rows plan form was = subst (λ (b : Book). AreRight c b.journal) (history_second c (book_of c rows) (book_second c rows plan)) (right_of c (book_of c rows) plan form was)

right_rows : (c : Prepared) (rows : List Entry) → IsPlan c → AreRight c rows → AreRight c (history c.campaign (book_of c rows)).journal
right_rows c rows plan all = subst (λ (b : Book). AreRight c b.journal) (sym (history_second c (book_of c rows) (book_second c rows plan))) all

-- a run that want of memory or an error of the keeper ended
grew_broke : (leaves : Option Book → Type 0) (jobs : ℕ) (stop retry : Option ℕ) (aim : Goal) (c : Prepared) (start : List Entry) (before now : ℕ) (outcome : Outcome) → IsPlan c → IsWellFormed c.campaign (book_of c start) → (b : Broke leaves c aim jobs stop start before now)
    → LeavesBooks leaves (IsInOrder c aim jobs (book_of c start)) → ¬ Carried outcome → Grew leaves (Run jobs stop retry) aim c (book_of c start) (book_of c b.rows) outcome
grew_broke leaves jobs stop retry aim c start before now outcome plan form b order not = record {
  grown = prefix_on (book_of c start) (book_of c b.rows) b.ran.goes_on;
  within_one = weaker_books leaves Next (IsWithinOne sure) within b.left;
  good = λ was. weaker_books leaves Next (λ x. IsGood x ⊎ (IsBlank x × IsBlank (book_of c start))) (λ other next. inl (good (b.ran.words_right (right_start c start plan form was)) other next)) b.left;
  reads = λ h. absurd h;
  no_entry = λ h. absurd (h tt);
  gained = within_less stop (length start) (length b.rows) b.within;
  wanted_only = gains_ran c aim start b.rows plan b.ran;
  order = λ runs. order;
  stops = weaker_books leaves Next (λ x. IsWithin stop (length start) (length x.journal)) stops b.left;
  exact = λ h. absurd (not h);
  is_begun = λ h. absurd (not h);
  second = λ h. absurd (not h);
  changes = b.ran.changes;
  course = b.ran.course;
  near = weaker_books leaves Next (IsNear c sure) near b.left;
}
  where
    sure : Book
    sure = book_of c b.rows

    Next : Book → Type 0
    Next other = (other ≡ sure) ⊎ ((e : Entry) × IsNextRow c sure e × (other ≡ with_entry sure e))

    within : (other : Book) → Next other → IsWithinOne sure other
    within other (inl same) = subst (λ (x : Book). IsWithinOne sure x) (sym same) (within_itself sure)
    within other (inr (e, next, more)) = subst (λ (x : Book). IsWithinOne sure x) (sym more) (within_more sure e)

    good : AreRight c b.rows → (other : Book) → Next other → IsGood other
    good right other (inl same) = subst IsGood (sym same) (good_rows c b.rows plan b.ran.form right)
    good right other (inr (e, next, more)) =
        subst IsGood (sym more) (good_more c sure e plan b.ran.form next (right_rows c b.rows plan right))

    stops : (other : Book) → Next other → IsWithin stop (length start) (length other.journal)
    stops other (inl same) = subst (λ (x : Book). IsWithin stop (length start) (length x.journal)) (sym same) (within_less stop (length start) (length b.rows) b.within)
    stops other (inr (e, next, more)) =
        subst (λ (x : Book). IsWithin stop (length start) (length x.journal)) (sym more) (subst (λ (n : ℕ). IsWithin stop (length start) n) (sym (length_more b.rows e)) b.within)

    near : (other : Book) → Next other → IsNear c sure other
    near other (inl same) = inl same
    near other (inr (e, next, more)) = inr (inr (inl (record { form = b.ran.form; row = e; may = next; is = more })))

pub work_broke : (leaves : Option Book → Type 0) (written written' : Option (List ℕ)) (before now : ℕ) (jobs : ℕ) (stop retry : Option ℕ) (aim : Goal) (c : Prepared) (start : List Entry) (e : KeepError) → IsPlan c → IsWellFormed c.campaign (book_of c start) → HasNamed aim c
    → (b : Broke leaves c aim jobs stop start before now) → LeavesBooks leaves (IsInOrder c aim jobs (book_of c start)) → now + length start ≤ before + length b.rows + wanting c aim b.rows → written' ≡ written → Work leaves written written' before now (Run jobs stop retry) aim c (book_of c start) (failed_outcome e)
work_broke leaves written written' before now jobs stop retry aim c start KeepFault plan form named b order wants same = record {
  sure = book_of c b.rows;
  book = grew_broke leaves jobs stop retry aim c start before now KeeperFault plan form b order (λ h. h);
  steps = record { least = b.least; bound = b.steps; wants = wants; stops = λ some. few_broke stop jobs (length start) (length b.rows) before now b.within b.steps; equal = λ is. absurd is; idle = λ h. absurd (h tt) };
  text = same;
  answer = (inr form, named);
}
work_broke leaves written written' before now jobs stop retry aim c start KeepMemory plan form named b order wants same = record {
  sure = book_of c b.rows;
  book = grew_broke leaves jobs stop retry aim c start before now Memory plan form b order (λ h. h);
  steps = record { least = b.least; bound = b.steps; wants = wants; stops = λ some. few_broke stop jobs (length start) (length b.rows) before now b.within b.steps; equal = λ is. absurd is; idle = λ h. absurd (h tt) };
  text = same;
  answer = tt;
}

-- the run went on until it was to end
pub record Went (c : Prepared) (aim : Goal) (stop : Option ℕ) (start rows : List Entry) : Type 0 where
  pub plan : IsPlan c
  pub form : IsWellFormed c.campaign (book_of c start)
  pub named : HasNamed aim c
  pub ran : Ran c aim start rows
  pub goal : IsGoal aim
  pub ends : WantsNone c aim rows ⊎ Reached stop start rows
  pub within : IsWithin stop (length start) (length rows)

-- as many tests were started as rows were gained, or more, of which each is in a slot and is wanted still; and as many where none is wanted
pub record Counts (c : Prepared) (aim : Goal) (jobs : ℕ) (start rows : List Entry) (before now : ℕ) : Type 0 where
  pub least : before + length rows ≤ now + length start
  pub bound : now + length start ≤ before + length rows + jobs
  pub wants : now + length start ≤ before + length rows + wanting c aim rows
  pub equal : WantsNone c aim rows → now + length start ≡ before + length rows

-- where none is counted, none wants a test, and the book is finished
none_of : (c : Prepared) (aim : Goal) (rows : List Entry) → wanting c aim rows ≡ 0 → WantsNone c aim rows
none_of c aim rows none m below = let place : 0 + m ≡ m = omega arith in subst (λ (j : ℕ). wanted c.campaign rows j aim ≡ None) place (none_counted c aim rows 0 (length c.campaign.mutations) m none below)

count_of : (c : Prepared) (aim : Goal) (rows : List Entry) → WantsNone c aim rows → wanting c aim rows ≡ 0
count_of c aim rows none = counted_none c aim rows 0 (length c.campaign.mutations) (λ k below. let place : k ≡ 0 + k = omega arith in subst (λ (j : ℕ). wanted c.campaign rows j aim ≡ None) place (none k below))

-- those that are aimed at are finished
ended_of : (c : Prepared) (aim : Goal) (rows : List Entry) → WantsNone c aim rows → AreEnded aim c (book_of c rows)
ended_of c aim rows none m below within = unwanted_ended c.campaign rows m aim within (none m below)

finished_of : (c : Prepared) (aim : Goal) (rows : List Entry) → WantsNone c aim rows → AimsAtAll aim → IsFinished c.campaign (book_of c rows)
finished_of c aim rows none all m below = ended_of c aim rows none m below (all m)

whole : (aim : Goal) (c : Prepared) (jobs : ℕ) (stop retry : Option ℕ) (start rows : List Entry) → Went c aim stop start rows → WantsNone c aim rows → DidAll (Run jobs stop retry) aim c (book_of c start) (book_of c rows)
whole aim c jobs stop retry start rows went none = record {
  takes = (inr went.form, went.named);
  form = went.ran.form;
  whole = λ runs. record {
    wants_none = none;
    ended = ended_of c aim rows none;
    finished = finished_of c aim rows none;
    final = λ all was. final_is (Run jobs stop retry) c (book_of c rows) went.plan (right_rows c rows went.plan (went.ran.words_right (right_start c start went.plan went.form was))) (finished_of c aim rows none all);
  };
}

stopped : (aim : Goal) (c : Prepared) (jobs : ℕ) (stop retry : Option ℕ) (start rows : List Entry) → Went c aim stop start rows → (wanting c aim rows ≢ 0) → Reached stop start rows → Answers (Run jobs stop retry) aim c (book_of c start) (book_of c rows) (Unfinished (wanting c aim rows))
stopped aim c jobs None retry start rows went some reached = absurd reached
stopped aim c jobs (Some k) retry start rows went some reached = (
  (inr went.form, went.named),
  went.ran.form,
  record { stop = k; asked = refl; gained = reached; left_is = refl; some = omega (arith, some) },
)

ran_answer : (aim : Goal) (c : Prepared) (jobs : ℕ) (stop retry : Option ℕ) (start rows : List Entry) → Went c aim stop start rows → Answers (Run jobs stop retry) aim c (book_of c start) (book_of c rows) (run_outcome c aim rows)
ran_answer aim c jobs stop retry start rows went = elim (eqb_tells (wanting c aim rows) 0) [
  | inl h ↦ rw h.0 (all_answers (Run jobs stop retry) aim c (book_of c start) (book_of c rows) (falls_short c (groups c.campaign rows)) refl (whole aim c jobs stop retry start rows went (none_of c aim rows h.1)))
  | inr h ↦ rw h.0 (elim went.ends [ inl none ↦ absurd (h.1 (count_of c aim rows none)) | inr reached ↦ stopped aim c jobs stop retry start rows went h.1 reached ])
]

ran_wrote : (written written' : Option (List ℕ)) (c : Prepared) (aim : Goal) (rows : List Entry) → Delivers written written' (status_text c.campaign rows) Written → Wrote written written' (status_text c.campaign rows) (run_outcome c aim rows)
ran_wrote written written' c aim rows wrote = elim (eqb_tells (wanting c aim rows) 0) [ inl h ↦ rw h.0 (text_wrote written written' (status_text c.campaign rows) (falls_short c (groups c.campaign rows)) wrote) | inr h ↦ rw h.0 wrote ]

-- where the run is done each test has its row
ran_equal : (c : Prepared) (aim : Goal) (jobs : ℕ) (start rows : List Entry) (before now : ℕ) → Counts c aim jobs start rows before now → IsCounted (run_outcome c aim rows) → now + length start ≡ before + length rows
ran_equal c aim jobs start rows before now counts = elim (eqb_tells (wanting c aim rows) 0) [ inl h ↦ rw h.0 (λ is. counts.equal (none_of c aim rows h.1)) | inr h ↦ rw h.0 (λ is. absurd is) ]

pub work_ran : (holds : Book → Type 0) (leaves : Option Book → Type 0) (written written' : Option (List ℕ)) (before now : ℕ) (jobs : ℕ) (stop retry : Option ℕ) (aim : Goal) (c : Prepared) (start rows : List Entry) (ending : Ending) → Went c aim stop start rows → Keeps holds leaves (book_of c rows)
    → Counts c aim jobs start rows before now → StartsFew stop jobs before now → IsInOrder c aim jobs (book_of c start) (book_of c rows) → Delivers written written' (status_text c.campaign rows) ending → Work leaves written written' before now (Run jobs stop retry) aim c (book_of c start) (ended_outcome (run_outcome c aim rows) ending)
work_ran holds leaves written written' before now jobs stop retry aim c start rows ending went kept steps few order wrote = record {
  sure = book_of c rows;
  book = grew_exact leaves (Run jobs stop retry) aim c (book_of c start) (book_of c rows) went.ran.changes (ended_outcome (run_outcome c aim rows) ending) went.ran.course kept.crash (prefix_on (book_of c start) (book_of c rows) went.ran.goes_on)
      (λ was. inl (good_rows c rows went.plan went.ran.form (went.ran.words_right (right_start c start went.plan went.form was)))) (λ h. absurd h) (λ h. absurd (h tt)) went.within (λ h. plan_begun c went.plan) (gains_ran c aim start rows went.plan went.ran) (λ runs. order) (λ h runs. book_second c rows went.plan);
  steps = record { least = steps.least; bound = steps.bound; wants = steps.wants; stops = λ some. few; equal = equal ending; idle = λ h. absurd (h tt) };
  text = text ending wrote;
  answer = answer ending;
}
  where
    text : (e : Ending) → Delivers written written' (status_text c.campaign rows) e → Wrote written written' (status_text c.campaign rows) (ended_outcome (run_outcome c aim rows) e)
    text Written w = ran_wrote written written' c aim rows w
    text Refused w = w
    text NoMemory w = w

    equal : (e : Ending) → IsCounted (ended_outcome (run_outcome c aim rows) e) → now + length start ≡ before + length rows
    equal Written is = ran_equal c aim jobs start rows before now steps is
    equal Refused is = absurd is
    equal NoMemory is = absurd is

    answer : (e : Ending) → Answers (Run jobs stop retry) aim c (book_of c start) (book_of c rows) (ended_outcome (run_outcome c aim rows) e)
    answer Written = ran_answer aim c jobs stop retry start rows went
    answer Refused = (inr went.form, went.named)
    answer NoMemory = tt

-- a run from the book that it has just begun is one from the empty book
opened_not_bad : (c : Prepared) (error : BookError) → IsPlan c → ¬ IsBookBad c (opened c) error
opened_not_bad c (Stray mutations rows) plan bad = plan_begun c plan bad.0
opened_not_bad c NoBookMemory plan bad = bad
opened_not_bad c (Meta place old new) plan bad = bad.1 (opened_form c plan)
opened_not_bad c (Mutation place old new) plan bad = bad.1 (opened_form c plan)
opened_not_bad c (Row e fault) plan bad = bad.1 (opened_form c plan)

opened_all : (jobs : ℕ) (stop retry : Option ℕ) (aim : Goal) (c : Prepared) (sure : Book) → IsPlan c → DidAll (Run jobs stop retry) aim c (opened c) sure → DidAll (Run jobs stop retry) aim c blank sure
opened_all jobs stop retry aim c sure plan all = record {
  takes = (inl refl, all.takes.1);
  form = all.form;
  whole = λ runs. record {
    wants_none = (all.whole runs).wants_none;
    ended = (all.whole runs).ended;
    finished = (all.whole runs).finished;
    final = λ each was. (all.whole runs).final each (inr (opened_good c plan));
  };
}

opened_answer : (jobs : ℕ) (stop retry : Option ℕ) (aim : Goal) (c : Prepared) (sure : Book) (outcome : Outcome) → IsPlan c → Answers (Run jobs stop retry) aim c (opened c) sure outcome → Answers (Run jobs stop retry) aim c blank sure outcome
opened_answer jobs stop retry aim c sure Done plan answer = (opened_all jobs stop retry aim c sure plan answer.0, answer.1)
opened_answer jobs stop retry aim c sure RequirementMissed plan answer = (opened_all jobs stop retry aim c sure plan answer.0, answer.1)
opened_answer jobs stop retry aim c sure (Unfinished left) plan (takes, form, s) = ((inl refl, takes.1), form, record { stop = s.stop; asked = s.asked; gained = s.gained; left_is = s.left_is; some = s.some })
opened_answer jobs stop retry aim c sure NoCampaign plan answer = absurd answer.1
opened_answer jobs stop retry aim c sure AlreadyBegun plan answer = absurd (let is : Run jobs stop retry ≡ Init = answer.1 in cc)
opened_answer jobs stop retry aim c sure (BookBad error) plan answer = absurd (opened_not_bad c error plan answer.0)
opened_answer jobs stop retry aim c sure (NoMutation number) plan answer = (answer.0, inl refl, answer.2)
opened_answer jobs stop retry aim c sure BaselineBad plan answer = ((inl refl, answer.0.1), answer.1)
opened_answer jobs stop retry aim c sure KeeperFault plan answer = (inl refl, answer.1)
opened_answer jobs stop retry aim c sure WriteFault plan answer = (inl refl, answer.1)
opened_answer jobs stop retry aim c sure Memory plan answer = tt
opened_answer jobs stop retry aim c sure outcome plan answer = absurd answer

-- the rows beyond its history, which is itself
opened_gains : (c : Prepared) (aim : Goal) (sure : Book) → IsPlan c → GainsWanted c aim (opened c) sure → GainsWanted c aim blank sure
opened_gains c aim sure plan gains =
    subst (λ (b : Book). (more : List Entry) → sure.journal ≡ b.journal ++ more → AreWanted c aim b.journal more) (history_second c (opened c) (book_second c [] plan)) gains

pub work_opened : (leaves : Option Book → Type 0) (written written' : Option (List ℕ)) (before now : ℕ) (jobs : ℕ) (stop retry : Option ℕ) (aim : Goal) (c : Prepared) (outcome : Outcome) → IsPlan c
    → Work leaves written written' before now (Run jobs stop retry) aim c (opened c) outcome → Work leaves written written' before now (Run jobs stop retry) aim c blank outcome
work_opened leaves written written' before now jobs stop retry aim c outcome plan w = record {
  sure = w.sure;
  book = record {
    grown = inl refl;
    within_one = w.book.within_one;
    good = λ was. weaker_books leaves (λ b. IsGood b ⊎ (IsBlank b × IsBlank (opened c))) (λ b. IsGood b ⊎ (IsBlank b × IsBlank blank)) good (w.book.good (inr (opened_good c plan)));
    reads = λ h. absurd h;
    no_entry = λ h. absurd (h tt);
    gained = w.book.gained;
    wanted_only = opened_gains c aim w.sure plan w.book.wanted_only;
    order = λ runs. weaker_books leaves (IsInOrder c aim jobs (opened c)) (IsInOrder c aim jobs blank) (λ b is. order_from c aim jobs blank (opened c) b (opened_rows c plan) is) (w.book.order runs);
    stops = w.book.stops;
    exact = w.book.exact;
    is_begun = w.book.is_begun;
    second = w.book.second;
    changes = opened c ∷ w.book.changes;
    course = (inl (refl, refl), w.book.course);
    near = w.book.near;
  };
  steps = record { least = w.steps.least; bound = w.steps.bound; wants = w.steps.wants; stops = w.steps.stops; equal = w.steps.equal; idle = λ h. absurd (h tt) };
  text = w.text;
  answer = opened_answer jobs stop retry aim c w.sure outcome plan w.answer;
}
  where
    good : (other : Book) → IsGood other ⊎ (IsBlank other × IsBlank (opened c)) → IsGood other ⊎ (IsBlank other × IsBlank blank)
    good other (inl is) = inl is
    good other (inr is) = absurd (plan_begun c plan (ap (λ (b : Book). b.meta) is.1))

-- What holds whatever the keeper tells.
pub ending_ends : (written written' : Option (List ℕ)) (k k' s s' : ℕ) (text : List ℕ) (o : Outcome) (ending : Ending) → Carried o → Delivers written written' text ending → (ending ≡ Refused → Rose s s') → Ends written written' k k' s s' (ended_outcome o ending)
ending_ends written written' k k' s s' text Done Written carried wrote rose = record { quiet = tt; cause = tt }
ending_ends written written' k k' s s' text RequirementMissed Written carried wrote rose = record { quiet = tt; cause = tt }
ending_ends written written' k k' s s' text (Unfinished left) Written carried wrote rose = record { quiet = tt; cause = tt }
ending_ends written written' k k' s s' text o Written carried wrote rose = absurd carried
ending_ends written written' k k' s s' text o Refused carried wrote rose = record { quiet = tt; cause = rose refl }
ending_ends written written' k k' s s' text o NoMemory carried wrote rose = record { quiet = wrote; cause = tt }

pub run_carried : (c : Prepared) (aim : Goal) (rows : List Entry) → Carried (run_outcome c aim rows)
run_carried c aim rows = elim (eqb_tells (wanting c aim rows) 0) [ inl h ↦ rw h.0 (done_carried (falls_short c (groups c.campaign rows))) | inr h ↦ rw h.0 tt ]

pub runs_not_init : (command : Command) → Runs command → command ≢ Init
runs_not_init command runs is = subst Runs is runs
