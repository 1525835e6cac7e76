-- A run that moves the campaign's book to the second format.
use Rattle.mcy_top.proofs.Common.{◌≡◌, ◌⊎◌, inl, inr, arith, ℕ, ◌+◌, Bool, true, false, List, [], ◌∷◌, ◌++◌, length, refl, sym, ap, subst, ◌∙◌, Option, Result, Ok, Err, OnErr, OnOk, IsErrOf, Entry}
use Rattle.mcy_top.proofs.Common.{Book, KeepError, KeepFault, KeepMemory, is_first, upgraded, IsBlank, IsFirst, Keeps, LeavesEither, LeavesNothingNew, bounds_of, history, IsWellFormed, has_history}
use Rattle.mcy_top.proofs.Common.{history_meta, history_mutations, Init, Run, Goal, Prepared, IsPlan, plan_fit, Outcome, Done, Unfinished, NoCampaign, AlreadyBegun, BookBad, KeeperFault, WriteFault}
use Rattle.mcy_top.proofs.Common.{Memory, BaselineBad, RequirementMissed, NoMutation, IsNear, Upgraded, IsBlankOrGood, IsGood, IsPrefix, IsWithinOne, book_of, AreWanted, IsWithin, either_books}
use Rattle.mcy_top.proofs.Common.{weaker_books, HasNamed, failed_outcome, Answers, Carried, DidAll, GainsWanted, Grew, Work, IsInOrder}
use Rattle.mcy_top.proofs.Advancing.{good_history, history_else, history_first, history_second, within_itself}
use Rattle.mcy_top.proofs.Completing.{form_not_bad, form_meta}
use Rattle.mcy_top.proofs.Gaining.{gains_none, history_length}
use Rattle.mcy_top.proofs.InOrder.{none_in_order, order_from}
use Rattle.mcy_top.proofs.Living.{near_prefix}
use Rattle.mcy_top.proofs.Once.{right_of}
use Rattle.mcy_top.proofs.Prefixes.{prefix_trans}
use Rattle.mcy_top.proofs.Kept.{few_kept, within_same}

-- The campaign's book, and its history.

is_upgraded : (c : Prepared) (loaded : Book) → IsWellFormed c.campaign loaded → IsFirst loaded → Upgraded c loaded (history c.campaign loaded)
is_upgraded c loaded form first = record { form = form; first = first; is = history_first c loaded first }

-- it is the book itself, or the book after its upgrade
near_history : (c : Prepared) (loaded : Book) → IsWellFormed c.campaign loaded → IsNear c loaded (history c.campaign loaded)
near_history c loaded form = go (is_first loaded) refl
  where
    go : (first : Bool) → is_first loaded ≡ first → IsNear c loaded (history c.campaign loaded)
    go true first = inr (inr (inr (is_upgraded c loaded form first)))
    go false other = inl (history_else c loaded other)

moved_prefix : (c : Prepared) (loaded : Book) → IsPlan c → IsWellFormed c.campaign loaded → IsPrefix loaded (history c.campaign loaded)
moved_prefix c loaded plan form = near_prefix c loaded (history c.campaign loaded) plan (near_history c loaded form)

-- of a book that is of no first format it is the book itself
pub history_same : (c : Prepared) (loaded : Book) → (¬ IsFirst loaded) → history c.campaign loaded ≡ loaded
history_same c loaded other = go (is_first loaded) refl
  where
    go : (first : Bool) → is_first loaded ≡ first → history c.campaign loaded ≡ loaded
    go true first = absurd (other first)
    go false is = history_else c loaded is

-- it is the campaign's book with its rows
pub history_book : (c : Prepared) (loaded : Book) → IsWellFormed c.campaign loaded → history c.campaign loaded ≡ book_of c (history c.campaign loaded).journal
history_book c loaded form =
    let meta : (history c.campaign loaded).meta ≡ c.campaign.meta = history_meta c.campaign loaded ∙ form.meta in
    let mutations : (history c.campaign loaded).mutations ≡ c.campaign.mutations = history_mutations c.campaign loaded ∙ form.mutations in
    λ i. record { meta = meta i; mutations = mutations i; journal = (history c.campaign loaded).journal }

-- the history is its own
still : (c : Prepared) (loaded : Book) → IsPlan c → IsWellFormed c.campaign loaded → history c.campaign (history c.campaign loaded) ≡ history c.campaign loaded
still c loaded plan form = history_second c (history c.campaign loaded) (has_history c.campaign loaded (plan_fit c plan) form).second

still_rows : (c : Prepared) (loaded : Book) → IsPlan c → IsWellFormed c.campaign loaded → (history c.campaign (history c.campaign loaded)).journal ≡ (history c.campaign loaded).journal
still_rows c loaded plan form = ap (λ (b : Book). b.journal) (still c loaded plan form)

moved_good : (c : Prepared) (loaded : Book) → IsPlan c → IsWellFormed c.campaign loaded → IsBlankOrGood loaded → IsBlankOrGood (history c.campaign loaded)
moved_good c loaded plan form was = inr (good_history c loaded plan form (right_of c loaded plan form was))

-- A run from the history is one from the book.

moved_all : (jobs : ℕ) (stop retry : Option ℕ) (aim : Goal) (c : Prepared) (loaded sure : Book) → IsPlan c → IsWellFormed c.campaign loaded → DidAll (Run jobs stop retry) aim c (history c.campaign loaded) sure → DidAll (Run jobs stop retry) aim c loaded sure
moved_all jobs stop retry aim c loaded sure plan form all = record {
  takes = (inr form, all.takes.1);
  form = all.form;
  whole = λ runs. record {
    wants_none = (all.whole runs).wants_none;
    ended = (all.whole runs).ended;
    finished = (all.whole runs).finished;
    final = λ each was. (all.whole runs).final each (moved_good c loaded plan form was);
  };
}

moved_answer : (jobs : ℕ) (stop retry : Option ℕ) (aim : Goal) (c : Prepared) (loaded sure : Book) (outcome : Outcome) → IsPlan c → IsWellFormed c.campaign loaded → Answers (Run jobs stop retry) aim c (history c.campaign loaded) sure outcome → Answers (Run jobs stop retry) aim c loaded sure outcome
moved_answer jobs stop retry aim c loaded sure Done plan form answer = (moved_all jobs stop retry aim c loaded sure plan form answer.0, answer.1)
moved_answer jobs stop retry aim c loaded sure RequirementMissed plan form answer = (moved_all jobs stop retry aim c loaded sure plan form answer.0, answer.1)
moved_answer jobs stop retry aim c loaded sure (Unfinished left) plan form (takes, well, s) =
    ((inr form, takes.1), well, record { stop = s.stop; asked = s.asked; gained = s.gained ∙ ap (λ (n : ℕ). n + s.stop) (history_length c loaded); left_is = s.left_is; some = s.some })
moved_answer jobs stop retry aim c loaded sure NoCampaign plan form answer = absurd answer.1
moved_answer jobs stop retry aim c loaded sure AlreadyBegun plan form answer = absurd (let is : Run jobs stop retry ≡ Init = answer.1 in cc)
moved_answer jobs stop retry aim c loaded sure (BookBad error) plan form answer = absurd (form_not_bad c (history c.campaign loaded) error plan (has_history c.campaign loaded (plan_fit c plan) form).form answer.0)
moved_answer jobs stop retry aim c loaded sure (NoMutation number) plan form answer = (answer.0, inr form, answer.2)
moved_answer jobs stop retry aim c loaded sure BaselineBad plan form answer = ((inr form, answer.0.1), answer.1)
moved_answer jobs stop retry aim c loaded sure KeeperFault plan form answer = (inr form, answer.1)
moved_answer jobs stop retry aim c loaded sure WriteFault plan form answer = (inr form, answer.1)
moved_answer jobs stop retry aim c loaded sure Memory plan form answer = tt
moved_answer jobs stop retry aim c loaded sure outcome plan form answer = absurd answer

moved_gains : (c : Prepared) (aim : Goal) (loaded sure : Book) → IsPlan c → IsWellFormed c.campaign loaded → GainsWanted c aim (history c.campaign loaded) sure → GainsWanted c aim loaded sure
moved_gains c aim loaded sure plan form gains = subst (λ (b : Book). (more : List Entry) → sure.journal ≡ b.journal ++ more → AreWanted c aim b.journal more) (still c loaded plan form) gains

work_moved : (leaves : Option Book → Type 0) (written written' : Option (List ℕ)) (before now : ℕ) (jobs : ℕ) (stop retry : Option ℕ) (aim : Goal) (c : Prepared) (loaded : Book) (outcome : Outcome) → IsPlan c → IsWellFormed c.campaign loaded → IsFirst loaded
    → Work leaves written written' before now (Run jobs stop retry) aim c (history c.campaign loaded) outcome → Work leaves written written' before now (Run jobs stop retry) aim c loaded outcome
work_moved leaves written written' before now jobs stop retry aim c loaded outcome plan form first w =
    let same : length (history c.campaign loaded).journal ≡ length loaded.journal = history_length c loaded in
    record {
      sure = w.sure;
      book = record {
        grown = prefix_trans loaded (history c.campaign loaded) w.sure (moved_prefix c loaded plan form) w.book.grown;
        within_one = w.book.within_one;
        good = λ was. weaker_books leaves (λ b. IsGood b ⊎ (IsBlank b × IsBlank (history c.campaign loaded))) (λ b. IsGood b ⊎ (IsBlank b × IsBlank loaded)) good (w.book.good (moved_good c loaded plan form was));
        reads = λ h. absurd h;
        no_entry = λ h. absurd (h tt);
        gained = subst (λ (n : ℕ). IsWithin stop n (length w.sure.journal)) same w.book.gained;
        wanted_only = moved_gains c aim loaded w.sure plan form w.book.wanted_only;
        order = λ runs. weaker_books leaves (IsInOrder c aim jobs (history c.campaign loaded)) (IsInOrder c aim jobs loaded) (λ b is. order_from c aim jobs loaded (history c.campaign loaded) b (still_rows c loaded plan form) is) (w.book.order runs);
        stops = weaker_books leaves (λ b. IsWithin stop (length (history c.campaign loaded).journal) (length b.journal)) (λ b. IsWithin stop (length loaded.journal) (length b.journal)) (λ b within. subst (λ (n : ℕ). IsWithin stop n (length b.journal)) same within) w.book.stops;
        exact = w.book.exact;
        is_begun = w.book.is_begun;
        second = w.book.second;
        changes = history c.campaign loaded ∷ w.book.changes;
        course = (inr (inr (is_upgraded c loaded form first)), w.book.course);
        near = w.book.near;
      };
      steps = record { least = omega (arith, w.steps.least, same); bound = omega (arith, w.steps.bound, same); wants = omega (arith, w.steps.wants, same); stops = w.steps.stops; equal = λ is. omega (arith, w.steps.equal is, same); idle = λ h. absurd (h tt) };
      text = w.text;
      answer = moved_answer jobs stop retry aim c loaded w.sure outcome plan form w.answer;
    }
  where
    good : (other : Book) → IsGood other ⊎ (IsBlank other × IsBlank (history c.campaign loaded)) → IsGood other ⊎ (IsBlank other × IsBlank loaded)
    good other (inl is) = inl is
    good other (inr is) = absurd (form_meta c (history c.campaign loaded) plan (has_history c.campaign loaded (plan_fit c plan) form).form (ap (λ (b : Book). b.meta) is.1))

pub work_resumed : (leaves : Option Book → Type 0) (written written' : Option (List ℕ)) (before now : ℕ) (jobs : ℕ) (stop retry : Option ℕ) (aim : Goal) (c : Prepared) (loaded : Book) (outcome : Outcome) → IsPlan c → IsWellFormed c.campaign loaded
    → Work leaves written written' before now (Run jobs stop retry) aim c (book_of c (history c.campaign loaded).journal) outcome → Work leaves written written' before now (Run jobs stop retry) aim c loaded outcome
work_resumed leaves written written' before now jobs stop retry aim c loaded outcome plan form w = go (is_first loaded) refl (subst (λ (b : Book). Work leaves written written' before now (Run jobs stop retry) aim c b outcome) (sym (history_book c loaded form)) w)
  where
    go : (first : Bool) → is_first loaded ≡ first → Work leaves written written' before now (Run jobs stop retry) aim c (history c.campaign loaded) outcome → Work leaves written written' before now (Run jobs stop retry) aim c loaded outcome
    go true first w = work_moved leaves written written' before now jobs stop retry aim c loaded outcome plan form first w
    go false other w = subst (λ (b : Book). Work leaves written written' before now (Run jobs stop retry) aim c b outcome) (history_else c loaded other) w

-- The book with these bounds is its history.

pub upgraded_is : (c : Prepared) (loaded : Book) (bounds : List ℕ) → IsFirst loaded → bounds ≡ bounds_of c.campaign loaded.journal → upgraded bounds loaded ≡ history c.campaign loaded
upgraded_is c loaded bounds first are = ap (λ (b : List ℕ). upgraded b loaded) are ∙ sym (history_first c loaded first)

-- What an upgrade leaves that failed.

pub upgrade_left : (holds : Book → Type 0) (leaves leaves' : Option Book → Type 0) (result : Result (Unit {0}) KeepError) (c : Prepared) (loaded : Book) (bounds : List ℕ) → IsFirst loaded → bounds ≡ bounds_of c.campaign loaded.journal → Keeps holds leaves loaded
    → (IsErrOf result KeepFault → (was : Book) → holds was → LeavesEither leaves' was (upgraded bounds was)) → (IsErrOf result KeepMemory → LeavesNothingNew leaves leaves') → OnErr result (LeavesEither leaves' loaded (history c.campaign loaded))
upgrade_left holds leaves leaves' (Ok done) c loaded bounds first are kept either refused = tt
upgrade_left holds leaves leaves' (Err KeepFault) c loaded bounds first are kept either refused =
    subst (λ (next : Book). LeavesEither leaves' loaded next) (upgraded_is c loaded bounds first are) (either refl loaded kept.told)
upgrade_left holds leaves leaves' (Err KeepMemory) c loaded bounds first are kept either refused = λ left is. inl (kept.crash.nothing_else left (refused refl left is))

-- What one keeps that was done.

pub upgrade_kept : (holds holds' : Book → Type 0) (leaves leaves' : Option Book → Type 0) (result : Result (Unit {0}) KeepError) (c : Prepared) (loaded : Book) (bounds : List ℕ) → IsFirst loaded → bounds ≡ bounds_of c.campaign loaded.journal → Keeps holds leaves loaded
    → OnOk result ((was : Book) → holds was → Keeps holds' leaves' (upgraded bounds was)) → OnOk result (Keeps holds' leaves' (history c.campaign loaded))
upgrade_kept holds holds' leaves leaves' (Ok done) c loaded bounds first are kept becomes = subst (λ (next : Book). Keeps holds' leaves' next) (upgraded_is c loaded bounds first are) (becomes loaded kept.told)
upgrade_kept holds holds' leaves leaves' (Err error) c loaded bounds first are kept becomes = tt

-- A run whose upgrade failed leaves the book or its history.

grew_unmoved : (leaves : Option Book → Type 0) (jobs : ℕ) (stop retry : Option ℕ) (aim : Goal) (c : Prepared) (loaded : Book) (outcome : Outcome) → IsPlan c → IsWellFormed c.campaign loaded → ¬ Carried outcome
    → LeavesEither leaves loaded (history c.campaign loaded) → Grew leaves (Run jobs stop retry) aim c loaded loaded outcome
grew_unmoved leaves jobs stop retry aim c loaded outcome plan form not either =
    let next : Book = history c.campaign loaded in
    let same : length next.journal ≡ length loaded.journal = history_length c loaded in
    record {
      grown = (within_itself loaded).prefix;
      within_one = either_books leaves (IsWithinOne loaded) loaded next either (within_itself loaded) (record { prefix = moved_prefix c loaded plan form; one = omega (arith, same) });
      good = λ was. either_books leaves (λ b. IsGood b ⊎ (IsBlank b × IsBlank loaded)) loaded next either (here was) (inl (good_history c loaded plan form (right_of c loaded plan form was)));
      reads = λ h. absurd h;
      no_entry = λ h. absurd (h tt);
      gained = within_same stop (length loaded.journal);
      wanted_only = gains_none c aim loaded;
      order = λ runs. either_books leaves (IsInOrder c aim jobs loaded) loaded next either (none_in_order c aim jobs loaded loaded refl) (none_in_order c aim jobs loaded next (still_rows c loaded plan form));
      stops = either_books leaves (λ b. IsWithin stop (length loaded.journal) (length b.journal)) loaded next either (within_same stop (length loaded.journal)) (subst (λ (n : ℕ). IsWithin stop (length loaded.journal) n) (sym same) (within_same stop (length loaded.journal)));
      exact = λ h. absurd (not h);
      is_begun = λ h. absurd (not h);
      second = λ h. absurd (not h);
      changes = [];
      course = refl;
      near = either_books leaves (IsNear c loaded) loaded next either (inl refl) (near_history c loaded form);
    }
  where
    here : IsBlankOrGood loaded → IsGood loaded ⊎ (IsBlank loaded × IsBlank loaded)
    here (inl empty) = inr (empty, empty)
    here (inr good) = inl good

pub work_unmoved : (leaves : Option Book → Type 0) (written : Option (List ℕ)) (n : ℕ) (jobs : ℕ) (stop retry : Option ℕ) (aim : Goal) (c : Prepared) (loaded : Book) (e : KeepError) → IsPlan c → IsWellFormed c.campaign loaded → HasNamed aim c
    → LeavesEither leaves loaded (history c.campaign loaded) → Work leaves written written n n (Run jobs stop retry) aim c loaded (failed_outcome e)
work_unmoved leaves written n jobs stop retry aim c loaded KeepFault plan form named either = record {
  sure = loaded;
  book = grew_unmoved leaves jobs stop retry aim c loaded KeeperFault plan form (λ h. h) either;
  steps = record { least = omega arith; bound = omega arith; wants = omega arith; stops = few_kept stop jobs n; equal = λ is. absurd is; idle = λ h. refl };
  text = refl;
  answer = (inr form, named);
}
work_unmoved leaves written n jobs stop retry aim c loaded KeepMemory plan form named either = record {
  sure = loaded;
  book = grew_unmoved leaves jobs stop retry aim c loaded Memory plan form (λ h. h) either;
  steps = record { least = omega arith; bound = omega arith; wants = omega arith; stops = few_kept stop jobs n; equal = λ is. absurd is; idle = λ h. refl };
  text = refl;
  answer = tt;
}
