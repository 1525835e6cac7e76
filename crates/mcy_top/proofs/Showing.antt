-- What a demo does, from what its run does with a book of its own.
use Rattle.mcy_top.proofs.Common.{◌≡◌, ◌⊎◌, inl, inr, arith, ℕ, ◌+◌, ◌≤◌, Bool, true, false, List, [], ◌∷◌, ◌++◌, length, refl, sym, ap, subst, ◌∙◌, Option, None, Some, Entry, Book, blank, is_first}
use Rattle.mcy_top.proofs.Common.{with_entry, IsBlank, IsFirst, groups, AreRows, AreRowsIn, IsFinished, IsWellFormed, second_is_not_first, lines, Goal, Prepared, IsPlan, plan_fit, Course, IsChange}
use Rattle.mcy_top.proofs.Common.{AreRight, IsNextRow, book_of, AreWanted, book_second, form_more, right_more, Outcome, Done, Run, run_goal, given_up, wanting, Work, tests_in, RanPart, RanWhole}
use Rattle.mcy_top.proofs.Advancing.{history_second, opened_form}
use Rattle.mcy_top.proofs.Aiming.{in_all, none_again}
use Rattle.mcy_top.proofs.Defining.{all_mutations}
use Rattle.mcy_top.proofs.Finishing.{groups_are}
use Rattle.mcy_top.proofs.Fresh.{new_rows, rows_counted, AreNew}
use Rattle.mcy_top.proofs.NoneUp.{none_up}
use Rattle.mcy_top.proofs.Simulating.{BenchesSayOnce}
use Rattle.mcy_top.proofs.Completing.{form_meta}

-- The book is empty, or the campaign's with right rows.
record IsOwned (c : Prepared) (book : Book) : Type 0 where
  rows : List Entry
  is : book ≡ book_of c rows
  form : IsWellFormed c.campaign (book_of c rows)
  right : AreRight c rows

abbrev IsOwn : Prepared → Book → Type 0
IsOwn c book = IsBlank book ⊎ IsOwned c book

blank_unformed : (c : Prepared) (book : Book) → IsPlan c → IsBlank book → ¬ IsWellFormed c.campaign book
blank_unformed c book plan empty form = form_meta c book plan form (ap (λ (b : Book). b.meta) empty)

own_change : (c : Prepared) (book next : Book) → IsPlan c → IsOwn c book → IsChange c book next → IsOwn c next
own_change c book next plan own (inl begin) = inr (record { rows = []; is = begin.1; form = opened_form c plan; right = tt })
own_change c book next plan (inl empty) (inr (inl added)) = absurd (blank_unformed c book plan empty added.form)
own_change c book next plan (inr own) (inr (inl added)) =
    let may : IsNextRow c (book_of c own.rows) added.row = subst (λ (b : Book). IsNextRow c b added.row) own.is added.may in
    inr (record {
      rows = own.rows ++ added.row ∷ [];
      is = added.is ∙ ap (λ (b : Book). with_entry b added.row) own.is;
      form = form_more c (book_of c own.rows) added.row own.form may;
      right = right_more c own.rows added.row own.right may.word_right;
    })
own_change c book next plan (inl empty) (inr (inr up)) = absurd (blank_unformed c book plan empty up.form)
own_change c book next plan (inr own) (inr (inr up)) =
    let first : IsFirst (book_of c own.rows) = subst IsFirst own.is up.first in
    absurd (let never : true ≡ false = sym first ∙ second_is_not_first (book_of c own.rows) (book_second c own.rows plan) in cc)

own_course : (c : Prepared) (start : Book) (changes : List Book) (end : Book) → IsPlan c → IsOwn c start → Course c start changes end → IsOwn c end
own_course c start [] end plan own course = subst (IsOwn c) (sym course) own
own_course c start (next ∷ changes) end plan own course = own_course c next changes end plan (own_change c start next plan own course.0) course.1

-- its rows are in form, and right
record HasRows (c : Prepared) (rows : List Entry) : Type 0 where
  form : AreRows c.campaign [] rows
  right : AreRight c rows

has_rows : (c : Prepared) (book : Book) → IsPlan c → IsOwn c book → HasRows c book.journal
has_rows c book plan (inl empty) = subst (λ (b : Book). HasRows c b.journal) (sym empty) (record { form = tt; right = tt })
has_rows c book plan (inr own) =
    let second : is_first (book_of c own.rows) ≡ false = second_is_not_first (book_of c own.rows) (book_second c own.rows plan) in
    subst (λ (b : Book). HasRows c b.journal) (sym own.is) (record { form = subst (λ (first : Bool). AreRowsIn first c.campaign [] own.rows) second own.form.rows; right = own.right })

module _ (once : BenchesSayOnce) (leaves : Option Book → Type 0) (written written' : Option (List ℕ)) (before now : ℕ) (jobs : ℕ) (c : Prepared) (outcome : Outcome) (plan : IsPlan c)
    (w : Work leaves written written' before now (Run jobs None None) (run_goal None []) c blank outcome) where
  has : HasRows c w.sure.journal
  has = has_rows c w.sure plan (own_course c blank w.book.changes w.sure plan (inl refl) w.book.course)

  new : AreNew c.campaign [] w.sure.journal
  new =
      let asked : AreWanted c (run_goal None []) [] w.sure.journal = w.book.wanted_only w.sure.journal refl in
      new_rows c (run_goal None []) [] w.sure.journal refl (plan_fit c plan) has.form asked

  counted : tests_in (groups c.campaign w.sure.journal) ≡ length w.sure.journal
  counted = rows_counted c.campaign w.sure.journal (plan_fit c plan) has.form new

  pub ran_part : RanPart c c.campaign.conflicts before now
  ran_part = record {
    pairs = given_up w.sure.journal;
    none_up = none_up c w.sure.journal plan has.form has.right new;
    few = λ all defined.
        let wants : now + 0 ≤ before + length w.sure.journal + wanting c (run_goal None []) w.sure.journal = w.steps.wants in
        let most : tests_in (groups c.campaign w.sure.journal) + wanting c (run_goal None []) w.sure.journal ≤ tests_in all =
        all_mutations once c (run_goal None []) w.sure.journal plan has.form has.right (none_again []) refl 0 (length c.campaign.mutations) all (omega arith) defined in
        omega (arith, wants, most, counted);
  }

-- where the run came to its end
module _ (once : BenchesSayOnce) (leaves : Option Book → Type 0) (text : List ℕ) (before now : ℕ) (jobs : ℕ) (c : Prepared) (plan : IsPlan c) (w : Work leaves (Some []) (Some text) before now (Run jobs None None) (run_goal None []) c blank Done) where
  own : HasRows c w.sure.journal
  own = has once leaves (Some []) (Some text) before now jobs c Done plan w

  ended : IsFinished c.campaign w.sure
  ended = (w.answer.0.whole tt).finished (in_all None)

  told : text ≡ lines c.campaign (groups c.campaign w.sure.journal)
  told = let is : Some text ≡ Some ([] ++ lines c.campaign (groups c.campaign w.sure.journal)) = w.text in cc

  pub ran_whole : RanWhole c c.campaign.conflicts before now text
  ran_whole = record {
    pairs = given_up w.sure.journal;
    none_up = none_up c w.sure.journal plan own.form own.right (new once leaves (Some []) (Some text) before now jobs c Done plan w);
    all = groups c.campaign w.sure.journal;
    defined = groups_are c (book_of c w.sure.journal) plan (subst (λ (b : Book). AreRight c b.journal) (sym (history_second c (book_of c w.sure.journal) (book_second c w.sure.journal plan))) own.right) ended;
    steps =
        let equal : now + 0 ≡ before + length w.sure.journal = w.steps.equal tt in
        let all : tests_in (groups c.campaign w.sure.journal) ≡ length w.sure.journal = counted once leaves (Some []) (Some text) before now jobs c Done plan w in
        omega (arith, equal, all);
    status_is = told;
  }

-- the same of a goal that is so, and of a sink that has kept its text from nothing on
pub part_ran : BenchesSayOnce → (leaves : Option Book → Type 0) (written written' : Option (List ℕ)) (before now : ℕ) (jobs : ℕ) (aim : Goal) (c : Prepared) (outcome : Outcome) → IsPlan c → aim ≡ run_goal None []
    → Work leaves written written' before now (Run jobs None None) aim c blank outcome → RanPart c c.campaign.conflicts before now
part_ran once leaves written written' before now jobs aim c outcome plan all w =
    ran_part once leaves written written' before now jobs c outcome plan (subst (λ (g : Goal). Work leaves written written' before now (Run jobs None None) g c blank outcome) all w)

pub ran_done : BenchesSayOnce → (leaves : Option Book → Type 0) (first text : List ℕ) (before now : ℕ) (jobs : ℕ) (aim : Goal) (c : Prepared) (outcome : Outcome) → IsPlan c → aim ≡ run_goal None [] → first ≡ [] → outcome ≡ Done
    → Work leaves (Some first) (Some text) before now (Run jobs None None) aim c blank outcome → RanWhole c c.campaign.conflicts before now text
ran_done once leaves first text before now jobs aim c outcome plan all none done w =
    ran_whole once leaves text before now jobs c plan (subst (λ (o : Outcome). Work leaves (Some []) (Some text) before now (Run jobs None None) (run_goal None []) c blank o) done
    (subst (λ (l : List ℕ). Work leaves (Some l) (Some text) before now (Run jobs None None) (run_goal None []) c blank outcome) none
    (subst (λ (g : Goal). Work leaves (Some first) (Some text) before now (Run jobs None None) g c blank outcome) all w)))

-- nothing was run
pub ran_none : (c : Prepared) (limit n : ℕ) → RanPart c limit n n
ran_none c limit n = record { pairs = []; none_up = λ small. refl; few = λ all defined. omega arith }
