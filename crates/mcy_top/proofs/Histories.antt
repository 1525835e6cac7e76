-- Lists of calls over one keeper.
use Rattle.mcy_top.proofs.Common.{◌≡◌, inl, inr, ℕ, zero, suc, List, [], ◌∷◌, take, refl, sym, subst, Option, Some, IsSomeAnd, Book, LeavesNothingNew, LeavesSome, history, Goal, Prepared, IsPlan}
use Rattle.mcy_top.proofs.Common.{Course, IsNear, AreRight, IsBlankOrGood, LeavesBooks, text_of, aim_of, DidAll, IsDone, AreSafe, IsHistory, IsStart, weaker_books}
use Rattle.mcy_top.specs.Histories.{AllFindBooks, AllTellTrue, AreTurns, Call, Cut, CutEarly, Ended, entry_of, IsNew, IsTurn, last_of, Left, lives_of, Loads, LoadsNone, TellsFinal, TellsTrue, Turn}
use Rattle.mcy_top.proofs.Aiming.{aims_at_all}
use Rattle.mcy_top.proofs.Doing.{done_all, done_wrote}
use Rattle.mcy_top.proofs.Finishing.{final_is}
use Rattle.mcy_top.proofs.Living.{course_good, lives_safe, near_good, start_good, unloaded_left}
use Rattle.mcy_top.proofs.Once.{right_of}

-- the changes up to a cut lead to the book at that moment
cut_course : (c : Prepared) (start : Book) (changes : List Book) (end : Book) (count : ℕ) → Course c start changes end → Course c start (take count changes) (last_of start (take count changes))
cut_course c start changes end zero course = refl
cut_course c start [] end (suc count) course = refl
cut_course c start (next ∷ more) end (suc count) course = (course.0, cut_course c next more end count course.1)

-- a call that has loaded no book leaves nothing new
none_left : {K : Type 0} (leaves : K → Option Book → Type 0) (call : Call K) → LoadsNone leaves call → LeavesNothingNew (leaves call.before) (leaves call.after)
none_left leaves call unloaded = unloaded_left call.words (leaves call.before) (leaves call.after) call.taken_before call.taken_after call.outcome unloaded

-- the plan of a call that has loaded a book
plan_of : {K : Type 0} (holds : K → Book → Type 0) (leaves : K → Option Book → Type 0) (call : Call K) (life : Loads holds leaves call) → IsPlan life.prepared
plan_of holds leaves call life = record { config = life.made.config; files = life.made.files; made = life.made.made }

-- Where each book that is found satisfies P, as some book does, the lives go on from such a book.
goes_on : {K : Type 0} (holds : K → Book → Type 0) (leaves : K → Option Book → Type 0) (P : Book → Type 0) (some : Book) → P some → (found : Option Book → Type 0) → LeavesBooks found P
    → (turns : List (Turn K)) (are : AreTurns holds leaves found turns) → (next : Book) × P next × IsHistory next (lives_of holds leaves found turns are)
goes_on holds leaves P some has found within [] are = (some, has, tt)
goes_on holds leaves P some has found within (Ended call ∷ more) (old, (inl unloaded, rest)) =
    goes_on holds leaves P some has (leaves call.after) (λ left is. within left (old left (none_left leaves call unloaded left is))) more rest
goes_on holds leaves P some has found within (Ended call ∷ more) (old, (inr life, rest)) = (
  life.loaded,
  within (Some life.loaded) (old (Some life.loaded) life.allowed),
  (
    refl,
    record { plan = plan_of holds leaves call life; course = life.work.book.course },
    goes_on holds leaves (IsNear life.prepared life.work.sure) life.work.sure (inl refl) (leaves call.after) life.work.book.near more rest,
  ),
)
goes_on holds leaves P some has found within (CutEarly call ∷ more) (old, (cut, rest)) =
    goes_on holds leaves P some has (leaves call.before) (λ left is. within left (old left is)) more rest
goes_on holds leaves P some has found within (Cut call count ∷ more) (old, (life, rest)) =
    let changes : List Book = take count life.work.book.changes in
    let sure : Book = last_of life.loaded changes in (
      life.loaded,
      within (Some life.loaded) (old (Some life.loaded) life.allowed),
      (
        refl,
        record { plan = plan_of holds leaves call life; course = cut_course life.prepared life.loaded life.work.book.changes life.work.sure count life.work.book.course },
        goes_on holds leaves (IsNear life.prepared sure) sure (inl refl) (λ left. IsSomeAnd left (IsNear life.prepared sure)) (λ left near. near) more rest,
      ),
    )

new_start : (start : Book) → LeavesBooks (IsNew start) (λ book. book ≡ start)
new_start start left is = subst (λ (o : Option Book). IsSomeAnd o (λ book. book ≡ start)) (sym is) refl

pub calls_history : {K : Type 0} (holds : K → Book → Type 0) (leaves : K → Option Book → Type 0) (start : Book) (turns : List (Turn K)) (are : AreTurns holds leaves (IsNew start) turns) → IsHistory start (lives_of holds leaves (IsNew start) turns are)
calls_history holds leaves start turns are =
    let begin = goes_on holds leaves (λ book. book ≡ start) start refl (IsNew start) (new_start start) turns are in
    subst (λ (book : Book). IsHistory book (lives_of holds leaves (IsNew start) turns are)) begin.1 begin.2

pub calls_safe : {K : Type 0} (holds : K → Book → Type 0) (leaves : K → Option Book → Type 0) (start : Book) (turns : List (Turn K)) → IsStart start → (are : AreTurns holds leaves (IsNew start) turns) → AreSafe (lives_of holds leaves (IsNew start) turns are)
calls_safe holds leaves start turns is are = lives_safe start (lives_of holds leaves (IsNew start) turns are) is (calls_history holds leaves start turns are)

-- Texts.

end_good : {K : Type 0} (holds : K → Book → Type 0) (leaves : K → Option Book → Type 0) (call : Call K) (life : Loads holds leaves call) → IsBlankOrGood life.loaded → IsBlankOrGood life.work.sure
end_good holds leaves call life was = course_good life.prepared life.loaded life.work.book.changes life.work.sure (plan_of holds leaves call life) life.work.book.course was

tells_final : {K : Type 0} (holds : K → Book → Type 0) (leaves : K → Option Book → Type 0) (call : Call K) (life : Loads holds leaves call) → IsBlankOrGood life.loaded
    → IsDone call.outcome → TellsFinal call.words call.written_before call.written_after life.command life.prepared life.work.sure
tells_final holds leaves call life was done =
    let aim : Goal = aim_of call.words life.command in
    let all : DidAll life.command aim life.prepared life.loaded life.work.sure = done_all life.command aim life.prepared life.loaded life.work.sure call.outcome done life.work.answer in
    let right : AreRight life.prepared (history life.prepared.campaign life.work.sure).journal = right_of life.prepared life.work.sure (plan_of holds leaves call life) all.form (end_good holds leaves call life was) in
    let text : List ℕ = text_of life.command life.prepared life.work.sure in
    record {
      wants_none = λ runs. (all.whole runs).wants_none;
      ended = λ runs. (all.whole runs).ended;
      finished = λ runs none. (all.whole runs).finished (aims_at_all call.words life.command none);
      told = λ finished. record {
        text = text;
        wrote = done_wrote call.written_before call.written_after text call.outcome done life.work.text;
        final = final_is life.command life.prepared life.work.sure (plan_of holds leaves call life) right finished;
      };
    }

turn_tells : {K : Type 0} (holds : K → Book → Type 0) (leaves : K → Option Book → Type 0) (turn : Turn K) (is : IsTurn holds leaves turn) → LeavesBooks (leaves (entry_of turn)) IsBlankOrGood → TellsTrue holds leaves turn is
turn_tells holds leaves (Ended call) (inl unloaded) was = tt
turn_tells holds leaves (Ended call) (inr life) was = tells_final holds leaves call life (was (Some life.loaded) life.allowed)
turn_tells holds leaves (CutEarly call) cut was = tt
turn_tells holds leaves (Cut call count) life was = tt

-- What is found stays empty or good.

cut_good : {K : Type 0} (holds : K → Book → Type 0) (leaves : K → Option Book → Type 0) (call : Call K) (count : ℕ) (life : Loads holds leaves call) → IsBlankOrGood life.loaded → IsBlankOrGood (last_of life.loaded (take count life.work.book.changes))
cut_good holds leaves call count life was =
    let changes : List Book = take count life.work.book.changes in
    course_good life.prepared life.loaded changes (last_of life.loaded changes) (plan_of holds leaves call life) (cut_course life.prepared life.loaded life.work.book.changes life.work.sure count life.work.book.course) was

left_good : {K : Type 0} (holds : K → Book → Type 0) (leaves : K → Option Book → Type 0) (turn : Turn K) (is : IsTurn holds leaves turn) → LeavesBooks (leaves (entry_of turn)) IsBlankOrGood → LeavesBooks (Left holds leaves turn is) IsBlankOrGood
left_good holds leaves (Ended call) (inl unloaded) was = λ left is. was left (none_left leaves call unloaded left is)
left_good holds leaves (Ended call) (inr life) was =
    let end : IsBlankOrGood life.work.sure = end_good holds leaves call life (was (Some life.loaded) life.allowed) in
    weaker_books (leaves call.after) (IsNear life.prepared life.work.sure) IsBlankOrGood (λ book near. near_good life.prepared life.work.sure book (plan_of holds leaves call life) near end) life.work.book.near
left_good holds leaves (CutEarly call) cut was = was
left_good holds leaves (Cut call count) life was =
    let sure : Book = last_of life.loaded (take count life.work.book.changes) in
    let end : IsBlankOrGood sure = cut_good holds leaves call count life (was (Some life.loaded) life.allowed) in
    weaker_books (λ left. IsSomeAnd left (IsNear life.prepared sure)) (IsNear life.prepared sure) IsBlankOrGood (λ book near. near_good life.prepared sure book (plan_of holds leaves call life) near end) (λ left near. near)

all_find : {K : Type 0} (tells : K → Type 0) (holds : K → Book → Type 0) (leaves : K → Option Book → Type 0) → ((k : K) → tells k → LeavesSome (leaves k)) → (found : Option Book → Type 0) → LeavesBooks found IsBlankOrGood
    → (turns : List (Turn K)) (are : AreTurns holds leaves found turns) → AllFindBooks tells holds leaves found turns are
all_find tells holds leaves survives found good [] are = good
all_find tells holds leaves survives found good (turn ∷ more) (old, (is, rest)) =
    let here : LeavesBooks (leaves (entry_of turn)) IsBlankOrGood = λ left was. good left (old left was) in
    (record { good = here; some = survives (entry_of turn) }, all_find tells holds leaves survives (Left holds leaves turn is) (left_good holds leaves turn is here) more rest)

all_tell : {K : Type 0} (holds : K → Book → Type 0) (leaves : K → Option Book → Type 0) (found : Option Book → Type 0) → LeavesBooks found IsBlankOrGood
    → (turns : List (Turn K)) (are : AreTurns holds leaves found turns) → AllTellTrue holds leaves found turns are
all_tell holds leaves found good [] are = tt
all_tell holds leaves found good (turn ∷ more) (old, (is, rest)) =
    let here : LeavesBooks (leaves (entry_of turn)) IsBlankOrGood = λ left was. good left (old left was) in
    (turn_tells holds leaves turn is here, all_tell holds leaves (Left holds leaves turn is) (left_good holds leaves turn is here) more rest)

new_good : (start : Book) → IsStart start → LeavesBooks (IsNew start) IsBlankOrGood
new_good start is = weaker_books (IsNew start) (λ book. book ≡ start) IsBlankOrGood (λ book same. subst IsBlankOrGood (sym same) (start_good start is)) (new_start start)

pub calls_tell : {K : Type 0} (holds : K → Book → Type 0) (leaves : K → Option Book → Type 0) (start : Book) (turns : List (Turn K)) → IsStart start → (are : AreTurns holds leaves (IsNew start) turns) → AllTellTrue holds leaves (IsNew start) turns are
calls_tell holds leaves start turns is are = all_tell holds leaves (IsNew start) (new_good start is) turns are

pub calls_find : {K : Type 0} (tells : K → Type 0) (holds : K → Book → Type 0) (leaves : K → Option Book → Type 0) → ((k : K) → tells k → LeavesSome (leaves k)) → (start : Book) (turns : List (Turn K)) → IsStart start → (are : AreTurns holds leaves (IsNew start) turns) → AllFindBooks tells holds leaves (IsNew start) turns are
calls_find tells holds leaves survives start turns is are = all_find tells holds leaves survives (IsNew start) (new_good start is) turns are
