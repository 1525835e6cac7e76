-- Rows PASS over a call: what is kept of them by each change of a book is kept by the call.
use Rattle.mcy_top.proofs.Common.{◌⊎◌, inl, inr, ℕ, List, [], ◌∷◌, sym, subst, Option, Some, Book, Held, Prepared, IsPlan, Course, IsNear, Outcome, Life, Unloaded}
use Rattle.mcy_top.specs.Passes.{LeavesTruePasses, PassesAreTrue}
use Rattle.mcy_top.proofs.PassRows.{change_passes}

course_passes : (c : Prepared) (start : Book) (changes : List Book) (end : Book) → IsPlan c → Course c start changes end → PassesAreTrue start → PassesAreTrue end
course_passes c start [] end plan course was = subst PassesAreTrue (sym course) was
course_passes c start (next ∷ more) end plan course was = course_passes c next more end plan course.1 (change_passes c start next plan course.0 was)

near_passes : (c : Prepared) (sure next : Book) → IsPlan c → IsNear c sure next → PassesAreTrue sure → PassesAreTrue next
near_passes c sure next plan (inl same) was = subst PassesAreTrue (sym same) was
near_passes c sure next plan (inr change) was = change_passes c sure next plan change was

pub passes_kept : (words : List (List ℕ)) (held : Option Held) (holds : Book → Type 0) (leaves leaves' : Option Book → Type 0) (written written' : Option (List ℕ)) (taken taken' : ℕ) (outcome : Outcome)
    → Unloaded words leaves leaves' taken taken' outcome ⊎ Life words held holds leaves leaves' written written' taken taken' outcome → LeavesTruePasses leaves → LeavesTruePasses leaves'
passes_kept words held holds leaves leaves' written written' taken taken' outcome (inl (inl early)) was book left = was book (early.leaves_is (Some book) left)
passes_kept words held holds leaves leaves' written written' taken taken' outcome (inl (inr aside)) was book left = was book (aside.leaves_is (Some book) left)
passes_kept words held holds leaves leaves' written written' taken taken' outcome (inr life) was book left =
    let plan : IsPlan life.prepared = record { config = life.made.config; files = life.made.files; made = life.made.made } in
    let sure : PassesAreTrue life.work.sure = course_passes life.prepared life.loaded life.work.book.changes life.work.sure plan life.work.book.course (was life.loaded life.allowed) in
    near_passes life.prepared life.work.sure book plan (life.work.book.near (Some book) left) sure
