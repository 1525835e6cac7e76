-- A command under the limit of cycles of its campaign, and its refusal by the baselines.
use Rattle.mcy_top.proofs.Common.{◌≡◌, ◌⊎◌, false, ℕ, List, Option, None, Some, Result, refl, sym, subst, IfErr, MatchOption, IfErr-weaker, on_ok_weaker, Book, IsBlank, Keeps, Goal, IsWellFormed}
use Rattle.mcy_top.proofs.Common.{Command, Init, Run, Listing, Status, Source, Baseline, Demo, Prepared, IsPlan, IsMade, Held, FailsBaselines, HasItsLimit, IsLimitOf, Outcome, BaselineBad, Memory}
use Rattle.mcy_top.proofs.Common.{BookRefusal, RefusedNone, RefusedBegun, RefusedBook, RefusedMutation, HasNamed, RefusesBook, Runs, Ends, Carried, Takes, Work, WorkUnder, IsLimitFor, IsUnfit, Opens}
use Rattle.mcy_top.proofs.Common.{book_outcome}
use Rattle.std.specs.Prelude.{OnOk}
use Rattle.campaign_plan.proofs.Limits.{plan_limited, prepared_limited}
use Rattle.mcy_top.specs.declared.refusal.BookRefusal.TheVariants.{Memory as NoMemory}
use Rattle.mcy_top.proofs.Kept.{work_kept}

-- a run opens its campaign
pub runs_open : (command : Command) → Runs command → Opens command
runs_open (Run jobs stop retry) runs = tt
runs_open Init runs = absurd runs
runs_open Listing runs = absurd runs
runs_open (Status strict) runs = absurd runs
runs_open Source runs = absurd runs
runs_open Baseline runs = absurd runs
runs_open (Demo seed cells) runs = absurd runs

-- ---- the limit

pub limit_found : (command : Command) (c : Prepared) (found : Option ℕ) → Opens command → MatchOption found (FailsBaselines c) (IsLimitOf c) → MatchOption found (IsUnfit command c) (IsLimitFor command c)
limit_found command c None opens fails = (opens, fails)
limit_found command c (Some cycles) opens own = record { limit = λ o. own; same = own.same }

pub limit_plain : (command : Command) (c : Prepared) → (¬ Opens command) → IsLimitFor command c c.cycles
limit_plain command c shut = record { limit = λ opens. absurd (shut opens); same = λ fixed. refl }

module _ (command : Command) (aim : Goal) (c limited : Prepared) (cycles : ℕ) (limit : IsLimitFor command c cycles) (is : limited ≡ record c { cycles = cycles }) where
  pub limited_plan : IsPlan c → IsPlan limited
  limited_plan plan = subst IsPlan (sym is) (plan_limited c cycles limit.same plan)

  pub limited_runs : Runs command → HasItsLimit limited
  limited_runs runs = let own : IsLimitOf c cycles = limit.limit (runs_open command runs) in subst HasItsLimit (sym is) own.limit

  pub limited_work : (leaves : Option Book → Type 0) (written written' : Option (List ℕ)) (taken taken' : ℕ) (loaded : Book) (outcome : Outcome) → Work leaves written written' taken taken' command aim limited loaded outcome → WorkUnder leaves written written' taken taken' command aim c loaded outcome
  limited_work leaves written written' taken taken' loaded outcome work = record {
    cycles = cycles;
    same = limit.same;
    work = subst (λ (p : Prepared). Work leaves written written' taken taken' command aim p loaded outcome) is work;
    passes = λ opens carried. (let own : IsLimitOf c cycles = limit.limit opens in own.passes);
  }

-- the files make the campaign under that limit
pub made_limited : (held : Option Held) (c : Prepared) (cycles : ℕ) → (c.auto_cycles ≡ false → cycles ≡ c.cycles) → IsMade held c → IsMade held (record c { cycles = cycles })
made_limited held c cycles same made = record {
  config = made.config;
  files = made.files;
  got_config = made.got_config;
  got_files = made.got_files;
  made = prepared_limited made.config made.files c cycles same made.made;
}

-- ---- the refusal

-- what opens and is no `init` is a run
opens_run : (command : Command) → Opens command → (command ≡ Init → ⊥) → Runs command
opens_run Init opens other = absurd (other refl)
opens_run (Run jobs stop retry) opens other = tt
opens_run Listing opens other = absurd opens
opens_run (Status strict) opens other = absurd opens
opens_run Source opens other = absurd opens
opens_run Baseline opens other = absurd opens
opens_run (Demo seed cells) opens other = absurd opens

run_takes : (command : Command) (aim : Goal) (c : Prepared) (book : Book) → Runs command → (IsBlank book ⊎ IsWellFormed c.campaign book) × HasNamed aim c → Takes command aim c book
run_takes (Run jobs stop retry) aim c book runs takes = takes
run_takes Init aim c book runs takes = absurd runs
run_takes Listing aim c book runs takes = absurd runs
run_takes (Status strict) aim c book runs takes = absurd runs
run_takes Source aim c book runs takes = absurd runs
run_takes Baseline aim c book runs takes = absurd runs
run_takes (Demo seed cells) aim c book runs takes = absurd runs

-- `init` takes the book, or refuses it
module _ {T : Type 0} (command : Command) (aim : Goal) (c : Prepared) (book : Book) (r : Result T BookRefusal) where
  pub init_taken : command ≡ Init → OnOk r (IsBlank book) → OnOk r (Takes command aim c book)
  init_taken is taken = subst (λ (d : Command). OnOk r (Takes d aim c book)) (sym is) taken

  pub init_refused : command ≡ Init → IfErr r (λ refusal. (a : Goal) (p : Prepared) → RefusesBook Init a p book refusal) → IfErr r (RefusesBook command aim c book)
  init_refused is refused =
      subst (λ (d : Command). IfErr r (RefusesBook d aim c book)) (sym is)
      (IfErr-weaker r (λ refusal. (a : Goal) (p : Prepared) → RefusesBook Init a p book refusal) (RefusesBook Init aim c book) (λ refusal why. why aim c) refused)

  -- and so does a run
  pub run_taken : Opens command → (command ≡ Init → ⊥) → OnOk r ((IsBlank book ⊎ IsWellFormed c.campaign book) × HasNamed aim c) → OnOk r (Takes command aim c book)
  run_taken opens other taken = on_ok_weaker r (run_takes command aim c book (opens_run command opens other)) taken

  pub run_refused : Opens command → (command ≡ Init → ⊥) → IfErr r (λ refusal. (d : Command) → Runs d → RefusesBook d aim c book refusal) → IfErr r (RefusesBook command aim c book)
  run_refused opens other refused =
      IfErr-weaker r (λ refusal. (d : Command) → Runs d → RefusesBook d aim c book refusal) (RefusesBook command aim c book) (λ refusal why. why command (opens_run command opens other)) refused

pub unfit_work : (holds : Book → Type 0) (leaves : Option Book → Type 0) (written : Option (List ℕ)) (n : ℕ) (command : Command) (aim : Goal) (c : Prepared) (loaded : Book) → Keeps holds leaves loaded → IsUnfit command c → Takes command aim c loaded → Work leaves written written n n command aim c loaded BaselineBad
unfit_work holds leaves written n command aim c loaded kept unfit takes = work_kept holds leaves written written n command aim c loaded BaselineBad kept refl (takes, unfit) (λ h. absurd h) (λ h. absurd h)

pub unfit_ends : (written : Option (List ℕ)) (keeper sink : ℕ) → Ends written written keeper keeper sink sink BaselineBad
unfit_ends written keeper sink = record { quiet = tt; cause = tt }

-- by the book
pub book_ends : (written : Option (List ℕ)) (keeper sink : ℕ) (refusal : BookRefusal) → Ends written written keeper keeper sink sink (book_outcome refusal)
book_ends written keeper sink RefusedNone = record { quiet = refl; cause = tt }
book_ends written keeper sink RefusedBegun = record { quiet = refl; cause = tt }
book_ends written keeper sink (RefusedBook error) = record { quiet = refl; cause = tt }
book_ends written keeper sink (RefusedMutation number) = record { quiet = refl; cause = tt }
book_ends written keeper sink NoMemory = record { quiet = refl; cause = tt }

pub book_not_carried : (refusal : BookRefusal) → ¬ Carried (book_outcome refusal)
book_not_carried RefusedNone carried = carried
book_not_carried RefusedBegun carried = carried
book_not_carried (RefusedBook error) carried = carried
book_not_carried (RefusedMutation number) carried = carried
book_not_carried NoMemory carried = carried

-- what is refused, and what found no memory, is under the campaign's own limit
pub refused_work : (leaves : Option Book → Type 0) (written written' : Option (List ℕ)) (taken taken' : ℕ) (command : Command) (aim : Goal) (c : Prepared) (loaded : Book) (outcome : Outcome) → (¬ Carried outcome) → Work leaves written written' taken taken' command aim c loaded outcome → WorkUnder leaves written written' taken taken' command aim c loaded outcome
refused_work leaves written written' taken taken' command aim c loaded outcome stays work = record {
  cycles = c.cycles;
  same = λ fixed. refl;
  work = work;
  passes = λ opens carried. absurd (stays carried);
}

pub memory_work : (holds : Book → Type 0) (leaves : Option Book → Type 0) (written : Option (List ℕ)) (n : ℕ) (command : Command) (aim : Goal) (c : Prepared) (loaded : Book) → Keeps holds leaves loaded → WorkUnder leaves written written n n command aim c loaded Memory
memory_work holds leaves written n command aim c loaded kept =
    refused_work leaves written written n n command aim c loaded Memory (λ carried. carried) (work_kept holds leaves written written n command aim c loaded Memory kept refl tt (λ h. absurd h) (λ h. absurd h))
