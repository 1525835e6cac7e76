-- A call that is ready and meets no fault succeeds, or finds no memory.
use Rattle.mcy_top.proofs.Common.{◌≡◌, ◌≢◌, ◌⊎◌, inl, inr, ℕ, List, [], refl, sym, ap, subst, ◌∙◌, Option, None, Some, Book, IsBlank, Held, BookError, Stray, NoMemoryFor, meta_in_second, IsWellFormed}
use Rattle.mcy_top.proofs.Common.{Command, Init, Run, Listing, Status, Source, Baseline, Demo, Goal, Prepared, Refusal, RefusedProject, RefusedScript, RefusedSource, RefusedMissing, RefusedTooLarge}
use Rattle.mcy_top.proofs.Common.{BookRefusal, RefusedNone, RefusedBegun, RefusedBook, RefusedMutation, Outcome, Done, Unfinished, BaselineBad, Usage, ProjectBad, ScriptBad, SourceBad, Missing}
use Rattle.mcy_top.proofs.Common.{TooLarge, NoCampaign, AlreadyBegun, BookBad, ReadFault, KeeperFault, WriteFault, Memory, RequirementMissed, NoMutation, command_of, aim_of, stop_of, AsksNoDemo}
use Rattle.mcy_top.proofs.Common.{IsAside, OnBook, IsPlan, IsUnmade, IsByFiles, IsBookBad, RefusesBook, IsUnfit, Opens, Answered, Answers, EndsEarly, HasCause, Life, Takes, Unloaded, plan_meta}
use Rattle.mcy_top.specs.declared.refusal.BookRefusal.TheVariants.{Memory as NoMemory}
use Rattle.campaign_choice.specs.Campaigns.{meta_of}
use Rattle.mcy_top.specs.Complete.{Completes, IsReady, NoneRose}
use Rattle.campaign_reading.proofs.OneCause.{unmade_not}

-- A book that is taken is not refused.

pub blank_meta : (book : Book) → IsBlank book → book.meta ≡ []
blank_meta book empty = ap (λ (b : Book). b.meta) empty

-- a campaign's book is begun
pub form_meta : (c : Prepared) (book : Book) → IsPlan c → IsWellFormed c.campaign book → book.meta ≢ []
form_meta c book plan form none = let is : meta_of plan.config plan.files ≡ [] = sym (plan_meta c plan) ∙ sym form.meta ∙ ap meta_in_second none in cc

-- what a command takes is blank, or is the campaign's book
taken_as : (command : Command) (aim : Goal) (c : Prepared) (book : Book) → Takes command aim c book → IsBlank book ⊎ IsWellFormed c.campaign book
taken_as Init aim c book takes = inl takes
taken_as (Run jobs stop retry) aim c book takes = takes.0
taken_as Listing aim c book takes = inr takes
taken_as (Status strict) aim c book takes = inr takes
taken_as Source aim c book takes = inr takes
taken_as Baseline aim c book takes = absurd takes
taken_as (Demo seed cells) aim c book takes = absurd takes

-- a blank book is not bad, and neither is the campaign's, nor one that a command finds begun already
pub blank_not_bad : (c : Prepared) (book : Book) (error : BookError) → IsBlank book → ¬ IsBookBad c book error
blank_not_bad c book (Stray mutations rows) empty bad = bad.1 empty
blank_not_bad c book NoMemoryFor empty bad = bad
blank_not_bad c book error empty bad = bad.0 (blank_meta book empty)

pub form_not_bad : (c : Prepared) (book : Book) (error : BookError) → IsPlan c → IsWellFormed c.campaign book → ¬ IsBookBad c book error
form_not_bad c book (Stray mutations rows) plan form bad = form_meta c book plan form bad.0
form_not_bad c book NoMemoryFor plan form bad = bad
form_not_bad c book error plan form bad = bad.1 form

pub begun_not_bad : (command : Command) (aim : Goal) (c : Prepared) (book : Book) (error : BookError) → RefusesBook command aim c book RefusedBegun → ¬ RefusesBook command aim c book (RefusedBook error)
begun_not_bad command aim c book (Stray mutations rows) begun bad = begun.0 bad.0.0
begun_not_bad command aim c book error begun bad = bad.1 begun.1

-- nor one that is taken
pub bad_not : (c : Prepared) (book : Book) (error : BookError) → IsPlan c → IsBlank book ⊎ IsWellFormed c.campaign book → ¬ IsBookBad c book error
bad_not c book error plan (inl empty) bad = blank_not_bad c book error empty bad
bad_not c book error plan (inr form) bad = form_not_bad c book error plan form bad

none_not : (command : Command) (aim : Goal) (c : Prepared) (book : Book) → IsPlan c → Takes command aim c book → ¬ RefusesBook command aim c book RefusedNone
none_not Init aim c book plan takes refuses = refuses.1
none_not (Run jobs stop retry) aim c book plan takes refuses = refuses.1
none_not Listing aim c book plan form refuses = form_meta c book plan form (blank_meta book refuses.0)
none_not (Status strict) aim c book plan form refuses = form_meta c book plan form (blank_meta book refuses.0)
none_not Source aim c book plan form refuses = form_meta c book plan form (blank_meta book refuses.0)
none_not Baseline aim c book plan takes refuses = takes
none_not (Demo seed cells) aim c book plan takes refuses = takes

begun_not : (command : Command) (aim : Goal) (c : Prepared) (book : Book) → Takes command aim c book → ¬ RefusesBook command aim c book RefusedBegun
begun_not command aim c book takes refuses = refuses.0 (blank_meta book (subst (λ (d : Command). Takes d aim c book) refuses.1 takes))

-- and the campaign has what it names
named_not : (command : Command) (aim : Goal) (c : Prepared) (book : Book) (number : ℕ) → Takes command aim c book → ¬ RefusesBook command aim c book (RefusedMutation number)
named_not (Run jobs stop retry) aim c book number takes refuses = let never : None ≡ Some number = sym takes.1 ∙ refuses.2 in cc
named_not Init aim c book number takes refuses = refuses.0
named_not Listing aim c book number takes refuses = refuses.0
named_not (Status strict) aim c book number takes refuses = refuses.0
named_not Source aim c book number takes refuses = refuses.0
named_not Baseline aim c book number takes refuses = refuses.0
named_not (Demo seed cells) aim c book number takes refuses = refuses.0

pub taken_not_refused : (command : Command) (aim : Goal) (c : Prepared) (book : Book) (refusal : BookRefusal) → IsPlan c → Takes command aim c book → RefusesBook command aim c book refusal → refusal ≡ NoMemory
taken_not_refused command aim c book RefusedNone plan takes refuses = absurd (none_not command aim c book plan takes refuses)
taken_not_refused command aim c book RefusedBegun plan takes refuses = absurd (begun_not command aim c book takes refuses)
taken_not_refused command aim c book (RefusedBook error) plan takes refuses = absurd (bad_not c book error plan (taken_as command aim c book takes) refuses.0)
taken_not_refused command aim c book (RefusedMutation number) plan takes refuses = absurd (named_not command aim c book number takes refuses)
taken_not_refused command aim c book NoMemory plan takes refuses = refl

-- words that give a command on the book ask for no demo
no_demo : (words : List (List ℕ)) (command : Command) → command_of words ≡ Some command → OnBook command → AsksNoDemo words
no_demo words command asked on seed cells demo =
    let is : Some command ≡ Some (Demo seed cells) = sym asked ∙ demo in
    let same : command ≡ Demo seed cells = cc in
    subst OnBook same on

-- nor for anything that is done without a book
not_aside : (words : List (List ℕ)) (command : Command) → command_of words ≡ Some command → OnBook command → ¬ IsAside words
not_aside words command asked on (inl baseline) =
    let is : Some command ≡ Some Baseline = sym asked ∙ baseline in
    let same : command ≡ Baseline = cc in
    subst OnBook same on
not_aside words command asked on (inr demo) = no_demo words command asked on demo.0 demo.1 demo.2

pub completes : (words : List (List ℕ)) (held : Option Held) (holds : Book → Type 0) (leaves leaves' : Option Book → Type 0) (written written' : Option (List ℕ)) (taken taken' f f' k k' s s' : ℕ) (command : Command) (o : Outcome)
    → IsReady words held holds leaves command → NoneRose f f' k k' s s' → (AsksNoDemo words → Answered words held o) → HasCause f f' k k' s s' o
    → Unloaded words leaves leaves' taken taken' o ⊎ Life words held holds leaves leaves' written written' taken taken' o → Completes command o
completes words held holds leaves leaves' written written' taken taken' f f' k k' s s' command o ready none answer cause (inl (inl early)) = go o (answer (no_demo words command ready.asked ready.on_book)) cause early.early
  where
    bad : (r : Refusal) → IsByFiles r → ¬ IsUnmade held r
    bad r whole why = unmade_not held ready.readable r whole (subst (λ (h : Option Held). IsUnmade h r) ready.readable.told why)

    go : (o : Outcome) → Answered words held o → HasCause f f' k k' s s' o → EndsEarly o → Completes command o
    go Usage a h e = let is : Some command ≡ None = sym ready.asked ∙ a in cc
    go (Missing name) a h e = absurd (bad (RefusedMissing name) tt a.1)
    go (TooLarge name) a h e = absurd (bad (RefusedTooLarge name) tt a.1)
    go (ProjectBad error) a h e = absurd (bad (RefusedProject error) tt a.1)
    go (ScriptBad error) a h e = absurd (bad (RefusedScript error) tt a.1)
    go (SourceBad error) a h e = absurd (bad (RefusedSource error) tt a.1)
    go (ReadFault name) a h e = absurd (none.reads h)
    go KeeperFault a h e = absurd (none.keeps h)
    go Memory a h e = tt
    go o a h e = absurd e
completes words held holds leaves leaves' written written' taken taken' f f' k k' s s' command o ready none answer cause (inl (inr aside)) = absurd (not_aside words command ready.asked ready.on_book aside.asked)
completes words held holds leaves leaves' written written' taken taken' f f' k k' s s' command o ready none answer cause (inr life) = go o cause life.work.answer
  where
    same : life.command ≡ command
    same = let is : Some life.command ≡ Some command = sym life.asked ∙ ready.asked in cc

    aim : Goal
    aim = aim_of words life.command

    takes : Takes life.command aim life.prepared life.loaded
    takes = subst (λ (d : Command). Takes d (aim_of words d) life.prepared life.loaded) (sym same) (ready.takes life.prepared life.loaded life.made life.allowed life.found)

    plan : IsPlan life.prepared
    plan = record { config = life.made.config; files = life.made.files; made = life.made.made }

    refused : (r : BookRefusal) → RefusesBook life.command aim life.prepared life.loaded r → r ≡ NoMemory
    refused r refuses = taken_not_refused life.command aim life.prepared life.loaded r plan takes refuses

    unfit : ¬ IsUnfit life.command life.prepared
    unfit (opens, (asks, (list, are, fails))) = fails (ready.passes life.prepared list life.made (subst Opens same opens) asks are)

    go : (o : Outcome) → HasCause f f' k k' s s' o → Answers life.command aim life.prepared life.loaded life.work.sure o → Completes command o
    go Done h a = tt
    go RequirementMissed h a = tt
    go (Unfinished left) h a = λ none. let is : Some a.2.stop ≡ None = sym a.2.asked ∙ ap stop_of same ∙ none in cc
    go Memory h a = tt
    go BaselineBad h a = absurd (unfit a.1)
    go NoCampaign h a = let is : RefusedNone ≡ NoMemory = refused RefusedNone a in cc
    go AlreadyBegun h a = let is : RefusedBegun ≡ NoMemory = refused RefusedBegun a in cc
    go (BookBad error) h a = let is : RefusedBook error ≡ NoMemory = refused (RefusedBook error) a in cc
    go (NoMutation number) h a = let is : RefusedMutation number ≡ NoMemory = refused (RefusedMutation number) a in cc
    go KeeperFault h a = absurd (none.keeps h)
    go WriteFault h a = absurd (none.writes h)
    go o h a = absurd a
