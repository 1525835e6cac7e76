-- Each refusal comes exactly where its cause holds.
use Rattle.mcy_top.proofs.Common.{◌≡◌, ◌⊎◌, inl, inr, ℕ, List, refl, sym, ap, subst, ◌∙◌, Option, None, Some, Book, Held, BookError, Stray, NoMemoryFor, Command, Goal, Prepared, Refusal}
use Rattle.mcy_top.proofs.Common.{RefusedProject, RefusedScript, RefusedSource, RefusedMissing, RefusedTooLarge, RefusedRead, RefusedMemory, BookRefusal, RefusedNone, RefusedBegun, RefusedBook}
use Rattle.mcy_top.proofs.Common.{RefusedMutation, Outcome, Done, Unfinished, BaselineBad, Usage, ProjectBad, ScriptBad, SourceBad, Missing, TooLarge, NoCampaign, AlreadyBegun, BookBad, ReadFault}
use Rattle.mcy_top.proofs.Common.{KeeperFault, WriteFault, Memory, RequirementMissed, NoMutation, command_of, IsMade, IsPlan, IsByFiles, IsUnmade, book_outcome, outcome_of, IsBookBad, RefusesBook}
use Rattle.mcy_top.proofs.Common.{Answered, Answers, Commands, IsAccepted, Takes, IsCutShort, RefusesFiles, RefusesFor, Runs}
use Rattle.mcy_top.specs.declared.refusal.BookRefusal.TheVariants.{Memory as NoMemory}
use Rattle.mcy_top.proofs.OneFault.{refused_for_one}
use Rattle.mcy_top.proofs.Kept.{reads_not_runs}
use Rattle.mcy_top.proofs.Completing.{bad_not, begun_not_bad, blank_meta, blank_not_bad, taken_not_refused}
use Rattle.campaign_reading.proofs.OneCause.{refused_once as one_cause, refused_not_made as none_made}

-- what the files decide
by_files : (r : Refusal) → (¬ IsCutShort (outcome_of r)) → IsByFiles r
by_files (RefusedMissing name) whole = tt
by_files (RefusedTooLarge name) whole = tt
by_files (RefusedRead name) whole = whole tt
by_files (RefusedProject error) whole = tt
by_files (RefusedScript error) whole = tt
by_files (RefusedSource error) whole = tt
by_files RefusedMemory whole = whole tt

-- files are refused for one cause
pub refused_once : (map : Held) (r q : Refusal) → RefusesFiles map r → RefusesFiles map q → r ≡ q
refused_once map r q h k = one_cause map r q (by_files r h.by_files) (by_files q k.by_files) h.cause k.cause

-- and make no campaign
pub refused_not_made : (map : Held) (r : Refusal) (c : Prepared) → RefusesFiles map r → ¬ IsMade (Some map) c
refused_not_made map r c h made = none_made map r c (by_files r h.by_files) h.cause made

pub exact_words : (words : List (List ℕ)) (held : Option Held) (o : Outcome) → command_of words ≡ None → Answered words held o → (o ≡ Usage) ⊎ (o ≡ Memory)
exact_words words held Usage none a = inl refl
exact_words words held Memory none a = inr refl
exact_words words held (Missing name) none a = absurd (a.0 none)
exact_words words held (TooLarge name) none a = absurd (a.0 none)
exact_words words held (ReadFault name) none a = absurd (a.0 none)
exact_words words held (ProjectBad error) none a = absurd (a.0 none)
exact_words words held (ScriptBad error) none a = absurd (a.0 none)
exact_words words held (SourceBad error) none a = absurd (a.0 none)
exact_words words held o none a = absurd (a.asked none)

pub exact_files : (words : List (List ℕ)) (map : Held) (r : Refusal) (o : Outcome) → Commands words → RefusesFiles map r → Answered words (Some map) o → (o ≡ outcome_of r) ⊎ IsCutShort o
exact_files words map r o asked h a = go o a
  where
    one : (q : Refusal) → IsUnmade (Some map) q → (¬ IsCutShort (outcome_of q)) → outcome_of q ≡ outcome_of r
    one q k whole = ap outcome_of (refused_once map q r (record { cause = k; by_files = whole }) h)

    none : ¬ IsAccepted words (Some map)
    none accepted = refused_not_made map r accepted.prepared h accepted.made

    go : (o : Outcome) → Answered words (Some map) o → (o ≡ outcome_of r) ⊎ IsCutShort o
    go Usage a = absurd (asked a)
    go (Missing name) a = inl (one (RefusedMissing name) a.1 (λ b. b))
    go (TooLarge name) a = inl (one (RefusedTooLarge name) a.1 (λ b. b))
    go (ReadFault name) a = inr tt
    go (ProjectBad error) a = inl (one (RefusedProject error) a.1 (λ b. b))
    go (ScriptBad error) a = inl (one (RefusedScript error) a.1 (λ b. b))
    go (SourceBad error) a = inl (one (RefusedSource error) a.1 (λ b. b))
    go Memory a = inr tt
    go o a = absurd (none a)

-- A book is refused for one cause.

none_once : (command : Command) (aim : Goal) (c : Prepared) (loaded : Book) (q : BookRefusal) → RefusesBook command aim c loaded RefusedNone → RefusesFor command aim c loaded q → NoCampaign ≡ book_outcome q
none_once command aim c loaded RefusedNone h k = refl
none_once command aim c loaded RefusedBegun h k = absurd (k.cause.0 (blank_meta loaded h.0))
none_once command aim c loaded (RefusedBook error) h k = absurd (blank_not_bad c loaded error h.0 k.cause.0)
none_once command aim c loaded (RefusedMutation number) h k = absurd (reads_not_runs command h.1 k.cause.0)
none_once command aim c loaded NoMemory h k = absurd (k.by_book refl)

begun_once : (command : Command) (aim : Goal) (c : Prepared) (loaded : Book) (q : BookRefusal) → RefusesBook command aim c loaded RefusedBegun → RefusesFor command aim c loaded q → AlreadyBegun ≡ book_outcome q
begun_once command aim c loaded RefusedNone h k = absurd (h.0 (blank_meta loaded k.cause.0))
begun_once command aim c loaded RefusedBegun h k = refl
begun_once command aim c loaded (RefusedBook error) h k = absurd (begun_not_bad command aim c loaded error h k.cause)
begun_once command aim c loaded (RefusedMutation number) h k = absurd (subst Runs h.1 k.cause.0)
begun_once command aim c loaded NoMemory h k = absurd (k.by_book refl)

-- a bad book has one fault that is told
bad_for_one : (c : Prepared) (book : Book) (error other : BookError) → IsBookBad c book error → IsBookBad c book other → error ≡ other
bad_for_one c book (Stray m r) (Stray n s) h k =
    let mutations : m ≡ n = h.2 ∙ sym k.2 in
    let rows : r ≡ s = h.3 ∙ sym k.3 in
    λ i. Stray (mutations i) (rows i)
bad_for_one c book NoMemoryFor other h k = absurd h
bad_for_one c book error NoMemoryFor h k = absurd k
bad_for_one c book (Stray m r) other h k = absurd (k.0 h.0)
bad_for_one c book error (Stray m r) h k = absurd (h.0 k.0)
bad_for_one c book error other h k = refused_for_one c.campaign book error other h.2 k.2 (λ is. cc) (λ is. cc)

bad_once : (command : Command) (aim : Goal) (c : Prepared) (loaded : Book) (error : BookError) (q : BookRefusal) → IsPlan c → RefusesBook command aim c loaded (RefusedBook error) → RefusesFor command aim c loaded q → BookBad error ≡ book_outcome q
bad_once command aim c loaded error RefusedNone plan h k = absurd (blank_not_bad c loaded error k.cause.0 h.0)
bad_once command aim c loaded error RefusedBegun plan h k = absurd (begun_not_bad command aim c loaded error k.cause h)
bad_once command aim c loaded error (RefusedBook other) plan h k = ap (λ (e : BookError). BookBad e) (bad_for_one c loaded error other h.0 k.cause.0)
bad_once command aim c loaded error (RefusedMutation number) plan h k = absurd (bad_not c loaded error plan k.cause.1 h.0)
bad_once command aim c loaded error NoMemory plan h k = absurd (k.by_book refl)

mutation_once : (command : Command) (aim : Goal) (c : Prepared) (loaded : Book) (number : ℕ) (q : BookRefusal) → IsPlan c → RefusesBook command aim c loaded (RefusedMutation number) → RefusesFor command aim c loaded q → NoMutation number ≡ book_outcome q
mutation_once command aim c loaded number RefusedNone plan h k = absurd (reads_not_runs command k.cause.1 h.0)
mutation_once command aim c loaded number RefusedBegun plan h k = absurd (subst Runs k.cause.1 h.0)
mutation_once command aim c loaded number (RefusedBook error) plan h k = absurd (bad_not c loaded error plan h.1 k.cause.0)
mutation_once command aim c loaded number (RefusedMutation other) plan h k =
    let is : Some number ≡ Some other = sym h.2 ∙ k.cause.2 in
    let same : number ≡ other = cc in
    ap (λ (n : ℕ). NoMutation n) same
mutation_once command aim c loaded number NoMemory plan h k = absurd (k.by_book refl)

pub exact_book : (command : Command) (aim : Goal) (c : Prepared) (loaded sure : Book) (q : BookRefusal) (o : Outcome) → IsPlan c → RefusesFor command aim c loaded q → Answers command aim c loaded sure o → (o ≡ book_outcome q) ⊎ (o ≡ Memory)
exact_book command aim c loaded sure q o plan h a = go o a
  where
    taken : ¬ Takes command aim c loaded
    taken takes = h.by_book (taken_not_refused command aim c loaded q plan takes h.cause)

    go : (o : Outcome) → Answers command aim c loaded sure o → (o ≡ book_outcome q) ⊎ (o ≡ Memory)
    go Done a = absurd (taken a.0.takes)
    go RequirementMissed a = absurd (taken a.0.takes)
    go (Unfinished left) a = absurd (taken a.0)
    go NoCampaign a = inl (none_once command aim c loaded q a h)
    go AlreadyBegun a = inl (begun_once command aim c loaded q a h)
    go (BookBad error) a = inl (bad_once command aim c loaded error q plan a h)
    go (NoMutation number) a = inl (mutation_once command aim c loaded number q plan a h)
    go BaselineBad a = absurd (taken a.0)
    go KeeperFault a = absurd (taken a)
    go WriteFault a = absurd (taken a)
    go Memory a = inr refl
    go o a = absurd a
