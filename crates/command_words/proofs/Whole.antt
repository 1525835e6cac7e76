-- All the words: the first names the command, and what stands behind it is read there. So the parse fails just where they ask for
-- nothing.
use Rattle.command_words.proofs.Common.{◌≡◌, ◌∙◌, ◌||◌, Bool, cond, true, false, true≢false, refl, sym, ap, ap₂, subst, List, [], ◌∷◌, Option, Some, None, option_map, codes, bytes_eq, is_some, fold}
use Rattle.command_words.proofs.Common.{list_any, false_from_ne_true, bytes_eq-Decides, Names, Text, Walk, finished, idle, nothing_held, subcommand_met, walked, built, entered, names_of}
use Rattle.command_words.proofs.Common.{subcommand_of, IsAmong, Kinds, or_else, entered_fault, fault_of, level_fault, turn_fault, walk_fault, clap_on_literals, walk_stopped, Asked, Baseline, Init}
use Rattle.command_words.proofs.Common.{Listing, Source, alone, asked_of, demo_of, no_options, one_word, options_of, plainly, run_with, status_of, asked_by, command_line, leaf}
use Rattle.clap.specs.Simple.{App}
use Rattle.clap.specs.declared.error.kind.ErrorKind.{ErrorKind}
use Rattle.clap.proofs.FaultLemmas.{stopped_fault}
use Rattle.command_words.proofs.DemoWords.{demo, demo_words}
use Rattle.command_words.proofs.DemoWords as demos
use Rattle.command_words.proofs.OptionList.{dashes_none, run_words}
use Rattle.command_words.proofs.RunTurns.{IsClean, below, by_rows, run}
use Rattle.command_words.proofs.RunTurns as places
use Rattle.command_words.proofs.StatusWords.{status, status_words}
use Rattle.command_words.proofs.StatusWords as statuses
use Rattle.command_words.proofs.Turns.{IsRefused, dashes, end_fault, or_refused, refused_at, stray, taken, taken_last, taken_refused, verdict}
use Rattle.command_words.proofs.WordParts.{AreTexts}

-- no word is read yet
abbrev begun : Walk
begun = places.begun []

abbrev line : App
line = built command_line

abbrev names : Names
names = names_of line

abbrev whole : List Text → Option Asked
whole words = taken (fault_of command_line words) (asked_by (subcommand_of command_line words))

-- the answer by the faults of the words and the place behind them
abbrev of_end : Kinds → Walk → Option Asked
of_end f e =
    taken (or_else f (or_else (entered_fault line e.stopped) (end_fault line.top e.held (is_some (entered line e.stopped)))))
    (asked_by (entered line e.stopped))

abbrev with_turn : List Text → Kinds → Walk → Option Asked
with_turn rest f next = of_end (or_else f (walk_fault line.top names next rest)) (fold (walked line.top.rules names) next rest)

first_word : (word : Text) (rest : List Text) → whole (word ∷ rest) ≡ with_turn rest (turn_fault line.top names begun word) (walked line.top.rules names begun word)
unfolding walk_fault
first_word word rest = refl

-- ---- a command

enters : (word : Text) (rest : List Text) → turn_fault line.top names begun word ≡ [] → walked line.top.rules names begun word ≡ record begun { stopped = Some (word, []) }
    → whole (word ∷ rest) ≡ of_end [] (record begun { stopped = Some (word, rest) })
enters word rest none step =
    first_word word rest ∙ ap₂ (with_turn rest) none step
    ∙ ap₂ of_end (stopped_fault line.top names begun (word, []) rest) (sym (walk_stopped line.top.rules names begun word [] rest))

run_named : (rest : List Text) → IsClean rest → whole (codes "run" ∷ rest) ≡ asked_of (codes "run" ∷ rest)
unfolding clap_on_literals
run_named rest clean = enters (codes "run") rest refl refl
    ∙ taken_last (level_fault run [] nothing_held rest false []) (by_rows (finished run.rules (fold (walked run.rules []) begun rest).held)) ∙ run_words rest clean

demo_named : (rest : List Text) → IsClean rest → whole (codes "demo" ∷ rest) ≡ asked_of (codes "demo" ∷ rest)
unfolding clap_on_literals
demo_named rest clean = enters (codes "demo") rest refl refl
    ∙ taken_last (level_fault demo [] nothing_held rest false []) (demos.by_rows (finished demo.rules (fold (walked demo.rules []) begun rest).held)) ∙ demo_words rest clean

status_named : (rest : List Text) → IsClean rest → whole (codes "status" ∷ rest) ≡ asked_of (codes "status" ∷ rest)
unfolding clap_on_literals
status_named rest clean = enters (codes "status") rest refl refl
    ∙ taken_last (level_fault status [] nothing_held rest false []) (statuses.by_rows (finished status.rules (fold (walked status.rules []) begun rest).held)) ∙ status_words rest clean

-- the word is none of the three that words may stand behind
record IsBare (name : Text) : Type 0 where
  no_run : bytes_eq name (codes "run") ≡ false
  no_status : bytes_eq name (codes "status") ≡ false
  no_demo : bytes_eq name (codes "demo") ≡ false

-- what such a word asks for with these behind it
named : (name : Text) (rest : List Text) → IsBare name → asked_of (name ∷ rest) ≡ alone name rest
named name rest is =
    ap (λ (b : Bool). cond b (run_with (options_of no_options rest)) (cond (bytes_eq name (codes "status")) (status_of rest) (cond (bytes_eq name (codes "demo")) (demo_of rest) (alone name rest)))) is.no_run
    ∙ ap (λ (b : Bool). cond b (status_of rest) (cond (bytes_eq name (codes "demo")) (demo_of rest) (alone name rest))) is.no_status
    ∙ ap (λ (b : Bool). cond b (demo_of rest) (alone name rest)) is.no_demo

-- behind a command without options nothing may stand
bare : (name : Text) (asked : Asked) → IsBare name → one_word name ≡ Some asked → (rest : List Text) → IsClean rest → verdict (below (leaf name)) (λ rows. Some asked) begun rest ≡ asked_of (name ∷ rest)
unfolding clap_on_literals
bare name asked is one [] clean = sym (named name [] is ∙ one)
bare name asked is one (x ∷ rest) clean = refused ∙ sym (named name (x ∷ rest) is)
  where
    refused : verdict (below (leaf name)) (λ rows. Some asked) begun (x ∷ rest) ≡ None
    refused = refused_at (below (leaf name)) (λ rows. Some asked) begun x rest
        (stray (below (leaf name)) [] x [] None 1 (record { long = λ p e. refl; short = λ flags e c first. refl }) refl clean.0.no_dashes refl)

init_named : (rest : List Text) → IsClean rest → whole (codes "init" ∷ rest) ≡ asked_of (codes "init" ∷ rest)
unfolding clap_on_literals
init_named rest clean = enters (codes "init") rest refl refl
    ∙ taken_last (level_fault (below (leaf (codes "init"))) [] nothing_held rest false []) (Some (plainly Init)) ∙ bare (codes "init") (plainly Init) (record { no_run = refl; no_status = refl; no_demo = refl }) refl rest clean

list_named : (rest : List Text) → IsClean rest → whole (codes "list" ∷ rest) ≡ asked_of (codes "list" ∷ rest)
unfolding clap_on_literals
list_named rest clean = enters (codes "list") rest refl refl
    ∙ taken_last (level_fault (below (leaf (codes "list"))) [] nothing_held rest false []) (Some (plainly Listing)) ∙ bare (codes "list") (plainly Listing) (record { no_run = refl; no_status = refl; no_demo = refl }) refl rest clean

source_named : (rest : List Text) → IsClean rest → whole (codes "source" ∷ rest) ≡ asked_of (codes "source" ∷ rest)
unfolding clap_on_literals
source_named rest clean = enters (codes "source") rest refl refl
    ∙ taken_last (level_fault (below (leaf (codes "source"))) [] nothing_held rest false []) (Some (plainly Source)) ∙ bare (codes "source") (plainly Source) (record { no_run = refl; no_status = refl; no_demo = refl }) refl rest clean

baseline_named : (rest : List Text) → IsClean rest → whole (codes "baseline" ∷ rest) ≡ asked_of (codes "baseline" ∷ rest)
unfolding clap_on_literals
baseline_named rest clean = enters (codes "baseline") rest refl refl
    ∙ taken_last (level_fault (below (leaf (codes "baseline"))) [] nothing_held rest false []) (Some (plainly Baseline)) ∙ bare (codes "baseline") (plainly Baseline) (record { no_run = refl; no_status = refl; no_demo = refl }) refl rest clean

-- ---- nothing that is asked for

turned : (a b : Text) → bytes_eq a b ≡ false → bytes_eq b a ≡ false
turned a b e = false_from_ne_true _ (λ same. true≢false (sym ((bytes_eq-Decides a b).1 (sym ((bytes_eq-Decides b a).0 same))) ∙ e))

abbrev met_by : Bool → Bool → Bool → Bool → Bool → Bool → Bool → Option Text
met_by a b c d e f g = option_map (λ (s : Text × List Text). s.0)
    (cond (a || false) (Some (codes "init", [])) (cond (b || false) (Some (codes "run", []))
    (cond (c || false) (Some (codes "list", [])) (cond (d || false) (Some (codes "status", []))
    (cond (e || false) (Some (codes "source", [])) (cond (f || false) (Some (codes "baseline", []))
    (cond (g || false) (Some (codes "demo", [])) None)))))))

-- the word is no command's name
record NoName (word : Text) : Type 0 where
  no_init : bytes_eq word (codes "init") ≡ false
  no_run : bytes_eq word (codes "run") ≡ false
  no_list : bytes_eq word (codes "list") ≡ false
  no_status : bytes_eq word (codes "status") ≡ false
  no_source : bytes_eq word (codes "source") ≡ false
  no_baseline : bytes_eq word (codes "baseline") ≡ false
  no_demo : bytes_eq word (codes "demo") ≡ false

no_name : (word : Text) (rest : List Text) → IsClean (word ∷ rest) → NoName word → whole (word ∷ rest) ≡ asked_of (word ∷ rest)
no_name word rest clean other = refused ∙ sym (named word rest (record { no_run = other.no_run; no_status = other.no_status; no_demo = other.no_demo }) ∙ go rest)
  where
    none : subcommand_met names idle word ≡ None
    none = λ i. met_by (turned word (codes "init") other.no_init i) (turned word (codes "run") other.no_run i) (turned word (codes "list") other.no_list i) (turned word (codes "status") other.no_status i)
        (turned word (codes "source") other.no_source i) (turned word (codes "baseline") other.no_baseline i) (turned word (codes "demo") other.no_demo i)

    strays : IsRefused (turn_fault line.top names begun word)
    strays = stray line.top names word [] None 1 (record { long = λ p e. refl; short = λ flags e c first. refl }) none clean.0.no_dashes refl

    refused : whole (word ∷ rest) ≡ None
    refused = first_word word rest
        ∙ taken_refused (or_else (turn_fault line.top names begun word) (walk_fault line.top names (walked line.top.rules names begun word) rest)) _ _
        (or_refused (turn_fault line.top names begun word) _ strays)

    go : (more : List Text) → alone word more ≡ None
    go [] = rw (other.no_init, other.no_list, other.no_source, other.no_baseline) refl
    go (x ∷ more) = refl

-- ---- all words

at_name : (word name : Text) (rest : List Text) → bytes_eq word name ≡ true → whole (name ∷ rest) ≡ asked_of (name ∷ rest) → whole (word ∷ rest) ≡ asked_of (word ∷ rest)
at_name word name rest same h = subst (λ x. whole (x ∷ rest) ≡ asked_of (x ∷ rest)) (sym ((bytes_eq-Decides word name).0 same)) h

words_are : (words : List Text) → IsClean words → whole words ≡ asked_of words
unfolding clap_on_literals
words_are [] clean = refl
words_are (word ∷ rest) clean =
    by_name (bytes_eq word (codes "init")) refl (bytes_eq word (codes "run")) refl (bytes_eq word (codes "list")) refl (bytes_eq word (codes "status")) refl
    (bytes_eq word (codes "source")) refl (bytes_eq word (codes "baseline")) refl (bytes_eq word (codes "demo")) refl
  where
    by_name : (a : Bool) → bytes_eq word (codes "init") ≡ a → (b : Bool) → bytes_eq word (codes "run") ≡ b → (c : Bool) → bytes_eq word (codes "list") ≡ c → (d : Bool) → bytes_eq word (codes "status") ≡ d → (e : Bool) → bytes_eq word (codes "source") ≡ e → (f : Bool) → bytes_eq word (codes "baseline") ≡ f → (g : Bool) → bytes_eq word (codes "demo") ≡ g → whole (word ∷ rest) ≡ asked_of (word ∷ rest)
    by_name true is b hb c hc d hd e he f hf g hg = at_name word (codes "init") rest is (init_named rest clean.1)
    by_name false ha true is c hc d hd e he f hf g hg = at_name word (codes "run") rest is (run_named rest clean.1)
    by_name false ha false hb true is d hd e he f hf g hg = at_name word (codes "list") rest is (list_named rest clean.1)
    by_name false ha false hb false hc true is e he f hf g hg = at_name word (codes "status") rest is (status_named rest clean.1)
    by_name false ha false hb false hc false hd true is f hf g hg = at_name word (codes "source") rest is (source_named rest clean.1)
    by_name false ha false hb false hc false hd false he true is g hg = at_name word (codes "baseline") rest is (baseline_named rest clean.1)
    by_name false ha false hb false hc false hd false he false hf true is = at_name word (codes "demo") rest is (demo_named rest clean.1)
    by_name false ha false hb false hc false hd false he false hf false hg =
        no_name word rest clean (record { no_init = ha; no_run = hb; no_list = hc; no_status = hd; no_source = he; no_baseline = hf; no_demo = hg })

-- a parse that succeeds gives what the words ask for
pub accepted : (words : List Text) → IsClean words → fault_of command_line words ≡ [] → asked_by (subcommand_of command_line words) ≡ asked_of words
accepted words clean none = sym (ap (λ f. taken f (asked_by (subcommand_of command_line words))) none) ∙ words_are words clean

-- words at which a parse fails for another cause than memory ask for nothing
pub refused : (words : List Text) → IsClean words → (k : ErrorKind) → IsAmong k (fault_of command_line words) → None ≡ asked_of words
refused words clean k among = go (fault_of command_line words) among (words_are words clean)
  where
    go : (f : Kinds) → IsAmong k f → taken f (asked_by (subcommand_of command_line words)) ≡ asked_of words → None ≡ asked_of words
    go [] h e = absurd h
    go (x ∷ xs) h e = e

-- ---- words with `--`

pub clean_from : (words : List Text) → AreTexts words → list_any (λ word. bytes_eq word dashes) words ≡ false → IsClean words
clean_from [] texts e = tt
clean_from (word ∷ rest) texts e = go (bytes_eq word dashes) refl e (clean_from rest texts.1)
  where
    go : (b : Bool) → bytes_eq word dashes ≡ b → (b || list_any (λ x. bytes_eq x dashes) rest) ≡ false → (list_any (λ x. bytes_eq x dashes) rest ≡ false → IsClean rest)
        → IsClean (word ∷ rest)
    go true same bad more = absurd (true≢false bad)
    go false other h more = (record { no_dashes = other; text = texts.0 }, more h)

-- they ask for nothing
pub with_dashes : (words : List Text) → list_any (λ word. bytes_eq word dashes) words ≡ true → None ≡ asked_of words
with_dashes [] e = absurd (true≢false (sym e))
with_dashes (word ∷ rest) e = go (bytes_eq word dashes) refl e
  where
    more : (rest : List Text) → list_any (λ x. bytes_eq x dashes) rest ≡ true → None ≡ alone word rest
    more [] h = absurd (true≢false (sym h))
    more (x ∷ xs) h = refl

    dash_alone : (rest : List Text) → None ≡ alone dashes rest
    dash_alone [] = refl
    dash_alone (x ∷ xs) = refl

    behind : (a b c : Bool) → list_any (λ x. bytes_eq x dashes) rest ≡ true → None ≡ cond a (run_with (options_of no_options rest)) (cond b (status_of rest) (cond c (demo_of rest) (alone word rest)))
    behind true b c h = sym (ap run_with (dashes_none no_options rest h))
    behind false true c h = statuses.dashes_none rest h
    behind false false true h = demos.dashes_none rest h
    behind false false false h = more rest h

    go : (b : Bool) → bytes_eq word dashes ≡ b → (b || list_any (λ x. bytes_eq x dashes) rest) ≡ true → None ≡ asked_of (word ∷ rest)
    go true same h = subst (λ x. None ≡ asked_of (x ∷ rest)) (sym ((bytes_eq-Decides word dashes).0 same)) (dash_alone rest)
    go false other h = behind (bytes_eq word (codes "run")) (bytes_eq word (codes "status")) (bytes_eq word (codes "demo")) h
