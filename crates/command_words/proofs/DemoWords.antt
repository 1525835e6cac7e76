-- The words behind `demo`: two, which are its numbers.
use Rattle.command_words.proofs.Common.{◌≡◌, ◌∙◌, ◌||◌, ℕ, Bool, true, false, true≢false, ap, sym, refl, List, [], ◌∷◌, Option, Some, None, inl, inr, codes, ◌⊎◌, bytes_eq, list_any, bytes_eq-Decides}
use Rattle.command_words.proofs.Common.{Row, Text, Walk, arg_by_index, first_of, idle, to_positional, value, Shape, step_fault, AsWritten, CommandLine, clap_on_literals, Asked, cells_number, demo_of}
use Rattle.command_words.proofs.Common.{demo_with, seed_number, demo_by, demo_shape}
use Rattle.command_words.proofs.RunTurns.{IsClean, IsWord, below}
use Rattle.command_words.proofs.Turns.{Begins, IsPlaced, KnowsNot, at, dashes, holding, moves_to, placed, refused_at, stray, verdict}

abbrev pub demo : Shape
demo = below demo_shape

abbrev pub by_rows : List Row → Option Asked
by_rows rows = demo_by (first_of (codes "seed") rows) (first_of (codes "cells") rows)

abbrev pub answer : Walk → List Text → Option Asked
answer = verdict demo by_rows

-- ---- the places: before both words, between them, and behind both

abbrev pub before : Walk
before = at 1 (holding [] None) idle

abbrev between : Text → Walk
between seed = at 2 (holding [] (Some (codes "seed", seed ∷ []))) idle

abbrev seed_row : Text → Row
seed_row seed = record { id = codes "seed"; values = seed ∷ []; count = None; source = Some CommandLine; reading = AsWritten }

abbrev behind : Text → Text → Walk
behind seed cells = at 3 (holding (seed_row seed ∷ []) (Some (codes "cells", cells ∷ []))) idle

knows_none : (word : Text) → KnowsNot demo word
knows_none word = record { long = λ p e. refl; short = λ flags e c first. refl }

-- ---- one word

-- it is refused and begins with a hyphen, or the parse goes on
abbrev GoesOn : Walk → Walk → Text → List Text → Type 0
GoesOn w next word rest = ((answer w (word ∷ rest) ≡ None) × Begins word) ⊎ (answer w (word ∷ rest) ≡ answer next rest)

first_fault : step_fault demo 1 (holding [] None) value ≡ []
unfolding clap_on_literals
first_fault = refl

first_next : (seed : Text) → to_positional demo.rules (arg_by_index demo.rules 1) seed before (holding [] None) ≡ between seed
unfolding clap_on_literals
first_next seed = refl

first_word : (seed : Text) (rest : List Text) → IsWord seed → GoesOn before (between seed) seed rest
first_word seed rest word = go (placed demo [] seed [] None 1 (knows_none seed) refl word.no_dashes)
  where
    go : IsPlaced demo [] seed [] None 1 (knows_none seed) refl word.no_dashes → GoesOn before (between seed) seed rest
    go (inl r) = inl (refused_at demo by_rows before seed rest r.0, r.1)
    go (inr r) = inr (moves_to demo by_rows before seed rest (between seed) (r.0 ∙ first_fault) (r.1 ∙ first_next seed))

-- the first is taken over at the second
second_fault : (seed : Text) → step_fault demo 2 (holding [] (Some (codes "seed", seed ∷ []))) value ≡ []
unfolding clap_on_literals
second_fault seed = refl

second_next : (seed cells : Text) → to_positional demo.rules (arg_by_index demo.rules 2) cells (between seed) (holding [] (Some (codes "seed", seed ∷ []))) ≡ behind seed cells
unfolding clap_on_literals
second_next seed cells = refl

second_word : (seed cells : Text) (rest : List Text) → IsWord cells → GoesOn (between seed) (behind seed cells) cells rest
second_word seed cells rest word = go (placed demo [] cells [] (Some (codes "seed", seed ∷ [])) 2 (knows_none cells) refl word.no_dashes)
  where
    go : IsPlaced demo [] cells [] (Some (codes "seed", seed ∷ [])) 2 (knows_none cells) refl word.no_dashes → GoesOn (between seed) (behind seed cells) cells rest
    go (inl r) = inl (refused_at demo by_rows (between seed) cells rest r.0, r.1)
    go (inr r) = inr (moves_to demo by_rows (between seed) cells rest (behind seed cells) (r.0 ∙ second_fault seed) (r.1 ∙ second_next seed cells))

-- a third gives no command
third_word : (seed cells word : Text) (rest : List Text) → IsWord word → answer (behind seed cells) (word ∷ rest) ≡ None
third_word seed cells word rest is =
    refused_at demo by_rows (behind seed cells) word rest (stray demo [] word (seed_row seed ∷ []) (Some (codes "cells", cells ∷ [])) 3 (knows_none word) refl is.no_dashes refl)

-- ---- the end

none_ended : answer before [] ≡ None
unfolding clap_on_literals
none_ended = refl

one_ended : (seed : Text) → answer (between seed) [] ≡ demo_with (seed_number seed) None
unfolding clap_on_literals
one_ended seed = refl

two_ended : (seed cells : Text) → answer (behind seed cells) [] ≡ demo_with (seed_number seed) (cells_number cells)
unfolding clap_on_literals
two_ended seed cells = refl

-- ---- all words behind `demo`

-- a word that begins with a hyphen says no number
no_seed : (seed : Text) → Begins seed → seed_number seed ≡ None
no_seed seed begins = ap seed_number begins.1

no_cells : (cells : Text) → Begins cells → cells_number cells ≡ None
no_cells cells begins = ap cells_number begins.1

without_cells : (seed : Option ℕ) → demo_with seed None ≡ None
without_cells None = refl
without_cells (Some seed) = refl

seed_none : (seed cells : Text) (rest : List Text) → Begins seed → demo_of (seed ∷ cells ∷ rest) ≡ None
seed_none seed cells [] begins = ap (λ (n : Option ℕ). demo_with n (cells_number cells)) (no_seed seed begins)
seed_none seed cells (word ∷ rest) begins = refl

cells_none : (seed cells : Text) (rest : List Text) → Begins cells → demo_of (seed ∷ cells ∷ rest) ≡ None
cells_none seed cells [] begins = ap (demo_with (seed_number seed)) (no_cells cells begins) ∙ without_cells (seed_number seed)
cells_none seed cells (word ∷ rest) begins = refl

-- both words are read
both_read : (seed cells : Text) (rest : List Text) → IsClean rest → answer (behind seed cells) rest ≡ demo_of (seed ∷ cells ∷ rest)
both_read seed cells [] clean = two_ended seed cells
both_read seed cells (word ∷ rest) clean = third_word seed cells word rest clean.0

pub demo_words : (words : List Text) → IsClean words → answer before words ≡ demo_of words
demo_words [] clean = none_ended
demo_words (seed ∷ []) clean = go (first_word seed [] clean.0)
  where
    go : GoesOn before (between seed) seed [] → answer before (seed ∷ []) ≡ None
    go (inl r) = r.0
    go (inr e) = e ∙ one_ended seed ∙ without_cells (seed_number seed)
demo_words (seed ∷ cells ∷ rest) clean = go (first_word seed (cells ∷ rest) clean.0) (second_word seed cells rest clean.1.0)
  where
    go : GoesOn before (between seed) seed (cells ∷ rest) → GoesOn (between seed) (behind seed cells) cells rest → answer before (seed ∷ cells ∷ rest) ≡ demo_of (seed ∷ cells ∷ rest)
    go (inl r) second = r.0 ∙ sym (seed_none seed cells rest r.1)
    go (inr e) (inl r) = e ∙ r.0 ∙ sym (cells_none seed cells rest r.1)
    go (inr e) (inr h) = e ∙ h ∙ both_read seed cells rest clean.1.1

-- ---- words with `--`

-- they give no command
pub dashes_none : (words : List Text) → list_any (λ word. bytes_eq word dashes) words ≡ true → None ≡ demo_of words
dashes_none [] e = absurd (true≢false (sym e))
dashes_none (seed ∷ []) e = refl
dashes_none (seed ∷ cells ∷ word ∷ rest) e = refl
dashes_none (seed ∷ cells ∷ []) e = go (bytes_eq seed dashes) refl (bytes_eq cells dashes) refl e
  where
    begins : (word : Text) → bytes_eq word dashes ≡ true → Begins word
    begins word same = (45 ∷ [], (bytes_eq-Decides word dashes).0 same)

    go : (a : Bool) → bytes_eq seed dashes ≡ a → (b : Bool) → bytes_eq cells dashes ≡ b → (a || (b || false)) ≡ true → None ≡ demo_of (seed ∷ cells ∷ [])
    go true same b h some = sym (seed_none seed cells [] (begins seed same))
    go false other true same some = sym (cells_none seed cells [] (begins cells same))
    go false other false h never = absurd (true≢false (sym never))
