-- The events as the calls make them, from what is kept.
use Rattle.campaign_core.proofs.Common.{◌≡◌, ◌∙◌, ℕ, zero, suc, ◌+◌, ◌<◌, ◌≤◌, List, [], ◌∷◌, ◌++◌, length, map, set, slice_get, Option, None, Some, refl, sym, ap, subst, MatchOption, option_map}
use Rattle.campaign_core.proofs.Common.{slice_get-map, same_Some, Entry, IsWordOf, IsStateOf, Progress, Seat, Work, Going, Committed, IsRowOf, IsUnchanged, Started, Turned, asked_and_word, slot_after}
use Rattle.campaign_core.proofs.Common.{IsJobOf, asked_of, busy_of, left_of, seen, word_of, Asked, IsWordIn, Busy, Turns}
use Rattle.campaign_core.proofs.KeptLemmas.{seen_at, seen_set}

-- ---- the job of a seat

module _ {J : Type 0} (has : J → Type 0) (asked : J → Asked) (word : J → Option ℕ) where
  same_job : (job other : J) → Going job ≡ Going other → job ≡ other
  same_job job other e = cc

  pub job_here : (one : Seat J) (job : J) → one.work ≡ Going job → IsJobOf has asked word one job → (seat : Seat J) (other : J) → Some one ≡ Some seat → seat.work ≡ Going other → IsJobOf has asked word seat other
  job_here one job work is seat other same going =
      let seats : one ≡ seat = same_Some one seat same in
      let jobs : job ≡ other = same_job job other (sym work ∙ ap (λ (s : Seat J). s.work) seats ∙ going) in
      subst (λ (j : J). IsJobOf has asked word seat j) jobs (subst (λ (s : Seat J). IsJobOf has asked word s job) seats is)

  pub jobs_here : (one : Seat J) → ((job : J) → one.work ≡ Going job → IsJobOf has asked word one job) → (seat : Seat J) (other : J) → Some one ≡ Some seat → seat.work ≡ Going other → IsJobOf has asked word seat other
  jobs_here one each seat other same going =
      let seats : one ≡ seat = same_Some one seat same in
      subst (λ (s : Seat J). IsJobOf has asked word s other) seats (each other (ap (λ (s : Seat J). s.work) seats ∙ going))

-- ---- the same in its place

map_set : {X Y : Type 0} (f : X → Y) (xs : List X) (k : ℕ) (x : X) → map f (set xs k x) ≡ set (map f xs) k (f x)
map_set f [] k x = refl
map_set f (y ∷ xs) zero x = refl
map_set {X} {Y} f (y ∷ xs) (suc k) x = ap (λ (l : List Y). f y ∷ l) (map_set f xs k x)

set_same : {X : Type 0} (xs : List X) (k : ℕ) (x : X) → slice_get xs k ≡ Some x → set xs k x ≡ xs
set_same [] k x at = refl
set_same {X} (y ∷ xs) zero x at = ap (λ (z : X). z ∷ xs) (sym (same_Some y x at))
set_same {X} (y ∷ xs) (suc k) x at = ap (λ (l : List X). y ∷ l) (set_same xs k x at)

-- ---- the events

module _ {T J : Type 0} (left : J → ℕ) (old : Turns T) (tester : T) (slots : List (Option (Seat J))) (are : old.slots ≡ seen left slots) (slot : ℕ) where
  slots_now : (v : Option (Seat J)) → seen left (set slots slot v) ≡ set old.slots slot (option_map (busy_of left) v)
  slots_now v = seen_set left slots slot v ∙ ap (λ (l : List (Option Busy)). set l slot (option_map (busy_of left) v)) (sym are)

  busy_there : (seat : Seat J) → slice_get slots slot ≡ Some (Some seat) → slice_get old.slots slot ≡ Some (Some (busy_of left seat))
  busy_there seat at = ap (λ (l : List (Option Busy)). slice_get l slot) are ∙ seen_at left slots slot ∙ ap (option_map (option_map (busy_of left))) at

  -- a start
  pub started_by : (most : Asked → ℕ) (a : Asked) (seat : Seat J) (job : J) → seat.work ≡ Going job → asked_of seat ≡ a → left job ≤ most a
      → Started most old (record old { tester = tester; slots = seen left (set slots slot (Some seat)); first = slot_after slot (length old.slots); started = old.started + 1 }) slot a
  started_by most a seat job going asked_is few = record {
    busy = busy_of left seat;
    asked_is = asked_is;
    none = ap word_of going;
    few = subst (λ (w : Work J). left_of left w ≤ most a) (sym going) few;
    is = ap (λ (l : List (Option Busy)). record old { tester = tester; slots = l; first = slot_after slot (length old.slots); started = old.started + 1 }) (slots_now (Some seat));
  }

  -- a turn of the job in a seat
  module _ (seat now : Seat J) (at : slice_get slots slot ≡ Some (Some seat)) (none : word_of seat.work ≡ None) (pair : asked_of now ≡ asked_of seat) where
    pub turned_by : (gives : Asked → ℕ → Type 0) (kinds : List ℕ) → kinds ≡ old.campaign.kinds
        → MatchOption (word_of now.work) (left_of left now.work < left_of left seat.work) (λ word. gives (asked_of seat) word × IsWordIn kinds seat.want.test word)
        → Turned gives old (record old { tester = tester; slots = seen left (set slots slot (Some now)); first = slot_after slot (length old.slots) }) slot
    turned_by gives kinds same told = record {
      before = busy_of left seat;
      now = busy_of left now;
      at = busy_there seat at;
      none = none;
      same = pair;
      told = given (word_of now.work) told;
      is = ap (λ (l : List (Option Busy)). record old { tester = tester; slots = l; first = slot_after slot (length old.slots) }) (slots_now (Some now));
    }
      where
        given : (o : Option ℕ) → MatchOption o (left_of left now.work < left_of left seat.work) (λ word. gives (asked_of seat) word × IsWordIn kinds seat.want.test word)
            → MatchOption o (left_of left now.work < left_of left seat.work) (λ word. gives (asked_of seat) word × IsWordOf old.campaign seat.want.test word)
        given None h = h
        given (Some w) h = (h.0, subst (λ (ks : List ℕ). IsWordIn ks seat.want.test w) same h.1)

    -- one that was refused
    pub refused_by : word_of now.work ≡ None → IsUnchanged old (record old { tester = tester; slots = seen left (set slots slot (Some now)) })
    refused_by none_now = record { slots = same; is = refl }
      where
        words : asked_and_word (Some (busy_of left now)) ≡ asked_and_word (Some (busy_of left seat))
        words = λ i. Some (pair i, (none_now ∙ sym none) i)

        there : slice_get (map asked_and_word old.slots) slot ≡ Some (asked_and_word (Some (busy_of left seat)))
        there = slice_get-map asked_and_word old.slots slot ∙ ap (option_map asked_and_word) (busy_there seat at)

        same : map asked_and_word (seen left (set slots slot (Some now))) ≡ map asked_and_word old.slots
        same =
            ap (map asked_and_word) (slots_now (Some now)) ∙ map_set asked_and_word old.slots slot (Some (busy_of left now))
            ∙ ap (set (map asked_and_word old.slots) slot) words ∙ set_same (map asked_and_word old.slots) slot (asked_and_word (Some (busy_of left seat))) there

  -- a commit
  pub committed_by : (e : Entry) (state : Progress) → IsRowOf old slot e → IsStateOf old.campaign (old.state.rows ++ e ∷ []) state
      → Committed old (record old { state = state; slots = seen left (set slots slot None); first = slot_after slot (length old.slots); acknowledged = old.acknowledged + 1 }) slot
  committed_by e state row is = record {
    entry = e;
    row = row;
    state = is;
    is = ap (λ (l : List (Option Busy)). record old { state = state; slots = l; first = slot_after slot (length old.slots); acknowledged = old.acknowledged + 1 }) (slots_now None);
  }
