-- Whole lists of allowed events.
use Rattle.campaign_core.proofs.Common.{◌≡◌, inl, inr, arith, ℕ, ◌+◌, List, [], ◌∷◌, ◌++◌, length, Option, None, Some, refl, sym, ◌∙◌, ap, subst, append_assoc, length-append, MatchOption, ⊤}
use Rattle.campaign_core.proofs.Common.{append-nil, Entry, IsWordOf, Progress, Event, Start, Turn, Commit, Stop, Committed, IsUnchanged, Takes, AreGiven, Came, Course, Kept, asked_in, Asked}
use Rattle.campaign_core.proofs.Common.{GivesTheSame, Turns, IsUnderWay}
use Rattle.std.proofs.lemmas.List.Elements.{All-append, All-cons, All-nil, All-weaker}
use Rattle.campaign_core.proofs.Orderly.{takes_order, unchanged_order}

-- what one event leaves of the campaign, and the row that it adds, if it adds one
record OneMore {T : Type 0} (gives : Asked → ℕ → Type 0) (old new : Turns T) : Type 0 where
  campaign : new.campaign ≡ old.campaign
  goal : new.goal ≡ old.goal
  more : List Entry
  rows : new.state.rows ≡ old.state.rows ++ more
  given : AreGiven gives more
  counted : new.acknowledged ≡ old.acknowledged + length more

module _ {T : Type 0} (gives : Asked → ℕ → Type 0) (most : Asked → ℕ) (old new : Turns T) where
  -- an event that adds none
  no_row : new.campaign ≡ old.campaign → new.goal ≡ old.goal → new.state ≡ old.state → new.acknowledged ≡ old.acknowledged → OneMore gives old new
  no_row campaign goal state acknowledged = record {
    campaign = campaign;
    goal = goal;
    more = [];
    rows = ap (λ (p : Progress). p.rows) state ∙ sym (append-nil old.state.rows);
    given = All-nil (λ (e : Entry). gives (asked_in e) e.word);
    counted = omega (arith, acknowledged);
  }

  one_row : IsUnderWay gives old → (slot : ℕ) → Committed old new slot → OneMore gives old new
  one_row order slot committed = record {
    campaign = ap (λ (s : Turns T). s.campaign) committed.is;
    goal = ap (λ (s : Turns T). s.goal) committed.is;
    more = committed.entry ∷ [];
    rows = committed.state.rows_are;
    given = All-cons (λ (e : Entry). gives (asked_in e) e.word) committed.entry [] word (All-nil (λ (e : Entry). gives (asked_in e) e.word));
    counted = omega (arith, ap (λ (s : Turns T). s.acknowledged) committed.is);
  }
    where
      row_asked : asked_in committed.entry ≡ committed.row.busy.asked
      row_asked = λ i. record { mutation = committed.row.pair.0 i; test = committed.row.pair.1 i; bound = committed.row.bound i }

      given_word : (o : Option ℕ) → o ≡ Some committed.entry.word → MatchOption o ⊤ (λ w. gives committed.row.busy.asked w × IsWordOf old.campaign committed.row.busy.asked.test w) → gives committed.row.busy.asked committed.entry.word
      given_word None is h = absurd (let never : None ≡ Some committed.entry.word = is in cc)
      given_word (Some w) is h = let same : w ≡ committed.entry.word = cc in subst (gives committed.row.busy.asked) same h.0

      word : gives (asked_in committed.entry) committed.entry.word
      word = subst (λ (a : Asked). gives a committed.entry.word) (sym row_asked) (given_word committed.row.busy.word committed.row.word (order.tests slot committed.row.busy committed.row.at).given)

  taken_more : IsUnderWay gives old → (e : Event) → Takes gives most old e new → OneMore gives old new
  taken_more order (Start slot m t bound) taken = no_row (ap (λ (s : Turns T). s.campaign) taken.is) (ap (λ (s : Turns T). s.goal) taken.is) (ap (λ (s : Turns T). s.state) taken.is) (ap (λ (s : Turns T). s.acknowledged) taken.is)
  taken_more order (Turn slot) taken = no_row (ap (λ (s : Turns T). s.campaign) taken.is) (ap (λ (s : Turns T). s.goal) taken.is) (ap (λ (s : Turns T). s.state) taken.is) (ap (λ (s : Turns T). s.acknowledged) taken.is)
  taken_more order (Commit slot) taken = one_row order slot taken
  taken_more order Stop taken = no_row (ap (λ (s : Turns T). s.campaign) taken) (ap (λ (s : Turns T). s.goal) taken) (ap (λ (s : Turns T). s.state) taken) (ap (λ (s : Turns T). s.acknowledged) taken)

  unchanged_more : IsUnchanged old new → OneMore gives old new
  unchanged_more un = no_row (ap (λ (s : Turns T). s.campaign) un.is) (ap (λ (s : Turns T). s.goal) un.is) (ap (λ (s : Turns T). s.state) un.is) (ap (λ (s : Turns T). s.acknowledged) un.is)

module _ {T : Type 0} (gives : T → Asked → ℕ → Type 0) (most : T → Asked → ℕ) where
  came_order : (old new : Turns T) (e : Event) → IsUnderWay (gives old.tester) old → Came gives most old e new → IsUnderWay (gives new.tester) new
  came_order old new e order came = elim came.taken [
    | inl taken ↦ takes_order (gives old.tester) (gives new.tester) (most old.tester) old new e came.same order came.allowed taken
    | inr un ↦ unchanged_order (gives old.tester) (gives new.tester) (most old.tester) old new came.same order un
  ]

  came_more : (old new : Turns T) (e : Event) → IsUnderWay (gives old.tester) old → Came gives most old e new → OneMore (gives old.tester) old new
  came_more old new e order came = elim came.taken [
    | inl taken ↦ taken_more (gives old.tester) (most old.tester) old new order e taken
    | inr un ↦ unchanged_more (gives old.tester) (most old.tester) old new un
  ]

  given_back : (one two : T) (rows : List Entry) → GivesTheSame (gives one) (gives two) → AreGiven (gives two) rows → AreGiven (gives one) rows
  given_back one two rows same all = All-weaker (λ (e : Entry). gives two (asked_in e) e.word) (λ (e : Entry). gives one (asked_in e) e.word) (λ e given. same.back (asked_in e) e.word given) rows all

  -- the first event, and the others behind it
  joined : (start mid end : Turns T) → GivesTheSame (gives start.tester) (gives mid.tester) → OneMore (gives start.tester) start mid → Kept gives mid end → Kept gives start end
  joined start mid end same one rest = record {
    order = rest.order;
    campaign = rest.campaign ∙ one.campaign;
    goal = rest.goal ∙ one.goal;
    same = record { on = λ asked word h. rest.same.on asked word (same.on asked word h); back = λ asked word h. same.back asked word (rest.same.back asked word h) };
    more = one.more ++ rest.more;
    rows = rest.rows ∙ ap (λ (rows : List Entry). rows ++ rest.more) one.rows ∙ append_assoc start.state.rows one.more rest.more;
    given = All-append (λ (e : Entry). gives start.tester (asked_in e) e.word) one.more rest.more one.given (given_back start.tester mid.tester rest.more same rest.given);
    counted = omega (arith, rest.counted, one.counted, length-append one.more rest.more);
  }

  none_yet : (start : Turns T) → IsUnderWay (gives start.tester) start → Kept gives start start
  none_yet start order = record {
    order = order;
    campaign = refl;
    goal = refl;
    same = record { on = λ asked word h. h; back = λ asked word h. h };
    more = [];
    rows = sym (append-nil start.state.rows);
    given = All-nil (λ (e : Entry). gives start.tester (asked_in e) e.word);
    counted = omega arith;
  }

  pub course_kept : (events : List Event) (start end : Turns T) → IsUnderWay (gives start.tester) start → Course gives most start events end → Kept gives start end
  course_kept [] start end order is = subst (λ (s : Turns T). Kept gives start s) (sym is) (none_yet start order)
  course_kept (e ∷ events) start end order course =
      joined start course.0 end course.1.same (came_more start course.0 e order course.1)
      (course_kept events course.0 end (came_order start course.0 e order course.1) course.2)
