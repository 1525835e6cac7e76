-- What a program's run over a core adds to the campaign's book.
use Rattle.mcy_top.proofs.Common.{◌≡◌, ◌∙◌, ◌⊎◌, inl, inr, arith, ℕ, suc, ◌+◌, ◌≤◌, true, false, List, [], ◌∷◌, ◌++◌, length, Option, None, Some, refl, sym, ap, subst, is_some, ⊤, Entry, Campaign}
use Rattle.mcy_top.proofs.Common.{Goal, Want, IsGoal, wanted, AreRows, IsRow, Event, Start, Turn, Commit, Stop, Program, NoneWanted, HasFree, IsWithinRows, CoreRan, ReachedRows, Asked, GivesTheSame}
use Rattle.mcy_top.proofs.Common.{Busy, busy_count, IsIn, Turns, IsBusy, IsUnderWay, Prepared, IsPlan, IsNextRow, book_of, IsWanted, IsWithin, Ran, Reached, WantsNone, book_form, length_more}
use Rattle.mcy_top.proofs.Common.{next_row_of, ran_more, may_give, most_of, HasNamed, StartsFew}
use Rattle.std.proofs.Common.{MatchOption}
use Rattle.std.proofs.lemmas.List.Sums.{count_by-le-length}
use Rattle.result_book.specs.Campaigns.{IsWordOf}
use Rattle.campaign_core.specs.Events.{IsRowOf, Takes}
use Rattle.campaign_core.proofs.Nexts.{next_allowed}
use Rattle.campaign_core.proofs.Orderly.{takes_order}
use Rattle.campaign_core.proofs.SlotLemmas.{count_first, length_set}
use Rattle.mcy_top.proofs.Busy.{busy_wanted}
use Rattle.mcy_top.proofs.Working.{Counts, Went}

-- A core on its way from the campaign's book with these rows, with so many slots.
pub record On (c : Prepared) (aim : Goal) (jobs : ℕ) (first : List Entry) (s : Turns Prepared) : Type 0 where
  pub order : IsUnderWay (may_give s.tester) s
  pub campaign : s.campaign ≡ c.campaign
  pub goal : s.goal ≡ aim
  pub same : GivesTheSame (may_give c) (may_give s.tester)
  pub ran : Ran c aim first s.state.rows
  pub counted : length s.state.rows ≡ length first + s.acknowledged
  pub slots : length s.slots ≡ jobs

-- ---- one event

-- the test of a slot's word is wanted, by its row
wanted_as : (k : Campaign) (rows : List Entry) (aim : Goal) (e : Entry) (m t bound : ℕ) → e.mutation ≡ m → e.test ≡ t → e.bound ≡ bound → wanted k rows m aim ≡ Some (record { test = t; bound = bound }) → wanted k rows e.mutation aim ≡ Some (record { test = e.test; bound = e.bound })
wanted_as k rows aim e m t bound mutation test under is = rw (mutation, test, under) is

module _ (c : Prepared) (aim : Goal) (jobs : ℕ) (first : List Entry) (plan : IsPlan c) where
  -- the row of a slot's word may come next, and is of the test that is wanted
  pub next_row : (s : Turns Prepared) → On c aim jobs first s → (slot : ℕ) (e : Entry) → IsRowOf s slot e → IsNextRow c (book_of c s.state.rows) e
  next_row s on slot e row =
      let asked : Asked = row.busy.asked in
      let test : IsBusy (may_give s.tester) s.campaign s.goal s.state.rows row.busy = on.order.tests slot row.busy row.at in
      let told : may_give s.tester asked e.word × IsWordOf s.campaign asked.test e.word =
      subst (λ (o : Option ℕ). MatchOption o ⊤ (λ word. may_give s.tester asked word × IsWordOf s.campaign asked.test word)) row.word test.given in
      next_row_of c s.state.rows e asked.mutation asked.test asked.bound e.word plan (subst (λ (k : Campaign). IsRow k s.state.rows e) on.campaign row.row) row.pair row.bound refl (on.same.back asked e.word told.0)

  wanted_row : (s : Turns Prepared) → On c aim jobs first s → (slot : ℕ) (e : Entry) → IsRowOf s slot e → IsWanted c aim s.state.rows e
  wanted_row s on slot e row =
      let asked : Asked = row.busy.asked in
      let test : IsBusy (may_give s.tester) s.campaign s.goal s.state.rows row.busy = on.order.tests slot row.busy row.at in
      let mine : wanted c.campaign s.state.rows asked.mutation s.goal ≡ Some (record { test = asked.test; bound = asked.bound }) =
      subst (λ (k : Campaign). wanted k s.state.rows asked.mutation s.goal ≡ Some (record { test = asked.test; bound = asked.bound })) on.campaign test.is_wanted in
      wanted_as c.campaign s.state.rows aim e asked.mutation asked.test asked.bound row.pair.0 row.pair.1 row.bound
      (subst (λ (g : Goal). wanted c.campaign s.state.rows asked.mutation g ≡ Some (record { test = asked.test; bound = asked.bound })) on.goal mine)

  -- an event that adds no row
  still : (old new : Turns Prepared) → On c aim jobs first old → GivesTheSame (may_give old.tester) (may_give new.tester) → IsUnderWay (may_give new.tester) new → new.campaign ≡ old.campaign → new.goal ≡ old.goal → new.state.rows ≡ old.state.rows
      → new.acknowledged ≡ old.acknowledged → length new.slots ≡ length old.slots → On c aim jobs first new
  still old new on same order campaign goal rows acknowledged slots = record {
    order = order;
    campaign = campaign ∙ on.campaign;
    goal = goal ∙ on.goal;
    same = record { on = λ asked word h. same.on asked word (on.same.on asked word h); back = λ asked word h. on.same.back asked word (same.back asked word h) };
    ran = subst (λ (l : List Entry). Ran c aim first l) (sym rows) on.ran;
    counted = omega (arith, ap length rows, acknowledged, on.counted);
    slots = slots ∙ on.slots;
  }

  after : (old new : Turns Prepared) (e : Event) → On c aim jobs first old → GivesTheSame (may_give old.tester) (may_give new.tester) → IsUnderWay (may_give new.tester) new → Takes (may_give old.tester) (most_of old.tester) old e new → On c aim jobs first new
  after old new (Start slot m t bound) on same order taken =
      still old new on same order (ap (λ (s : Turns Prepared). s.campaign) taken.is) (ap (λ (s : Turns Prepared). s.goal) taken.is) (ap (λ (s : Turns Prepared). s.state.rows) taken.is) (ap (λ (s : Turns Prepared). s.acknowledged) taken.is)
      (ap (λ (s : Turns Prepared). length s.slots) taken.is ∙ length_set old.slots slot (Some taken.busy))
  after old new (Turn slot) on same order taken =
      still old new on same order (ap (λ (s : Turns Prepared). s.campaign) taken.is) (ap (λ (s : Turns Prepared). s.goal) taken.is) (ap (λ (s : Turns Prepared). s.state.rows) taken.is) (ap (λ (s : Turns Prepared). s.acknowledged) taken.is)
      (ap (λ (s : Turns Prepared). length s.slots) taken.is ∙ length_set old.slots slot (Some taken.now))
  after old new Stop on same order taken =
      still old new on same order (ap (λ (s : Turns Prepared). s.campaign) taken) (ap (λ (s : Turns Prepared). s.goal) taken) (ap (λ (s : Turns Prepared). s.state.rows) taken) (ap (λ (s : Turns Prepared). s.acknowledged) taken)
      (ap (λ (s : Turns Prepared). length s.slots) taken)
  after old new (Commit slot) on same order taken =
      let rows : new.state.rows ≡ old.state.rows ++ taken.entry ∷ [] = taken.state.rows_are in
      let more : Ran c aim first (old.state.rows ++ taken.entry ∷ []) = ran_more c aim first old.state.rows taken.entry on.ran (next_row old on slot taken.entry taken.row) (wanted_row old on slot taken.entry taken.row) in
      let acknowledged : new.acknowledged ≡ old.acknowledged + 1 = ap (λ (s : Turns Prepared). s.acknowledged) taken.is in
      record {
        order = order;
        campaign = ap (λ (s : Turns Prepared). s.campaign) taken.is ∙ on.campaign;
        goal = ap (λ (s : Turns Prepared). s.goal) taken.is ∙ on.goal;
        same = record { on = λ asked word h. same.on asked word (on.same.on asked word h); back = λ asked word h. on.same.back asked word (same.back asked word h) };
        ran = subst (λ (l : List Entry). Ran c aim first l) (sym rows) more;
        counted = omega (arith, ap length rows, length_more old.state.rows taken.entry, acknowledged, on.counted);
        slots = ap (λ (s : Turns Prepared). length s.slots) taken.is ∙ length_set old.slots slot None ∙ on.slots;
      }

  -- ---- all of them

  pub program_on : (events : List Event) (start end : Turns Prepared) → On c aim jobs first start → Program may_give most_of start events end → On c aim jobs first end
  program_on [] start end on is = subst (On c aim jobs first) (sym is) on
  program_on (e ∷ events) start end on (mid, comes, same, most, taken, rest) =
      let order : IsUnderWay (may_give mid.tester) mid = takes_order (may_give start.tester) (may_give mid.tester) (most_of start.tester) start mid e same on.order (next_allowed start e comes) taken in
      program_on events mid end (after start mid e on same order taken) rest

  -- ---- how it ends

  pub within : (stop : Option ℕ) (rows acknowledged : ℕ) → rows ≡ length first + acknowledged → IsWithinRows stop 0 acknowledged → IsWithin stop (length first) rows
  within None rows acknowledged is few = tt
  within (Some stop) rows acknowledged is few = omega (arith, is, few)

  reached : (stop : Option ℕ) (rows : List Entry) (acknowledged : ℕ) → length rows ≡ length first + acknowledged → ReachedRows stop 0 acknowledged → Reached stop first rows
  reached None rows acknowledged is all = absurd all
  reached (Some stop) rows acknowledged is all = omega (arith, is, all)

  none_wanted : (s : Turns Prepared) → On c aim jobs first s → NoneWanted s → WantsNone c aim s.state.rows
  none_wanted s on none m below =
      let here : wanted s.campaign s.state.rows m s.goal ≡ None = none m (subst (λ (k : Campaign). suc m ≤ length k.mutations) (sym on.campaign) below) in
      subst (λ (g : Goal). wanted c.campaign s.state.rows m g ≡ None) on.goal (subst (λ (k : Campaign). wanted k s.state.rows m s.goal ≡ None) on.campaign here)

  -- slots of which none is busy
  none_busy : (slots : List (Option Busy)) → ((slot : ℕ) (busy : Busy) → IsIn slots slot busy → ⊥) → busy_count slots ≡ 0
  none_busy [] none = refl
  none_busy (None ∷ slots) none =
      let front : busy_count (None ∷ slots) ≡ 0 + busy_count slots = count_first None slots in
      let rest : busy_count slots ≡ 0 = none_busy slots (λ slot busy at. none (suc slot) busy at) in
      omega (arith, front, rest)
  none_busy (Some busy ∷ slots) none = absurd (none 0 busy refl)

  -- where none is wanted no slot is busy
  idle : (s : Turns Prepared) → On c aim jobs first s → WantsNone c aim s.state.rows → busy_count s.slots ≡ 0
  idle s on none = none_busy s.slots (λ slot busy at. (
      let test : IsBusy (may_give s.tester) s.campaign s.goal s.state.rows busy = on.order.tests slot busy at in
      let below : suc busy.asked.mutation ≤ length c.campaign.mutations = subst (λ (k : Campaign). suc busy.asked.mutation ≤ length k.mutations) on.campaign test.mutation in
      let mine : wanted c.campaign s.state.rows busy.asked.mutation aim ≡ Some (record { test = busy.asked.test; bound = busy.asked.bound }) =
      subst (λ (g : Goal). wanted c.campaign s.state.rows busy.asked.mutation g ≡ Some (record { test = busy.asked.test; bound = busy.asked.bound })) on.goal
      (subst (λ (k : Campaign). wanted k s.state.rows busy.asked.mutation s.goal ≡ Some (record { test = busy.asked.test; bound = busy.asked.bound })) on.campaign test.is_wanted) in
      let want : Want = record { test = busy.asked.test; bound = busy.asked.bound } in
      let never : None ≡ Some want = sym (none busy.asked.mutation below) ∙ mine in cc))

  -- as many tests were started as rows were added, and those in slots
  pub counts_of : (s : Turns Prepared) (before now : ℕ) → On c aim jobs first s → now ≡ before + s.started → Counts c aim jobs first s.state.rows before now
  counts_of s before now on steps =
      let busy : busy_count s.slots ≤ length s.slots = count_by-le-length is_some s.slots in
      record {
        least = omega (arith, steps, on.order.counts, on.counted);
        bound = omega (arith, steps, on.order.counts, on.counted, busy, on.slots);
        wants = omega (arith, steps, on.order.counts, on.counted, busy_wanted c aim s on.campaign on.goal on.order);
        equal = λ none. omega (arith, steps, on.order.counts, on.counted, idle s on none);
      }

  -- fewer than the rows asked for and the slots
  few_by : (stop : Option ℕ) (s : Turns Prepared) (before now : ℕ) → On c aim jobs first s → now ≡ before + s.started → IsWithinRows stop 0 s.acknowledged → (busy_count s.slots ≡ 0) ⊎ HasFree s.slots → StartsFew stop jobs before now
  few_by None s before now on steps few some = tt
  few_by (Some stop) s before now on steps few (inl none) = omega (arith, steps, on.order.counts, few, none, on.order.some_slots, on.slots)
  few_by (Some stop) s before now on steps few (inr free) = omega (arith, steps, on.order.counts, few, free, on.slots)

  -- ---- a run that came to its end: the core was not stopped at first, and its slots were free

  -- it wants no test, or the rows that were asked for are there
  ends_in : (stop : Option ℕ) (start end : Turns Prepared) → start.is_stopped ≡ false → CoreRan may_give most_of stop start end → NoneWanted end ⊎ ReachedRows stop start.acknowledged end.acknowledged
  ends_in stop start end going ran = elim ran.ends [
    | inl none ↦ inl none
    | inr rest ↦ elim rest [ inl all ↦ inr all | inr stopped ↦ absurd (let never : false ≡ true = sym going ∙ stopped in cc) ]
  ]

  pub went_of : (stop : Option ℕ) (start end : Turns Prepared) → On c aim jobs first start → start.acknowledged ≡ 0 → start.is_stopped ≡ false → IsGoal aim → HasNamed aim c → AreRows c.campaign [] first → CoreRan may_give most_of stop start end → Went c aim stop first end.state.rows
  went_of stop start end on none_yet going goal named form ran =
      let last : On c aim jobs first end = program_on ran.events start end on ran.program in
      record {
        plan = plan;
        form = book_form c first plan form;
        named = named;
        ran = last.ran;
        goal = goal;
        ends = elim (ends_in stop start end going ran) [
          | inl none ↦ inl (none_wanted end last none)
          | inr all ↦ inr (reached stop end.state.rows end.acknowledged last.counted (subst (λ (n : ℕ). ReachedRows stop n end.acknowledged) none_yet all))
        ];
        within = within stop (length end.state.rows) end.acknowledged last.counted (subst (λ (n : ℕ). IsWithinRows stop n end.acknowledged) none_yet ran.within);
      }

  pub few_of : (stop : Option ℕ) (start end : Turns Prepared) (before now : ℕ) → On c aim jobs first start → start.acknowledged ≡ 0 → start.is_stopped ≡ false → HasFree start.slots → CoreRan may_give most_of stop start end → now ≡ before + end.started → StartsFew stop jobs before now
  few_of stop start end before now on none_yet going free ran steps =
      let last : On c aim jobs first end = program_on ran.events start end on ran.program in
      few_by stop end before now last steps (subst (λ (n : ℕ). IsWithinRows stop n end.acknowledged) none_yet ran.within) (elim (ends_in stop start end going ran) [
        | inl none ↦ inl (idle end last (none_wanted end last none))
        | inr all ↦ inr (ran.room all free)
      ])
