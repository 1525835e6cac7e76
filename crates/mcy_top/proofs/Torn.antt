-- The order of the rows of a run, and what a run leaves that broke off.
use Rattle.mcy_top.proofs.Common.{◌≡◌, ◌∙◌, ◌⊎◌, inl, inr, arith, ℕ, ◌+◌, ◌≤◌, false, List, [], ◌∷◌, ◌++◌, length, Option, None, Some, IsSomeAnd, refl, sym, ap, subst, slice_set, Entry, Book}
use Rattle.mcy_top.proofs.Common.{with_entry, Campaign, Goal, answers_of, ask_on, bounds_on, history, AreRows, each_from, words_of, IsStateOf, Progress, rows_more, Event, Commit, Program, next_event}
use Rattle.mcy_top.proofs.Common.{core_book, IsWithinRows, CoreLeaves, CoreTorn, Turns, begun, Prepared, IsPlan, LeavesBooks, IsNextRow, book_of, Broke, LeavesNext, book_second, may_give, most_of}
use Rattle.mcy_top.proofs.Common.{wanting, IsInOrder}
use Rattle.campaign_core.specs.Events.{slot_after, IsRowOf, Takes}
use Rattle.campaign_core.proofs.Runs.{program_more}
use Rattle.mcy_top.proofs.Advancing.{history_second}
use Rattle.mcy_top.proofs.Turning.{counts_of, next_row, program_on, within, On}
use Rattle.mcy_top.proofs.Working.{Counts}

-- ---- a commit that takes place

-- what is known of a book with these rows
abbrev progress_on : Campaign → List Entry → Progress
progress_on k rows = record {
  rows = rows;
  results = each_from (λ m. words_of (answers_of m rows)) 0 (length k.mutations);
  bounds = each_from (λ m. bounds_on m rows) 0 (length k.mutations);
  asks = each_from (λ m. ask_on k m rows) 0 (length k.mutations);
  spare = 0;
}

progress_is : (k : Campaign) (rows : List Entry) → AreRows k [] rows → IsStateOf k rows (progress_on k rows)
progress_is k rows are = record { rows_are = refl; form = are; results = refl; bounds = refl; asks = refl }

-- the core after it
abbrev committed : Turns Prepared → ℕ → Entry → Turns Prepared
committed s slot e = record s {
  state = progress_on s.campaign (s.state.rows ++ e ∷ []);
  slots = slice_set s.slots slot None;
  first = slot_after slot (length s.slots);
  acknowledged = s.acknowledged + 1;
}

commit_taken : (s : Turns Prepared) (slot : ℕ) (e : Entry) → IsRowOf s slot e → AreRows s.campaign [] s.state.rows → Takes (may_give s.tester) (most_of s.tester) s (Commit slot) (committed s slot e)
commit_taken s slot e row are = record {
  entry = e;
  row = row;
  state = progress_is s.campaign (s.state.rows ++ e ∷ []) (rows_more false s.campaign [] s.state.rows e are row.row);
  is = refl;
}

-- What a run leaves that broke off, and in which order.
pub record Tears (leaves : Option Book → Type 0) (c : Prepared) (aim : Goal) (jobs : ℕ) (stop : Option ℕ) (first : List Entry) (before now : ℕ) : Type 0 where
  pub broke : Broke leaves c aim jobs stop first before now
  pub wants : now + length first ≤ before + length broke.rows + wanting c aim broke.rows
  pub order : LeavesBooks leaves (IsInOrder c aim jobs (book_of c first))

module _ (c : Prepared) (aim : Goal) (jobs : ℕ) (state : Progress) (plan : IsPlan c) (core : Turns Prepared) (is : core ≡ begun c.campaign aim c state jobs) where
  -- the rows of the campaign's book of the second format are its own
  own : (rows : List Entry) → (history c.campaign (book_of c rows)).journal ≡ rows
  own rows = ap (λ (b : Book). b.journal) (history_second c (book_of c rows) (book_second c rows plan))

  -- the book with the rows of a program's end
  pub order_of : (events : List Event) (end : Turns Prepared) (rows : List Entry) → Program may_give most_of core events end → rows ≡ end.state.rows → IsInOrder c aim jobs (book_of c state.rows) (book_of c rows)
  order_of events end rows program same = record {
    state = state;
    rows_are = sym (own state.rows);
    events = events;
    end = end;
    program = subst (λ (s : Turns Prepared). Program may_give most_of s events end) is program;
    is = own rows ∙ same;
  }

  -- ---- what a crash leaves then

  module _ (leaves : Option Book → Type 0) (events : List Event) (last : Turns Prepared) (program : Program may_give most_of core events last) (on : On c aim jobs state.rows last) where
    same_book : core_book last.campaign last.state.rows ≡ book_of c last.state.rows
    same_book = ap (λ (k : Campaign). core_book k last.state.rows) on.campaign

    next_program : (slot : ℕ) (e : Entry) → next_event last ≡ Some (Commit slot) → IsRowOf last slot e → Program may_give most_of core (events ++ Commit slot ∷ []) (committed last slot e)
    next_program slot e next row =
        program_more may_give most_of events core last (committed last slot e) (Commit slot) program next (record { on = λ asked word h. h; back = λ asked word h. h }) (λ asked. refl)
        (commit_taken last slot e row on.order.form.form)

    next_order : CoreLeaves leaves last → LeavesBooks leaves (IsInOrder c aim jobs (book_of c state.rows))
    next_order left other found = go (left other found)
      where
        IsSo : Book → Type 0
        IsSo book = IsInOrder c aim jobs (book_of c state.rows) book

        go : (other ≡ Some (core_book last.campaign last.state.rows)) ⊎ ((slot : ℕ) × (e : Entry) × (next_event last ≡ Some (Commit slot)) × IsRowOf last slot e × (other ≡ Some (with_entry (core_book last.campaign last.state.rows) e))) → IsSomeAnd other IsSo
        go (inl itself) = subst (λ (o : Option Book). IsSomeAnd o IsSo) (sym (itself ∙ ap (λ (b : Book). Some b) same_book)) (order_of events last last.state.rows program refl)
        go (inr (slot, e, next, row, more)) =
            subst (λ (o : Option Book). IsSomeAnd o IsSo) (sym (more ∙ ap (λ (b : Book). Some (with_entry b e)) same_book))
            (order_of (events ++ Commit slot ∷ []) (committed last slot e) (last.state.rows ++ e ∷ []) (next_program slot e next row) refl)

    -- it is the book, or that with a row that may come next
    next_left : CoreLeaves leaves last → LeavesNext leaves c (book_of c last.state.rows)
    next_left left other found = go (left other found)
      where
        IsSo : Book → Type 0
        IsSo book = (book ≡ book_of c last.state.rows) ⊎ ((e : Entry) × IsNextRow c (book_of c last.state.rows) e × (book ≡ with_entry (book_of c last.state.rows) e))

        go : (other ≡ Some (core_book last.campaign last.state.rows)) ⊎ ((slot : ℕ) × (e : Entry) × (next_event last ≡ Some (Commit slot)) × IsRowOf last slot e × (other ≡ Some (with_entry (core_book last.campaign last.state.rows) e))) → IsSomeAnd other IsSo
        go (inl itself) = subst (λ (o : Option Book). IsSomeAnd o IsSo) (sym itself) (inl same_book)
        go (inr (slot, e, next, row, more)) =
            subst (λ (o : Option Book). IsSomeAnd o IsSo) (sym more) (inr (e, next_row c aim jobs state.rows plan last on slot e row, ap (λ (b : Book). with_entry b e) same_book))

  -- ---- a run that broke off

  pub tears_of : (leaves : Option Book → Type 0) (stop : Option ℕ) (new : Turns Prepared) (before now : ℕ) → On c aim jobs state.rows core → core.acknowledged ≡ 0 → CoreTorn may_give most_of stop leaves core new → now ≡ before + new.started
      → Tears leaves c aim jobs stop state.rows before now
  tears_of leaves stop new before now on none_yet torn steps =
      let last : Turns Prepared = torn.broke.last in
      let there : On c aim jobs state.rows last = program_on c aim jobs state.rows plan torn.broke.events core last on torn.broke.program in
      let started : new.started ≡ last.started = ap (λ (s : Turns Prepared). s.started) torn.broke.unchanged.is in
      let counts : Counts c aim jobs state.rows last.state.rows before now = counts_of c aim jobs state.rows plan last before now there (steps ∙ ap (λ (n : ℕ). before + n) started) in
      let rows : length last.state.rows + 1 ≡ length state.rows + (last.acknowledged + 1) = omega (arith, there.counted) in
      record {
        broke = record {
          rows = last.state.rows;
          ran = there.ran;
          left = next_left leaves torn.broke.events last torn.broke.program there torn.left;
          within = within c aim jobs state.rows plan stop (length last.state.rows + 1) (last.acknowledged + 1) rows (subst (λ (n : ℕ). IsWithinRows stop n (last.acknowledged + 1)) none_yet torn.broke.within);
          least = counts.least;
          steps = counts.bound;
        };
        wants = counts.wants;
        order = next_order leaves torn.broke.events last torn.broke.program there torn.left;
      }
