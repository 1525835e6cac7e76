-- What the migration to the second format writes.
use Rattle.keeper_sqlite.proofs.Common.{◌≡◌, ◌≤◌, ◌<◌, ◌⊎◌, codes, None, inl, inr, arith, ℕ, ℤ, pos, List, [], ◌∷◌, ◌++◌, map, true, false, Ok, Err, Result, OnOk, refl, sym, ap, subst, ◌∙◌}
use Rattle.keeper_sqlite.proofs.Common.{IsPermutation, AllByRecursion, cases_Bool, Row, column, has_rowid, without_rowid, Trees, rowid, edit_of, id_in, without_all, Given, Written, Tally, Does}
use Rattle.keeper_sqlite.proofs.Common.{Delete, understood, ids_of, Null, Int, Error, value_cmp, ints, nat_tests, value_cmp-Int, all_weaker, all-permutation, IsPermutation-map, IsPermutation-sym}
use Rattle.keeper_sqlite.proofs.Common.{IsPermutation-trans, flat_map_single, one_step, runs_as, statement_of, CLEAR_JOURNAL, State, ExecutesInside, IsUnchanged, mode_of, Entry, with_bounds, First}
use Rattle.keeper_sqlite.proofs.Common.{Second, IsBookSchema, book_schema, journal_columns, rowid_table, second_tree, entry_row, item_rows, rows_in, HoldsJournal, IsOfBook, Wrote, Clears, HasMoved}
use Rattle.keeper_sqlite.proofs.Common.{Moves, Renumbers, UpgradesInside}
use Rattle.std.specs.Ordering.{is_eq}
use Rattle.keeper_sqlite.proofs.Lists.{map-map}
use Rattle.keeper_sqlite.proofs.Texts.{clear_means, clearing_query}
use Rattle.keeper_sqlite.proofs.Selects.{answer_by}
use Rattle.sqlite.specs.Effect.{Database}
use Rattle.keeper_sqlite.proofs.Inserts.{elsewhere, rows_at, same_value, tree_apart, went}

-- ---- rows that are taken out

-- it is not so that none of these ids is that of the row
abbrev pub IsNamed : List ℤ → Row → Type 0
IsNamed ids row = AllByRecursion (λ id. has_rowid id row ≡ false) ids → ⊥

-- a row that was left is named by one of the other ids
still_named : (id : ℤ) (ids : List ℤ) (rows : List Row) → AllByRecursion (IsNamed (id ∷ ids)) rows → AllByRecursion (IsNamed ids) (without_rowid id rows)
still_named id ids [] all = tt
still_named id ids (row ∷ rows) all = elim (cases_Bool (has_rowid id row)) [
  | inl gone ↦ rw gone (still_named id ids rows all.1)
  | inr left ↦ rw left (λ none. all.0 (left, none), still_named id ids rows all.1)
]

-- where each row is named, none is left
none_left : (ids : List ℤ) (rows : List Row) → AllByRecursion (IsNamed ids) rows → without_all rows ids ≡ []
none_left [] [] all = refl
none_left [] (row ∷ rows) all = absurd (all.0 tt)
none_left (id ∷ ids) rows all = none_left ids (without_rowid id rows) (still_named id ids rows all)

same_id : (n : ℕ) → is_eq (value_cmp (Int (pos n)) (Int (pos n))) ≡ true
same_id n = ap is_eq (value_cmp-Int (pos n) (pos n)) ∙ grind (arith, ints, nat_tests)

-- the ids of entries name each of them
own_ids : (entries : List Entry) → AllByRecursion (IsNamed (ids_of (map (entry_row First) entries))) (map (entry_row First) entries)
own_ids [] = tt
own_ids (e ∷ entries) = (
  λ none. absurd (let no : true ≡ false = sym (same_id e.seq) ∙ none.0 in cc),
  all_weaker _ _ (λ row named none. named none.1) (map (entry_row First) entries) (own_ids entries),
)

named_by : (ids other : List ℤ) (rows : List Row) → IsPermutation ids other → AllByRecursion (IsNamed ids) rows → AllByRecursion (IsNamed other) rows
named_by ids other rows same = all_weaker _ _ (λ row named none. named (all-permutation (λ id. has_rowid id row ≡ false) other ids (IsPermutation-sym _ _ same) none)) rows

-- the rows that the DELETE has found are those of the table, each as its rowid
cleared : (table found : List Row) (entries : List Entry) → IsPermutation (map (entry_row First) entries) table → IsPermutation (map (λ (r : Row). column r 0 ∷ []) table) found → without_all table (ids_of found) ≡ []
cleared table found entries same shown =
    let ids : IsPermutation (ids_of (map (λ (r : Row). column r 0 ∷ []) table)) (ids_of found) = IsPermutation-map (λ (r : Row). id_in (rowid r)) _ _ shown in
    let plain : ids_of (map (λ (r : Row). column r 0 ∷ []) table) ≡ ids_of table = map-map (λ (r : Row). id_in (rowid r)) (λ (r : Row). column r 0 ∷ []) table in
    let own : IsPermutation (ids_of (map (entry_row First) entries)) (ids_of found) = IsPermutation-trans _ _ _ (IsPermutation-map (λ (r : Row). id_in (rowid r)) _ _ same) (subst (λ l. IsPermutation l (ids_of found)) plain ids) in
    none_left (ids_of found) table (all-permutation (IsNamed (ids_of found)) (map (entry_row First) entries) table same (named_by _ (ids_of found) _ own (own_ids entries)))

-- what the DELETE leaves
pub clears : (old new : State) (r : Result ℕ Error) → ExecutesInside 0 CLEAR_JOURNAL.now [] old new r → IsBookSchema old.now.schema → OnOk r (Clears old new)
clears old new (Err e) h b = tt
clears old new (Ok count) h b =
    let w = runs_as CLEAR_JOURNAL.now [] old new _ b.is _ (clear_means b.of).command (clear_means b.of).plain count h.0 in
    let db = old.now.trees in
    let table = rowid_table (codes "journal") 2 journal_columns b.of.journal in
    let text = statement_of CLEAR_JOURNAL.now (understood (book_schema b.of) CLEAR_JOURNAL.now) in
    let done = went (subst (λ s. Does old.step_limit (mode_of old) [] (record old.now { schema = s }) text None (Delete 2 (record { lets = []; body = clearing_query })) (Ok (w.tally, new.now))) b.is w.changed) in
    let now = ap (λ (p : Tally × Database). p.1) (same_value (went (went done.2).2).2) in
    let found = went done.1 in
    let gone = went found.2 in
    let trees : done.0.trees ≡ gone.0 = ap (λ (it : Written). it.trees) (same_value gone.2) in
    let next : new.now.trees ≡ gone.0 = ap (λ (d : Database). d.trees) now ∙ trees in
    let applied = one_step (book_schema b.of) _ db gone.0 (edit_of db table (ids_of found.0) Given 0 []) refl gone.1 in
    let rows : IsPermutation (map (λ (r : Row). column r 0 ∷ []) (db 2)) found.0 =
    let a = found.1.answer Null in
    answer_by clearing_query (λ (r : Row). column r 0 ∷ []) found.0 (db 2) db a (a.grouped ∙ flat_map_single (λ r. [] ∷ r ∷ []) (db 2)) (λ r. refl) a.distinct a.shown in
    record {
      schema = ap (λ (d : Database). d.schema) now ∙ sym b.is;
      empty = λ entries same. ap (λ (x : Trees). x 2) next ∙ applied.rows ∙ cleared (db 2) found.0 entries same rows;
      others = λ x other low. ap (λ (y : Trees). y x) next
          ∙ elsewhere gone.0 db 2 4 x other (subst (λ n. (x < 3) ⊎ (x ≡ n)) (ap second_tree b.is) low) applied.tables.0 applied.tables.1.0 applied.tables.1.1.0 applied.tables.1.1.1.0;
      sound = λ _. w.sound;
      committed = h.1.committed_is;
      mode = h.1.mode;
    }

-- ---- the steps together

-- what the statements of the transaction leave, one behind the other
pub moved_rows : (start a b c : State) (rows : List Entry) → IsBookSchema start.now.schema → Wrote (second_tree start.now.schema) (map (entry_row Second) rows) start a → Clears a b → Renumbers b c → HasMoved start c rows
moved_rows start a b c rows tables wrote clears numbers =
    let tree = second_tree start.now.schema in
    let high : 3 ≤ tree = tree_apart start.now.schema tables in
    let schema : c.now.schema ≡ start.now.schema = numbers.schema ∙ clears.schema ∙ wrote.schema in
    let in_a : (t : ℕ) → IsOfBook start.now.schema t → IsOfBook a.now.schema t = λ t. subst (λ s. IsOfBook s t) (sym wrote.schema) in
    let in_b : (t : ℕ) → IsOfBook start.now.schema t → IsOfBook b.now.schema t = λ t. subst (λ s. IsOfBook s t) (sym (clears.schema ∙ wrote.schema)) in
    let meta : b.now.trees 0 ≡ start.now.trees 0 = clears.others 0 (omega arith) (in_a 0 (inl (omega arith))) ∙ wrote.others 0 (λ e. omega (arith, high, e)) (inl (omega arith)) in
    let kept : a.now.trees 2 ≡ start.now.trees 2 = wrote.others 2 (λ e. omega (arith, high, e)) (inl (omega arith)) in
    let second : c.now.trees tree ≡ a.now.trees tree = numbers.others tree (λ e. omega (arith, high, e)) (in_b tree (inr refl)) ∙ clears.others tree (λ e. omega (arith, high, e)) (in_a tree (inr refl)) in
    let after : IsBookSchema c.now.schema = subst IsBookSchema (sym schema) tables in
    let here : rows_in c.now.schema c.now.trees Second ≡ c.now.trees tree = rows_at c.now.schema c.now.trees Second after ∙ ap (λ s. c.now.trees (second_tree s)) schema in
    let there : rows_in start.now.schema start.now.trees Second ≡ start.now.trees tree = rows_at start.now.schema start.now.trees Second tables in
    let moves : Moves start.now c.now rows = record {
      schema = schema;
      meta_rows = λ items same. numbers.own items (subst (IsPermutation (item_rows 0 items)) (sym meta) same);
      mutation_rows = numbers.others 1 (omega arith) (in_b 1 (inl (omega arith))) ∙ clears.others 1 (omega arith) (in_a 1 (inl (omega arith))) ∙ wrote.others 1 (λ e. omega (arith, high, e)) (inl (omega arith));
      first_rows = λ entries same. numbers.others 2 (omega arith) (in_b 2 (inl (omega arith))) ∙ clears.empty entries (subst (IsPermutation (map (entry_row First) entries)) (sym kept) same);
      second_rows = subst (λ l. IsPermutation (map (entry_row Second) rows ++ l) (rows_in c.now.schema c.now.trees Second)) (sym there)
          (subst (IsPermutation (map (entry_row Second) rows ++ start.now.trees tree)) (sym (here ∙ second)) wrote.own);
      sound = λ h. numbers.sound (clears.sound (wrote.sound h));
    } in
    record { rows = moves; committed = numbers.committed ∙ clears.committed ∙ wrote.committed; mode = numbers.mode }

-- what was moved behind a read was moved from its start
pub moved_from : (start read a : State) (bounds : List ℕ) (entries : List Entry) → IsUnchanged start read → HoldsJournal First (start.now.trees 2) entries → HasMoved read a (with_bounds bounds entries) → UpgradesInside start a bounds
moved_from start read a bounds entries same was moved = record {
  entries = entries;
  rows = record { was = was; rows = subst (λ (d : Database). Moves d a.now (with_bounds bounds entries)) same.0.now_is moved.rows };
  committed = moved.committed ∙ same.0.committed_is;
  mode = moved.mode;
}

pub ok_weaker : {T E : Type 0} (r : Result T E) {P Q : Type 0} → (P → Q) → OnOk r P → OnOk r Q
ok_weaker (Ok x) f p = f p
ok_weaker (Err e) f p = tt
