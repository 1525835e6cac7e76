-- What an INSERT of one row adds.
use Rattle.keeper_sqlite.proofs.Common.{◌≡◌, ◌≢◌, ◌<◌, ◌≤◌, append-nil, zero, suc, arith, ◌⊎◌, inl, inr, ℕ, ℤ, pos, List, [], ◌∷◌, Bool, true, false, not, cond, None, Ok, Err, Option, Result, OnOk}
use Rattle.keeper_sqlite.proofs.Common.{refl, sym, ap, subst, ◌∙◌, codes, IsPermutation, Ordering, Less, Equal, Greater, ◌&&◌, IsPermutation-refl, IsPermutation-sym, IsPermutation-trans}
use Rattle.keeper_sqlite.proofs.Common.{IsPermutation-cons, IsPermutation-middle, Value, Null, Int, Row, value_cmp, unary, Trees, rowid, put_row, Schema, Table, Integer, Chosen, edit_of, is_taken}
use Rattle.keeper_sqlite.proofs.Common.{are_fresh, with_rowid, put_all, Values, Insert, Written, Tally, Does, Mode, State, Executes, ExecutesInside, Writes, CommitsBy, MayCommit, text_of, mode_of}
use Rattle.keeper_sqlite.proofs.Common.{understood, Error, one_step, runs_as, command_of, statement_of, IsPlain, Entry, BookTables, book_schema, rowid_table, journal_columns, second_columns}
use Rattle.keeper_sqlite.proofs.Common.{second_tree, IsBookSchema, entry_row, other_of, rows_in, shown_entry, JournalTable, First, Second, insert_into, Wrote, AddsEntry, HasAdded, IsAdded}
use Rattle.sqlite.specs.Cast.{cast, cast_row}
use Rattle.sqlite.specs.Command.{Command}
use Rattle.sqlite.specs.Effect.{Database}
use Rattle.keeper_sqlite.proofs.Texts.{entry_terms, insert_entry_means, bounded_terms, insert_bounded_text, insert_bounded_means}

either : (b : Bool) (x : Value) → cond b x x ≡ x
either true x = refl
either false x = refl

pub cast_null : cast Integer Null ≡ Null
unfolding unary
cast_null = either _ Null

pub cast_int : (n : ℤ) → cast Integer (Int n) ≡ Int n
unfolding unary
cast_int n = either _ (Int n)

-- a row whose rowid is not taken is put among the others
pub put_permutes : (new : Row) (rows : List Row) → is_taken rows new ≡ false → IsPermutation (new ∷ rows) (put_row new rows)
put_permutes new [] free = IsPermutation-refl (new ∷ [])
put_permutes new (r ∷ rows) free = go (value_cmp (rowid r) (rowid new)) refl (put_permutes new rows)
  where
    go : (o : Ordering) → value_cmp (rowid r) (rowid new) ≡ o → (is_taken rows new ≡ false → IsPermutation (new ∷ rows) (put_row new rows)) → IsPermutation (new ∷ r ∷ rows) (put_row new (r ∷ rows))
    go Less e more = rw e (IsPermutation-trans _ _ _ (IsPermutation-sym _ _ (IsPermutation-middle (r ∷ []) new rows)) (IsPermutation-cons r _ _ (more (rw e at free))))
    go Equal e more = absurd (let no = rw e at free in cc)
    go Greater e more = rw e (IsPermutation-refl _)

-- a part that gave a value did not stop on the way
pub went : {B E R : Type 0} {b : B} {Stops : E → Type 0} → ((stop : E) × Stops stop × (Ok b ≡ Err stop)) ⊎ R → R
went (inl stopped) = absurd (let e = stopped.2 in cc)
went (inr on) = on

pub same_value : {B E : Type 0} {a b : B} → ◌≡◌ {A = Result B E} (Ok a) (Ok b) → a ≡ b
same_value e = cc

pub not_both : (b : Bool) → not b && true ≡ true → b ≡ false
not_both true h = absurd (cc)
not_both false h = refl

-- a row more in the tree of a journal, and all else the same
pub record AddsRow (tree : ℕ) (row : Row) (old new : Database) : Type 0 where
  pub schema : new.schema ≡ old.schema
  pub own : IsPermutation (row ∷ old.trees tree) (new.trees tree)
  pub others : (t : ℕ) → t ≢ tree → (t < 3) ⊎ (t ≡ second_tree old.schema) → new.trees t ≡ old.trees t

-- the four trees of the tables, each by itself
pub elsewhere : (f g : Trees) (tree last x : ℕ) → x ≢ tree → (x < 3) ⊎ (x ≡ last) → (0 ≢ tree → f 0 ≡ g 0) → (1 ≢ tree → f 1 ≡ g 1) → (2 ≢ tree → f 2 ≡ g 2) → (last ≢ tree → f last ≡ g last) → f x ≡ g x
elsewhere f g tree last zero other (inl low) p q r l = p other
elsewhere f g tree last (suc zero) other (inl low) p q r l = q other
elsewhere f g tree last (suc (suc zero)) other (inl low) p q r l = r other
elsewhere f g tree last (suc (suc (suc x))) other (inl low) p q r l = absurd (omega arith)
elsewhere f g tree last x other (inr is) p q r l = subst (λ n. f n ≡ g n) (sym is) (l (λ e. other (is ∙ e)))

module _ (t : BookTables) where
  abbrev first_table : Table
  first_table = rowid_table (codes "journal") 2 journal_columns t.journal

  abbrev second_table : Table
  second_table = rowid_table (codes "journal2") 4 second_columns t.second

  cast_entry : (e : Entry) → cast_row first_table (Int (pos e.seq) ∷ Null ∷ Int (pos e.mutation) ∷ Int (pos e.test) ∷ Int (pos e.word) ∷ Int (pos e.mark) ∷ Int (pos e.tags) ∷ []) ≡ entry_row First e
  cast_entry e = λ i. cast_int (pos e.seq) i ∷ cast_null i ∷ cast_int (pos e.mutation) i ∷ cast_int (pos e.test) i ∷ cast_int (pos e.word) i ∷ cast_int (pos e.mark) i ∷ cast_int (pos e.tags) i ∷ []

  cast_bounded : (e : Entry) → cast_row second_table (Int (pos e.seq) ∷ Null ∷ Int (pos e.mutation) ∷ Int (pos e.test) ∷ Int (pos e.word) ∷ Int (pos e.mark) ∷ Int (pos e.tags) ∷ Int (pos e.bound) ∷ []) ≡ entry_row Second e
  cast_bounded e = λ i.
      cast_int (pos e.seq) i ∷ cast_null i ∷ cast_int (pos e.mutation) i ∷ cast_int (pos e.test) i ∷ cast_int (pos e.word) i ∷ cast_int (pos e.mark) i ∷ cast_int (pos e.tags) i ∷ cast_int (pos e.bound) i ∷ []

  pub adds_first : (limit : Option ℕ) (mode : Mode) (text : List ℕ) (old after : Database) (tally : Tally) (e : Entry) → old.schema ≡ book_schema t
      → Does limit mode (shown_entry First e) old text None (Insert 2 (Values entry_terms 7)) (Ok (tally, after)) → AddsRow 2 (entry_row First e) old after
  adds_first limit mode text old after tally e has h =
      let db = old.trees in
      let done = went (subst (λ s. Does limit mode (shown_entry First e) (record old { schema = s }) text None (Insert 2 (Values entry_terms 7)) (Ok (tally, after))) has h) in
      let now = ap (λ (p : Tally × Database). p.1) (same_value (went (went done.2).2).2) in
      let given = went done.1 in
      let written = went (went given.2).2 in
      let counted = went written.2 in
      let trees : done.0.trees ≡ written.0 = ap (λ (it : Written). it.trees) (same_value counted.2) ∙ same_value counted.1 in
      let next : after.trees ≡ written.0 = ap (λ (d : Database). d.trees) now ∙ trees in
      let applied = one_step (book_schema t) _ db written.0 (edit_of db first_table [] Chosen 0 given.0) refl written.1 in
      let news : (edit_of db first_table [] Chosen 0 given.0).news ≡ entry_row First e ∷ [] =
      ap (λ all. (edit_of db first_table [] Chosen 0 all).news) given.1.1 ∙ ap (λ r. with_rowid Chosen (db 2) r ∷ []) (cast_entry e) in
      let fresh : are_fresh (db 2) (entry_row First e ∷ []) ≡ true = subst (λ n. are_fresh (db 2) n ≡ true) news applied.fresh in
      let rows : written.0 2 ≡ put_row (entry_row First e) (db 2) = applied.rows ∙ ap (λ n. put_all (db 2) n) news in
      record {
        schema = ap (λ (d : Database). d.schema) now ∙ sym has;
        own = subst (λ (l : List Row). IsPermutation (entry_row First e ∷ db 2) l) (sym (ap (λ (x : Trees). x 2) next ∙ rows)) (put_permutes (entry_row First e) (db 2) (not_both _ fresh));
        others = λ x other low. ap (λ (y : Trees). y x) next
            ∙ elsewhere written.0 db 2 4 x other (subst (λ n. (x < 3) ⊎ (x ≡ n)) (ap second_tree has) low) applied.tables.0 applied.tables.1.0 applied.tables.1.1.0 applied.tables.1.1.1.0;
      }

  pub adds_second : (limit : Option ℕ) (mode : Mode) (text : List ℕ) (old after : Database) (tally : Tally) (e : Entry) → old.schema ≡ book_schema t
      → Does limit mode (shown_entry Second e) old text None (Insert 3 (Values bounded_terms 8)) (Ok (tally, after)) → AddsRow 4 (entry_row Second e) old after
  adds_second limit mode text old after tally e has h =
      let db = old.trees in
      let done = went (subst (λ s. Does limit mode (shown_entry Second e) (record old { schema = s }) text None (Insert 3 (Values bounded_terms 8)) (Ok (tally, after))) has h) in
      let now = ap (λ (p : Tally × Database). p.1) (same_value (went (went done.2).2).2) in
      let given = went done.1 in
      let written = went (went given.2).2 in
      let counted = went written.2 in
      let trees : done.0.trees ≡ written.0 = ap (λ (it : Written). it.trees) (same_value counted.2) ∙ same_value counted.1 in
      let next : after.trees ≡ written.0 = ap (λ (d : Database). d.trees) now ∙ trees in
      let applied = one_step (book_schema t) _ db written.0 (edit_of db second_table [] Chosen 0 given.0) refl written.1 in
      let news : (edit_of db second_table [] Chosen 0 given.0).news ≡ entry_row Second e ∷ [] =
      ap (λ all. (edit_of db second_table [] Chosen 0 all).news) given.1.1 ∙ ap (λ r. with_rowid Chosen (db 4) r ∷ []) (cast_bounded e) in
      let fresh : are_fresh (db 4) (entry_row Second e ∷ []) ≡ true = subst (λ n. are_fresh (db 4) n ≡ true) news applied.fresh in
      let rows : written.0 4 ≡ put_row (entry_row Second e) (db 4) = applied.rows ∙ ap (λ n. put_all (db 4) n) news in
      record {
        schema = ap (λ (d : Database). d.schema) now ∙ sym has;
        own = subst (λ (l : List Row). IsPermutation (entry_row Second e ∷ db 4) l) (sym (ap (λ (x : Trees). x 4) next ∙ rows)) (put_permutes (entry_row Second e) (db 4) (not_both _ fresh));
        others = λ x other low. ap (λ (y : Trees). y x) next
            ∙ elsewhere written.0 db 4 4 x other (subst (λ n. (x < 3) ⊎ (x ≡ n)) (ap second_tree has) low) applied.tables.0 applied.tables.1.0 applied.tables.1.1.0 applied.tables.1.1.1.0;
      }

-- the statement of each journal
abbrev command_into : JournalTable → Command
command_into First = Insert 2 (Values entry_terms 7)
command_into Second = Insert 3 (Values bounded_terms 8)

into_is : (table : JournalTable) (t : BookTables) → command_of (understood (book_schema t) (insert_into table)) ≡ command_into table
into_is First t = (insert_entry_means t).command
into_is Second t = (insert_bounded_means t).command

into_plain : (table : JournalTable) (t : BookTables) → IsPlain (understood (book_schema t) (insert_into table))
into_plain First t = (insert_entry_means t).plain
into_plain Second t = (insert_bounded_means t).plain

-- the rows of a journal, by its tree
abbrev pub tree_in : Schema → JournalTable → ℕ
tree_in schema First = 2
tree_in schema Second = second_tree schema

pub rows_at : (schema : Schema) (trees : Trees) (table : JournalTable) → IsBookSchema schema → rows_in schema trees table ≡ trees (tree_in schema table)
rows_at schema trees First b = refl
rows_at schema trees Second b = ap (λ s. rows_in s trees Second) b.is ∙ sym (ap (λ s. trees (second_tree s)) b.is)

apart_in : (schema : Schema) (table : JournalTable) → IsBookSchema schema → (0 ≢ tree_in schema table) × (1 ≢ tree_in schema table) × (tree_in schema (other_of table) ≢ tree_in schema table)
apart_in schema First b = let at : second_tree schema ≡ 4 = ap second_tree b.is in (omega arith, omega arith, λ e. omega (arith, at, e))
apart_in schema Second b = let at : second_tree schema ≡ 4 = ap second_tree b.is in (λ e. omega (arith, at, e), λ e. omega (arith, at, e), λ e. omega (arith, at, e))

pub tree_high : (schema : Schema) (table : JournalTable) → IsBookSchema schema → 2 ≤ tree_in schema table
tree_high schema First b = omega arith
tree_high schema Second b = let at : second_tree schema ≡ 4 = ap second_tree b.is in omega (arith, at)

pub tree_apart : (schema : Schema) → IsBookSchema schema → 3 ≤ second_tree schema
tree_apart schema b = let at : second_tree schema ≡ 4 = ap second_tree b.is in omega (arith, at)

pub of_book : (schema : Schema) (table : JournalTable) → (tree_in schema table < 3) ⊎ (tree_in schema table ≡ second_tree schema)
of_book schema First = inl (omega arith)
of_book schema Second = inr refl

-- an entry more, where its row is one more in the tree of its journal
adds_entry : (table : JournalTable) (old new : Database) (e : Entry) → IsBookSchema old.schema → AddsRow (tree_in old.schema table) (entry_row table e) old new → AddsEntry table old new e
adds_entry table old new e b adds =
    let apart = apart_in old.schema table b in
    let after : IsBookSchema new.schema = subst IsBookSchema (sym adds.schema) b in
    let here = λ (table : JournalTable). rows_at new.schema new.trees table after ∙ ap (λ (s : Schema). new.trees (tree_in s table)) adds.schema in
    let there = λ (table : JournalTable). rows_at old.schema old.trees table b in
    record {
      schema = adds.schema;
      meta = adds.others 0 apart.0 (inl (omega arith));
      mutations = adds.others 1 apart.1 (inl (omega arith));
      journal = subst (λ l. IsPermutation (entry_row table e ∷ l) (rows_in new.schema new.trees table)) (sym (there table)) (subst (IsPermutation (entry_row table e ∷ old.trees (tree_in old.schema table))) (sym (here table)) adds.own);
      other = here (other_of table) ∙ adds.others (tree_in old.schema (other_of table)) apart.2 (of_book old.schema (other_of table)) ∙ sym (there (other_of table));
    }

adds_by : (table : JournalTable) (limit : Option ℕ) (mode : Mode) (text : List ℕ) (old after : Database) (tally : Tally) (e : Entry) (b : IsBookSchema old.schema)
    → Does limit mode (shown_entry table e) old text None (command_into table) (Ok (tally, after)) → AddsEntry table old after e
adds_by First limit mode text old after tally e b h = adds_entry First old after e b (adds_first b.of limit mode text old after tally e b.is h)
adds_by Second limit mode text old after tally e b h =
    adds_entry Second old after e b (subst (λ n. AddsRow n (entry_row Second e) old after) (sym (ap second_tree b.is)) (adds_second b.of limit mode text old after tally e b.is h))

writes : (table : JournalTable) (old new : State) (e : Entry) (count : ℕ) (b : IsBookSchema old.now.schema) → Executes (insert_into table) (shown_entry table e) old new (Ok count)
    → Writes old new None (command_into table) (statement_of (insert_into table) (understood (book_schema b.of) (insert_into table))) (shown_entry table e) count
writes First old new e count b h = runs_as (insert_into First) (shown_entry First e) old new _ b.is _ (into_is First b.of) (into_plain First b.of) count h
writes Second old new e count b h = runs_as (insert_into Second) (shown_entry Second e) old new _ b.is _ (into_is Second b.of) (into_plain Second b.of) count h

added_row : (table : JournalTable) (old new : State) (e : Entry) (count : ℕ) (b : IsBookSchema old.now.schema) → Executes (insert_into table) (shown_entry table e) old new (Ok count) → HasAdded table old new e
added_row table old new e count b h =
    let w = writes table old new e count b h in
    record {
      sound = w.sound;
      rows = adds_by table old.step_limit (mode_of old) (statement_of (insert_into table) (understood (book_schema b.of) (insert_into table))) old.now new.now w.tally e b w.changed;
      shown = w.shown;
    }

-- what the statement does
pub added : (table : JournalTable) (old new : State) (e : Entry) (r : Result ℕ Error) → IsBookSchema old.now.schema → Executes (insert_into table) (shown_entry table e) old new r → OnOk r (HasAdded table old new e)
added table old new e (Err why) b h = tt
added table old new e (Ok count) b h = added_row table old new e count b h

written : (table : JournalTable) (old : State) (e : Entry) (trees : Trees) (b : IsBookSchema old.now.schema) (text : List ℕ) → MayCommit old None (command_into table) text (shown_entry table e) trees → IsAdded table old.now e trees
written First old e trees b text (inl (inl is, same)) = absurd (cc)
written First old e trees b text (inl (inr is, same)) = absurd (let no = is.2 in cc)
written First old e trees b text (inr may) = (may.2, may.4, adds_by First old.step_limit (mode_of old) text old.now may.2 may.1 e b may.3, may.5)
written Second old e trees b text (inl (inl is, same)) = absurd (cc)
written Second old e trees b text (inl (inr is, same)) = absurd (let no = is.2 in cc)
written Second old e trees b text (inr may) = (may.2, may.4, adds_by Second old.step_limit (mode_of old) text old.now may.2 may.1 e b may.3, may.5)

-- what it commits
pub commits : (table : JournalTable) (old : State) (e : Entry) (trees : Trees) → IsBookSchema old.now.schema → CommitsBy (insert_into table) (shown_entry table e) old trees → IsAdded table old.now e trees
unfolding CommitsBy
commits table old e trees b h =
    let known = sym h.1.is ∙ ap (λ s. understood s (insert_into table)) b.is in
    let bare = subst IsPlain (sym known) (into_plain table b.of) in
    let is : h.0.command ≡ command_into table = ap command_of known ∙ into_is table b.of in
    let may : MayCommit old None h.0.command (text_of (insert_into table) h.0) (shown_entry table e) trees = rw (bare.0, bare.1, append-nil (shown_entry table e)) at h.2 in
    written table old e trees b (text_of (insert_into table) h.0) (subst (λ k. MayCommit old None k (text_of (insert_into table) h.0) (shown_entry table e) trees) is may)

-- the same inside a transaction
pub wrote_bounded : (old new : State) (e : Entry) (r : Result ℕ Error) → ExecutesInside 0 insert_bounded_text (shown_entry Second e) old new r → IsBookSchema old.now.schema
    → OnOk r (Wrote (second_tree old.now.schema) (entry_row Second e ∷ []) old new)
wrote_bounded old new e (Err why) h b = tt
wrote_bounded old new e (Ok count) h b =
    let w = runs_as insert_bounded_text (shown_entry Second e) old new _ b.is _ (insert_bounded_means b.of).command (insert_bounded_means b.of).plain count h.0 in
    let it : AddsRow (second_tree old.now.schema) (entry_row Second e) old.now new.now =
    subst (λ n. AddsRow n (entry_row Second e) old.now new.now) (sym (ap second_tree b.is))
    (adds_second b.of old.step_limit (mode_of old) (statement_of insert_bounded_text (understood (book_schema b.of) insert_bounded_text)) old.now new.now w.tally e b.is w.changed) in
    record { schema = it.schema; own = it.own; others = it.others; sound = λ _. w.sound; committed = h.1.committed_is; mode = h.1.mode }
