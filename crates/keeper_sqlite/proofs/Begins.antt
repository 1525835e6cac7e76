-- What an INSERT of one item adds.
use Rattle.keeper_sqlite.proofs.Common.{◌≡◌, ◌≢◌, ◌⊎◌, ◌≤◌, arith, ◌+◌, ◌<◌, take, length, length-take, get_or, append_assoc, IsTrue, inl, ℕ, pos, List, [], ◌∷◌, ◌++◌, true, None, Ok, Err, Option}
use Rattle.keeper_sqlite.proofs.Common.{Result, OnOk, refl, sym, ap, subst, ◌∙◌, codes, IsPermutation, IsPermutation-trans, IsPermutation-cons, IsPermutation-middle, Null, Int, Blob, Row, Trees}
use Rattle.keeper_sqlite.proofs.Common.{put_row, Table, Chosen, edit_of, are_fresh, with_rowid, put_all, Values, Insert, Written, Tally, Does, Mode, State, Executes, ExecutesInside, HasCleanDisk}
use Rattle.keeper_sqlite.proofs.Common.{Survives, KeepsCommit, mode_of, survives_then, take_more, IsDatabase, understood, Error, one_step, runs_as, statement_of, BookTables, book_schema, rowid_table}
use Rattle.keeper_sqlite.proofs.Common.{meta_columns, mutation_columns, second_tree, IsBookSchema, item_row, item_rows, shown_item, IsOfBook, Wrote, WritesInside, BeginsRows}
use Rattle.sqlite.specs.Cast.{cast_row}
use Rattle.sqlite.specs.Effect.{Database}
use Rattle.keeper_sqlite.proofs.Texts.{item_terms, insert_meta_text, insert_meta_means, insert_mutation_text, insert_mutation_means}
use Rattle.keeper_sqlite.proofs.Inserts.{elsewhere, rows_at, tree_in, tree_high, of_book, cast_null, cast_int, put_permutes, not_both, went, same_value}

-- ---- an item more

-- the table of this tree has one item more
pub record AddsItem (tree : ℕ) (old new : Database) (number : ℕ) (body : List ℕ) : Type 0 where
  pub schema : new.schema ≡ old.schema
  pub own : IsPermutation (item_row number body ∷ old.trees tree) (new.trees tree)
  pub others : (t : ℕ) → t ≢ tree → IsOfBook old.schema t → new.trees t ≡ old.trees t

module _ (t : BookTables) where
  abbrev pub meta_table : Table
  meta_table = rowid_table (codes "meta") 0 meta_columns t.meta

  pub cast_meta : (n : ℕ) (b : List ℕ) → cast_row meta_table (Int (pos n) ∷ Null ∷ Blob b ∷ []) ≡ item_row n b
  cast_meta n b = λ i. cast_int (pos n) i ∷ cast_null i ∷ Blob b ∷ []

  pub adds_meta : (limit : Option ℕ) (mode : Mode) (text : List ℕ) (old after : Database) (tally : Tally) (n : ℕ) (b : List ℕ) → old.schema ≡ book_schema t
      → Does limit mode (shown_item n b) old text None (Insert 0 (Values item_terms 3)) (Ok (tally, after)) → AddsItem 0 old after n b
  adds_meta limit mode text old after tally n b has h =
      let db = old.trees in
      let done = went (subst (λ s. Does limit mode (shown_item n b) (record old { schema = s }) text None (Insert 0 (Values item_terms 3)) (Ok (tally, after))) has h) in
      let now = ap (λ (p : Tally × Database). p.1) (same_value (went (went done.2).2).2) in
      let given = went done.1 in
      let written = went (went given.2).2 in
      let counted = went written.2 in
      let trees : done.0.trees ≡ written.0 = ap (λ (it : Written). it.trees) (same_value counted.2) ∙ same_value counted.1 in
      let next : after.trees ≡ written.0 = ap (λ (d : Database). d.trees) now ∙ trees in
      let applied = one_step (book_schema t) _ db written.0 (edit_of db meta_table [] Chosen 0 given.0) refl written.1 in
      let news : (edit_of db meta_table [] Chosen 0 given.0).news ≡ item_row n b ∷ [] =
      ap (λ all. (edit_of db meta_table [] Chosen 0 all).news) given.1.1 ∙ ap (λ r. with_rowid Chosen (db 0) r ∷ []) (cast_meta n b) in
      let fresh : are_fresh (db 0) (item_row n b ∷ []) ≡ true = subst (λ x. are_fresh (db 0) x ≡ true) news applied.fresh in
      let rows : written.0 0 ≡ put_row (item_row n b) (db 0) = applied.rows ∙ ap (λ x. put_all (db 0) x) news in
      record {
        schema = ap (λ (d : Database). d.schema) now ∙ sym has;
        own = subst (λ (l : List Row). IsPermutation (item_row n b ∷ db 0) l) (sym (ap (λ (x : Trees). x 0) next ∙ rows)) (put_permutes (item_row n b) (db 0) (not_both _ fresh));
        others = λ x other low. ap (λ (y : Trees). y x) next ∙ elsewhere written.0 db _ 4 x other (subst (λ n. (x < 3) ⊎ (x ≡ n)) (ap second_tree has) low) applied.tables.0 applied.tables.1.0 applied.tables.1.1.0 applied.tables.1.1.1.0;
      }

meta_row : (old new : State) (n : ℕ) (body : List ℕ) (count : ℕ) (b : IsBookSchema old.now.schema) → Executes insert_meta_text (shown_item n body) old new (Ok count) → AddsItem 0 old.now new.now n body × IsDatabase new.now
meta_row old new n body count b h =
    let w = runs_as insert_meta_text (shown_item n body) old new _ b.is _ (insert_meta_means b.of).command (insert_meta_means b.of).plain count h in (
      adds_meta b.of old.step_limit (mode_of old) (statement_of insert_meta_text (understood (book_schema b.of) insert_meta_text)) old.now new.now w.tally n body b.is w.changed,
      w.sound,
    )

pub wrote_meta : (old new : State) (n : ℕ) (body : List ℕ) (r : Result ℕ Error) → ExecutesInside 0 insert_meta_text (shown_item n body) old new r → IsBookSchema old.now.schema → OnOk r (Wrote 0 (item_row n body ∷ []) old new)
wrote_meta old new n body (Err e) h b = tt
wrote_meta old new n body (Ok count) h b =
    let it = meta_row old new n body count b h.0 in
    record { schema = it.0.schema; own = it.0.own; others = it.0.others; sound = λ _. it.1; committed = h.1.committed_is; mode = h.1.mode }

module _ (t : BookTables) where
  abbrev mutation_table : Table
  mutation_table = rowid_table (codes "mutations") 1 mutation_columns t.mutations

  cast_mutation : (n : ℕ) (b : List ℕ) → cast_row mutation_table (Int (pos n) ∷ Null ∷ Blob b ∷ []) ≡ item_row n b
  cast_mutation n b = λ i. cast_int (pos n) i ∷ cast_null i ∷ Blob b ∷ []

  pub adds_mutation : (limit : Option ℕ) (mode : Mode) (text : List ℕ) (old after : Database) (tally : Tally) (n : ℕ) (b : List ℕ) → old.schema ≡ book_schema t
      → Does limit mode (shown_item n b) old text None (Insert 1 (Values item_terms 3)) (Ok (tally, after)) → AddsItem 1 old after n b
  adds_mutation limit mode text old after tally n b has h =
      let db = old.trees in
      let done = went (subst (λ s. Does limit mode (shown_item n b) (record old { schema = s }) text None (Insert 1 (Values item_terms 3)) (Ok (tally, after))) has h) in
      let now = ap (λ (p : Tally × Database). p.1) (same_value (went (went done.2).2).2) in
      let given = went done.1 in
      let written = went (went given.2).2 in
      let counted = went written.2 in
      let trees : done.0.trees ≡ written.0 = ap (λ (it : Written). it.trees) (same_value counted.2) ∙ same_value counted.1 in
      let next : after.trees ≡ written.0 = ap (λ (d : Database). d.trees) now ∙ trees in
      let applied = one_step (book_schema t) _ db written.0 (edit_of db mutation_table [] Chosen 0 given.0) refl written.1 in
      let news : (edit_of db mutation_table [] Chosen 0 given.0).news ≡ item_row n b ∷ [] =
      ap (λ all. (edit_of db mutation_table [] Chosen 0 all).news) given.1.1 ∙ ap (λ r. with_rowid Chosen (db 1) r ∷ []) (cast_mutation n b) in
      let fresh : are_fresh (db 1) (item_row n b ∷ []) ≡ true = subst (λ x. are_fresh (db 1) x ≡ true) news applied.fresh in
      let rows : written.0 1 ≡ put_row (item_row n b) (db 1) = applied.rows ∙ ap (λ x. put_all (db 1) x) news in
      record {
        schema = ap (λ (d : Database). d.schema) now ∙ sym has;
        own = subst (λ (l : List Row). IsPermutation (item_row n b ∷ db 1) l) (sym (ap (λ (x : Trees). x 1) next ∙ rows)) (put_permutes (item_row n b) (db 1) (not_both _ fresh));
        others = λ x other low. ap (λ (y : Trees). y x) next ∙ elsewhere written.0 db _ 4 x other (subst (λ n. (x < 3) ⊎ (x ≡ n)) (ap second_tree has) low) applied.tables.0 applied.tables.1.0 applied.tables.1.1.0 applied.tables.1.1.1.0;
      }

mutation_row : (old new : State) (n : ℕ) (body : List ℕ) (count : ℕ) (b : IsBookSchema old.now.schema) → Executes insert_mutation_text (shown_item n body) old new (Ok count) → AddsItem 1 old.now new.now n body × IsDatabase new.now
mutation_row old new n body count b h =
    let w = runs_as insert_mutation_text (shown_item n body) old new _ b.is _ (insert_mutation_means b.of).command (insert_mutation_means b.of).plain count h in (
      adds_mutation b.of old.step_limit (mode_of old) (statement_of insert_mutation_text (understood (book_schema b.of) insert_mutation_text)) old.now new.now w.tally n body b.is w.changed,
      w.sound,
    )

pub wrote_mutation : (old new : State) (n : ℕ) (body : List ℕ) (r : Result ℕ Error) → ExecutesInside 0 insert_mutation_text (shown_item n body) old new r → IsBookSchema old.now.schema → OnOk r (Wrote 1 (item_row n body ∷ []) old new)
wrote_mutation old new n body (Err e) h b = tt
wrote_mutation old new n body (Ok count) h b =
    let it = mutation_row old new n body count b h.0 in
    record { schema = it.0.schema; own = it.0.own; others = it.0.others; sound = λ _. it.1; committed = h.1.committed_is; mode = h.1.mode }

-- ---- a run of statements

pub survives_on : (a b c : State) → Survives a b (λ _. ⊥) → Survives b c (λ _. ⊥) → Survives a c (λ _. ⊥)
survives_on a b c p q = survives_then a b c _ _ (λ _. ⊥) (λ _ db none. none) (λ _ db none. none) p q

pub keeps_on : (a b c : State) → KeepsCommit a b → KeepsCommit b c → KeepsCommit a c
keeps_on a b c p q = record { was_open = λ h. p.was_open (q.was_open h); committed = λ h. q.committed h ∙ p.committed (q.was_open h) }

pub wrote_more : (tree : ℕ) (rows : List Row) (row : Row) (a b c : State) → Wrote tree rows a b → Wrote tree (row ∷ []) b c → Wrote tree (rows ++ row ∷ []) a c
wrote_more tree rows row a b c p q = record {
  schema = q.schema ∙ p.schema;
  own = subst (λ l. IsPermutation l (c.now.trees tree)) (sym (append_assoc rows (row ∷ []) (a.now.trees tree)))
      (IsPermutation-trans _ _ _ (IsPermutation-middle rows row (a.now.trees tree)) (IsPermutation-trans _ _ _ (IsPermutation-cons row _ _ p.own) q.own));
  others = λ t other low. q.others t other (subst (λ s. IsOfBook s t) (sym p.schema) low) ∙ p.others t other low;
  sound = λ h. q.sound (p.sound h);
  committed = q.committed ∙ p.committed;
  mode = q.mode;
}

pub rows_push : (n : ℕ) (bodies : List (List ℕ)) (body : List ℕ) → item_rows n (bodies ++ body ∷ []) ≡ item_rows n bodies ++ item_row (n + length bodies) body ∷ []
rows_push n [] body = ap (λ k. item_row k body ∷ []) (omega arith)
rows_push n (b ∷ bodies) body = ap (λ l. item_row n b ∷ l) (rows_push (n + 1) bodies body ∙ ap (λ k. item_rows (n + 1) bodies ++ item_row k body ∷ []) (omega arith))

-- one statement more, for the next of the items
pub wrote_next : (tree i : ℕ) (items : List (List ℕ)) (body : List ℕ) (a b c : State) → i < length items → body ≡ get_or items i body → Wrote tree (item_rows 0 (take i items)) a b → Wrote tree (item_row i body ∷ []) b c
    → Wrote tree (item_rows 0 (take (i + 1) items)) a c
wrote_next tree i items body a b c inside is p q =
    let more : take (i + 1) items ≡ take i items ++ body ∷ [] = take_more items i body inside ∙ ap (λ x. take i items ++ x ∷ []) (sym is) in
    let number : 0 + length (take i items) ≡ i = omega (arith, length-take i items) in
    let rows : item_rows 0 (take (i + 1) items) ≡ item_rows 0 (take i items) ++ item_row i body ∷ [] =
    ap (item_rows 0) more ∙ rows_push 0 (take i items) body ∙ ap (λ k. item_rows 0 (take i items) ++ item_row k body ∷ []) number in
    subst (λ l. Wrote tree l a c) (sym rows) (wrote_more tree (item_rows 0 (take i items)) (item_row i body) a b c p q)

-- both tables are written, and the journals are as they were
pub both_wrote : (start a b : State) (meta mutations : List (List ℕ)) → IsBookSchema start.now.schema → Wrote 0 (item_rows 0 meta) start a → Wrote 1 (item_rows 0 mutations) a b → BeginsRows start.now b.now meta mutations
both_wrote start a b meta mutations tables p q =
    let far : 0 ≢ 1 = omega arith in
    let near : 1 ≢ 0 = omega arith in
    let after : IsBookSchema b.now.schema = subst IsBookSchema (sym (q.schema ∙ p.schema)) tables in
    record {
      schema = q.schema ∙ p.schema;
      meta_rows = subst (IsPermutation (item_rows 0 meta ++ start.now.trees 0)) (sym (q.others 0 far (inl (omega arith)))) p.own;
      mutation_rows = subst (λ l. IsPermutation (item_rows 0 mutations ++ l) (b.now.trees 1)) (p.others 1 near (inl (omega arith))) q.own;
      journal_rows = λ table.
          let at = tree_in start.now.schema table in
          let high : 2 ≤ at = tree_high start.now.schema table tables in
          let in_a : IsOfBook a.now.schema at = subst (λ s. IsOfBook s at) (sym p.schema) (of_book start.now.schema table) in
          rows_at b.now.schema b.now.trees table after ∙ ap (λ s. b.now.trees (tree_in s table)) (q.schema ∙ p.schema) ∙ q.others at (λ e. omega (arith, high, e)) in_a ∙ p.others at (λ e. omega (arith, high, e)) (of_book start.now.schema table)
          ∙ sym (rows_at start.now.schema start.now.trees table tables);
      sound = λ h. q.sound (p.sound h);
    }

-- both lists are written, where both loops ended well
pub lists_wrote : {T U E : Type 0} (x : T) (y : U) (start a b : State) (meta mutations : List (List ℕ)) → WritesInside 0 (item_rows 0 meta) start a {E = E} (Ok x) → WritesInside 1 (item_rows 0 mutations) a b {E = E} (Ok y)
    → HasCleanDisk b → IsTrue start.in_transaction → IsBookSchema start.now.schema → BeginsRows start.now b.now meta mutations
lists_wrote x y start a b meta mutations p q clean inside schema =
    let early : HasCleanDisk a = omega (arith, q.crash.clean) in
    let one = p.wrote early inside schema in
    both_wrote start a b meta mutations schema one (q.wrote clean one.mode (subst IsBookSchema (sym one.schema) schema))
