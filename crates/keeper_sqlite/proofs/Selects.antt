-- What a SELECT of a whole table answers.
use Rattle.keeper_sqlite.proofs.Common.{codes, ◌≡◌, arith, ℕ, ◌+◌, List, [], ◌∷◌, map, flat_map, drop, Bool, true, false, not, ◌&&◌, Some, None, Ok, Err, Result, IfOk, OnOk, IsTrue, refl, sym, ap}
use Rattle.keeper_sqlite.proofs.Common.{subst, ◌∙◌, IsPermutation, AllByRecursion, IsPermutation-map, IsPermutation-sym, flat_map_single, Value, Null, Int, Real, Text, Blob, Row, column, IsAnswer}
use Rattle.keeper_sqlite.proofs.Common.{Output, Query, output, overlay, Trees, IsDatabase, State, Shown, ShowsRows, IsUnchanged, HasCleanDisk, Survives, CommitsShowing, understood, reads_listing}
use Rattle.keeper_sqlite.proofs.Common.{IsSourceOf, timed, survives_weaker, Integer, Bytes_kind, is_null, reads_as, IsPlain, never_commits, unchanged_then, Entry, IsBookSchema, rowid_table}
use Rattle.keeper_sqlite.proofs.Common.{key_column, blob_column, meta_columns, mutation_columns, journal_columns, second_columns, item_row, item_rows, rows_in, shown_items, entry_row, shown_entry}
use Rattle.keeper_sqlite.proofs.Common.{JournalTable, First, Second, select_from}
use Rattle.keeper_sqlite.proofs.Lists.{map-map}
use Rattle.sqlite.specs.Effect.{Database}
use Rattle.sqlite_schema.specs.declared.schema.Table.{Table}
use Rattle.sqlite_schema.specs.declared.schema.Constraint.TheVariants.{Datatype, NotNull}
use Rattle.sqlite_schema.specs.Rules.{is_of, are_typed, are_present, has_computed, Keeps}
use Rattle.sqlite_schema.specs.declared.schema.Column.{Column}
use Rattle.keeper_sqlite.proofs.Texts.{select_entries_text, entries_query, select_entries_means, select_second_text, second_query, select_second_means, items_query, select_meta_text, select_meta_means, select_mutations_text, select_mutations_means}

-- a stored row of a journal as it is shown, and back
abbrev pub show : JournalTable → Row → Row
show First r = column r 0 ∷ column r 2 ∷ column r 3 ∷ column r 4 ∷ column r 5 ∷ column r 6 ∷ []
show Second r = column r 0 ∷ column r 2 ∷ column r 3 ∷ column r 4 ∷ column r 5 ∷ column r 6 ∷ column r 7 ∷ []

abbrev pub restore : Row → Row
restore [] = []
restore (v ∷ values) = v ∷ Null ∷ values

restored : (table : JournalTable) (entries : List Entry) → map restore (map (shown_entry table) entries) ≡ map (entry_row table) entries
restored table [] = refl
restored First (e ∷ entries) = ap (λ l. entry_row First e ∷ l) (restored First entries)
restored Second (e ∷ entries) = ap (λ l. entry_row Second e ∷ l) (restored Second entries)

map_alike : {A B : Type 0} (f g : A → B) → ((x : A) → f x ≡ g x) → (xs : List A) → map f xs ≡ map g xs
map_alike f g same [] = refl
map_alike f g same (x ∷ xs) = λ i. same x i ∷ map_alike f g same xs i

-- what a query of one whole table answers
pub answer_by : (q : Query) (shown : Row → Row) (rows table : List Row) (db : Trees) (a : IsAnswer q (overlay db []) [] rows) → a.staged ≡ map (λ (r : Row). [] ∷ r ∷ []) table
    → ((r : Row) → (output q ([] ∷ r ∷ [])).1 ≡ shown r) → a.kept ≡ map (output q) a.staged → rows ≡ map (λ (p : Output). p.1) a.ordered → IsPermutation (map shown table) rows
answer_by q shown rows table db a staged shows kept answered =
    let each : map (λ (r : Row). (output q ([] ∷ r ∷ [])).1) table ≡ map shown table = map_alike _ _ shows table in
    let all : a.kept ≡ map (λ (r : Row). output q ([] ∷ r ∷ [])) table = kept ∙ ap (map (output q)) staged ∙ map-map (output q) (λ r. [] ∷ r ∷ []) table in
    let first : map (λ (p : Output). p.1) a.kept ≡ map shown table = ap (map (λ (p : Output). p.1)) all ∙ map-map (λ (p : Output). p.1) (λ (r : Row). output q ([] ∷ r ∷ [])) table ∙ each in
    let same : IsPermutation (map (λ (p : Output). p.1) a.kept) (map (λ (p : Output). p.1) a.ordered) = IsPermutation-map (λ (p : Output). p.1) _ _ a.same in
    subst (λ l. IsPermutation l rows) first (subst (IsPermutation (map (λ (p : Output). p.1) a.kept)) (sym answered) same)

answer_rows : (db : Trees) (rows : List Row) → IsAnswer entries_query (overlay db []) [] rows → IsPermutation (map (show First) (db 2)) rows
answer_rows db rows a = answer_by entries_query (show First) rows (db 2) db a (a.grouped ∙ flat_map_single (λ r. [] ∷ r ∷ []) (db 2)) (λ r. refl) a.distinct a.shown

answer_second : (db : Trees) (rows : List Row) → IsAnswer second_query (overlay db []) [] rows → IsPermutation (map (show Second) (db 4)) rows
answer_second db rows a = answer_by second_query (show Second) rows (db 4) db a (a.grouped ∙ flat_map_single (λ r. [] ∷ r ∷ []) (db 4)) (λ r. refl) a.distinct a.shown

pub shown_rows : (table : JournalTable) (old new : State) (rows : List Row) (b : IsBookSchema old.now.schema) → Shown (select_from table) [] old new rows → IsPermutation (map (show table) (rows_in old.now.schema old.now.trees table)) rows
shown_rows First old new rows b h =
    let read = reads_as select_entries_text [] old new _ b.is _ (select_entries_means b.of).command (select_entries_means b.of).plain (select_entries_means b.of).listing rows h in
    answer_rows old.now.trees rows (read.answer Null)
shown_rows Second old new rows b h =
    let read = reads_as select_second_text [] old new _ b.is _ (select_second_means b.of).command (select_second_means b.of).plain (select_second_means b.of).listing rows h in
    subst (λ s. IsPermutation (map (show Second) (rows_in s old.now.trees Second)) rows) (sym b.is) (answer_second old.now.trees rows (read.answer Null))

second : (a b : Bool) → a && b ≡ true → b ≡ true
second true b h = h
second false b h = absurd (cc)

first : (a b : Bool) → a && b ≡ true → a ≡ true
first true b h = refl
first false b h = absurd (cc)

only_null : (v : Value) → is_null v ≡ true → v ≡ Null
only_null Null h = refl
only_null (Int n) h = absurd (cc)
only_null (Real x) h = absurd (cc)
only_null (Text t) h = absurd (cc)
only_null (Blob b) h = absurd (cc)

-- a row that obeys the rules of its journal has each of its columns, and none in the place of its key
whole : (row : Row) → are_typed (Some 0) 0 journal_columns (drop 1 row) ≡ true → are_present (Some 0) 0 journal_columns row ≡ true → restore (show First row) ≡ row
whole [] t p = absurd (cc)
whole (a ∷ []) t p = absurd (cc)
whole (a ∷ b ∷ []) t p = absurd (cc)
whole (a ∷ b ∷ c ∷ []) t p = absurd (let q : false ≡ true = second (not (is_null c)) false p in cc)
whole (a ∷ b ∷ c ∷ d ∷ []) t p = absurd (let q : false ≡ true = second (not (is_null d)) false (second (not (is_null c)) _ p) in cc)
whole (a ∷ b ∷ c ∷ d ∷ e ∷ []) t p = absurd (let q : false ≡ true = second (not (is_null e)) false (second (not (is_null d)) _ (second (not (is_null c)) _ p)) in cc)
whole (a ∷ b ∷ c ∷ d ∷ e ∷ f ∷ []) t p = absurd (let q : false ≡ true = second (not (is_null f)) false (second (not (is_null e)) _ (second (not (is_null d)) _ (second (not (is_null c)) _ p))) in cc)
whole (a ∷ b ∷ c ∷ d ∷ e ∷ f ∷ g ∷ []) t p = ap (λ (v : Value). a ∷ v ∷ c ∷ d ∷ e ∷ f ∷ g ∷ []) (sym (only_null b (first (is_null b) _ t)))
whole (a ∷ b ∷ c ∷ d ∷ e ∷ f ∷ g ∷ h ∷ more) t p = absurd (let q : false ≡ true = second (is_of Integer g) false (second (is_of Integer f) _ (second (is_of Integer e) _ (second (is_of Integer d) _ (second (is_of Integer c) _ (second (is_null b) _ t))))) in cc)

whole_second : (row : Row) → are_typed (Some 0) 0 second_columns (drop 1 row) ≡ true → are_present (Some 0) 0 second_columns row ≡ true → restore (show Second row) ≡ row
whole_second [] t p = absurd (cc)
whole_second (a ∷ []) t p = absurd (cc)
whole_second (a ∷ b ∷ []) t p = absurd (cc)
whole_second (a ∷ b ∷ c ∷ []) t p = absurd (let q : false ≡ true = second (not (is_null c)) false p in cc)
whole_second (a ∷ b ∷ c ∷ d ∷ []) t p = absurd (let q : false ≡ true = second (not (is_null d)) false (second (not (is_null c)) _ p) in cc)
whole_second (a ∷ b ∷ c ∷ d ∷ e ∷ []) t p = absurd (let q : false ≡ true = second (not (is_null e)) false (second (not (is_null d)) _ (second (not (is_null c)) _ p)) in cc)
whole_second (a ∷ b ∷ c ∷ d ∷ e ∷ f ∷ []) t p = absurd (let q : false ≡ true = second (not (is_null f)) false (second (not (is_null e)) _ (second (not (is_null d)) _ (second (not (is_null c)) _ p))) in cc)
whole_second (a ∷ b ∷ c ∷ d ∷ e ∷ f ∷ g ∷ []) t p = absurd (let q : false ≡ true = second (not (is_null g)) false (second (not (is_null f)) _ (second (not (is_null e)) _ (second (not (is_null d)) _ (second (not (is_null c)) _ p)))) in cc)
whole_second (a ∷ b ∷ c ∷ d ∷ e ∷ f ∷ g ∷ h ∷ []) t p = ap (λ (v : Value). a ∷ v ∷ c ∷ d ∷ e ∷ f ∷ g ∷ h ∷ []) (sym (only_null b (first (is_null b) _ t)))
whole_second (a ∷ b ∷ c ∷ d ∷ e ∷ f ∷ g ∷ h ∷ i ∷ more) t p =
    absurd (let q : false ≡ true = second (is_of Integer h) false (second (is_of Integer g) _ (second (is_of Integer f) _ (second (is_of Integer e) _ (second (is_of Integer d) _ (second (is_of Integer c) _ (second (is_null b) _ t)))))) in cc)

all_whole : (table : JournalTable) (columns : List Column) → ((row : Row) → are_typed (Some 0) 0 columns (drop 1 row) ≡ true → are_present (Some 0) 0 columns row ≡ true → restore (show table row) ≡ row)
    → (t : Table) (rows : List Row) → AllByRecursion (λ row. are_typed (Some 0) 0 columns (drop 1 row) && has_computed t row ≡ true) rows
    → AllByRecursion (λ row. are_present (Some 0) 0 columns row ≡ true) rows → map restore (map (show table) rows) ≡ rows
all_whole table columns one t [] typed present = refl
all_whole table columns one t (row ∷ rows) typed present = λ i. one row (first _ _ typed.0) present.0 i ∷ all_whole table columns one t rows typed.1 present.1 i

restored_rows : (table : JournalTable) (db : Database) (b : IsBookSchema db.schema) → IsDatabase db → map restore (map (show table) (rows_in db.schema db.trees table)) ≡ rows_in db.schema db.trees table
restored_rows First db b sound =
    let typed = subst (λ s. Keeps Datatype s db.trees) b.is (sound.obeys.rules Datatype) in
    let present = subst (λ s. Keeps NotNull s db.trees) b.is (sound.obeys.rules NotNull) in
    all_whole First journal_columns whole (rowid_table (codes "journal") 2 journal_columns b.of.journal) (db.trees 2) typed.1.1.0 present.1.1.0
restored_rows Second db b sound =
    let typed = subst (λ s. Keeps Datatype s db.trees) b.is (sound.obeys.rules Datatype) in
    let present = subst (λ s. Keeps NotNull s db.trees) b.is (sound.obeys.rules NotNull) in
    subst (λ s. map restore (map (show Second) (rows_in s db.trees Second)) ≡ rows_in s db.trees Second) (sym b.is)
    (all_whole Second second_columns whole_second (rowid_table (codes "journal2") 4 second_columns b.of.second) (db.trees 4) typed.1.1.1.0 present.1.1.1.0)

pub holds_entries : (table : JournalTable) (old new : State) (entries : List Entry) (b : IsBookSchema old.now.schema) → IsDatabase old.now → Shown (select_from table) [] old new (map (shown_entry table) entries)
    → IsPermutation (map (entry_row table) entries) (rows_in old.now.schema old.now.trees table)
holds_entries table old new entries b sound h =
    let rows = rows_in old.now.schema old.now.trees table in
    let same : IsPermutation (map restore (map (show table) rows)) (map restore (map (shown_entry table) entries)) = IsPermutation-map restore _ _ (shown_rows table old new (map (shown_entry table) entries) b h) in
    let stored : IsPermutation rows (map (entry_row table) entries) =
    subst (λ l. IsPermutation rows l) (restored table entries) (subst (λ l. IsPermutation l (map restore (map (shown_entry table) entries))) (restored_rows table old.now b sound) same) in
    IsPermutation-sym _ _ stored

-- a text that only reads changes nothing
pub shows_unchanged : (text : List ℕ) (old new : State) (rows : List Row) → IsPlain (understood old.now.schema text) → Shown text [] old new rows → IsUnchanged old new
unfolding Shown
shows_unchanged text old new rows plain h =
    let bare = subst IsPlain h.1.is plain in
    let it : ShowsRows old new text h.0 (timed [] h.0.formats h.1.now) rows None = rw bare.0 at h.2 in
    it.3

pub ok_unchanged : {T E : Type 0} (items : T → List Row) (text : List ℕ) (old new : State) (r : Result T E) → IsPlain (understood old.now.schema text) → IfOk r (λ rows. Shown text [] old new (items rows)) → OnOk r (IsUnchanged old new)
ok_unchanged items text old new (Ok rows) plain h = shows_unchanged text old new (items rows) plain h
ok_unchanged items text old new (Err e) plain h = tt

-- what such a text shows later it shows from the first
pub shown_from : (text : List ℕ) (first mid new : State) (rows : List Row) → IsPlain (understood first.now.schema text) → IsUnchanged first mid → Shown text [] mid new rows → Shown text [] first new rows
unfolding Shown
shown_from text first mid new rows plain same h =
    let now : mid.now ≡ first.now = same.0.now_is in
    let is : understood first.now.schema text ≡ Ok h.0 = subst (λ (d : Database). understood d.schema text ≡ Ok h.0) now h.1.is in
    let bare = subst IsPlain is plain in
    let full = timed [] h.0.formats h.1.now in
    let it : ShowsRows mid new text h.0 full rows None = rw bare.0 at h.2 in
    let from : ShowsRows first new text h.0 full rows None = (it.0, subst (λ (d : Database). IsSourceOf (reads_listing d.schema text) d it.0) now it.1, it.2, unchanged_then first mid new same it.3) in
    (h.0, record { is = is; whole = h.1.whole; given = h.1.given; now = h.1.now }, subst (ShowsRows first new text h.0 full rows) (sym bare.0) from)

-- a text that only reads commits nothing
pub commits_nothing : (text : List ℕ) (old new : State) → (HasCleanDisk old → IsPlain (understood old.now.schema text)) → Survives old new (CommitsShowing text [] old) → Survives old new (λ _. ⊥)
commits_nothing text old new plain survives = survives_weaker old new _ _ (λ clean db. never_commits text [] old db (plain (omega (arith, survives.clean)))) survives

pub entries_plain : (table : JournalTable) (old : State) → IsBookSchema old.now.schema → IsPlain (understood old.now.schema (select_from table))
entries_plain First old b = subst (λ s. IsPlain (understood s select_entries_text)) (sym b.is) (select_entries_means b.of).plain
entries_plain Second old b = subst (λ s. IsPlain (understood s select_second_text)) (sym b.is) (select_second_means b.of).plain

-- ---- a table of items

abbrev show_item : Row → Row
show_item r = column r 0 ∷ column r 2 ∷ []

restored_items : (n : ℕ) (bodies : List (List ℕ)) → map restore (shown_items n bodies) ≡ item_rows n bodies
restored_items n [] = refl
restored_items n (b ∷ bodies) = ap (λ l. item_row n b ∷ l) (restored_items (n + 1) bodies)

module _ (tree : ℕ) (db : Trees) (over : overlay db [] tree ≡ db tree) where
  answer_items : (rows : List Row) → IsAnswer (items_query tree) (overlay db []) [] rows → IsPermutation (map show_item (db tree)) rows
  answer_items rows a =
      let staged : a.staged ≡ map (λ r. [] ∷ r ∷ []) (db tree) =
      a.grouped ∙ ap (λ (l : List Row). flat_map (λ (r : Row). ([] ∷ r ∷ []) ∷ []) l) over ∙ flat_map_single (λ r. [] ∷ r ∷ []) (db tree) in
      let kept : a.kept ≡ map (λ (r : Row). output (items_query tree) ([] ∷ r ∷ [])) (db tree) =
      a.distinct ∙ ap (map (output (items_query tree))) staged ∙ map-map (output (items_query tree)) (λ r. [] ∷ r ∷ []) (db tree) in
      let shown : map (λ (p : Output). p.1) a.kept ≡ map show_item (db tree) = ap (map (λ (p : Output). p.1)) kept ∙ map-map (λ (p : Output). p.1) (λ (r : Row). output (items_query tree) ([] ∷ r ∷ [])) (db tree) in
      let same : IsPermutation (map (λ (p : Output). p.1) a.kept) (map (λ (p : Output). p.1) a.ordered) = IsPermutation-map (λ (p : Output). p.1) _ _ a.same in
      subst (λ l. IsPermutation l rows) shown (subst (IsPermutation (map (λ (p : Output). p.1) a.kept)) (sym a.shown) same)

abbrev item_columns : List ℕ → List ℕ → List Column
item_columns key body = key_column key ∷ blob_column body ∷ []

whole_item : (key body : List ℕ) (row : Row) → are_typed (Some 0) 0 (item_columns key body) (drop 1 row) ≡ true → are_present (Some 0) 0 (item_columns key body) row ≡ true → restore (show_item row) ≡ row
whole_item key body [] t p = absurd (cc)
whole_item key body (a ∷ []) t p = absurd (cc)
whole_item key body (a ∷ b ∷ []) t p = absurd (cc)
whole_item key body (a ∷ b ∷ c ∷ []) t p = ap (λ (v : Value). a ∷ v ∷ c ∷ []) (sym (only_null b (first (is_null b) _ t)))
whole_item key body (a ∷ b ∷ c ∷ d ∷ more) t p = absurd (let q : false ≡ true = second (is_of Bytes_kind c) false (second (is_null b) _ t) in cc)

all_whole_items : (key body : List ℕ) (t : Table) (rows : List Row) → AllByRecursion (λ row. are_typed (Some 0) 0 (item_columns key body) (drop 1 row) && has_computed t row ≡ true) rows
    → AllByRecursion (λ row. are_present (Some 0) 0 (item_columns key body) row ≡ true) rows → map restore (map show_item rows) ≡ rows
all_whole_items key body t [] typed present = refl
all_whole_items key body t (row ∷ rows) typed present = λ i. whole_item key body row (first _ _ typed.0) present.0 i ∷ all_whole_items key body t rows typed.1 present.1 i

stored_items : (table : List Row) (bodies : List (List ℕ)) → map restore (map show_item table) ≡ table → IsPermutation (map show_item table) (shown_items 0 bodies) → IsPermutation (item_rows 0 bodies) table
stored_items table bodies whole_rows shown =
    let same : IsPermutation (map restore (map show_item table)) (map restore (shown_items 0 bodies)) = IsPermutation-map restore _ _ shown in
    IsPermutation-sym _ _ (subst (IsPermutation table) (restored_items 0 bodies) (subst (λ l. IsPermutation l (map restore (shown_items 0 bodies))) whole_rows same))

holds_meta : (old new : State) (bodies : List (List ℕ)) (b : IsBookSchema old.now.schema) → IsDatabase old.now → Shown select_meta_text [] old new (shown_items 0 bodies) → IsPermutation (item_rows 0 bodies) (old.now.trees 0)
holds_meta old new bodies b sound h =
    let typed = subst (λ s. Keeps Datatype s old.now.trees) b.is (sound.obeys.rules Datatype) in
    let present = subst (λ s. Keeps NotNull s old.now.trees) b.is (sound.obeys.rules NotNull) in
    let full = all_whole_items (codes "item") (codes "body") (rowid_table (codes "meta") 0 meta_columns b.of.meta) (old.now.trees 0) typed.0 present.0 in
    let answer = reads_as select_meta_text [] old new _ b.is _ (select_meta_means b.of).command (select_meta_means b.of).plain
    (select_meta_means b.of).listing (shown_items 0 bodies) h in
    stored_items (old.now.trees 0) bodies full (answer_items 0 old.now.trees refl (shown_items 0 bodies) (answer.answer Null))

holds_mutations : (old new : State) (bodies : List (List ℕ)) (b : IsBookSchema old.now.schema) → IsDatabase old.now → Shown select_mutations_text [] old new (shown_items 0 bodies) → IsPermutation (item_rows 0 bodies) (old.now.trees 1)
holds_mutations old new bodies b sound h =
    let typed = subst (λ s. Keeps Datatype s old.now.trees) b.is (sound.obeys.rules Datatype) in
    let present = subst (λ s. Keeps NotNull s old.now.trees) b.is (sound.obeys.rules NotNull) in
    let full = all_whole_items (codes "number") (codes "place") (rowid_table (codes "mutations") 1 mutation_columns b.of.mutations) (old.now.trees 1) typed.1.0 present.1.0 in
    let answer = reads_as select_mutations_text [] old new _ b.is _ (select_mutations_means b.of).command (select_mutations_means b.of).plain
    (select_mutations_means b.of).listing (shown_items 0 bodies) h in
    stored_items (old.now.trees 1) bodies full (answer_items 1 old.now.trees refl (shown_items 0 bodies) (answer.answer Null))

pub meta_plain : (old : State) → IsBookSchema old.now.schema → IsPlain (understood old.now.schema select_meta_text)
meta_plain old b = subst (λ s. IsPlain (understood s select_meta_text)) (sym b.is) (select_meta_means b.of).plain

pub mutations_plain : (old : State) → IsBookSchema old.now.schema → IsPlain (understood old.now.schema select_mutations_text)
mutations_plain old b = subst (λ s. IsPlain (understood s select_mutations_text)) (sym b.is) (select_mutations_means b.of).plain

-- ---- the statements

pub shows_entries : {T E : Type 0} (table : JournalTable) (entries : T → List Entry) (old new : State) (r : Result T E) (b : IsBookSchema old.now.schema) → (IsTrue old.is_open → IsDatabase old.now)
    → IfOk r (λ found. Shown (select_from table) [] old new (map (shown_entry table) (entries found))) → IfOk r (λ found. IsPermutation (map (entry_row table) (entries found)) (rows_in old.now.schema old.now.trees table))
shows_entries table entries old new (Ok found) b sound h = holds_entries table old new (entries found) b (sound (shows_unchanged (select_from table) old new _ (entries_plain table old b) h).0.was_open) h
shows_entries table entries old new (Err e) b sound h = tt

pub shows_meta : {T E : Type 0} (items : T → List (List ℕ)) (old new : State) (r : Result T E) (b : IsBookSchema old.now.schema) → (IsTrue old.is_open → IsDatabase old.now) → IfOk r (λ found. Shown select_meta_text [] old new (shown_items 0 (items found)))
    → IfOk r (λ found. IsPermutation (item_rows 0 (items found)) (old.now.trees 0))
shows_meta items old new (Ok found) b sound h = holds_meta old new (items found) b (sound (shows_unchanged select_meta_text old new _ (meta_plain old b) h).0.was_open) h
shows_meta items old new (Err e) b sound h = tt

pub shows_mutations : {T E : Type 0} (items : T → List (List ℕ)) (old new : State) (r : Result T E) (b : IsBookSchema old.now.schema) → (IsTrue old.is_open → IsDatabase old.now) → IfOk r (λ found. Shown select_mutations_text [] old new (shown_items 0 (items found)))
    → IfOk r (λ found. IsPermutation (item_rows 0 (items found)) (old.now.trees 1))
shows_mutations items old new (Ok found) b sound h = holds_mutations old new (items found) b (sound (shows_unchanged select_mutations_text old new _ (mutations_plain old b) h).0.was_open) h
shows_mutations items old new (Err e) b sound h = tt
