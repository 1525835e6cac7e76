-- What the statements that make the tables of an empty book leave.
use Rattle.keeper_sqlite.proofs.Common.{◌≡◌, List, [], ◌∷◌, refl, sym, ap, subst, ◌∙◌, ℕ, codes, None, false, Ok, Err, Result, OnOk, IsPermutation, IsPermutation-refl, Row, Table, Schema, Trees, CompileError}
use Rattle.keeper_sqlite.proofs.Common.{Error, table_defined_by, created, next_tree, KeepsRows, Tally, lacks_sequence, State, Writes, ExecutesInside, MakeTable}
use Rattle.keeper_sqlite.proofs.Common.{runs_as, everything, CREATE_META, CREATE_MUTATIONS, CREATE_JOURNAL, first_schema, journal_columns, meta_columns, mutation_columns, no_schema, rowid_table, second_columns, IsBookSchema, IsFirstSchema, first_tables, format, of_second}
use Rattle.keeper_sqlite.proofs.Common.{tables, HoldsBook, no_table, defined, meta_table, mutations_table, journal_table, second_table, schema_of_meta, schema_of_items, schema_of_first}
use Rattle.keeper_sqlite.proofs.Common.{schema_of_book, MakesTable, HasCreated, blank}
use Rattle.std.proofs.Common.{ap₂}
use Rattle.sqlite.specs.Effect.{Database}
use Rattle.keeper_sqlite.specs.Format.{of_items, of_journal}
use Rattle.keeper_sqlite.proofs.Meant.{Means, means}
use Rattle.keeper_sqlite.proofs.Inserts.{went, same_value}

defined_ok : (r : Result Table CompileError) (t : Table) → r ≡ Ok t → t ≡ defined r
defined_ok r t e = sym (ap defined e)

abbrev pub Reads : Schema → List ℕ → Type 0
Reads schema text = Means schema text MakeTable

-- The tables as their statements define them: each text is read once here, and what follows is over these.
meta_is : meta_table ≡ rowid_table (codes "meta") 0 meta_columns of_items
unfolding everything meta_table no_table
meta_is = refl

mutations_is : mutations_table ≡ rowid_table (codes "mutations") 0 mutation_columns of_items
unfolding everything mutations_table no_table
mutations_is = refl

journal_is : journal_table ≡ rowid_table (codes "journal") 0 journal_columns of_journal
unfolding everything journal_table no_table
journal_is = refl

second_is : second_table ≡ rowid_table (codes "journal2") 0 second_columns of_second
unfolding everything second_table no_table
second_is = refl

-- the schema with the first of them, and with the first two
abbrev meta_alone : Schema
meta_alone = record { tables = rowid_table (codes "meta") 0 meta_columns of_items ∷ []; indexes = []; views = [] }

abbrev items_alone : Schema
items_alone = record {
  tables = rowid_table (codes "meta") 0 meta_columns of_items ∷ rowid_table (codes "mutations") 1 mutation_columns of_items ∷ [];
  indexes = [];
  views = [];
}

with_meta : schema_of_meta ≡ meta_alone
unfolding schema_of_meta
with_meta = ap (created no_schema) meta_is

with_items : schema_of_items ≡ items_alone
unfolding schema_of_items
with_items = ap₂ created with_meta mutations_is

-- the first three are those of a database that knows the first format alone
with_journal : schema_of_first ≡ first_schema first_tables
unfolding everything schema_of_first
with_journal = ap₂ created with_items journal_is

pub first_alone : IsFirstSchema schema_of_first
first_alone = record { of = first_tables; is = with_journal }

-- and the four are those of the format
format_is : schema_of_book ≡ format
unfolding everything schema_of_book
format_is = ap₂ created with_journal second_is

book_is : IsBookSchema format
book_is = record { of = tables; is = refl }

reads_meta : Reads no_schema CREATE_META.now
unfolding everything
reads_meta = means no_schema CREATE_META.now MakeTable refl

reads_mutations : Reads schema_of_meta CREATE_MUTATIONS.now
unfolding everything
reads_mutations = subst (λ s. Reads s CREATE_MUTATIONS.now) (sym with_meta) (means meta_alone CREATE_MUTATIONS.now MakeTable refl)

reads_journal : Reads schema_of_items CREATE_JOURNAL.now
unfolding everything
reads_journal = subst (λ s. Reads s CREATE_JOURNAL.now) (sym with_items) (means items_alone CREATE_JOURNAL.now MakeTable refl)

no_counters : (lacks_sequence schema_of_meta ≡ false) × (lacks_sequence schema_of_items ≡ false) × (lacks_sequence schema_of_first ≡ false)
unfolding everything
no_counters = (ap lacks_sequence with_meta, ap lacks_sequence with_items, ap lacks_sequence with_journal)

next_trees : (next_tree schema_of_meta ≡ 1) × (next_tree schema_of_items ≡ 2) × (next_tree schema_of_first ≡ 4)
next_trees = (ap next_tree with_meta, ap next_tree with_items, ap next_tree with_journal)

-- ---- what one CREATE TABLE leaves

pub creates : (old new : State) (schema : Schema) (text : List ℕ) (table : Table) (r : Result ℕ Error) → old.now.schema ≡ schema → Reads schema text → table ≡ defined (table_defined_by text) → lacks_sequence (created schema table) ≡ false
    → ExecutesInside 0 text [] old new r → OnOk r (MakesTable schema table old new)
creates old new schema text table (Err e) has reads is plain h = tt
creates old new schema text table (Ok count) has reads is plain h =
    let w = subst (λ t. Writes old new None MakeTable t [] count) reads.statement (runs_as text [] old new schema has MakeTable reads.command reads.plain count h.0) in
    let all = went w.changed in
    let first = went all.1 in
    let it = first.1 in
    let same : it.table ≡ table = defined_ok _ it.table it.defined ∙ sym is in
    let after : first.0.schema ≡ created schema table = it.is ∙ ap (λ s. created s it.table) has ∙ ap (created schema) same in
    let bare : lacks_sequence first.0.schema ≡ false = ap lacks_sequence after ∙ plain in
    let now : new.now ≡ first.0 = ap (λ (p : Tally × Database). p.1) (same_value all.2) ∙ same_value (rw bare at first.2) in
    record {
      schema_is = ap (λ (d : Database). d.schema) now ∙ after;
      empty = ap (λ (d : Database). d.trees (next_tree schema)) now ∙ subst (λ s. first.0.trees (next_tree s) ≡ []) has it.empty;
      others = subst (λ (d : Database). KeepsRows schema.tables old.now.trees d.trees) (sym now) (subst (λ (s : Schema). KeepsRows s.tables old.now.trees first.0.trees) has it.others);
      sound = w.sound;
      was_open = h.1.was_open;
      committed = h.1.committed_is;
      mode = h.1.mode;
    }

pub creates_meta : (old new : State) (r : Result ℕ Error) → old.now.schema ≡ no_schema → ExecutesInside 0 CREATE_META.now [] old new r → OnOk r (MakesTable no_schema meta_table old new)
unfolding meta_table schema_of_meta
creates_meta old new r has h = creates old new no_schema CREATE_META.now meta_table r has reads_meta refl no_counters.0 h

pub creates_mutations : (old new : State) (r : Result ℕ Error) → old.now.schema ≡ schema_of_meta → ExecutesInside 0 CREATE_MUTATIONS.now [] old new r → OnOk r (MakesTable schema_of_meta mutations_table old new)
unfolding mutations_table schema_of_items
creates_mutations old new r has h = creates old new schema_of_meta CREATE_MUTATIONS.now mutations_table r has reads_mutations refl no_counters.1 h

pub creates_journal : (old new : State) (r : Result ℕ Error) → old.now.schema ≡ schema_of_items → ExecutesInside 0 CREATE_JOURNAL.now [] old new r → OnOk r (MakesTable schema_of_items journal_table old new)
unfolding journal_table schema_of_first
creates_journal old new r has h = creates old new schema_of_items CREATE_JOURNAL.now journal_table r has reads_journal refl no_counters.2 h

-- each schema is the one before with its table
pub after_meta : created no_schema meta_table ≡ schema_of_meta
unfolding schema_of_meta
after_meta = refl

pub after_items : created schema_of_meta mutations_table ≡ schema_of_items
unfolding schema_of_items
after_items = refl

pub after_first : created schema_of_items journal_table ≡ schema_of_first
unfolding schema_of_first
after_first = refl

after_book : created schema_of_first second_table ≡ schema_of_book
unfolding schema_of_book
after_book = refl

first_kept : (old new : Trees) → KeepsRows schema_of_meta.tables old new → new 0 ≡ old 0
first_kept old new kept = (subst (λ (s : Schema). KeepsRows s.tables old new) with_meta kept).0

both_kept : (old new : Trees) → KeepsRows schema_of_items.tables old new → (new 0 ≡ old 0) × (new 1 ≡ old 1)
both_kept old new kept = let all = subst (λ (s : Schema). KeepsRows s.tables old new) with_items kept in (all.0, all.1.0)

three_kept : (old new : Trees) → KeepsRows schema_of_first.tables old new → (new 0 ≡ old 0) × (new 1 ≡ old 1) × (new 2 ≡ old 2)
three_kept old new kept = let all = subst (λ (s : Schema). KeepsRows s.tables old new) with_journal kept in (all.0, all.1.0, all.1.1.0)

bare : (rows : List Row) → rows ≡ [] → IsPermutation [] rows
bare rows none = subst (IsPermutation []) (sym none) (IsPermutation-refl [])

blank_rows : (trees : Trees) → trees 0 ≡ [] → trees 1 ≡ [] → trees 2 ≡ [] → trees 4 ≡ [] → HoldsBook format trees blank
blank_rows trees a b c d = record {
  meta = bare (trees 0) a;
  mutations = bare (trees 1) b;
  journal = record { rising = tt; fit = tt; same = bare (trees 4) d };
  other = c;
}

-- what the four leave
pub made : (s a b c d : State) → MakesTable no_schema meta_table s a → MakesTable schema_of_meta mutations_table a b → MakesTable schema_of_items journal_table b c → MakesTable schema_of_first second_table c d → HasCreated s d
made s a b c d x y z w =
    let last = three_kept c.now.trees d.now.trees w.others in
    let kept = both_kept b.now.trees c.now.trees z.others in
    let second : b.now.trees 1 ≡ [] = subst (λ t. b.now.trees t ≡ []) next_trees.0 y.empty in
    let third : c.now.trees 2 ≡ [] = subst (λ t. c.now.trees t ≡ []) next_trees.1 z.empty in
    let fourth : d.now.trees 4 ≡ [] = subst (λ t. d.now.trees t ≡ []) next_trees.2 w.empty in
    let schema : d.now.schema ≡ format = w.schema_is ∙ after_book ∙ format_is in
    record {
      was_open = x.was_open;
      tables = schema;
      shows = record {
        sound = w.sound;
        tables = subst IsBookSchema (sym schema) book_is;
        rows = subst (λ s. HoldsBook s d.now.trees blank) (sym schema) (blank_rows d.now.trees (last.0 ∙ kept.0 ∙ first_kept a.now.trees b.now.trees y.others ∙ x.empty) (last.1 ∙ kept.1 ∙ second) (last.2 ∙ third) fourth);
      };
      committed = w.committed ∙ z.committed ∙ y.committed ∙ x.committed;
    }
