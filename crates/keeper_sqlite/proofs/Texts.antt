-- What the texts mean under the schema of a book.
use Rattle.keeper_sqlite.proofs.Common.{List, [], ◌∷◌, refl, ℕ, pos, negsuc, None, codes, false, Null, Int, Binary, Term, lit, col, Query, inner, end, Values, Delete, Insert, Select, everything}
use Rattle.keeper_sqlite.proofs.Common.{CLEAR_JOURNAL, INSERT_BOUNDED, INSERT_ENTRY, INSERT_META, INSERT_MUTATION, SELECT_JOURNAL}
use Rattle.keeper_sqlite.proofs.Common.{SELECT_META, SELECT_MUTATIONS, SELECT_SECOND, BookTables, book_schema}
use Rattle.keeper_sqlite.proofs.Meant.{Means, means}

abbrev pub insert_entry_text : List ℕ
insert_entry_text = INSERT_ENTRY.now

abbrev pub entry_terms : List Term
entry_terms = col 0 0 ∷ lit Null ∷ col 0 1 ∷ col 0 2 ∷ col 0 3 ∷ col 0 4 ∷ col 0 5 ∷ []

abbrev pub insert_bounded_text : List ℕ
insert_bounded_text = INSERT_BOUNDED.now

abbrev pub bounded_terms : List Term
bounded_terms = col 0 0 ∷ lit Null ∷ col 0 1 ∷ col 0 2 ∷ col 0 3 ∷ col 0 4 ∷ col 0 5 ∷ col 0 6 ∷ []

abbrev pub select_entries_text : List ℕ
select_entries_text = SELECT_JOURNAL.now

abbrev pub select_second_text : List ℕ
select_second_text = SELECT_SECOND.now

abbrev pub entries_query : Query
entries_query = record {
  from = inner 2 end;
  filter = [];
  group = None;
  project = col 1 0 ∷ col 1 2 ∷ col 1 3 ∷ col 1 4 ∷ col 1 5 ∷ col 1 6 ∷ [];
  distinct = false;
  collations = [];
  order = (col 1 0, record { collation = Binary; descending = false }) ∷ [];
  limit = lit (Int (negsuc 0));
  offset = lit (Int (pos 0));
}

-- the same of `journal2`
abbrev pub second_query : Query
second_query = record {
  from = inner 4 end;
  filter = [];
  group = None;
  project = col 1 0 ∷ col 1 2 ∷ col 1 3 ∷ col 1 4 ∷ col 1 5 ∷ col 1 6 ∷ col 1 7 ∷ [];
  distinct = false;
  collations = [];
  order = (col 1 0, record { collation = Binary; descending = false }) ∷ [];
  limit = lit (Int (negsuc 0));
  offset = lit (Int (pos 0));
}

-- the rows of `journal`, to be deleted
abbrev pub clearing_query : Query
clearing_query = record {
  from = inner 2 end;
  filter = [];
  group = None;
  project = col 1 0 ∷ [];
  distinct = false;
  collations = [];
  order = [];
  limit = lit (Int (negsuc 0));
  offset = lit (Int (pos 0));
}

-- a table of items, in the order of their numbers
abbrev pub items_query : ℕ → Query
items_query tree = record {
  from = inner tree end;
  filter = [];
  group = None;
  project = col 1 0 ∷ col 1 2 ∷ [];
  distinct = false;
  collations = [];
  order = (col 1 0, record { collation = Binary; descending = false }) ∷ [];
  limit = lit (Int (negsuc 0));
  offset = lit (Int (pos 0));
}

abbrev pub item_terms : List Term
item_terms = col 0 0 ∷ lit Null ∷ col 0 1 ∷ []

abbrev pub select_meta_text : List ℕ
select_meta_text = SELECT_META.now

abbrev pub select_mutations_text : List ℕ
select_mutations_text = SELECT_MUTATIONS.now

abbrev pub insert_meta_text : List ℕ
insert_meta_text = INSERT_META.now

abbrev pub insert_mutation_text : List ℕ
insert_mutation_text = INSERT_MUTATION.now

module _ (t : BookTables) where
  pub insert_entry_means : Means (book_schema t) insert_entry_text (Insert 2 (Values entry_terms 7))
  unfolding everything
  insert_entry_means = means (book_schema t) insert_entry_text _ refl

  pub select_entries_means : Means (book_schema t) select_entries_text (Select (record { lets = []; body = entries_query }) (codes "seq" ∷ codes "mutation" ∷ codes "test" ∷ codes "word" ∷ codes "mark" ∷ codes "tags" ∷ []))
  unfolding everything
  select_entries_means = means (book_schema t) select_entries_text _ refl

  pub select_meta_means : Means (book_schema t) select_meta_text (Select (record { lets = []; body = items_query 0 }) (codes "item" ∷ codes "body" ∷ []))
  unfolding everything
  select_meta_means = means (book_schema t) select_meta_text _ refl

  pub select_mutations_means : Means (book_schema t) select_mutations_text (Select (record { lets = []; body = items_query 1 }) (codes "number" ∷ codes "place" ∷ []))
  unfolding everything
  select_mutations_means = means (book_schema t) select_mutations_text _ refl

  pub insert_meta_means : Means (book_schema t) insert_meta_text (Insert 0 (Values item_terms 3))
  unfolding everything
  insert_meta_means = means (book_schema t) insert_meta_text _ refl

  pub insert_mutation_means : Means (book_schema t) insert_mutation_text (Insert 1 (Values item_terms 3))
  unfolding everything
  insert_mutation_means = means (book_schema t) insert_mutation_text _ refl

  pub insert_bounded_means : Means (book_schema t) insert_bounded_text (Insert 3 (Values bounded_terms 8))
  unfolding everything
  insert_bounded_means = means (book_schema t) insert_bounded_text _ refl

  pub select_second_means : Means (book_schema t) select_second_text (Select (record { lets = []; body = second_query }) (codes "seq" ∷ codes "mutation" ∷ codes "test" ∷ codes "word" ∷ codes "mark" ∷ codes "tags" ∷ codes "bound" ∷ []))
  unfolding everything
  select_second_means = means (book_schema t) select_second_text _ refl

  pub clear_means : Means (book_schema t) CLEAR_JOURNAL.now (Delete 2 (record { lets = []; body = clearing_query }))
  unfolding everything
  clear_means = means (book_schema t) CLEAR_JOURNAL.now _ refl
