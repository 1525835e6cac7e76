-- What several files here take from the specs of this crate and from the crates below.
pub use Rattle.std.proofs.Common.{[], ◌&&◌, ◌++◌, ◌+◌, ◌-◌, ◌<◌, ◌==◌, ◌↔◌, ◌∙◌, ◌∷◌, ◌≡◌, ◌≢◌, ◌≤◌, ◌⊎◌, Bool, Equal, Err, Greater, IfErr, IfOk, IsErrAnd, IsErrOf, IsOk, IsPermutation, IsTrue, Less}
pub use Rattle.std.proofs.Common.{List, None, Ok, OnErr, OnOk, Option, Ordering, Result, Some, ap, append-nil, append_assoc, arith, codes, cond, drop, false, flat_map, get_or, if◌then◌else◌, inl, inr}
pub use Rattle.std.proofs.Common.{int_cmp, is_eq, is_ok, length, length-append, length-take, map, negsuc, not, pos, refl, rules, slice_range, subst, suc, sym, take, true, zero, ℕ, ℤ}
pub use Rattle.std.proofs.lemmas.Bool.{cases_Bool}
pub use Rattle.std.proofs.lemmas.Bool.Decides.{nat_tests}
pub use Rattle.std.proofs.lemmas.Int.{ints}
pub use Rattle.std.proofs.lemmas.List.{length-map, map_more, take_more}
pub use Rattle.std.proofs.lemmas.List.Concat.{flat_map_single}
pub use Rattle.std.proofs.lemmas.List.Sorted.{IsPermutation-cons, IsPermutation-map, IsPermutation-middle, IsPermutation-refl, IsPermutation-sym, IsPermutation-to_front, IsPermutation-trans}
pub use Rattle.std.proofs.lemmas.List.Sorted.{length_permutation}
pub use Rattle.std.proofs.lemmas.Option.{slice_get-get_or, slice_get_read}
pub use Rattle.std.specs.List.{AllByRecursion, list_all}
pub use Rattle.mcy_keeper.specs.Books.{AreNumbered, IsBlank, IsFirst, IsNext, Keeps, LeavesEither, LeavesNothingNew, LeavesOnly, begins_with, begun, blank, first_number, in_second, is_first}
pub use Rattle.mcy_keeper.specs.Books.{second_number, upgraded, with_bounds, with_entry}
pub use Rattle.mcy_keeper.specs.declared.book.Book.{Book}
pub use Rattle.mcy_keeper.specs.declared.book.Entry.{Entry}
pub use Rattle.sqlite.proofs.Callers.{IsPlain, begun_plain, command_of, given_begin, never_commits, one_step, reads_as, runs_as, statement_of, survives_begin, unchanged_then}
pub use Rattle.sqlite.proofs.StateLemmas.{survives_then, survives_weaker}
pub use Rattle.sqlite.specs.Change.{KeepsRows, created, next_tree}
pub use Rattle.sqlite.specs.Clock.{timed}
pub use Rattle.sqlite.specs.Collation.TheVariants.{Binary}
pub use Rattle.sqlite.specs.Command.TheVariants.{Delete, Insert, Select, Update}
pub use Rattle.sqlite.specs.Compile.{table_defined_by}
pub use Rattle.sqlite.specs.Does.{Does, Tally, lacks_sequence}
pub use Rattle.sqlite.specs.Edit.{Edit, are_fresh, edit_of, edited, id_in, is_taken, left_by, put_all, with_rowid, without_all}
pub use Rattle.sqlite.specs.Effect.{Database as Data, IsDatabase}
pub use Rattle.sqlite.specs.Given.{HasGiven}
pub use Rattle.sqlite.specs.Held.{Held, state}
pub use Rattle.sqlite.specs.Kind.TheVariants.{Blob as Bytes_kind, Integer}
unfoldable pub use Rattle.sqlite.specs.Listing.{understood}
pub use Rattle.sqlite.specs.Listing.{IsSourceOf, reads_listing}
unfoldable pub use Rattle.sqlite.specs.Ops.{binary, unary}
pub use Rattle.sqlite.specs.Ops.{from_truth, is_null, is_true}
pub use Rattle.sqlite.specs.Order.{Row, column, value_cmp}
pub use Rattle.sqlite.specs.Program.{overlay}
pub use Rattle.sqlite.specs.Query.{IsAnswer, Output, Query, end, inner, output}
pub use Rattle.sqlite.specs.Rowids.TheVariants.{Chosen, Given}
pub use Rattle.sqlite.specs.Rows.{Written}
pub use Rattle.sqlite.specs.Schema.{Schema}
pub use Rattle.sqlite.specs.Source.TheVariants.{Values}
unfoldable pub use Rattle.sqlite.specs.State.{Begins, CommitsBy, ExecutesIn, FailsToQuery, Shown}
pub use Rattle.sqlite.specs.State.{CommitsShowing, Executes, ExecutesInside, FailsToShow, HasCleanDisk, IsRolledBack, IsTooLate, IsUnchanged, KeepsCommit, KeepsCounts, MayCommit, RunsAlone}
pub use Rattle.sqlite.specs.State.{RunsCommand, Shows, ShowsRows, State, Survives, Writes, mode_of, shows_rows, text_of}
pub use Rattle.sqlite.specs.Steps.{FailsToCommit}
pub use Rattle.sqlite.specs.Store.{Ghosts}
pub use Rattle.sqlite.specs.Table.{Table}
pub use Rattle.sqlite.specs.Term.{Env, Term, col, holds, lit, op2}
pub use Rattle.sqlite.specs.Tree.{Trees, has_rowid, put_row, rowid, without_rowid}
pub use Rattle.sqlite.specs.declared.error.Error.{Error}
pub use Rattle.sqlite.specs.declared.run.Mode.{Mode}
pub use Rattle.sqlite.specs.declared.types.Value.{Value}
pub use Rattle.sqlite.specs.declared.types.Value.TheVariants.{Blob, Int, Null, Real, Text}
pub use Rattle.sqlite_resolve.specs.declared.compiled.Compiled.{Compiled}
pub use Rattle.sqlite_resolve.specs.declared.error.CompileError.{CompileError}
pub use Rattle.sqlite_resolve.specs.declared.error.CompileError.TheVariants.{Exists, Unsupported}
pub use Rattle.sqlite_rules.specs.Calls.{ids_of}
pub use Rattle.sqlite_schema.specs.declared.command.Command.TheVariants.{CreateTable as MakeTable}
unfoldable pub use Rattle.sqlite_tied.specs.Compute.{everything}
pub use Rattle.sqlite_trees.proofs.ListLemmas.{IsPermutation-filter, IsPermutation-flat_map, all-permutation, all_weaker, along_permutation}
pub use Rattle.sqlite_value.proofs.OrderLemmas.{value_cmp-Int}
pub use Rattle.keeper_sqlite.specs.Changes.{AddsEntry, HasAdded, IsAdded, IsKeptIfOpen}
unfoldable pub use Rattle.keeper_sqlite.specs.Creating.{journal_table, meta_table, mutations_table, no_table, schema_of_book, schema_of_first, schema_of_items, schema_of_meta, second_table}
pub use Rattle.keeper_sqlite.specs.Creating.{MakesTable, defined}
pub use Rattle.keeper_sqlite.specs.Format.{bound_index, first_tables, format, of_second, tables}
pub use Rattle.keeper_sqlite.specs.Making.{AddsSecond, AreMade, FindsTables, HasAddedSecond, HasCreated, HasMade, IsLoaded, IsReady, LoadsTables, MayMake}
pub use Rattle.keeper_sqlite.specs.Refusals.{IsRefusedInsideWith, IsRefusedWith, insert_into, refusal_of}
pub use Rattle.keeper_sqlite.specs.Rows.{FitsTable, HoldsBook, HoldsJournal, IsNoItem, RisesFrom, entry_row, item_row, item_rows, other_of, rows_in, shown_entry, shown_item, shown_items, table_of}
pub use Rattle.keeper_sqlite.specs.Rows.{tree_of}
pub use Rattle.keeper_sqlite.specs.Stands.{Holds, IsBookOf, IsTold, Leaves, StandsAs, StandsFor, Tells}
pub use Rattle.keeper_sqlite.specs.Tables.{BookTables, FirstTables, IsBookSchema, IsFirstSchema, blob_column, book_schema, constraints, first_schema, journal_columns, key_column, meta_columns}
pub use Rattle.keeper_sqlite.specs.Tables.{mutation_columns, no_schema, number_column, rowid_table, second_columns, second_tree}
pub use Rattle.keeper_sqlite.specs.Unique.{book_one, journal_one, stands_in, stands_one, stands_with}
pub use Rattle.keeper_sqlite.specs.Unloaded.{AreNotMade, IsCreateRefused, IsNoEntries, IsNoItems, IsNoRows, IsNotAddedTo, IsStill, select_from}
pub use Rattle.keeper_sqlite.specs.Upgrading.{AreNotMoved, Clears, HasMoved, HasUpgraded, MayUpgrade, Moves, Renumbers, Upgrades, UpgradesInside}
pub use Rattle.keeper_sqlite.specs.Writing.{BeginsRows, HasBegunBook, IsOfBook, MayBegin, WritesInside, Wrote}
pub use Rattle.keeper_sqlite.specs.declared.read.JournalTable.{JournalTable}
pub use Rattle.keeper_sqlite.specs.declared.read.JournalTable.TheVariants.{First, Second}
pub use Rattle.keeper_sqlite.specs.declared.refusal.Refusal.{Refusal}
pub use Rattle.keeper_sqlite.specs.declared.refusal.Refusal.TheVariants.{Database, Memory as NoMemory}
pub use Rattle.keeper_sqlite.specs.declared.statements.TheConstants.{CLEAR_JOURNAL, CREATE_JOURNAL, CREATE_META, CREATE_MUTATIONS, CREATE_SECOND, INSERT_BOUNDED, INSERT_ENTRY, INSERT_META}
pub use Rattle.keeper_sqlite.specs.declared.statements.TheConstants.{INSERT_MUTATION, NUMBER_SECOND, SELECT_JOURNAL, SELECT_META, SELECT_MUTATIONS, SELECT_SECOND}
