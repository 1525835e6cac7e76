use Rattle.keeper_sqlite.proofs.Common.{rules, ◌≡◌, arith, inl, inr, IsErrOf, IsPermutation, [], subst, state, HasCleanDisk, unchanged_then, Database, Data, Book, item_rows, other_of, rows_in}
use Rattle.keeper_sqlite.proofs.Common.{table_of, HoldsBook, HoldsJournal, IsNoRows}
use Rattle.keeper_sqlite.specs.declared.read.ItemTable.TheVariants.{Meta, Mutations}
use Rattle.keeper_sqlite.proofs.Refused.{still_itself}
use Rattle.keeper_sqlite.proofs.read.read_book.Goals as goal

pub returns-in_err-meta-clause-fault : goal.returns-in_err-meta-clause-fault
returns-in_err-meta-clause-fault g c clean fault =
    let old = c.args.connection.now in
    let why : IsErrOf c.select_items.result Database = search rules in
    (old, still_itself (state g.S.Store old), inl (Meta, c.select_items.ensures.fault clean why))

pub returns-in_err-mutations-clause-fault : goal.returns-in_err-mutations-clause-fault
returns-in_err-mutations-clause-fault g c clean fault =
    let a = c.select_items.new.connection in
    let early : HasCleanDisk (state g.S.Store a) = omega (arith, c.select_items-2.ensures.crash.clean) in
    let why : IsErrOf c.select_items-2.result Database = search rules in
    (a, λ _. c.in_ok-meta.ensures.same early, inl (Mutations, c.select_items-2.ensures.fault clean why))

pub returns-in_err-entries-clause-fault : goal.returns-in_err-entries-clause-fault
returns-in_err-entries-clause-fault g c clean fault =
    let old = state g.S.Store c.args.connection.now in
    let a = state g.S.Store c.select_items.new.connection in
    let b = c.select_items-2.new.connection in
    let late : HasCleanDisk (state g.S.Store b) = omega (arith, c.read_rows.ensures.crash.clean) in
    let early : HasCleanDisk a = omega (arith, c.select_items-2.ensures.crash.clean) in
    let first = c.in_ok-meta.ensures.same early in
    let still = unchanged_then old a (state g.S.Store b) first (c.in_ok-mutations.ensures.same late) in
    let why : IsErrOf c.read_rows.result Database = search rules in
    let book : Book = record { meta = c.in_ok-meta.meta.items; mutations = c.in_ok-mutations.mutations.items; journal = [] } in
    let items : IsPermutation (item_rows 0 book.meta) (old.now.trees 0) = c.in_ok-meta.ensures.found early in
    let same : c.of-table.result ≡ table_of book = c.of-table.ensures book (search rules) in
    (b, λ _. still, inr (book, items, subst (λ t. IsNoRows g.S.Store t b c.read_rows.new.connection) same (c.read_rows.ensures.fault clean why)))

pub returns-clause-found : goal.returns-clause-found
returns-clause-found g c clean =
    let old = state g.S.Store c.args.connection.now in
    let a = state g.S.Store c.select_items.new.connection in
    let b = state g.S.Store c.select_items-2.new.connection in
    let late : HasCleanDisk b = omega (arith, c.read_rows.ensures.crash.clean) in
    let early : HasCleanDisk a = omega (arith, c.select_items-2.ensures.crash.clean) in
    let first = c.in_ok-meta.ensures.same early in
    let still = unchanged_then old a b first (c.in_ok-mutations.ensures.same late) in
    let meta = c.in_ok-meta.meta.items in
    let mutations = subst (λ (d : Data). IsPermutation (item_rows 0 c.in_ok-mutations.mutations.items) (d.trees 1)) first.0.now_is (c.in_ok-mutations.ensures.found late) in
    let rows = subst (λ (d : Data). HoldsJournal c.of-table.result (rows_in d.schema d.trees c.of-table.result) c.in_ok-entries.entries.items × (rows_in d.schema d.trees (other_of c.of-table.result) ≡ [])) still.0.now_is (c.in_ok-entries.ensures.found clean) in
    let book : Book = record { meta = meta; mutations = c.in_ok-mutations.mutations.items; journal = c.in_ok-entries.entries.items } in
    let same : c.of-table.result ≡ table_of book = c.of-table.ensures book (search rules) in
    let holds : HoldsBook old.now.schema old.now.trees book = record {
      meta = c.in_ok-meta.ensures.found early;
      mutations = mutations;
      journal = subst (λ t. HoldsJournal t (rows_in old.now.schema old.now.trees t) book.journal) same rows.0;
      other = subst (λ t. rows_in old.now.schema old.now.trees (other_of t) ≡ []) same rows.1;
    } in
    search rules
