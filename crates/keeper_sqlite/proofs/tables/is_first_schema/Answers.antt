use Rattle.keeper_sqlite.proofs.Common.{rules, ◌≡◌, codes, ◌∙◌, [], ◌∷◌, rowid_table, constraints, meta_columns, mutation_columns, journal_columns}
use Rattle.sqlite_schema.specs.declared.schema.Index.{Index}
use Rattle.keeper_sqlite.proofs.Lists.{three}
use Rattle.keeper_sqlite.proofs.tables.is_first_schema.Goals as goal

pub returns-then-is_own_index-clause-is : goal.returns-then-is_own_index-clause-is
returns-then-is_own_index-clause-is c last =
    let schema = c.args.schema.now in
    let meta : c.meta-item.result ≡ rowid_table (codes "meta") 0 meta_columns (constraints c.meta-item.result) = search rules in
    let mutations : c.mutations-item.result ≡ rowid_table (codes "mutations") 1 mutation_columns (constraints c.mutations-item.result) = search rules in
    let journal : c.journal-item.result ≡ rowid_table (codes "journal") 2 journal_columns (constraints c.journal-item.result) = search rules in
    let listed : schema.tables ≡ c.as_slice.result.now = search rules in
    let tables = listed ∙ three c.as_slice.result.now _ _ _ c.in-len3.len_at_least c.in-len3.len_below c.meta-item.is c.mutations-item.is c.journal-item.is in
    let all : schema.tables ≡ rowid_table (codes "meta") 0 meta_columns (constraints c.meta-item.result) ∷ rowid_table (codes "mutations") 1 mutation_columns (constraints c.mutations-item.result)
    ∷ rowid_table (codes "journal") 2 journal_columns (constraints c.journal-item.result) ∷ [] = tables ∙ (λ i. meta i ∷ mutations i ∷ journal i ∷ []) in
    let views : schema.views ≡ [] = search rules in
    let one : (i : Index) × (schema.indexes ≡ record i { tree = 3 } ∷ []) = search rules in
    record {
      of = record { meta = constraints c.meta-item.result; mutations = constraints c.mutations-item.result; journal = constraints c.journal-item.result; index = one.0 };
      is = λ i. record { tables = all i; indexes = one.1 i; views = views i };
    }
