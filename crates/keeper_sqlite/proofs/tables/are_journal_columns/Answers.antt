use Rattle.keeper_sqlite.proofs.Common.{rules, ◌≡◌, codes, ◌∙◌, [], ◌∷◌, key_column, number_column}
use Rattle.keeper_sqlite.proofs.Lists.{six}
use Rattle.keeper_sqlite.proofs.tables.are_journal_columns.Goals as goal

pub returns-clause-is : goal.returns-clause-is
returns-clause-is c last =
    let seq : c.seq-item.result ≡ key_column (codes "seq") = search rules in
    let mutation : c.mutation-item.result ≡ number_column (codes "mutation") = search rules in
    let test : c.test-item.result ≡ number_column (codes "test") = search rules in
    let word : c.word-item.result ≡ number_column (codes "word") = search rules in
    let mark : c.mark-item.result ≡ number_column (codes "mark") = search rules in
    let tags : c.tags-item.result ≡ number_column (codes "tags") = c.is_number-3.ensures.is last in
    six c.args.columns.now _ _ _ _ _ _ c.in-len6.len_at_least c.in-len6.len_below c.seq-item.is c.mutation-item.is c.test-item.is c.word-item.is c.mark-item.is c.tags-item.is
    ∙ (λ i. seq i ∷ mutation i ∷ test i ∷ word i ∷ mark i ∷ tags i ∷ [])
