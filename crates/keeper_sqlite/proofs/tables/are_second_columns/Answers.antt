use Rattle.keeper_sqlite.proofs.Common.{arith, ◌≡◌, ◌-◌, codes, length, take, ◌∙◌, [], ◌∷◌, ◌++◌, journal_columns, number_column}
use Rattle.keeper_sqlite.proofs.Lists.{last_of}
use Rattle.keeper_sqlite.proofs.tables.are_second_columns.Goals as goal

pub returns-then-are_journal_columns-clause-is : goal.returns-then-are_journal_columns-clause-is
returns-then-are_journal_columns-clause-is c last =
    let front = length c.args.columns.now - 1 in
    let entry : take front c.args.columns.now ≡ journal_columns = c.are_journal_columns.ensures.is c.if-are_journal_columns.true in
    let bound : c.bound-item.result ≡ number_column (codes "bound") = c.is_number.ensures.is last in
    last_of front c.args.columns.now c.bound-item.result (omega (arith, c.in-len1-up.len_at_least)) c.bound-item.is ∙ (λ i. entry i ++ bound i ∷ [])
