use Rattle.keeper_sqlite.proofs.Common.{◌≡◌, length, arith, pos, ap, ◌∙◌, Int}
use Rattle.keeper_sqlite.proofs.Lists.{two_columns}
use Rattle.keeper_sqlite.proofs.read.item_of.Goals as goal

pub returns-clause-found : goal.returns-clause-found
returns-clause-found c =
    let len : length c.args.row.now ≡ 2 = omega (arith, c.column_count.ensures) in
    let same : c.in_ok-found.found ≡ c.args.number = omega arith in
    two_columns c.args.row.now _ _ len (c.in_ok-found.ensures.found ∙ ap (λ n. Int (pos n)) same) c.in_ok-body.ensures.found
