use Rattle.keeper_sqlite.proofs.Common.{arith, length, ap, ◌≡◌, ◌∙◌, Entry, shown_entry}
use Rattle.keeper_sqlite.proofs.read.bound_of.Goals as goal

pub number_at-requires : goal.number_at-requires
number_at-requires c =
    let e : Entry = record { seq = 0; mutation = 0; test = 0; word = 0; mark = 0; tags = 0; bound = 0 } in
    let seven : length c.args.row.now ≡ 7 = c.requires e ∙ ap (λ t. length (shown_entry t e)) c.in-Second.is in
    omega (arith, seven)
