use Rattle.std.proofs.Common.{◌≡◌, ◌-◌, suc, sym, arith}
use Rattle.clause_store.proofs.Cuts.{start-after}
use Rattle.clause_store.proofs.store.start_of.Goals as goal

pub returns-else-place-eq0 : goal.returns-else-place-eq0
returns-else-place-eq0 c =
    let is : suc (c.args.place - 1) ≡ c.args.place = omega arith in
    rw is at (sym (start-after 0 c.args.ends.now (c.args.place - 1) (omega arith)))
