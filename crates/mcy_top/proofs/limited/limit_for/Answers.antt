use Rattle.mcy_top.proofs.Common.{◌∙◌, sym, IfOk-weaker, MatchOption, FailsBaselines, IsLimitOf, IsLimitFor, IsUnfit}
use Rattle.std.proofs.lemmas.Bool.{false≢true}
use Rattle.mcy_top.proofs.Limiting.{limit_found, limit_plain}
use Rattle.mcy_top.proofs.limited.limit_for.Goals as goal

pub returns-then-opens : goal.returns-then-opens
returns-then-opens c =
    IfOk-weaker c.cycle_limit.result (λ found. MatchOption found (FailsBaselines c.args.prepared.now) (IsLimitOf c.args.prepared.now)) (λ found. MatchOption found (IsUnfit c.args.command c.args.prepared.now) (IsLimitFor c.args.command c.args.prepared.now))
    (λ found is. limit_found c.args.command c.args.prepared.now found (c.opens.ensures.0 c.if-opens.true) is) c.cycle_limit.ensures

pub returns-else-opens : goal.returns-else-opens
returns-else-opens c = limit_plain c.args.command c.args.prepared.now (λ opens. false≢true (sym c.if-opens.false ∙ c.opens.ensures.1 opens))
