use Rattle.campaign_reading.proofs.Common.{subst, sym, err_from_is_err_and, RawNetlist, PrepareError, HasNetlist, IsWithinLimits, design_part, HasDesign, HasSites, IsRefusedAsLarge}
use Rattle.campaign_reading.proofs.Common.{IsRefusedWithoutSites, IsUnbenched, LeavesOut}
use Rattle.campaign_reading.proofs.Takes.{large_unprepared}
use Rattle.campaign_reading.proofs.Judging.{lacking_unprepared, unbenched_unprepared}
use Rattle.campaign_reading.proofs.preparing.judge.Goals as goal

pub take_netlist-requires-clause-read : goal.take_netlist-requires-clause-read
take_netlist-requires-clause-read c = (c.in_ok-modules.modules.items, c.in_ok-modules.ensures.modules)

pub returns-in_err-all-clause-refused : goal.returns-in_err-all-clause-refused
returns-in_err-all-clause-refused c =
    let netlist : RawNetlist = c.in_ok-netlist.netlist in
    let error : PrepareError = c.in_err-all.field-0.0 in
    let large : IsRefusedAsLarge c.args.project.now netlist error = subst (λ (n : RawNetlist). IsRefusedAsLarge c.args.project.now n error) c.netlist-2.ensures c.in_err-all.ensures.refused in
    let p = err_from_is_err_and c.from_residual-in_err-all.result c.from_residual-in_err-all.ensures.1 in
    let has : HasDesign c.args.project.now c.args.sources.now netlist = record { modules = c.in_ok-modules.modules.items; read = c.in_ok-modules.ensures.modules; design = c.in_ok-netlist.ensures.netlist } in
    rw (p.1, p.2) (large_unprepared c.args.project.now c.args.sources.now netlist error has large)

pub returns-in_err-omitted-clause-refused : goal.returns-in_err-omitted-clause-refused
returns-in_err-omitted-clause-refused c =
    let netlist : RawNetlist = c.in_ok-netlist.netlist in
    let error : PrepareError = c.in_err-omitted.field-0.0 in
    let few : IsWithinLimits c.args.project.now netlist = subst (λ (n : RawNetlist). IsWithinLimits c.args.project.now n) c.netlist-2.ensures c.in_ok-all.ensures.few in
    let lacks : IsRefusedWithoutSites c.args.project.now c.args.sources.now netlist error = subst (λ (n : RawNetlist). IsRefusedWithoutSites c.args.project.now c.args.sources.now n error) c.netlist-3.ensures c.in_err-omitted.ensures.refused in
    let p = err_from_is_err_and c.from_residual-in_err-omitted.result c.from_residual-in_err-omitted.ensures.1 in
    let has : HasDesign c.args.project.now c.args.sources.now netlist = record { modules = c.in_ok-modules.modules.items; read = c.in_ok-modules.ensures.modules; design = c.in_ok-netlist.ensures.netlist } in
    rw (p.1, p.2) (lacking_unprepared c.args.project.now c.args.sources.now netlist error has few lacks)

pub returns-in_err-trials-clause-refused : goal.returns-in_err-trials-clause-refused
returns-in_err-trials-clause-refused c =
    let netlist : RawNetlist = c.in_ok-netlist.netlist in
    let error : PrepareError = c.in_err-trials.field-0.0 in
    let few : IsWithinLimits c.args.project.now netlist = subst (λ (n : RawNetlist). IsWithinLimits c.args.project.now n) c.netlist-2.ensures c.in_ok-all.ensures.few in
    let none : IsUnbenched c.args.project.now c.args.sources.now netlist error = subst (λ (n : RawNetlist). IsUnbenched c.args.project.now c.args.sources.now n error) c.netlist-4.ensures c.in_err-trials.ensures.refused in
    let sites : HasSites c.args.project.now c.args.sources.now netlist = record { omitted = c.in_ok-omitted.omitted.items; left_out = subst (λ (n : RawNetlist). LeavesOut c.args.project.now c.args.sources.now n c.in_ok-omitted.omitted.items) c.netlist-3.ensures c.in_ok-omitted.ensures.left_out; some = c.in_ok-omitted.ensures.some } in
    let p = err_from_is_err_and c.from_residual-in_err-trials.result c.from_residual-in_err-trials.ensures.1 in
    let has : HasDesign c.args.project.now c.args.sources.now netlist = record { modules = c.in_ok-modules.modules.items; read = c.in_ok-modules.ensures.modules; design = c.in_ok-netlist.ensures.netlist } in
    rw (p.1, p.2) (unbenched_unprepared c.args.project.now c.args.sources.now netlist error has few sites none)

pub take_trials-requires-clause-design : goal.take_trials-requires-clause-design
take_trials-requires-clause-design c =
    subst (λ (n : RawNetlist). HasNetlist (design_part c.args.project.now c.args.sources.now) c.args.project.now.top n) (sym c.netlist-4.ensures) c.in_ok-netlist.ensures.netlist
