use Rattle.mutation_sites.proofs.Common.{◌≡◌, rules, sym, subst, All, IsSite, sites}
use Rattle.mutation_sites.proofs.Placed.{sites-placed}
use Rattle.mutation_sites.proofs.site_list.sites.Goals as goal

pub returns-clause-placed : goal.returns-clause-placed
returns-clause-placed c =
    let is : _ ≡ sites c.args.modes c.args.netlist.now.raw = search rules in
    subst (All (IsSite c.args.netlist.now.raw)) (sym is) (sites-placed c.args.modes c.args.netlist.now.raw)
