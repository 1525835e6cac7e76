use Rattle.campaign_choice.proofs.Common.{◌≡◌, map, take, site_line}
use Rattle.campaign_choice.proofs.mutations.site_lines.Given as goal

abbrev pub invariant-loop-site : goal.invariant-loop-site
invariant-loop-site l = l.list.items ≡ map (site_line l.netlist.raw) (take l.site-index l.sites)
