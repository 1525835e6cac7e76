use Rattle.campaign_choice.proofs.Common.{◌≡◌, map, take, is_omitted}
use Rattle.campaign_choice.proofs.omitted.omitted_sites.Given as goal

abbrev pub invariant-loop-site : goal.invariant-loop-site
invariant-loop-site l = l.list.items ≡ map (is_omitted l.project l.skipped l.netlist.raw) (take l.site-index l.all)
