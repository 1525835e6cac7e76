use Rattle.campaign_choice.proofs.Common.{◌≡◌, map, take, site_text, names_of}
use Rattle.campaign_choice.proofs.mutations.site_texts.Given as goal

abbrev pub invariant-loop-site : goal.invariant-loop-site
invariant-loop-site l = l.list.items ≡ map (site_text l.netlist.raw (names_of l.files)) (take l.site-index l.sites)
