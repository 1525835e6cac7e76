use Rattle.campaign_choice.proofs.Common.{◌≡◌, map, take, with_names}
use Rattle.campaign_choice.proofs.project.add_names.Given as goal

abbrev pub invariant-loop-name : goal.invariant-loop-name
invariant-loop-name l = map (λ n. n.now) l.names.items ≡ with_names (map (λ n. n.now) l.fn.names.items) (take l.name-index l.more)
