use Rattle.campaign_choice.proofs.Common.{Bor, List, ℕ, map, rules}
use Rattle.campaign_choice.proofs.Naming.{names_step}
use Rattle.campaign_choice.proofs.project.add_names.Goals as goal

pub loop-name-preserved : goal.loop-name-preserved
loop-name-preserved c = names_step (map (λ (n : Bor (List ℕ)). n.now) c.args.names.now.items) c.args.more.now c.loop-name.name-index c.name-item.result (map (λ (n : Bor (List ℕ)). n.now) c.loop-name.names.items) (map (λ (n : Bor (List ℕ)). n.now) c.add_name.new.names.items) c.loop-name-test.true (search rules) c.loop-name.invariant (search rules)
