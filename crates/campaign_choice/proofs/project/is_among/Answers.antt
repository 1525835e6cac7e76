use Rattle.campaign_choice.proofs.Common.{List, ℕ, Bor, rules, tests, sym, ◌∙◌, bytes_eq, YieldsList-from_slice, any_from_yields_List}
use Rattle.project_lines.proofs.Maps.{any_map}
use Rattle.campaign_choice.proofs.project.is_among.Goals as goal

pub returns : goal.returns
returns c =
    any_from_yields_List (λ (w : Bor (List ℕ)). bytes_eq w.now c.args.name.now) _ _ c.any.result c.any.ensures.ran (YieldsList-from_slice c.args.names.now cc) (λ x b q k. search (rules, tests))
    ∙ sym (any_map (λ w. bytes_eq w c.args.name.now) (λ (w : Bor (List ℕ)). w.now) c.args.names.now)
