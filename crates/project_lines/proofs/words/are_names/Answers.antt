use Rattle.project_lines.proofs.Common.{List, ℕ, Bor, rules, tests, sym, ◌∙◌, YieldsList-from_slice, all_from_yields_List, is_name}
use Rattle.project_lines.proofs.Maps.{all_map}
use Rattle.project_lines.proofs.words.are_names.Goals as goal

pub returns : goal.returns
returns c =
    all_from_yields_List (λ (w : Bor (List ℕ)). is_name w.now) _ _ c.all.result c.all.ensures.ran (YieldsList-from_slice c.args.words.now cc) (λ x b q k. search (rules, tests))
    ∙ sym (all_map is_name (λ (w : Bor (List ℕ)). w.now) c.args.words.now)
