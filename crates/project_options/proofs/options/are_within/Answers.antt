use Rattle.project_options.proofs.Common.{List, ℕ, Bor, rules, tests, sym, ◌∙◌, YieldsList-from_slice, all_from_yields_List, is_range_within, all_map}
use Rattle.project_options.proofs.options.are_within.Goals as goal

pub returns : goal.returns
returns c =
    all_from_yields_List (λ (w : Bor (List ℕ)). is_range_within w.now) _ _ c.all.result c.all.ensures.ran (YieldsList-from_slice c.args.words.now cc) (λ x b q k. search (rules, tests))
    ∙ sym (all_map (is_range_within) (λ (w : Bor (List ℕ)). w.now) c.args.words.now)
