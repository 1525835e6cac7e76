use Rattle.project_options.proofs.Common.{List, ℕ, Bor, rules, tests, sym, ◌∙◌, map, YieldsList-from_slice, all_from_yields_List, all_map, is_among}
use Rattle.project_options.proofs.options.are_among.Goals as goal

pub returns : goal.returns
returns c =
    all_from_yields_List (λ (w : Bor (List ℕ)). is_among w.now (map (λ other. other.now) c.args.list.now)) _ _ c.all.result c.all.ensures.ran (YieldsList-from_slice c.args.words.now cc) (λ x b q k. search (rules, tests))
    ∙ sym (all_map (λ word. is_among word (map (λ (other : Bor (List ℕ)). other.now) c.args.list.now)) (λ (w : Bor (List ℕ)). w.now) c.args.words.now)
