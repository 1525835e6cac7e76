use Rattle.project_lines.proofs.Common.{List, ℕ, Bor, rules, tests, sym, ◌∙◌, bytes_eq, YieldsList-from_slice, any_from_yields_List}
use Rattle.project_lines.proofs.Maps.{any_map}
use Rattle.project_lines.proofs.words.is_among.Goals as goal

pub returns : goal.returns
returns c =
    any_from_yields_List (λ (w : Bor (List ℕ)). bytes_eq w.now c.args.word.now) _ _ c.any.result c.any.ensures.ran (YieldsList-from_slice c.args.words.now cc) (λ x b q k. search (rules, tests))
    ∙ sym (any_map (λ w. bytes_eq w c.args.word.now) (λ (w : Bor (List ℕ)). w.now) c.args.words.now)
