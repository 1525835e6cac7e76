use Rattle.project_file.proofs.Common.{List, ℕ, Bor, rules, tests, sym, ◌∙◌, is_answer}
use Rattle.std.proofs.lemmas.Iterator.{YieldsList-from_slice}
use Rattle.std.proofs.lemmas.Iterator.Search.{all_from_yields_List}
use Rattle.project_lines.proofs.Maps.{all_map}
use Rattle.project_file.proofs.test_plan.are_answers.Goals as goal

pub returns : goal.returns
returns c =
    all_from_yields_List (λ (w : Bor (List ℕ)). is_answer w.now) _ _ c.all.result c.all.ensures.ran (YieldsList-from_slice c.args.words.now cc) (λ x b q k. search (rules, tests))
    ∙ sym (all_map is_answer (λ (w : Bor (List ℕ)). w.now) c.args.words.now)
