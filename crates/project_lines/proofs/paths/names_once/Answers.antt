use Rattle.project_lines.proofs.Common.{◌≡◌, ◌<◌, ◌+◌, List, [], ◌∷◌, ◌++◌, ℕ, ap, sym, ◌∙◌, add-one, get_or, length, take, take-suc, rules, with_name, with_names}
use Rattle.project_lines.proofs.Reading.{names_push_one}
use Rattle.project_lines.proofs.paths.names_once.Goals as goal

-- one name more
step : (names : List (List ℕ)) (i : ℕ) (name : List ℕ) (old new : List (List ℕ)) → i < length names → name ≡ get_or names i name → old ≡ with_names [] (take i names) → new ≡ with_name old name → new ≡ with_names [] (take (i + 1) names)
step names i name old new l is was added =
    let more : take (i + 1) names ≡ take i names ++ name ∷ [] = ap (λ k. take k names) (add-one i) ∙ (take-suc names i name l ∙ ap (λ n. take i names ++ n ∷ []) (sym is)) in
    added ∙ (ap (λ ns. with_name ns name) was ∙ (sym (names_push_one [] (take i names) name) ∙ ap (with_names []) (sym more)))

pub loop-name-preserved : goal.loop-name-preserved
loop-name-preserved c = step c.args.names.now c.loop-name.name-index c.name-item.result c.loop-name.read c.add.new.self (search rules) (search rules) c.loop-name.invariant (search rules)
