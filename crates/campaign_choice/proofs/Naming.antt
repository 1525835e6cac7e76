-- Names of files that are added, each once.
use Rattle.campaign_choice.proofs.Common.{◌≡◌, ℕ, ◌+◌, ◌<◌, List, [], ◌∷◌, ◌++◌, length, take, get_or, add-one, take-suc, ap, sym, ◌∙◌, append_assoc, append-nil, flat_map, TestPlan, with_name}
use Rattle.campaign_choice.proofs.Common.{with_names, kind_files}
use Rattle.project_lines.proofs.Reading as r

pub names_none : (names : List (List ℕ)) → with_names names [] ≡ names
names_none names = r.names_none names

pub names_push_one : (names xs : List (List ℕ)) (x : List ℕ) → with_names names (xs ++ x ∷ []) ≡ with_name (with_names names xs) x
names_push_one names xs x = r.names_push_one names xs x

flat_push : (tests : List TestPlan) (test : TestPlan) → flat_map (λ t. kind_files t.kind) (tests ++ test ∷ []) ≡ flat_map (λ t. kind_files t.kind) tests ++ kind_files test.kind
flat_push [] test = append-nil (kind_files test.kind)
flat_push (t ∷ tests) test = ap (λ fs. kind_files t.kind ++ fs) (flat_push tests test) ∙ sym (append_assoc (kind_files t.kind) (flat_map (λ t. kind_files t.kind) tests) (kind_files test.kind))

-- the files of one test more
pub names_push_test : (names : List (List ℕ)) (tests : List TestPlan) (test : TestPlan) → with_names names (flat_map (λ t. kind_files t.kind) (tests ++ test ∷ [])) ≡ with_names (with_names names (flat_map (λ t. kind_files t.kind) tests)) (kind_files test.kind)
names_push_test names tests test = ap (with_names names) (flat_push tests test) ∙ r.names_append names (flat_map (λ t. kind_files t.kind) tests) (kind_files test.kind)

-- one name more of a list
pub names_step : (old more : List (List ℕ)) (i : ℕ) (name : List ℕ) (before after : List (List ℕ)) → i < length more → name ≡ get_or more i name → before ≡ with_names old (take i more) → after ≡ with_name before name → after ≡ with_names old (take (i + 1) more)
names_step old more i name before after below is was added =
    let longer : take (i + 1) more ≡ take i more ++ name ∷ [] = ap (λ k. take k more) (add-one i) ∙ (take-suc more i name below ∙ ap (λ n. take i more ++ n ∷ []) (sym is)) in
    added ∙ (ap (λ ns. with_name ns name) was ∙ (sym (names_push_one old (take i more) name) ∙ ap (with_names old) (sym longer)))

-- one test more of a list
pub tests_step : (old : List (List ℕ)) (tests : List TestPlan) (i : ℕ) (test : TestPlan) (before after : List (List ℕ)) → i < length tests → test ≡ get_or tests i test → before ≡ with_names old (flat_map (λ t. kind_files t.kind) (take i tests)) → after ≡ with_names before (kind_files test.kind)
    → after ≡ with_names old (flat_map (λ t. kind_files t.kind) (take (i + 1) tests))
tests_step old tests i test before after below is was added =
    let longer : take (i + 1) tests ≡ take i tests ++ test ∷ [] = ap (λ k. take k tests) (add-one i) ∙ (take-suc tests i test below ∙ ap (λ t. take i tests ++ t ∷ []) (sym is)) in
    added ∙ (ap (λ ns. with_names ns (kind_files test.kind)) was ∙ (sym (names_push_test old (take i tests) test) ∙ ap (λ ts. with_names old (flat_map (λ t. kind_files t.kind) ts)) (sym longer)))
