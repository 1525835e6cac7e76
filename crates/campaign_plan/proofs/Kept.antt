-- What a book keeps of a project and its sources determines them: the project, its scripts and the files.
use Rattle.campaign_plan.proofs.Common.{◌≡◌, ℕ, List, [], ◌∷◌, ◌++◌, map, codes, refl, sym, ap, subst, ◌∙◌, Result, Ok, append_cancel_left, SourceFile, Project, IsProject, HasScripts, logic_read}
use Rattle.campaign_plan.proofs.Common.{report_read, file_item, names_of}
use Rattle.tag_script.specs.declared.script.Script.{Script}
use Rattle.tag_script.specs.declared.script.ScriptError.{ScriptError}
use Rattle.report_script.specs.declared.report.Report.{Report}

pub project_once : (config : List ℕ) (p q : Project) → IsProject config p → IsProject config q → p ≡ q
project_once config p q h k = h.says ∙ sym k.says

ok_once : {A : Type 0} (r : Result A ScriptError) (a b : A) → r ≡ Ok a → r ≡ Ok b → a ≡ b
ok_once r a b h k = cc

pub script_once : (p q : Project) (s t : Script) (a b : Report) → p ≡ q → HasScripts p s a → HasScripts q t b → s ≡ t
script_once p q s t a b same h k = ok_once (logic_read q) s t (sym (ap logic_read same) ∙ h.logic) k.logic

pub report_once : (p q : Project) (s t : Script) (a b : Report) → p ≡ q → HasScripts p s a → HasScripts q t b → a ≡ b
report_once p q s t a b same h k = ok_once (report_read q) a b (sym (ap report_read same) ∙ h.report) k.report

-- files of the same names, of which a book keeps the same, are the same
pub files_kept : (xs ys : List SourceFile) → names_of xs ≡ names_of ys → map file_item xs ≡ map file_item ys → xs ≡ ys
files_kept [] [] is kept = refl
files_kept [] (y ∷ ys) is kept = cc
files_kept (x ∷ xs) [] is kept = cc
files_kept (x ∷ xs) (y ∷ ys) is kept =
    let name : x.name ≡ y.name = cc in
    let rest : names_of xs ≡ names_of ys = cc in
    let item : file_item x ≡ file_item y = cc in
    let more : map file_item xs ≡ map file_item ys = cc in
    let behind : codes "\n" ++ x.bytes ≡ codes "\n" ++ y.bytes = append_cancel_left y.name (codes "\n" ++ x.bytes) (codes "\n" ++ y.bytes) (subst (λ (n : List ℕ). n ++ (codes "\n" ++ x.bytes) ≡ file_item y) name item) in
    let bytes : x.bytes ≡ y.bytes = append_cancel_left (codes "\n") x.bytes y.bytes behind in
    let first : x ≡ y = λ i. record { name = name i; bytes = bytes i } in
    let others : xs ≡ ys = files_kept xs ys rest more in
    cc
