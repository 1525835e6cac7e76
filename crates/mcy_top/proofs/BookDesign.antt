-- What a book keeps of its campaign, in either format: the project file, and the sources.
use Rattle.std.proofs.Common.{◌≡◌, ℕ, zero, suc, ◌<◌, Bool, true, false, List, [], ◌∷◌, ◌++◌, length, map, take, drop, Option, None, Some, slice_get, if◌then◌else◌, refl, sym, ap, subst, ◌∙◌, append_assoc, arith}
use Rattle.std.proofs.lemmas.List.{append-nil, take-append-drop, take-map}
use Rattle.std.proofs.Math.Seq.{take-append_seam}
use Rattle.std.specs.Prelude.{slice_index_or, IsSomeAnd, is_some}
use Rattle.std.specs.Str.Lines.{lines}
use Rattle.mcy_base.specs.declared.file.SourceFile.{SourceFile}
use Rattle.mcy_keeper.specs.declared.book.Book.{Book}
use Rattle.mcy_keeper.specs.Books.{begins_with, first_number, in_second}
use Rattle.result_book.specs.Rows.{meta_in_second}
use Rattle.project_lines.specs.Lines.{find_line}
use Rattle.project_lines.specs.Words.{is_among}
use Rattle.project_lines.specs.Paths.{with_name, with_names}
use Rattle.project_lines.specs.Sections.{Part, parts_of, tests_in}
use Rattle.project_lines.proofs.Reading.{names_cons, names_none}
use Rattle.project_limits.specs.Files.{all_files, kind_files}
use Rattle.project_file.specs.declared.project.Project.{Project}
use Rattle.project_file.specs.declared.project.TestKind.{TestKind}
use Rattle.project_file.specs.declared.project.TestKind.TheVariants.{Eq, Sim}
use Rattle.project_file.specs.declared.project.TestPlan.{TestPlan}
use Rattle.project_file.specs.Projects.{design_files, design_in, project_of, test_of, top_in}
use Rattle.project_file.specs.Tests.{is_sim, kind_by, kind_in, plan_of}
use Rattle.campaign_choice.specs.Campaigns.{file_item, meta_of, names_of}
use Rattle.campaign_choice.specs.Projects.{design_part}
use Rattle.campaign_plan.specs.declared.prepared.Prepared.{Prepared}
use Rattle.campaign_plan.specs.declared.trial.Trial.{Trial}
use Rattle.campaign_plan.specs.declared.trial.Trial.TheVariants.{Equality, Simulation}
use Rattle.campaign_plan.specs.Campaigns.{IsPlan}
use Rattle.campaign_plan.specs.Trials.{AreTrials, IsTrial, Reading}
use Rattle.campaign_plan.proofs.Plans.{plan_meta}
use Rattle.mcy_top.specs.Passes.{sections}

-- Behind its number both formats keep the same.

pub second_config : (meta : List (List ℕ)) → slice_index_or (in_second meta) 1 [] ≡ slice_index_or meta 1 []
second_config [] = refl
second_config (item ∷ more) = refl

pub second_rest : (meta : List (List ℕ)) → drop 2 (in_second meta) ≡ drop 2 meta
second_rest [] = refl
second_rest (item ∷ more) = refl

config_kept : (meta : List (List ℕ)) → slice_index_or (meta_in_second meta) 1 [] ≡ slice_index_or meta 1 []
config_kept meta = by (begins_with first_number meta)
  where
    by : (b : Bool) → slice_index_or (if b then in_second meta else meta) 1 [] ≡ slice_index_or meta 1 []
    by true = second_config meta
    by false = refl

rest_kept : (meta : List (List ℕ)) → drop 2 (meta_in_second meta) ≡ drop 2 meta
rest_kept meta = by (begins_with first_number meta)
  where
    by : (b : Bool) → drop 2 (if b then in_second meta else meta) ≡ drop 2 meta
    by true = second_rest meta
    by false = refl

-- A book that keeps this campaign has its project file and its sources.
pub config_is : (c : Prepared) (plan : IsPlan c) (meta : List (List ℕ)) → meta_in_second meta ≡ c.campaign.meta → slice_index_or meta 1 [] ≡ plan.config
config_is c plan meta form = sym (config_kept meta) ∙ ap (λ (m : List (List ℕ)). slice_index_or m 1 []) (form ∙ plan_meta c plan)

pub rest_is : (c : Prepared) (plan : IsPlan c) (meta : List (List ℕ)) → meta_in_second meta ≡ c.campaign.meta → drop 2 meta ≡ map file_item plan.files
rest_is c plan meta form = sym (rest_kept meta) ∙ ap (λ (m : List (List ℕ)). drop 2 m) (form ∙ plan_meta c plan)

-- Its sections are the project's.
pub project_is : (c : Prepared) (plan : IsPlan c) (book : Book) → meta_in_second book.meta ≡ c.campaign.meta → plan.made.project ≡ project_of (sections book)
project_is c plan book form = plan.made.says.says ∙ ap (λ (bytes : List ℕ). project_of (parts_of 1 (lines bytes))) (sym (config_is c plan book.meta form))

-- The design's files are the first of those that are read.

one_more : (names : List (List ℕ)) (name : List ℕ) → (rest : List (List ℕ)) × (with_name names name ≡ names ++ rest)
unfolding with_name
one_more names name = by (is_among name names)
  where
    by : (b : Bool) → (rest : List (List ℕ)) × ((if b then names else names ++ name ∷ []) ≡ names ++ rest)
    by true = ([], sym (append-nil names))
    by false = (name ∷ [], refl)

names_on : (names more : List (List ℕ)) → (rest : List (List ℕ)) × (with_names names more ≡ names ++ rest)
names_on names [] = ([], names_none names ∙ sym (append-nil names))
names_on names (name ∷ more) =
    let first = one_more names name in
    let others = names_on (with_name names name) more in
    (first.0 ++ others.0, names_cons names name more ∙ others.1 ∙ ap (λ (ns : List (List ℕ)). ns ++ others.0) first.1 ∙ append_assoc names first.0 others.0)

first_names : (names more : List (List ℕ)) → take (length names) (with_names names more) ≡ names
first_names names more = let on = names_on names more in ap (take (length names)) on.1 ∙ take-append_seam names on.0

pub part_names : (project : Project) (files : List SourceFile) → names_of files ≡ all_files project → names_of (design_part project files) ≡ design_files project
part_names project files are =
    sym (take-map (λ (file : SourceFile). file.name) (length (design_files project)) files) ∙ ap (take (length (design_files project))) are ∙ first_names (design_files project) _

pub part_others : (project : Project) (files : List SourceFile) → design_part project files ++ drop (length (design_files project)) files ≡ files
part_others project files = take-append-drop (length (design_files project)) files

-- What the sections say.

pub files_named : (parts : List Part) → design_files (project_of parts) ≡ with_names [] (design_in parts)
unfolding project_of
files_named parts = refl

pub top_named : (parts : List Part) → (project_of parts).top ≡ top_in parts
unfolding project_of
top_named parts = refl

tests_named : (parts : List Part) → (project_of parts).tests ≡ map test_of (tests_in parts)
unfolding project_of
tests_named parts = refl

-- A test that is no simulation is an equality.

kind_without : (line : Option (List ℕ)) (lines : List (List ℕ)) → is_some line ≡ false → kind_by line lines ≡ Eq
kind_without None lines is = refl
kind_without (Some line) lines is = absurd (let never : true ≡ false = is in cc)

kind_is : (part : Part) → is_sim part.lines ≡ false → (test_of part).kind ≡ Eq
unfolding plan_of kind_in
kind_is part is = kind_without (find_line _ part.lines) part.lines is

trial_is : (r : Reading) (trial : Trial) → IsTrial r Eq trial → trial ≡ Equality
trial_is r Equality is = refl
trial_is r (Simulation bench pass fail) is = absurd is

trial_at : (r : Reading) (parts : List Part) (trials : List Trial) (t : ℕ) → AreTrials r (map test_of parts) trials → IsSomeAnd (slice_get parts t) (λ part. is_sim part.lines ≡ false) → slice_get trials t ≡ Some Equality
trial_at r [] trials t are is = absurd is
trial_at r (part ∷ parts) [] t are is = absurd are
trial_at r (part ∷ parts) (trial ∷ trials) zero are is =
    ap (λ (x : Trial). Some x) (trial_is r trial (subst (λ (kind : TestKind). IsTrial r kind trial) (kind_is part is) are.0))
trial_at r (part ∷ parts) (trial ∷ trials) (suc t) are is = trial_at r parts trials t are.1 is

-- as it is run in a campaign of these sections
pub equality_at : (c : Prepared) (plan : IsPlan c) (parts : List Part) (t : ℕ) → plan.made.project ≡ project_of parts → IsSomeAnd (slice_get (tests_in parts) t) (λ part. is_sim part.lines ≡ false) → slice_get c.trials t ≡ Some Equality
equality_at c plan parts t project is =
    trial_at plan.made.reading (tests_in parts) c.trials t (subst (λ (tests : List TestPlan). AreTrials plan.made.reading tests c.trials) (ap (λ (p : Project). p.tests) project ∙ tests_named parts) plan.made.trials) is
