-- A row PASS is true of what its book keeps, and stays so.
use Rattle.std.proofs.Common.{◌≡◌, inl, ◌⊎◌, inr, ℕ, zero, suc, ◌<◌, Bool, true, false, List, [], ◌∷◌, ◌++◌, length, map, drop, Option, Some, slice_get, refl, sym, ap, subst, ◌∙◌, arith}
use Rattle.std.proofs.lemmas.List.{length-map}
use Rattle.std.proofs.lemmas.List.Elements.{Contains-push_cases}
use Rattle.std.proofs.lemmas.Option.{get_or_from_slice_get, slice_get-map, slice_get_within}
use Rattle.std.specs.Prelude.{slice_index_or, option_map, IsSomeAnd}
use Rattle.std.specs.List.{Contains}
use Rattle.std.specs.Str.Lines.{lines}
use Rattle.mcy_base.specs.declared.file.SourceFile.{SourceFile}
use Rattle.mcy_keeper.specs.declared.book.Book.{Book}
use Rattle.mcy_keeper.specs.declared.book.Entry.{Entry}
use Rattle.mcy_keeper.specs.Books.{is_first, with_entry}
use Rattle.netlist_core.specs.declared.raw.RawNetlist.{RawNetlist}
use Rattle.mutation_sites.specs.declared.site.Site.{Site}
use Rattle.mutation_sites.specs.Mutants.{IsSite}
use Rattle.mutation_sites.specs.SiteTexts.{site_text}
use Rattle.step_trials.specs.Equal.{EqualOnAllRuns, design, mutant}
use Rattle.step_trials.proofs.TrialLemmas.{one_step_to_all_runs}
use Rattle.result_book.specs.declared.script.TestWord.TheVariants.{Pass}
use Rattle.result_book.specs.declared.campaign.Campaign.{Campaign}
use Rattle.result_book.specs.Rows.{IsWellFormed, history, meta_in_second, second_row, upgrade_of}
use Rattle.result_book.specs.Scripts.{word_code}
use Rattle.result_book.proofs.Formats.{history_rows, seconds, seconds_bound}
use Rattle.project_lines.specs.Sections.{parts_of, tests_in}
use Rattle.project_lines.specs.Paths.{with_names}
use Rattle.project_file.specs.declared.project.Project.{Project}
use Rattle.project_file.specs.Projects.{design_files, design_in, project_of, top_in}
use Rattle.project_file.specs.Tests.{is_sim}
use Rattle.project_sources.specs.Netlists.{IsNetlistOf}
use Rattle.project_sources.proofs.OneAnswer.{netlist_of}
use Rattle.campaign_choice.specs.Campaigns.{file_item, names_of}
use Rattle.campaign_choice.specs.Projects.{design_part}
use Rattle.campaign_plan.specs.declared.prepared.Prepared.{Prepared}
use Rattle.campaign_plan.specs.declared.trial.Trial.{Trial}
use Rattle.campaign_plan.specs.declared.trial.Trial.TheVariants.{Equality}
use Rattle.campaign_plan.specs.Campaigns.{IsPlan}
use Rattle.campaign_run.specs.Changes.{IsChange}
use Rattle.campaign_run.specs.Rows.{AreRight, IsGood, IsNextRow, IsRightWord}
use Rattle.row_laws.specs.Laws.{IsOfMutant}
use Rattle.mcy_top.specs.Passes.{GoodBooksTellTrue, IsEquality, IsNoChange, KeepsNetlist, PassesAreTrue, sections}
use Rattle.mcy_top.proofs.BookDesign.{equality_at, files_named, part_names, part_others, project_is, rest_is, second_config, second_rest, top_named}
use Rattle.row_laws.proofs.Telling.{IsRightAt, pass_at}

-- The campaign's netlist is the one that its book keeps.

abbrev others_of : (c : Prepared) → IsPlan c → List SourceFile
others_of c plan = drop (length (design_files plan.made.project)) plan.files

keeps : (c : Prepared) (plan : IsPlan c) (book : Book) → meta_in_second book.meta ≡ c.campaign.meta → KeepsNetlist book (design_part plan.made.project plan.files) (others_of c plan) c.netlist
keeps c plan book form =
    let project : plan.made.project ≡ project_of (sections book) = project_is c plan book form in
    record {
      kept = rest_is c plan book.meta form ∙ ap (map file_item) (sym (part_others plan.made.project plan.files));
      named = part_names plan.made.project plan.files plan.made.names ∙ ap design_files project ∙ files_named (sections book);
      means = subst (λ (top : List ℕ). IsNetlistOf (design_part plan.made.project plan.files) top c.netlist) (ap (λ (p : Project). p.top) project ∙ top_named (sections book))
          (netlist_of (design_part plan.made.project plan.files) plan.made.project.top c.netlist plan.made.design);
    }

-- A mutation of the campaign has the text of its site.
told : (c : Prepared) (plan : IsPlan c) (book : Book) (m : ℕ) (site : Site) → book.mutations ≡ c.campaign.mutations → slice_get c.sites m ≡ Some site → slice_get book.mutations m ≡ Some (site_text c.netlist (names_of (design_part plan.made.project plan.files ++ others_of c plan)) site)
told c plan book m site same at =
    ap (λ (texts : List (List ℕ)). slice_get texts m) (same ∙ ap (λ (k : Campaign). k.mutations) plan.made.campaign)
    ∙ slice_get-map (site_text c.netlist (names_of plan.files)) c.sites m
    ∙ ap (option_map (site_text c.netlist (names_of plan.files))) at
    ∙ ap (λ (files : List SourceFile). Some (site_text c.netlist (names_of files) site)) (sym (part_others plan.made.project plan.files))

placed_at : (c : Prepared) (plan : IsPlan c) (m : ℕ) (site : Site) → slice_get c.sites m ≡ Some site → IsSite c.netlist site
placed_at c plan m site at = subst (λ (s : Site). IsSite c.netlist s) (get_or_from_slice_get c.sites m site site at) (plan.made.placed m site (slice_get_within c.sites m site at))

no_change : (c : Prepared) (plan : IsPlan c) (book : Book) (m : ℕ) → meta_in_second book.meta ≡ c.campaign.meta → book.mutations ≡ c.campaign.mutations → IsOfMutant c m EqualOnAllRuns → IsNoChange book m
no_change c plan book m form same of = record {
  files = design_part plan.made.project plan.files;
  others = others_of c plan;
  netlist = c.netlist;
  keeps_netlist = keeps c plan book form;
  site = of.site;
  placed = placed_at c plan m of.site of.placed;
  told = told c plan book m of.site same of.placed;
  alike = of.is;
}

-- A row with a right word is true.
right_pass : (c : Prepared) (plan : IsPlan c) (book : Book) (m t bound word : ℕ) → meta_in_second book.meta ≡ c.campaign.meta → book.mutations ≡ c.campaign.mutations → IsRightWord c m t bound word → IsEquality book t → word ≡ word_code Pass → IsNoChange book m
right_pass c plan book m t bound word form same right equality is =
    let at : slice_get c.trials t ≡ Some Equality = equality_at c plan (sections book) t (project_is c plan book form) equality in
    let there : IsRightAt c t (slice_get c.sites m) (Some Equality) bound word = subst (λ (o : Option Trial). IsRightAt c t (slice_get c.sites m) o bound word) at right in
    no_change c plan book m form same (pass_at one_step_to_all_runs c t m bound word (slice_get c.sites m) refl there is)

-- Books of the same campaign.

same_netlist : (book next : Book) (files others : List SourceFile) (netlist : RawNetlist) → slice_index_or next.meta 1 [] ≡ slice_index_or book.meta 1 [] → drop 2 next.meta ≡ drop 2 book.meta → KeepsNetlist book files others netlist → KeepsNetlist next files others netlist
same_netlist book next files others netlist config rest h = record {
  kept = rest ∙ h.kept;
  named = h.named ∙ ap (λ (bytes : List ℕ). with_names [] (design_in (parts_of 1 (lines bytes)))) (sym config);
  means = subst (λ (bytes : List ℕ). IsNetlistOf files (top_in (parts_of 1 (lines bytes))) netlist) (sym config) h.means;
}

same_no_change : (book next : Book) (m : ℕ) → slice_index_or next.meta 1 [] ≡ slice_index_or book.meta 1 [] → drop 2 next.meta ≡ drop 2 book.meta → next.mutations ≡ book.mutations → IsNoChange book m → IsNoChange next m
same_no_change book next m config rest mutations h = record {
  files = h.files;
  others = h.others;
  netlist = h.netlist;
  keeps_netlist = same_netlist book next h.files h.others h.netlist config rest h.keeps_netlist;
  site = h.site;
  placed = h.placed;
  told = ap (λ (texts : List (List ℕ)). slice_get texts m) mutations ∙ h.told;
  alike = h.alike;
}

same_equality : (book next : Book) (t : ℕ) → slice_index_or next.meta 1 [] ≡ slice_index_or book.meta 1 [] → IsEquality next t → IsEquality book t
same_equality book next t config is = subst (λ (bytes : List ℕ). IsSomeAnd (slice_get (tests_in (parts_of 1 (lines bytes))) t) (λ part. is_sim part.lines ≡ false)) config is

-- The next row was added.
added_passes : (c : Prepared) → IsPlan c → (book : Book) (e : Entry) → IsWellFormed c.campaign book → IsNextRow c book e → PassesAreTrue book → PassesAreTrue (with_entry book e)
added_passes c plan book e form may was row has equality is = by (Contains-push_cases book.journal e row has)
  where
    by : Contains book.journal row ⊎ (e ≡ row) → IsNoChange (with_entry book e) row.mutation
    by (inl before) = same_no_change book (with_entry book e) row.mutation refl refl refl (was row before equality is)
    by (inr same) = right_pass c plan (with_entry book e) row.mutation row.test row.bound row.word form.meta form.mutations (subst (λ (x : Entry). IsRightWord c x.mutation x.test x.bound x.word) same may.word_right) equality is

-- The book was moved to the second format.

behind : (e : Entry) (rows : List Entry) (x : Entry) → Contains rows x → Contains (e ∷ rows) x
behind e rows x (k, less, is) = (suc k, omega (arith, less), is)

-- the row of a book whose upgrade has this one
record Before (c : Campaign) (rows : List Entry) (row : Entry) : Type 0 where
  old : Entry
  has : Contains rows old
  same : second_row true c old ≡ row

before_at : (c : Campaign) (rows : List Entry) (row : Entry) (k : ℕ) → k < length rows → slice_index_or (seconds true c rows) k row ≡ row → Before c rows row
before_at c [] row k less is = absurd (omega (arith, less))
before_at c (e ∷ rows) row zero less is = record { old = e; has = (0, omega arith, refl); same = is }
before_at c (e ∷ rows) row (suc k) less is = let b = before_at c rows row k (omega (arith, less)) is in record { old = b.old; has = behind e rows b.old b.has; same = b.same }

before : (c : Campaign) (rows : List Entry) (row : Entry) → Contains (seconds true c rows) row → Before c rows row
before c rows row (k, less, is) = before_at c rows row k (omega (arith, less, length-map rows (second_row true c))) is

upgraded_passes : (c : Campaign) (book : Book) → PassesAreTrue book → PassesAreTrue (upgrade_of c book)
upgraded_passes c book was row has equality is =
    let b : Before c book.journal row = before c book.journal row (subst (λ (rows : List Entry). Contains rows row) (seconds_bound c book.journal) has) in
    let mutation : b.old.mutation ≡ row.mutation = ap (λ (x : Entry). x.mutation) b.same in
    let test : b.old.test ≡ row.test = ap (λ (x : Entry). x.test) b.same in
    let word : b.old.word ≡ row.word = ap (λ (x : Entry). x.word) b.same in
    let here : IsEquality book row.test = same_equality book (upgrade_of c book) row.test (second_config book.meta) equality in
    let true_there : IsNoChange book b.old.mutation = was b.old b.has (subst (λ (t : ℕ). IsEquality book t) (sym test) here) (word ∙ is) in
    same_no_change book (upgrade_of c book) row.mutation (second_config book.meta) (second_rest book.meta) refl (subst (λ (m : ℕ). IsNoChange book m) mutation true_there)

none_there : (row : Entry) → ¬ Contains [] row
none_there row (k, less, is) = omega (arith, less)

pub change_passes : (c : Prepared) (book next : Book) → IsPlan c → IsChange c book next → PassesAreTrue book → PassesAreTrue next
change_passes c book next plan (inl begin) was = subst PassesAreTrue (sym begin.1) (λ row has equality is. absurd (none_there row has))
change_passes c book next plan (inr (inl added)) was = subst PassesAreTrue (sym added.is) (added_passes c plan book added.row added.form added.may was)
change_passes c book next plan (inr (inr up)) was = subst PassesAreTrue (sym up.is) (upgraded_passes c.campaign book was)

-- The rows of a good book have right words in its history, which is its own but for their bounds.

right_old : (first : Bool) (c : Prepared) (rows : List Entry) (row : Entry) (k : ℕ) → k < length rows → slice_index_or rows k row ≡ row → AreRight c (seconds first c.campaign rows) → IsRightWord c row.mutation row.test (second_row first c.campaign row).bound row.word
right_old first c [] row k less is h = absurd (omega (arith, less))
right_old first c (e ∷ rows) row zero less is h = subst (λ (x : Entry). IsRightWord c x.mutation x.test (second_row first c.campaign x).bound x.word) is (here first h.0)
  where
    here : (b : Bool) → IsRightWord c (second_row b c.campaign e).mutation (second_row b c.campaign e).test (second_row b c.campaign e).bound (second_row b c.campaign e).word → IsRightWord c e.mutation e.test (second_row b c.campaign e).bound e.word
    here true right = right
    here false right = right
right_old first c (e ∷ rows) row (suc k) less is h = right_old first c rows row k (omega (arith, less)) is h.1

right_in : (c : Prepared) (book : Book) (row : Entry) → Contains book.journal row → AreRight c (history c.campaign book).journal → IsRightWord c row.mutation row.test (second_row (is_first book) c.campaign row).bound row.word
right_in c book row (k, less, is) right = right_old (is_first book) c book.journal row k less is (subst (AreRight c) (history_rows c.campaign book) right)

pub good_tell : GoodBooksTellTrue
good_tell book good row has equality is =
    right_pass good.prepared good.plan book row.mutation row.test (second_row (is_first book) good.prepared.campaign row).bound row.word good.form.meta good.form.mutations (right_in good.prepared book row has good.words_right) equality is
