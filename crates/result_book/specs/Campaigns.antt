-- Campaigns, and the words of their tests.
use Rattle.std.specs.Prelude.{◌≡◌, ◌≢◌, ◌⊎◌, ℕ, ◌≤◌, ◌==◌, Bool, [], length, slice_get, false, true, Option, None, Some, IsSomeAnd, IsTrue, if◌then◌else◌}
use Rattle.mcy_keeper.specs.Books.{begins_with, second_number}
use Rattle.tag_script.specs.Fits.{script_fits}
use Rattle.report_script.specs.Fits.{report_fits}
use Rattle.result_book.specs.declared.campaign.Campaign.{Campaign}
use Rattle.result_book.specs.declared.script.TestWord.TheVariants.{Pass, Fail, Hang, Unknown}
use Rattle.result_book.specs.Scripts.{word_code}

-- The codes of the kinds of tests: an equivalence test, and a simulation. Each test whose kind is not a simulation's is a proof
-- test: one that may be given up, and give UNKNOWN.
abbrev pub eq_kind : ℕ
eq_kind = 0

abbrev pub sim_kind : ℕ
sim_kind = 1

-- The campaign is within the limits, what a book keeps of it is of the second format, each list has one element for each mutation
-- or test that it goes by, the script names only its tests and tags, and the report only its tags.
pub record IsFit (c : Campaign) : Type 0 where
  pub few_mutations : length c.mutations ≤ 10000
  pub lines : length c.lines ≡ length c.mutations
  pub few_tests : length c.kinds ≤ 16
  pub names : length c.test_names ≡ length c.kinds
  pub expects : length c.expect ≡ length c.kinds
  pub few_tags : length c.tags ≤ 32
  pub meta : c.meta ≢ []
  pub format : IsTrue (begins_with second_number c.meta)
  pub some_conflicts : 1 ≤ c.conflicts
  pub few_conflicts : c.conflicts ≤ 100000
  pub script : script_fits (length c.kinds) (length c.tags) c.script ≡ true
  pub report : report_fits (length c.tags) c.report ≡ true

-- the words of a proof test, and those of a simulation
abbrev pub IsProofWord : ℕ → Type 0
IsProofWord word = (word ≡ word_code Pass) ⊎ (word ≡ word_code Fail) ⊎ (word ≡ word_code Unknown)

abbrev pub IsSimWord : ℕ → Type 0
IsSimWord word = (word ≡ word_code Pass) ⊎ (word ≡ word_code Fail) ⊎ (word ≡ word_code Hang)

-- the word is one of this kind of test
abbrev pub IsWordOfKind : ℕ → ℕ → Type 0
IsWordOfKind kind word = ((kind ≢ sim_kind) × IsProofWord word) ⊎ ((kind ≡ sim_kind) × IsSimWord word)

-- there is such a test, and the word is one of its kind
abbrev pub IsWordOf : Campaign → ℕ → ℕ → Type 0
IsWordOf c test word = IsSomeAnd (slice_get c.kinds test) (λ kind. IsWordOfKind kind word)

abbrev pub is_sim : Option ℕ → Bool
is_sim None = false
is_sim (Some kind) = kind == sim_kind

-- there is such a test, and it is a simulation
abbrev pub is_sim_test : Campaign → ℕ → Bool
is_sim_test c test = is_sim (slice_get c.kinds test)

-- the limit under which a test is first asked, where it is not a simulation: that of the project
abbrev pub first_bound : Campaign → ℕ → ℕ
first_bound c test = if is_sim_test c test then 0 else c.conflicts
