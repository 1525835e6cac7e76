-- What is known of a campaign's book while a command runs.
use Rattle.std.specs.Prelude.{◌≡◌, ℕ, ◌+◌, ◌<◌, ◌≤◌, ◌^◌, List, [], length, Option}
use Rattle.mcy_keeper.specs.declared.book.Entry.{Entry}
use Rattle.result_book.specs.declared.campaign.Campaign.{Campaign}
use Rattle.tag_script.specs.declared.answer.Ask.{Ask}
use Rattle.result_book.specs.Scripts.{each_from, words_of}
use Rattle.result_book.specs.Rows.{answers_of, ask_on, bounds_on, AreRows}

-- a state, as its callers see it
pub record Progress : Type 0 where
  -- the rows of the journal
  pub rows : List Entry
  -- for each mutation, the last word of each test, or none
  pub results : List (List (Option ℕ))
  -- and the bound under which it was found, or 0
  pub bounds : List (List ℕ)
  -- for each mutation, what the script asks for, or how it ended
  pub asks : List Ask
  -- for how many more rows there is room
  pub spare : ℕ

-- The state is that of the campaign's book with these rows, of the second format: they are in form, and what is known of each
-- mutation is what they say.
pub record IsStateOf (c : Campaign) (rows : List Entry) (s : Progress) : Type 0 where
  pub rows_are : s.rows ≡ rows
  pub form : AreRows c [] rows
  pub results : s.results ≡ each_from (λ m. words_of (answers_of m rows)) 0 (length c.mutations)
  pub bounds : s.bounds ≡ each_from (λ m. bounds_on m rows) 0 (length c.mutations)
  pub asks : s.asks ≡ each_from (λ m. ask_on c m rows) 0 (length c.mutations)

-- For proofs alone.

-- what always holds of a state's fields: room was made for the spare rows, and a u32 counts the rows and the mutations
pub record HasRoom (rows capacity spare mutations : ℕ) : Type 0 where
  pub room : rows + spare ≤ capacity
  pub few_rows : rows < 2 ^ 32
  pub few_mutations : mutations < 2 ^ 32
